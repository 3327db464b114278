-- Arrays are low and do not meet.
use Rattle.std.proofs.Common.{◌≡◌, ℕ, ◌+◌, ◌<◌, ◌≤◌, Bool, false, List, [], ◌∷◌, ◌++◌, refl, sym, ◌∙◌, subst, arith, ⊎_elim}
use Rattle.std.specs.Prelude.{eqb, nat_lt, bytes_eq}
use Rattle.std.specs.List.{list_any}
use Rattle.std.proofs.lemmas.Bool.{or_parts, or_from, and_cases, and_left, and_right, ltb-false, le-ltb, lt-ltb, and_from, both_ways, cond-true, cond-false}
use Rattle.std.proofs.lemmas.List.Folds.{list_any-append}
use Rattle.cg_model.specs.Limits.{most_memory}
use Rattle.cg_loop_syntax.specs.declared.body.Decl.{Decl}
use Rattle.cg_loop_syntax.specs.declared.body.Decl.TheVariants.{Array, Carry}
use Rattle.cg_loop_syntax.specs.declared.uses.Role.{Role}
use Rattle.cg_loop_syntax.specs.declared.uses.Role.TheVariants as roles
use Rattle.cg_loop_syntax.specs.Loop.{Extent, extent}
use Rattle.cg_loop_syntax.specs.Uses.{Use, decl_use, decls_uses, meets, is_misplaced}
use Rattle.cg_loop_laws.specs.Laws.{IsInside}
use Rattle.cg_loop_laws.proofs.Texts.{text_same, text_other, cases_text}
use Rattle.cg_loop_laws.proofs.Firsts.{Passes}

-- the place of a name that is declared first, and of one that is declared later
extent_first : (a y : List ℕ) (at len : ℕ) (ds : List Decl) → a ≡ y → extent (Array y at len ∷ ds) a ≡ record { at = at; len = len }
extent_first a y at len ds e = cond-true (bytes_eq a y) (record { at = at; len = len }) (extent ds a) (text_same a y e)

extent_later : (a y : List ℕ) (at len : ℕ) (ds : List Decl) → (a ≡ y → ⊥) → extent (Array y at len ∷ ds) a ≡ extent ds a
extent_later a y at len ds n = cond-false (bytes_eq a y) (record { at = at; len = len }) (extent ds a) (text_other a y n)

pub low : (b : List Use) (ds : List Decl) → Passes is_misplaced b (decls_uses ds) → (a : List ℕ) → (extent ds a).at + (extent ds a).len ≤ most_memory
low b [] h a = omega arith
low b (Array y at len ∷ ds) h a =
    ⊎_elim
    (λ e.
    subst (λ (r : Extent). r.at + r.len ≤ most_memory) (sym (extent_first a y at len ds e))
    (ltb-false most_memory (at + len) (or_parts (nat_lt most_memory (at + len)) _ (or_parts (eqb len 0) _ h.0).1).0))
    (λ n. subst (λ (r : Extent). r.at + r.len ≤ most_memory) (sym (extent_later a y at len ds n)) (low _ ds h.1 a))
    (cases_text a y)
low b (Carry y w ∷ ds) h a = low _ ds h.1 a

-- the use declares an array with the word at x
abbrev holds : ℕ → Use → Bool
holds x u = meets x 1 u.role

-- a word of an array that meets no array is in none
holds_not : (at len x : ℕ) (r : Role) → at ≤ x → x < at + len → meets at len r ≡ false → meets x 1 r ≡ false
holds_not at len x (roles.Array at' len') l m h =
    ⊎_elim
    (λ f. and_left _ _ (le-ltb x (at' + len') (let g = ltb-false at (at' + len') f in omega arith)))
    (λ f. and_right _ _ (le-ltb at' (x + 1) (let g = ltb-false at' (at + len) f in omega arith)))
    (and_cases _ _ h)
holds_not at len x _ l m h = refl

none_holds : (at len x : ℕ) (us : List Use) → at ≤ x → x < at + len → list_any (λ u. meets at len u.role) us ≡ false → list_any (holds x) us ≡ false
none_holds at len x [] l m h = refl
none_holds at len x (u ∷ us) l m h = let r = or_parts _ _ h in or_from _ _ (holds_not at len x u.role l m r.0) (none_holds at len x us l m r.1)

-- no array before has a word of an array
clear : (b : List Use) (ds : List Decl) → Passes is_misplaced b (decls_uses ds) → (a : List ℕ) (x : ℕ) → IsInside (extent ds a) x → list_any (holds x) b ≡ false
clear b [] h a x i = absurd (let p = i.0 in let q = i.1 in omega arith)
clear b (Array y at len ∷ ds) h a x i =
    ⊎_elim
    (λ e.
    let j = subst (λ r. IsInside r x) (extent_first a y at len ds e) i in
    none_holds at len x b j.0 j.1 (or_parts (nat_lt most_memory (at + len)) _ (or_parts (eqb len 0) _ h.0).1).1)
    (λ n.
    let j = subst (λ r. IsInside r x) (extent_later a y at len ds n) i in
    (or_parts _ _ (sym (list_any-append (holds x) b (decl_use (Array y at len) ∷ [])) ∙ clear _ ds h.1 a x j)).0)
    (cases_text a y)
clear b (Carry y w ∷ ds) h a x i = (or_parts _ _ (sym (list_any-append (holds x) b (decl_use (Carry y w) ∷ [])) ∙ clear _ ds h.1 a x i)).0

below : {m n : ℕ} → m ≤ n → m < n + 1
below l = omega arith

-- no word of the first array is in a later one
not_both : (b : List Use) (y : List ℕ) (at len : ℕ) (ds : List Decl) → Passes is_misplaced b (decls_uses (Array y at len ∷ ds)) → (a : List ℕ) (x : ℕ) →
    IsInside (record { at = at; len = len }) x → IsInside (extent ds a) x → ⊥
not_both b y at len ds h a x i j =
    let u = decl_use (Array y at len) in
    let no : holds x u ≡ false = (or_parts _ _ (or_parts _ _ (sym (list_any-append (holds x) b (u ∷ [])) ∙ clear (b ++ u ∷ []) ds h.1 a x j)).1).0 in
    both_ways (holds x u) no (and_from (nat_lt x (at + len)) (nat_lt at (x + 1)) (lt-ltb x (at + len) i.1) (lt-ltb at (x + 1) (below i.0)))

pub apart : (b : List Use) (ds : List Decl) → Passes is_misplaced b (decls_uses ds) → (a c : List ℕ) (x : ℕ) → IsInside (extent ds a) x → IsInside (extent ds c) x → a ≡ c
apart b [] h a c x i j = absurd (let p = i.0 in let q = i.1 in omega arith)
apart b (Carry y w ∷ ds) h a c x i j = apart _ ds h.1 a c x i j
apart b (Array y at len ∷ ds) h a c x i j =
    let first = λ (z : List ℕ) (e : z ≡ y) (k : IsInside (extent (Array y at len ∷ ds) z) x). subst (λ r. IsInside r x) (extent_first z y at len ds e) k in
    let later = λ (z : List ℕ) (n : z ≡ y → ⊥) (k : IsInside (extent (Array y at len ∷ ds) z) x). subst (λ r. IsInside r x) (extent_later z y at len ds n) k in
    ⊎_elim
    (λ e. ⊎_elim (λ f. e ∙ sym f) (λ n. absurd (not_both b y at len ds h c x (first a e i) (later c n j))) (cases_text c y))
    (λ m. ⊎_elim (λ f. absurd (not_both b y at len ds h a x (first c f j) (later a m i))) (λ n. apart _ ds h.1 a c x (later a m i) (later c n j)) (cases_text c y))
    (cases_text a y)
