-- Arrays that meet, and the words that they take.
use Rattle.std.proofs.Common.{◌≡◌, ℕ, ◌+◌, ◌-◌, ◌<◌, ◌≤◌, ◌&&◌, ◌||◌, max, Bool, true, false, not, List, [], ◌∷◌, length, get_or, take, drop, eqb, ltb, leb, refl, sym, ap, ◌∙◌, arith}
use Rattle.std.specs.List.{list_any, list_all, slice_range}
use Rattle.std.proofs.lemmas.List.{get_or-take, get_or-drop, get_or_default, length-take}
use Rattle.std.proofs.Common.{length-drop}
use Rattle.std.proofs.lemmas.List.Folds.{Any-from_list_any, list_any_at, list_any-append, list_all-append}
use Rattle.std.proofs.lemmas.Bool.{and_parts, and_from, ltb-true, leb-true, lt-ltb, le-leb, ltb-false, eqb-false}
use Rattle.std.proofs.lemmas.Bool.Decides.{nat_tests}
use Rattle.cg_model.specs.Limits.{most_memory}
use Rattle.cg_loop_syntax.specs.declared.uses.Role.{Role}
use Rattle.cg_loop_syntax.specs.declared.uses.Role.TheVariants.{Array, Carry, Bind, Scalar, Item, Assign, Input, Output}
use Rattle.cg_loop_syntax.specs.Uses.{Use, meets, misplaced}
use Rattle.cg_loop_reader.specs.declared.numbering.NumberedUse.{NumberedUse}
use Rattle.cg_loop_reader.specs.Numbered.{numbered_use, all_uses}
use Rattle.cg_loop_reader.specs.Taken.{has_word, are_free, has_no_place, is_sized}
use Rattle.cg_loop_reader.proofs.Steps.{all_at, same_test, uses_more}

-- the words of the arrays so far are taken
abbrev pub AreTaken : List Bool → List Use → Type 0
AreTaken taken us = (word : ℕ) → word < length taken → get_or taken word false ≡ list_any (λ u. has_word word u.role) us

abbrev pub AreSized : List Use → Type 0
AreSized us = list_all (λ u. is_sized u.role) us ≡ true

abbrev is_true : Bool → Bool
is_true b = b

-- two arrays that meet have a word in common
word_met : (at len : ℕ) (r : Role) → 0 < len → is_sized r ≡ true → meets at len r ≡ true → (w : ℕ) × ((at ≤ w) × ((w < at + len) × (has_word w r ≡ true)))
word_met at len (Array at' len') here sized met =
    let parts = and_parts _ _ met in
    let below : at < at' + len' = ltb-true _ _ parts.0 in
    let below' : at' < at + len = ltb-true _ _ parts.1 in
    let there : 0 < len' = ltb-true _ _ sized in
    (max at at', (omega arith, (omega arith, and_from _ _ (le-leb at' (max at at') (omega arith)) (lt-ltb (max at at') (at' + len') (omega arith)))))
word_met at len Carry here sized met = let bad : false ≡ true = met in absurd (cc)
word_met at len Bind here sized met = let bad : false ≡ true = met in absurd (cc)
word_met at len Scalar here sized met = let bad : false ≡ true = met in absurd (cc)
word_met at len Item here sized met = let bad : false ≡ true = met in absurd (cc)
word_met at len Assign here sized met = let bad : false ≡ true = met in absurd (cc)
word_met at len (Input p) here sized met = let bad : false ≡ true = met in absurd (cc)
word_met at len (Output p) here sized met = let bad : false ≡ true = met in absurd (cc)

-- an array with one of those words meets them
met_word : (at len : ℕ) (r : Role) (w : ℕ) → at ≤ w → w < at + len → has_word w r ≡ true → meets at len r ≡ true
met_word at len (Array at' len') w from to has =
    let parts = and_parts _ _ has in
    let begin : at' ≤ w = leb-true _ _ parts.0 in
    let end : w < at' + len' = ltb-true _ _ parts.1 in
    and_from _ _ (lt-ltb at (at' + len') (omega arith)) (lt-ltb at' (at + len) (omega arith))
met_word at len Carry w from to has = let bad : false ≡ true = has in absurd (cc)
met_word at len Bind w from to has = let bad : false ≡ true = has in absurd (cc)
met_word at len Scalar w from to has = let bad : false ≡ true = has in absurd (cc)
met_word at len Item w from to has = let bad : false ≡ true = has in absurd (cc)
met_word at len Assign w from to has = let bad : false ≡ true = has in absurd (cc)
met_word at len (Input p) w from to has = let bad : false ≡ true = has in absurd (cc)
met_word at len (Output p) w from to has = let bad : false ≡ true = has in absurd (cc)

-- an element of a range
range_at : (taken : List Bool) (at len j : ℕ) → j < len → get_or (slice_range taken at (at + len)) j false ≡ get_or taken (at + j) false
range_at taken at len j lt = get_or-take (at + len - at) (drop at taken) j false (omega arith) ∙ get_or-drop at taken j false

range_length : (taken : List Bool) (at len : ℕ) → at + len ≤ length taken → length (slice_range taken at (at + len)) ≡ len
range_length taken at len within = length-take (at + len - at) (drop at taken) ∙ (let e = length-drop at taken in omega (arith, e))

met_taken : (us : List Use) (taken : List Bool) (at len : ℕ) → 0 < len → at + len ≤ length taken → AreSized us → AreTaken taken us
    → list_any (λ u. meets at len u.role) us ≡ true → list_any is_true (slice_range taken at (at + len)) ≡ true
met_taken us taken at len here within sized are met =
    let any = Any-from_list_any (λ u. meets at len u.role) us met in
    let u = any.1 in
    let sized_u : is_sized u.role ≡ true = ap (λ v. is_sized v.role) (sym any.3) ∙ all_at (λ v. is_sized v.role) us any.0 u any.2 sized in
    let word = word_met at len u.role here sized_u any.4 in
    let w = word.0 in
    let from : at ≤ w = word.1.0 in
    let to : w < at + len = word.1.1.0 in
    let there = list_any_at (λ v. has_word w v.role) us any.0 u any.2 (ap (λ v. has_word w v.role) any.3 ∙ word.1.1.1) in
    let back : at + (w - at) ≡ w = omega arith in
    let long = range_length taken at len within in
    list_any_at is_true (slice_range taken at (at + len)) (w - at) false (omega arith)
    (range_at taken at len (w - at) (omega arith) ∙ ap (λ k. get_or taken k false) back ∙ are w (omega arith) ∙ there)

taken_met : (us : List Use) (taken : List Bool) (at len : ℕ) → at + len ≤ length taken → AreTaken taken us
    → list_any is_true (slice_range taken at (at + len)) ≡ true → list_any (λ u. meets at len u.role) us ≡ true
taken_met us taken at len within are some =
    let any = Any-from_list_any is_true (slice_range taken at (at + len)) some in
    let j = any.0 in
    let long = range_length taken at len within in
    let lt : j < len = let l = any.2 in omega arith in
    let is : get_or (slice_range taken at (at + len)) j any.1 ≡ true = any.3 ∙ any.4 in
    let set : get_or taken (at + j) false ≡ true = sym (range_at taken at len j lt) ∙ get_or_default (slice_range taken at (at + len)) j false any.1 any.2 ∙ is in
    let there = Any-from_list_any (λ v. has_word (at + j) v.role) us (sym (are (at + j) (omega arith)) ∙ set) in
    list_any_at (λ v. meets at len v.role) us there.0 there.1 there.2
    (ap (λ v. meets at len v.role) there.3 ∙ met_word at len there.1.role (at + j) (omega arith) (omega arith) there.4)

not_not : (b : Bool) → b ≡ not (not b)
not_not true = refl
not_not false = refl

arranged : (a b c a' b' c' : Bool) → a' ≡ not a → b' ≡ not b → (a ≡ false → b ≡ false → c ≡ c') → (a || (b || c)) ≡ not (a' && (b' && not c'))
arranged true b c a' b' c' p q r = ap (λ z. not (z && (b' && not c'))) (sym p)
arranged false true c a' b' c' p q r = ap (λ z. not (z && (false && not c'))) (sym p) ∙ ap (λ z. not (a' && (z && not c'))) (sym q)
arranged false false c a' b' c' p q r =
    r refl refl ∙ not_not c' ∙ ap (λ z. not (z && (true && not c'))) (sym p) ∙ ap (λ z. not (a' && (z && not c'))) (sym q)

some_word : (at len : ℕ) → ltb at (at + len) ≡ not (eqb len 0)
some_word at len = grind (arith, nat_tests)

no_past : (end m : ℕ) → leb end m ≡ not (ltb m end)
no_past end m = grind (arith, nat_tests)

free_is : (us : List Use) (taken : List Bool) (at len m : ℕ) → length taken ≡ m → AreSized us → AreTaken taken us
    → (eqb len 0 || (ltb m (at + len) || list_any (λ u. meets at len u.role) us)) ≡ not (are_free taken at (at + len))
free_is us taken at len m long sized are =
    arranged (eqb len 0) (ltb m (at + len)) (list_any (λ u. meets at len u.role) us) (ltb at (at + len)) (leb (at + len) (length taken)) (list_any is_true (slice_range taken at (at + len)))
    (some_word at len) (ap (leb (at + len)) long ∙ no_past (at + len) m)
    (λ some within.
    let len≢0 = eqb-false len 0 some in
    let low = ltb-false m (at + len) within in
    let here : 0 < len = omega (arith, len≢0) in
    let in_memory : at + len ≤ length taken = omega (arith, low, long) in
    same_test _ _ (met_taken us taken at len here in_memory sized are) (taken_met us taken at len in_memory are))

-- an array is misplaced where its words are not all free
pub place_is : (us : List Use) (taken : List Bool) (r : Role) → length taken ≡ most_memory → AreSized us → AreTaken taken us → misplaced us r ≡ has_no_place taken r
place_is us taken (Array at len) long sized are = free_is us taken at len most_memory long sized are
place_is us taken Carry long sized are = refl
place_is us taken Bind long sized are = refl
place_is us taken Scalar long sized are = refl
place_is us taken Item long sized are = refl
place_is us taken Assign long sized are = refl
place_is us taken (Input p) long sized are = refl
place_is us taken (Output p) long sized are = refl

not_free : (a b : Bool) → not (a && b) ≡ false → a ≡ true
not_free true b e = refl
not_free false b e = let bad : true ≡ false = e in absurd (cc)

-- an array that has a place has a word
sized_here : (taken : List Bool) (r : Role) → has_no_place taken r ≡ false → is_sized r ≡ true
sized_here taken (Array at len) placed =
    let some = ltb-true at (at + len) (not_free _ _ placed) in
    lt-ltb 0 len (omega (arith, some))
sized_here taken Carry placed = refl
sized_here taken Bind placed = refl
sized_here taken Scalar placed = refl
sized_here taken Item placed = refl
sized_here taken Assign placed = refl
sized_here taken (Input p) placed = refl
sized_here taken (Output p) placed = refl

or_false : (b : Bool) → (b || false) ≡ b
or_false true = refl
or_false false = refl

-- with one use more, the arrays have words
pub sized_more : (us xs : List NumberedUse) (i : ℕ) (d : NumberedUse) (taken : List Bool) → xs ≡ us → i < length us → AreSized (all_uses (take i us)) → has_no_place taken (get_or xs i d).role ≡ false
    → AreSized (all_uses (take (i + 1) us))
sized_more us xs i d taken same lt sized placed =
    let u = get_or us i d in
    let here : is_sized u.role ≡ true = sized_here taken u.role (ap (λ ys. has_no_place taken (get_or ys i d).role) (sym same) ∙ placed) in
    ap (list_all (λ v. is_sized v.role)) (uses_more us i d lt)
    ∙ list_all-append (λ v. is_sized v.role) (all_uses (take i us)) (numbered_use u ∷ [])
    ∙ and_from _ _ sized (and_from _ _ here refl)

-- with one use more, the words of the arrays are taken
pub taken_more : (us xs : List NumberedUse) (i : ℕ) (d : NumberedUse) (old new : List Bool) → xs ≡ us → i < length us → length new ≡ length old → AreTaken old (all_uses (take i us))
    → ((word : ℕ) → get_or new word false ≡ (get_or old word false || has_word word (get_or xs i d).role))
    → AreTaken new (all_uses (take (i + 1) us))
taken_more us xs i d old new same lt long before after word within =
    let u = get_or us i d in
    after word
    ∙ ap (λ ys. get_or old word false || has_word word (get_or ys i d).role) same
    ∙ ap (λ b. b || has_word word u.role) (before word (omega (arith, long)))
    ∙ ap (λ b. list_any (λ v. has_word word v.role) (all_uses (take i us)) || b) (sym (or_false (has_word word u.role)))
    ∙ sym (list_any-append (λ v. has_word word v.role) (all_uses (take i us)) (numbered_use u ∷ []))
    ∙ ap (list_any (λ v. has_word word v.role)) (sym (uses_more us i d lt))
