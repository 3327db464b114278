-- Numbers of names by the places of the names in a list.
use Rattle.std.proofs.Common.{◌≡◌, ℕ, ◌+◌, ◌&&◌, ◌||◌, Bool, true, false, not, cond, List, [], ◌∷◌, ◌++◌, map, length, Option, Some, None, bytes_eq, eqb, Bor, refl, sym, ap, ap₂, ◌∙◌, arith}
use Rattle.std.specs.List.{list_any, position_from, position_or_len}
use Rattle.std.proofs.lemmas.List.{map-append}
use Rattle.std.proofs.lemmas.Bool.{lt-ltb, eqb-true, eq-eqb, and_from, false_from_ne_true, cond_both}
use Rattle.std.proofs.lemmas.Slice.Eq.{bytes_eq-Decides}
use Rattle.cg_model.proofs.Positions.{position_from-within, position_from-found}
use Rattle.cg_loop_syntax.specs.declared.uses.Role.{Role}
use Rattle.cg_loop_syntax.specs.Uses.{Use, fault_of}
use Rattle.indexmap.specs.IndexSet.{insert_key}
use Rattle.cg_loop_reader.specs.Below.{AreBelow}
use Rattle.cg_loop_reader.specs.declared.numbering.NumberedUse.{NumberedUse}
use Rattle.cg_loop_reader.specs.Numbered.{numbered_use, all_uses}
use Rattle.cg_loop_reader.proofs.Steps.{same_number, same_test}
use Rattle.cg_loop_reader.proofs.Renamed.{renamed, Keeps, fault-renamed}

abbrev pub Names : Type 0
Names = List (Bor (List ℕ))

abbrev is_name : List ℕ → Bor (List ℕ) → Bool
is_name x k = bytes_eq x k.now

-- the number of a name
abbrev place_in : Names → List ℕ → Option ℕ
place_in names x = position_from (is_name x) 0 names

-- a use with the number of its name, where it has one
pub data Coded : Type 0 where
  code : (role : Role) (number : Option ℕ) (place : ℕ) → Coded

abbrev pub coded_in : Names → Use → Coded
coded_in names u = code u.role (place_in names u.name) u.place

abbrev pub coded : NumberedUse → Coded
coded n = code n.role (Some n.name) n.place

-- the uses so far have the numbers of their names
abbrev pub AreNumbered : Names → List Use → List NumberedUse → Type 0
AreNumbered names us ns = map (coded_in names) us ≡ map coded ns

-- ---- one name more

test_here : {X : Type 0} (p : X → Bool) (i : ℕ) (x : X) (xs : List X) (o : Option ℕ) (n : ℕ) (b : Bool) → p x ≡ b → (b ≡ false → o ≡ Some (i + 1 + n)) → cond b (Some i) o ≡ Some (i + cond (not b) (1 + n) 0)
test_here p i x xs o n true e later = ap Some (omega arith)
test_here p i x xs o n false e later = later refl ∙ ap Some (omega arith)

-- the first place of what is there
place_there : {X : Type 0} (p : X → Bool) (i : ℕ) (xs : List X) → list_any p xs ≡ true → position_from p i xs ≡ Some (i + position_or_len p xs)
place_there p i [] e = let bad : false ≡ true = e in absurd (cc)
place_there p i (x ∷ xs) e =
    test_here p i x xs (position_from p (i + 1) xs) (position_or_len p xs) (p x) refl
    (λ no. place_there p (i + 1) xs (ap (λ b. b || list_any p xs) (sym no) ∙ e))

-- the place of what is added last
place_last : {X : Type 0} (p : X → Bool) (i : ℕ) (xs : List X) (y : X) → list_any p xs ≡ false → p y ≡ true → position_from p i (xs ++ y ∷ []) ≡ Some (i + position_or_len p xs)
place_last p i [] y e here = ap (λ b. cond b (Some i) None) here ∙ ap Some (omega arith)
place_last p i (x ∷ xs) y e here =
    test_here p i x xs (position_from p (i + 1) (xs ++ y ∷ [])) (position_or_len p xs) (p x) refl
    (λ no. place_last p (i + 1) xs y (ap (λ b. b || list_any p xs) (sym no) ∙ e) here)

place_kept_here : (b : Bool) (i n : ℕ) (o o' : Option ℕ) → (o ≡ Some n → o' ≡ Some n) → cond b (Some i) o ≡ Some n → cond b (Some i) o' ≡ Some n
place_kept_here true i n o o' later e = e
place_kept_here false i n o o' later e = later e

-- a place stays where something is added last
place_kept : {X : Type 0} (p : X → Bool) (i n : ℕ) (xs : List X) (y : X) → position_from p i xs ≡ Some n → position_from p i (xs ++ y ∷ []) ≡ Some n
place_kept p i n [] y e = let bad : None ≡ Some n = e in absurd (cc)
place_kept p i n (x ∷ xs) y e = place_kept_here (p x) i n (position_from p (i + 1) xs) (position_from p (i + 1) (xs ++ y ∷ [])) (place_kept p (i + 1) n xs y) e

numbered_kept : (names : Names) (k : Bor (List ℕ)) (us : List Use) (ns : List NumberedUse) → AreNumbered names us ns → AreNumbered (names ++ k ∷ []) us ns
numbered_kept names k [] ns e = e
numbered_kept names k (u ∷ us) [] e = absurd (cc)
numbered_kept names k (u ∷ us) (n ∷ ns) e =
    let at : place_in names u.name ≡ Some n.name = cc in
    let later : map (coded_in names) us ≡ map coded ns = cc in
    let more = numbered_kept names k us ns later in
    let at' = place_kept (is_name u.name) 0 n.name names k at in
    cc

numbered_append : (names : Names) (us : List Use) (ns : List NumberedUse) (u : Use) (n : NumberedUse) → AreNumbered names us ns → coded_in names u ≡ coded n → AreNumbered names (us ++ u ∷ []) (ns ++ n ∷ [])
numbered_append names us ns u n before here =
    map-append (coded_in names) us (u ∷ [])
    ∙ ap (λ cs. cs ++ coded_in names u ∷ []) before
    ∙ ap (λ c. map coded ns ++ c ∷ []) here
    ∙ sym (map-append coded ns (n ∷ []))

-- the names with one more, where it is new
abbrev pub with_name : Names → Bor (List ℕ) → Names
with_name names k = insert_key (λ x y. bytes_eq x.now y.now) names k

-- one use more is numbered
pub numbered_more : (names : Names) (us : List Use) (ns : List NumberedUse) (role : Role) (k : Bor (List ℕ)) (place name : ℕ) → name ≡ position_or_len (is_name k.now) names → AreNumbered names us ns
    → AreNumbered (with_name names k) (us ++ record { role = role; name = k.now; place = place } ∷ []) (ns ++ record { role = role; name = name; place = place } ∷ [])
numbered_more names us ns role k place name is before =
    let u : Use = record { role = role; name = k.now; place = place } in
    let n : NumberedUse = record { role = role; name = name; place = place } in
    let same : 0 + position_or_len (is_name k.now) names ≡ name = omega (arith, is) in
    cond_both (list_any (is_name k.now) names) names (names ++ k ∷ []) (λ names'. AreNumbered names' (us ++ u ∷ []) (ns ++ n ∷ []))
    (λ there. numbered_append names us ns u n before
    (ap (λ o. code role o place) (place_there (is_name k.now) 0 names there ∙ ap Some same)))
    (λ new. numbered_append (names ++ k ∷ []) us ns u n (numbered_kept names k us ns before)
    (ap (λ o. code role o place) (place_last (is_name k.now) 0 names k new ((bytes_eq-Decides k.now k.now).1 refl) ∙ ap Some same)))

-- ---- a renaming by the numbers

-- a name by its number, and any other by a longer one
abbrev named_by : List ℕ → Option ℕ → List ℕ
named_by x (Some n) = n ∷ []
named_by x None = 0 ∷ 0 ∷ x

abbrev number_name : Names → List ℕ → List ℕ
number_name names x = named_by x (place_in names x)

and_false : (b : Bool) → (b && false) ≡ false
and_false true = refl
and_false false = refl

-- names at one place are the same
same_names : (names : Names) (x y : List ℕ) (m n : ℕ) → place_in names x ≡ Some m → place_in names y ≡ Some n → m ≡ n → x ≡ y
same_names names x y m n at at' same =
    let here = position_from-found (is_name x) 0 names m at in
    let there = position_from-found (is_name y) 0 names n at' in
    let places : here.0 ≡ there.0 = (let a = here.1.1.0 in let b = there.1.1.0 in omega (arith, a, b, same)) in
    let keys : here.1.0 ≡ there.1.0 = (let a = here.1.1.1.0 in let b = there.1.1.1.0 in cc) in
    (bytes_eq-Decides x here.1.0.now).0 here.1.1.1.1 ∙ ap (λ k. k.now) keys ∙ sym ((bytes_eq-Decides y there.1.0.now).0 there.1.1.1.1)

apart : (names : Names) (x y : List ℕ) (o p : Option ℕ) → place_in names x ≡ o → place_in names y ≡ p → bytes_eq (named_by x o) (named_by y p) ≡ bytes_eq x y
apart names x y None None at at' = refl
apart names x y (Some m) None at at' =
    and_false (eqb m 0)
    ∙ sym (false_from_ne_true (bytes_eq x y) (λ same.
    let one = (bytes_eq-Decides x y).0 same in
    let bad : Some m ≡ None = sym at ∙ ap (place_in names) one ∙ at' in
    absurd (cc)))
apart names x y None (Some n) at at' =
    and_false (eqb 0 n)
    ∙ sym (false_from_ne_true (bytes_eq x y) (λ same.
    let one = (bytes_eq-Decides x y).0 same in
    let bad : None ≡ Some n = sym at ∙ ap (place_in names) one ∙ at' in
    absurd (cc)))
apart names x y (Some m) (Some n) at at' =
    same_number m n
    ∙ same_test (eqb m n) (bytes_eq x y)
    (λ same. (bytes_eq-Decides x y).1 (same_names names x y m n at at' (eqb-true m n same)))
    (λ same.
    let one = (bytes_eq-Decides x y).0 same in
    let places : Some m ≡ Some n = sym at ∙ ap (place_in names) one ∙ at' in
    eq-eqb m n (cc))

numbers_keep : (names : Names) → Keeps (number_name names)
numbers_keep names x y = apart names x y (place_in names x) (place_in names y) refl refl

renamed_use : (names : Names) (u : Use) (n : NumberedUse) → n.role ≡ u.role → place_in names u.name ≡ Some n.name → n.place ≡ u.place → numbered_use n ≡ renamed (number_name names) u
renamed_use names u n roles at places =
    ap (λ r. record { role = r; name = n.name ∷ []; place = n.place }) roles
    ∙ ap₂ (λ x p. record { role = u.role; name = x; place = p }) (sym (ap (named_by u.name) at)) places

renamed_uses : (names : Names) (us : List Use) (ns : List NumberedUse) → AreNumbered names us ns → all_uses ns ≡ map (renamed (number_name names)) us
renamed_uses names [] [] e = refl
renamed_uses names [] (n ∷ ns) e = absurd (cc)
renamed_uses names (u ∷ us) [] e = absurd (cc)
renamed_uses names (u ∷ us) (n ∷ ns) e =
    let later : map (coded_in names) us ≡ map coded ns = cc in
    ap₂ (λ v vs. v ∷ vs) (renamed_use names u n (cc) (cc) (cc)) (renamed_uses names us ns later)

-- numbers in place of names change no fault
pub numbered_fault : (names : Names) (us : List Use) (ns : List NumberedUse) → AreNumbered names us ns → fault_of (all_uses ns) ≡ fault_of us
numbered_fault names us ns e = ap fault_of (renamed_uses names us ns e) ∙ fault-renamed (number_name names) (numbers_keep names) us

-- the numbers are below the count of the names
pub numbers_below : (names : Names) (us : List Use) (ns : List NumberedUse) → AreNumbered names us ns → AreBelow (length names) ns
numbers_below names us [] e = refl
numbers_below names [] (n ∷ ns) e = absurd (cc)
numbers_below names (u ∷ us) (n ∷ ns) e =
    let at : place_in names u.name ≡ Some n.name = cc in
    let later : map (coded_in names) us ≡ map coded ns = cc in
    let within = position_from-within (is_name u.name) 0 names n.name at in
    and_from _ _ (lt-ltb n.name (length names) (omega (arith, within))) (numbers_below names us ns later)
