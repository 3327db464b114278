-- The last assignments with one use more.
use Rattle.std.proofs.Common.{◌≡◌, ℕ, ◌+◌, ◌<◌, ◌≤◌, ◌&&◌, ◌||◌, not, Bool, true, false, cond, List, [], ◌∷◌, ◌++◌, length, get_or, take, drop, Option, Some, None, eqb, ltb, bytes_eq, refl, sym, ap, ◌∙◌, arith, ⊎_elim}
use Rattle.std.specs.List.{list_any}
use Rattle.std.proofs.lemmas.List.{get_or_default, map-append, take_more, drop-append-le, length-take-le}
use Rattle.std.proofs.Math.ListN.{drop_of_length-le}
use Rattle.std.proofs.lemmas.List.Folds.{list_any-append}
use Rattle.std.proofs.lemmas.Bool.{cases_lt, lt-ltb, le-ltb, or_right}
use Rattle.cg_loop_syntax.specs.Uses.{Use, is_carry, is_assign, assigns, is_misassigned}
use Rattle.cg_loop_reader.specs.declared.numbering.NumberedUse.{NumberedUse}
use Rattle.cg_loop_reader.specs.Numbered.{numbered_use, all_uses}
use Rattle.cg_loop_reader.specs.Assigned.{is_behind, IsLastAssigned}
use Rattle.cg_loop_reader.proofs.Steps.{same_number, uses_more}

or_false : (b : Bool) → (b || false) ≡ b
or_false true = refl
or_false false = refl

-- the new index is behind those below it alone
behind_more : (b : Bool) (o : Option ℕ) (i n : ℕ) → (i ≤ n → is_behind o n ≡ false) → is_behind (cond b (Some i) o) n ≡ cond (ltb n i) (is_behind o n || b) false
behind_more true o i n none = ⊎_elim
    (λ lt. lt-ltb n i lt ∙ sym (ap (λ c. cond c (is_behind o n || true) false) (lt-ltb n i lt) ∙ or_right (is_behind o n) true refl))
    (λ le. le-ltb n i le ∙ sym (ap (λ c. cond c (is_behind o n || true) false) (le-ltb n i le)))
    (cases_lt n i)
behind_more false o i n none = ⊎_elim
    (λ lt. sym (ap (λ c. cond c (is_behind o n || false) false) (lt-ltb n i lt) ∙ or_false (is_behind o n)))
    (λ le. none le ∙ sym (ap (λ c. cond c (is_behind o n || false) false) (le-ltb n i le)))
    (cases_lt n i)

-- what is behind an index, with one use more
any_more : (test : Use → Bool) (us : List NumberedUse) (i n : ℕ) (d : NumberedUse) → i < length us
    → list_any test (all_uses (drop (n + 1) (take (i + 1) us))) ≡ cond (ltb n i) (list_any test (all_uses (drop (n + 1) (take i us))) || test (numbered_use (get_or us i d))) false
any_more test us i n d lt =
    let u = get_or us i d in
    let long : length (take i us) ≡ i = length-take-le i us (omega arith) in
    let more = take_more us i d lt in
    ⊎_elim
    (λ below.
    ap (λ ys. list_any test (all_uses (drop (n + 1) ys))) more
    ∙ ap (λ ys. list_any test (all_uses ys)) (drop-append-le (n + 1) (take i us) (u ∷ []) (omega arith))
    ∙ ap (list_any test) (map-append numbered_use (drop (n + 1) (take i us)) (u ∷ []))
    ∙ list_any-append test (all_uses (drop (n + 1) (take i us))) (numbered_use u ∷ [])
    ∙ ap (λ b. list_any test (all_uses (drop (n + 1) (take i us))) || b) (or_false (test (numbered_use u)))
    ∙ sym (ap (λ c. cond c (list_any test (all_uses (drop (n + 1) (take i us))) || test (numbered_use u)) false) (lt-ltb n i below)))
    (λ past.
    let long' : length (take (i + 1) us) ≡ i + 1 = length-take-le (i + 1) us (omega arith) in
    ap (λ ys. list_any test (all_uses ys)) (drop_of_length-le (take (i + 1) us) (omega arith))
    ∙ sym (ap (λ c. cond c (list_any test (all_uses (drop (n + 1) (take i us))) || test (numbered_use u)) false) (le-ltb n i past)))
    (cases_lt n i)

-- a table of last assignments, with one use more
pub last_more : (us xs : List NumberedUse) (i : ℕ) (d : NumberedUse) (old new : List (Option ℕ)) → xs ≡ us → i < length us → IsLastAssigned old (take i us)
    → ((name : ℕ) → get_or new name None ≡ cond (is_assign (get_or xs i d).role && eqb (get_or xs i d).name name) (Some i) (get_or old name None))
    → IsLastAssigned new (take (i + 1) us)
last_more us xs i d old new same lt before after name n =
    let u = get_or us i d in
    let test = assigns (name ∷ []) in
    let long : length (take i us) ≡ i = length-take-le i us (omega arith) in
    ap (λ o. is_behind o n) (after name ∙ ap (λ ys. cond (is_assign (get_or ys i d).role && eqb (get_or ys i d).name name) (Some i) (get_or old name None)) same)
    ∙ behind_more (is_assign u.role && eqb u.name name) (get_or old name None) i n
    (λ past. before name n ∙ ap (λ ys. list_any test (all_uses ys)) (drop_of_length-le (take i us) (omega arith)))
    ∙ ap (λ b. cond (ltb n i) (b || (is_assign u.role && eqb u.name name)) false) (before name n)
    ∙ ap (λ b. cond (ltb n i) (list_any test (all_uses (drop (n + 1) (take i us))) || (is_assign u.role && b)) false) (sym (same_number u.name name))
    ∙ sym (any_more test us i n d lt)

-- one use more may assign a name
assigned_more : (us : List Use) (u : NumberedUse) (name : ℕ) → list_any (assigns (name ∷ [])) (us ++ numbered_use u ∷ []) ≡ (list_any (assigns (name ∷ [])) us || (is_assign u.role && eqb u.name name))
assigned_more us u name =
    list_any-append (assigns (name ∷ [])) us (numbered_use u ∷ [])
    ∙ ap (λ b. list_any (assigns (name ∷ [])) us || b) (or_false (is_assign u.role && bytes_eq (u.name ∷ []) (name ∷ [])) ∙ ap (λ b. is_assign u.role && b) (same_number u.name name))

-- a table of which names are assigned, with one use more
pub flags_more : (us xs : List NumberedUse) (i : ℕ) (d : NumberedUse) (old new : List Bool) → xs ≡ us → i < length us
    → ((name : ℕ) → get_or old name false ≡ list_any (assigns (name ∷ [])) (all_uses (take i us)))
    → ((name : ℕ) → get_or new name false ≡ (get_or old name false || (is_assign (get_or xs i d).role && eqb (get_or xs i d).name name)))
    → (name : ℕ) → get_or new name false ≡ list_any (assigns (name ∷ [])) (all_uses (take (i + 1) us))
flags_more us xs i d old new same lt before after name =
    let u = get_or us i d in
    after name
    ∙ ap (λ ys. get_or old name false || (is_assign (get_or ys i d).role && eqb (get_or ys i d).name name)) same
    ∙ ap (λ b. b || (is_assign u.role && eqb u.name name)) (before name)
    ∙ sym (assigned_more (all_uses (take i us)) u name)
    ∙ ap (list_any (assigns (name ∷ []))) (sym (uses_more us i d lt))

-- whether a use is wrong, by the table of flags and that of last assignments
pub misassigned_is : (us : List NumberedUse) (i : ℕ) (u : NumberedUse) (last : List (Option ℕ)) (flags : List Bool) (here : Option ℕ) (earlier : Bool)
    → u.name < length last → u.name < length flags → IsLastAssigned last us
    → ((name : ℕ) → get_or flags name false ≡ list_any (assigns (name ∷ [])) (all_uses (take i us)))
    → here ≡ get_or last u.name here → earlier ≡ get_or flags u.name earlier
    → is_misassigned (all_uses (take i us)) (numbered_use u) (all_uses (drop (i + 1) us)) ≡ ((is_carry (Some u.role) && not (is_behind here i)) || (is_assign u.role && earlier))
misassigned_is us i u last flags here earlier lt lt' lasts are at at' =
    let behind = sym (lasts u.name i) ∙ ap (λ o. is_behind o i) (get_or_default last u.name None here lt ∙ sym at) in
    let before = sym (are u.name) ∙ get_or_default flags u.name false earlier lt' ∙ sym at' in
    ap (λ b. (is_carry (Some u.role) && not b) || (is_assign u.role && list_any (assigns (u.name ∷ [])) (all_uses (take i us)))) behind
    ∙ ap (λ b. (is_carry (Some u.role) && not (is_behind here i)) || (is_assign u.role && b)) before
