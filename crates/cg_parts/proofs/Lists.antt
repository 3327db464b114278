-- Lists that are read item by item.
use Rattle.std.proofs.Common.{◌≡◌, ℕ, suc, ◌+◌, ◌<◌, List, [], ◌∷◌, ◌++◌, length, drop, get_or, flat_map, Bor, Bool, true, false, cond, ◌||◌, nat_lt, Option, Some, None, arith, refl, ap, ◌∙◌}
use Rattle.std.specs.Option.{option_or}
use Rattle.std.specs.List.{list_any}
use Rattle.std.proofs.Math.Seq.{drop-cons}
use Rattle.cg_model.specs.First.{first_such}
use Rattle.cg_model.proofs.Options.{cond_none, some_cond}
use Rattle.cg_parts.specs.Parts.{texts, port_name, port_name_of, port_names}

-- the rest of a list at a place that it has
pub rest_at : {X : Type 0} (xs : List X) (k : ℕ) (d : X) → k < length xs → drop k xs ≡ get_or xs k d ∷ drop (k + 1) xs
rest_at xs k d h =
    let more : suc k ≡ k + 1 = omega arith in
    drop-cons xs k d h ∙ ap (λ n. get_or xs k d ∷ drop n xs) more

-- ---- the first item of a list, and of lists one behind the other

first_such-step : {X : Type 0} (b : Bool) (x : X) (o p q : Option X) → o ≡ option_or p q → cond b (Some x) o ≡ option_or (cond b (Some x) p) q
first_such-step true x o p q e = refl
first_such-step false x o p q e = e

pub first_such-append : {X : Type 0} (t : X → Bool) (xs ys : List X) → first_such t (xs ++ ys) ≡ option_or (first_such t xs) (first_such t ys)
first_such-append t [] ys = refl
first_such-append t (x ∷ xs) ys = first_such-step (t x) x (first_such t (xs ++ ys)) (first_such t xs) (first_such t ys) (first_such-append t xs ys)

-- in lists one behind the other, from number k on
pub first_such-at : {X : Type 0} (t : X → Bool) (xss : List (List X)) (k : ℕ) (d : List X) → k < length xss
    → first_such t (flat_map (λ xs. xs) (drop k xss)) ≡ option_or (first_such t (get_or xss k d)) (first_such t (flat_map (λ xs. xs) (drop (k + 1) xss)))
first_such-at t xss k d h = ap (λ yss. first_such t (flat_map (λ xs. xs) yss)) (rest_at xss k d h) ∙ first_such-append t (get_or xss k d) (flat_map (λ xs. xs) (drop (k + 1) xss))

-- ---- names that were seen

pub list_any-texts : (p : List ℕ → Bool) (ks : List (Bor (List ℕ))) → list_any (λ (k : Bor (List ℕ)). p k.now) ks ≡ list_any p (texts ks)
list_any-texts p [] = refl
list_any-texts p (k ∷ ks) = ap (λ b. p k.now || b) (list_any-texts p ks)

-- ---- the names of ports

pub no_more_names : (unit : List ℕ) (p : ℕ) (ports : List (List (List ℕ))) → p < length ports → port_name_of unit p ≡ None → port_names unit p (drop p ports) ≡ []
no_more_names unit p ports h e =
    ap (port_names unit p) (rest_at ports p [] h) ∙ ap (λ b. cond b (port_name unit p ∷ port_names unit (p + 1) (drop (p + 1) ports)) []) (cond_none (nat_lt p 3) (port_name unit p) None e).0

pub one_more_name : (unit : List ℕ) (p : ℕ) (ports : List (List (List ℕ))) (name : List ℕ) → p < length ports → port_name_of unit p ≡ Some name
    → port_names unit p (drop p ports) ≡ name ∷ port_names unit (p + 1) (drop (p + 1) ports)
one_more_name unit p ports name h e =
    let here = some_cond (nat_lt p 3) (port_name unit p) name e in
    ap (port_names unit p) (rest_at ports p [] h) ∙ ap (λ b. cond b (port_name unit p ∷ port_names unit (p + 1) (drop (p + 1) ports)) []) here.0 ∙ ap (λ n. n ∷ port_names unit (p + 1) (drop (p + 1) ports)) here.1

-- ---- a number for whichever of two tests holds

pub or_twice : (o : Option ℕ) (a b : Bool) (n : ℕ) → option_or (option_or o (cond a (Some n) None)) (cond b (Some n) None) ≡ option_or o (cond (a || b) (Some n) None)
or_twice (Some m) a b n = refl
or_twice None true b n = refl
or_twice None false b n = refl
