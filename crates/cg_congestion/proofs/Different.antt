-- How many claims of a list differ: it depends on the claims alone, and where it is at most one they are all the same.
use Rattle.std.proofs.Common.{◌≡◌, ℕ, suc, ◌≤◌, true, false, List, [], ◌∷◌, length, refl, sym, ap, ◌∙◌, subst, arith, ⊎_elim}
use Rattle.std.specs.Prelude.{◌||◌, not, filter}
use Rattle.std.specs.List.{list_any}
use Rattle.std.proofs.lemmas.Bool.{cases_Bool, or_cases}
use Rattle.cg_model.specs.Mapping.{Position}
use Rattle.cg_mrrg.specs.declared.links.MNode.{MNode}
use Rattle.cg_congestion.specs.Claims.{same, uses, is_at, different, claims_at}
use Rattle.cg_congestion.proofs.Uses.{same_is, same_refl, differ, In, Out, in_from_uses, uses_from_in}
use Rattle.cg_model.proofs.Bools.{or_true}

abbrev pub number : List Position → ℕ
number ps = length (different ps)

abbrev without : Position → List Position → List Position
without p ps = filter (λ q. not (same p q)) ps

number_in : (p : Position) (ps : List Position) → In p ps → number (p ∷ ps) ≡ number ps
number_in p ps h = rw h refl

pub number_out : (p : Position) (ps : List Position) → Out p ps → number (p ∷ ps) ≡ suc (number ps)
number_out p ps h = rw h refl

-- what is left without p
any_without : (p q : Position) (ps : List Position) → same p q ≡ false → list_any (same q) (without p ps) ≡ list_any (same q) ps
any_without p q [] h = refl
any_without p q (x ∷ xs) h =
    ⊎_elim
    (λ (a : same p x ≡ true).
    let z : same q x ≡ false = subst (λ y. same q y ≡ false) (same_is p x a) (differ p q h) in
    rw (a, z) (any_without p q xs h))
    (λ (a : same p x ≡ false). rw a (ap (λ b. same q x || b) (any_without p q xs h)))
    (cases_Bool (same p x))

without_out : (p : Position) (ps : List Position) → Out p ps → without p ps ≡ ps
without_out p [] h = refl
without_out p (x ∷ xs) h =
    ⊎_elim (λ (a : same p x ≡ true). let z : (same p x || list_any (same p) xs) ≡ true = rw a refl in absurd (cc))
    (λ (a : same p x ≡ false). let z : list_any (same p) xs ≡ false = (rw a at h) in rw a (ap (λ l. x ∷ l) (without_out p xs z)))
    (cases_Bool (same p x))

number_without : (p : Position) (ps : List Position) → In p ps → number ps ≡ suc (number (without p ps))
number_without p [] h = absurd (cc)
number_without p (x ∷ xs) h =
    ⊎_elim
    (λ (a : same p x ≡ true).
    let e : p ≡ x = same_is p x a in
    ⊎_elim
    (λ (b : In p xs). rw a (number_in x xs (subst (λ y. In y xs) e b) ∙ number_without p xs b))
    (λ (b : Out p xs). rw a (number_out x xs (subst (λ y. Out y xs) e b) ∙ ap (λ l. suc (number l)) (sym (without_out p xs b))))
    (cases_Bool (list_any (same p) xs)))
    (λ (a : same p x ≡ false).
    let rest : In p xs = (rw a at h) in
    let i = number_without p xs rest in
    let w = any_without p x xs a in
    ⊎_elim
    (λ (b : In x xs). rw a (number_in x xs b ∙ i ∙ ap suc (sym (number_in x (without p xs) (w ∙ b)))))
    (λ (b : Out x xs). rw a (number_out x xs b ∙ ap suc (i ∙ sym (number_out x (without p xs) (w ∙ b)))))
    (cases_Bool (list_any (same x) xs)))
    (cases_Bool (same p x))

-- fewer claims, no greater number
pub number_le : (xs ys : List Position) → ((p : Position) → In p xs → In p ys) → number xs ≤ number ys
number_le [] ys h = omega arith
number_le (x ∷ xs) ys h =
    ⊎_elim
    (λ (a : In x xs). rw (number_in x xs a) (number_le xs ys (λ p m. h p (rw m (or_true (same p x))))))
    (λ (a : Out x xs).
    let here : In x ys = h x (rw (same_refl x) refl) in
    let n = number_without x ys here in
    let rest = number_le xs (without x ys) (λ p m.
    ⊎_elim (λ (b : same x p ≡ true). let z : In x xs = subst (λ y. In y xs) (sym (same_is x p b)) m in absurd (cc))
    (λ (b : same x p ≡ false). any_without x p ys b ∙ h p (rw m (or_true (same p x))))
    (cases_Bool (same x p))) in
    rw (number_out x xs a, n) (omega (arith, rest)))
    (cases_Bool (list_any (same x) xs))

-- the claims at a node
pub in_at : (ii : ℕ) (n : MNode) (p : Position) (ps : List Position) → In p (filter (is_at ii n) ps) → (is_at ii n p ≡ true) × In p ps
in_at ii n p [] h = absurd (cc)
in_at ii n p (x ∷ xs) h =
    ⊎_elim
    (λ (a : is_at ii n x ≡ true).
    let m : (same p x || list_any (same p) (filter (is_at ii n) xs)) ≡ true = (rw a at h) in
    ⊎_elim (λ (b : same p x ≡ true). (subst (λ y. is_at ii n y ≡ true) (sym (same_is p x b)) a, rw b refl))
    (λ (b : list_any (same p) (filter (is_at ii n) xs) ≡ true). let c = in_at ii n p xs b in (c.0, rw (c.1) (or_true (same p x))))
    (or_cases (same p x) _ m))
    (λ (a : is_at ii n x ≡ false).
    let m : list_any (same p) (filter (is_at ii n) xs) ≡ true = (rw a at h) in
    let c = in_at ii n p xs m in (c.0, rw (c.1) (or_true (same p x))))
    (cases_Bool (is_at ii n x))

pub at_in : (ii : ℕ) (n : MNode) (p : Position) (ps : List Position) → is_at ii n p ≡ true → In p ps → In p (filter (is_at ii n) ps)
at_in ii n p [] a h = absurd (cc)
at_in ii n p (x ∷ xs) a h =
    ⊎_elim
    (λ (b : same p x ≡ true). let c : is_at ii n x ≡ true = subst (λ y. is_at ii n y ≡ true) (same_is p x b) a in rw (c, b) refl)
    (λ (b : list_any (same p) xs ≡ true).
    let m = at_in ii n p xs a b in
    ⊎_elim (λ (c : is_at ii n x ≡ true). rw (c, m) (or_true (same p x))) (λ (c : is_at ii n x ≡ false). rw c m) (cases_Bool (is_at ii n x)))
    (or_cases (same p x) _ h)

claims_le_same : (ii : ℕ) (n : MNode) (xs ys : List Position) → ((p : Position) → uses xs p ≡ uses ys p) → claims_at ii xs n ≤ claims_at ii ys n
unfolding claims_at
claims_le_same ii n xs ys h =
    number_le (filter (is_at ii n) xs) (filter (is_at ii n) ys) (λ p m.
    let a = in_at ii n p xs m in
    let u = uses_from_in p xs a.1 in
    at_in ii n p ys a.0 (in_from_uses p ys (let e = h p in omega (arith, u, e))))

-- two lists with the same uses have the same numbers of claims
pub claims_same : (ii : ℕ) (n : MNode) (xs ys : List Position) → ((p : Position) → uses xs p ≡ uses ys p) → claims_at ii xs n ≡ claims_at ii ys n
claims_same ii n xs ys h =
    let a = claims_le_same ii n xs ys h in let b = claims_le_same ii n ys xs (λ p. sym (h p)) in omega (arith, a, b)

-- where a node has at most one claim, its positions are the same
pub one_of_few : (ii : ℕ) (n : MNode) (ps : List Position) (p q : Position) → claims_at ii ps n ≤ 1 → In p ps → In q ps → is_at ii n p ≡ true → is_at ii n q ≡ true → p ≡ q
unfolding claims_at
one_of_few ii n ps p q h mp mq ap' aq =
    let fs = filter (is_at ii n) ps in
    let a = at_in ii n p ps ap' mp in
    let b = at_in ii n q ps aq mq in
    ⊎_elim (λ (c : same p q ≡ true). same_is p q c)
    (λ (c : same p q ≡ false).
    let k = number_without p fs a in
    let m = number_without q (without p fs) (any_without p q fs c ∙ b) in
    absurd (omega (arith, k, m, h)))
    (cases_Bool (same p q))
