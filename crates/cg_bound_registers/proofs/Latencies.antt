-- The least and the greatest latency of the units that offer an operation.
use Rattle.std.proofs.Common.{◌≡◌, ℕ, zero, suc, ◌+◌, ◌<◌, ◌≤◌, List, [], ◌∷◌, length, get_or, drop, add-one, drop-cons, cond, Bool, true, false, Option, Some, None, refl, ap, ◌∙◌, arith, ⊎_elim}
use Rattle.std.specs.Prelude.{max, unwrap_or}
use Rattle.std.proofs.lemmas.Bool.{cond-true, cond-false, cases_Bool}
use Rattle.std.proofs.lemmas.List.{drop_all}
use Rattle.std.proofs.Math.Nat.{le-max_left, le-max_right}
use Rattle.cg_word.specs.declared.op.Op.{Op}
use Rattle.cg_word.specs.Sets.{among}
use Rattle.cg_model.specs.declared.array.Unit.{Unit}
use Rattle.cg_model.specs.Array.{Arch}
use Rattle.cg_recur.specs.Edges.{lesser, least_latency, latency}
use Rattle.cg_recur.proofs.Latencies.{lesser_below}
use Rattle.cg_bound_registers.specs.Pressure.{most_latency}

lesser_rest : (l m : ℕ) (o : Option ℕ) → (x : ℕ) × (o ≡ Some x) × (x ≤ m) → lesser l o ≤ m
lesser_rest l m None (x, e, h) = absurd (cc)
lesser_rest l m (Some y) (x, e, h) = let f : y ≡ x = cc in omega arith

-- the least latency is at most that of a unit that offers the operation
least_below : (op : Op) (us : List Unit) (x : ℕ) (d : Unit) → x < length us → among (get_or us x d).ops op ≡ true → (y : ℕ) × (least_latency op us ≡ Some y) × (y ≤ (get_or us x d).latency)
unfolding least_latency
least_below op [] x d l h = absurd (omega arith)
least_below op (u ∷ us) zero d l h =
    let rest = least_latency op us in (lesser u.latency rest, ap (λ b. cond b (Some (lesser u.latency rest)) rest) h, lesser_below u.latency rest)
least_below op (u ∷ us) (suc x) d l h =
    let rest = least_latency op us in
    let (y, e, m) = least_below op us x d (omega arith) h in
    ⊎_elim
    (λ t. (lesser u.latency rest, ap (λ b. cond b (Some (lesser u.latency rest)) rest) t, lesser_rest u.latency (get_or us x d).latency rest (y, e, m)))
    (λ t. (y, ap (λ b. cond b (Some (lesser u.latency rest)) rest) t ∙ e, m))
    (cases_Bool (among u.ops op))

pub least_le : (A : Arch) (op : Op) (x : ℕ) (d : Unit) → x < length A.units → among (get_or A.units x d).ops op ≡ true → latency A op ≤ (get_or A.units x d).latency
least_le A op x d l h = let (y, e, m) = least_below op A.units x d l h in let q = ap (λ z. unwrap_or z 1) e in omega arith

pub most_ge : (op : Op) (us : List Unit) (x : ℕ) (d : Unit) → x < length us → among (get_or us x d).ops op ≡ true → (get_or us x d).latency ≤ most_latency op us
unfolding most_latency
most_ge op [] x d l h = absurd (omega arith)
most_ge op (u ∷ us) zero d l h = let e = cond-true (among u.ops op) (max u.latency (most_latency op us)) (most_latency op us) h in let m = le-max_left u.latency (most_latency op us) in omega arith
most_ge op (u ∷ us) (suc x) d l h =
    let r = most_ge op us x d (omega arith) h in
    let m = le-max_right u.latency (most_latency op us) in
    ⊎_elim (λ t. let e = cond-true (among u.ops op) (max u.latency (most_latency op us)) (most_latency op us) t in omega arith)
    (λ t. let e = cond-false (among u.ops op) (max u.latency (most_latency op us)) (most_latency op us) t in omega arith)
    (cases_Bool (among u.ops op))

-- ---- as a loop finds the greatest

most_none : (op : Op) → most_latency op [] ≡ 1
unfolding most_latency
most_none op = refl

most_drop : (op : Op) (us : List Unit) (k : ℕ) (d x : Unit) → k < length us → x ≡ get_or us k d →
    most_latency op (drop k us) ≡ cond (among x.ops op) (max x.latency (most_latency op (drop (k + 1) us))) (most_latency op (drop (k + 1) us))
unfolding most_latency
most_drop op us k d x l e = rw (add-one, drop-cons us k d l, ← e) refl

pub most_all : (op : Op) (us vs : List Unit) (k a t : ℕ) → vs ≡ us → length vs ≤ k → 1 ≤ a → max a (most_latency op (drop k us)) ≡ t → a ≡ t
most_all op us vs k a t q l p e = let l' = rw q at l in let f = ap (most_latency op) (drop_all k us l') ∙ most_none op in omega arith

pub most_more : (op : Op) (us vs : List Unit) (k a b t : ℕ) (x : Unit) → vs ≡ us → k < length vs → x ≡ get_or vs k x → max a (most_latency op (drop k us)) ≡ t →
    b ≡ cond (among x.ops op) (max a x.latency) a → max b (most_latency op (drop (k + 1) us)) ≡ t
most_more op us vs k a b t x q l e h f = both (among x.ops op) (most_drop op us k x x (rw q at l) (e ∙ ap (λ zs. get_or zs k x) q)) f
  where
    both : (c : Bool) → most_latency op (drop k us) ≡ cond c (max x.latency (most_latency op (drop (k + 1) us))) (most_latency op (drop (k + 1) us)) → b ≡ cond c (max a x.latency) a → max b (most_latency op (drop (k + 1) us)) ≡ t
    both true g f = omega arith
    both false g f = omega arith

most_positive : (op : Op) (us : List Unit) → 1 ≤ most_latency op us
unfolding most_latency
most_positive op [] = omega arith
most_positive op (u ∷ us) =
    let r = most_positive op us in
    let m = le-max_right u.latency (most_latency op us) in
    ⊎_elim (λ t. let e = cond-true (among u.ops op) (max u.latency (most_latency op us)) (most_latency op us) t in omega arith)
    (λ t. let e = cond-false (among u.ops op) (max u.latency (most_latency op us)) (most_latency op us) t in omega arith)
    (cases_Bool (among u.ops op))

-- as loops begin
pub most_from_one : (op : Op) (us : List Unit) → max 1 (most_latency op us) ≡ most_latency op us
most_from_one op us = let h = most_positive op us in omega arith
