-- The least latency of the units read so far.
use Rattle.std.proofs.Common.{◌≡◌, ℕ, zero, suc, ◌+◌, ◌<◌, ◌≤◌, List, [], ◌∷◌, take, length, get_or, Option, Some, None, Bool, true, false, cond, refl, sym, ap, ◌∙◌, subst, arith}
use Rattle.std.specs.Prelude.{min, unwrap_or, slice_index_or}
use Rattle.std.proofs.Math.Nat.{min_comm}
use Rattle.cg_word.specs.declared.op.Op.{Op}
use Rattle.cg_word.specs.Sets.{among}
use Rattle.cg_model.specs.declared.array.Unit.{Unit}
use Rattle.cg_model.specs.Array.{Arch, IsArch}
use Rattle.cg_recur.specs.Edges.{lesser, least_latency, latency}

-- no unit offers it
pub least_none : (op : Op) → None ≡ least_latency op []
unfolding least_latency
least_none op = refl

-- with one unit more in front
abbrev pub with_unit : Op → Unit → Option ℕ → Option ℕ
with_unit op u o = cond (among u.ops op) (Some (lesser u.latency o)) o

min_swap : (a b c : ℕ) → min a (min b c) ≡ min b (min a c)
min_swap a b c = omega arith

lesser_swap : (a b : ℕ) (o : Option ℕ) → lesser a (Some (lesser b o)) ≡ lesser b (Some (lesser a o))
lesser_swap a b None = min_comm a b
lesser_swap a b (Some c) = min_swap a b c

swap : (op : Op) (u v : Unit) (o : Option ℕ) (a b : Bool) → among u.ops op ≡ a → among v.ops op ≡ b → with_unit op u (with_unit op v o) ≡ with_unit op v (with_unit op u o)
swap op u v o true true ha hb = rw (ha, hb) (ap (λ z. Some z) (lesser_swap u.latency v.latency o))
swap op u v o true false ha hb = rw (ha, hb) refl
swap op u v o false true ha hb = rw (ha, hb) refl
swap op u v o false false ha hb = rw (ha, hb) refl

-- a unit more at the end is as one more in front
pub least_more : (op : Op) (us : List Unit) (i : ℕ) (d : Unit) → i < length us → least_latency op (take (i + 1) us) ≡ with_unit op (get_or us i d) (least_latency op (take i us))
unfolding least_latency
least_more op [] i d l = absurd (omega arith)
least_more op (u ∷ us) zero d l = refl
least_more op (u ∷ us) (suc i) d l =
    let e : suc i + 1 ≡ suc (i + 1) = omega arith in
    ap (λ n. least_latency op (take n (u ∷ us))) e
    ∙ ap (with_unit op u) (least_more op us i d (omega arith))
    ∙ swap op u (get_or us i d) (least_latency op (take i us)) (among u.ops op) (among (get_or us i d).ops op) refl refl

pub lesser_below : (l : ℕ) (o : Option ℕ) → lesser l o ≤ l
lesser_below l None = omega arith
lesser_below l (Some n) = omega arith

small_by : (op : Op) (us : List Unit) (u : Unit) (l m : ℕ) (b : Bool) → among u.ops op ≡ b → u.latency ≤ l → (least_latency op us ≡ Some m → m ≤ l) → with_unit op u (least_latency op us) ≡ Some m → m ≤ l
small_by op us u l m true is first rest e =
    let f : Some (lesser u.latency (least_latency op us)) ≡ Some m = sym (ap (λ z. cond z (Some (lesser u.latency (least_latency op us))) (least_latency op us)) is) ∙ e in
    let g : lesser u.latency (least_latency op us) ≡ m = cc in
    let k = lesser_below u.latency (least_latency op us) in
    omega arith
small_by op us u l m false is first rest e = rest (sym (ap (λ z. cond z (Some (lesser u.latency (least_latency op us))) (least_latency op us)) is) ∙ e)

-- each latency is small, so the least one is
least_small : (op : Op) (us : List Unit) (d : Unit) (l m : ℕ) → ((x : ℕ) → x < length us → (slice_index_or us x d).latency ≤ l) → least_latency op us ≡ Some m → m ≤ l
unfolding least_latency
least_small op [] d l m h e = absurd (let b : None ≡ Some m = e in cc)
least_small op (u ∷ us) d l m h e = small_by op us u l m (among u.ops op) refl (h 0 (omega arith)) (λ f. least_small op us d l m (λ x k. h (suc x) (omega arith)) f) e

-- so each latency is at most 4
pub latency_small : (A : Arch) (op : Op) → IsArch A → latency A op ≤ 4
latency_small A op good = by (least_latency op A.units) refl
  where
    by : (o : Option ℕ) → least_latency op A.units ≡ o → unwrap_or o 1 ≤ 4
    by None e = omega arith
    by (Some m) e = least_small op A.units (record { name = []; ops = []; latency = 1; ports = []; out = 0 }) 4 m (λ x l. (good.latencies x l).1) e

-- after a unit that offers it, and after one that doesn't
pub unit_seen : (op : Op) (us units : List Unit) (i : ℕ) (u : Unit) (least : Option ℕ) (l : ℕ) → units ≡ us → i < length units → u ≡ get_or units i u → least ≡ least_latency op (take i us) → l ≡ lesser u.latency least → among u.ops op ≡ true →
    Some l ≡ least_latency op (take (i + 1) us)
unit_seen op us units i u least l e within is before so has =
    let at : u ≡ get_or us i u = subst (λ z. u ≡ get_or z i u) e is in
    ap (λ z. Some z) (so ∙ ap (lesser u.latency) before)
    ∙ sym (ap (λ b. cond b (Some (lesser u.latency (least_latency op (take i us)))) (least_latency op (take i us))) has)
    ∙ ap (λ z. with_unit op z (least_latency op (take i us))) at
    ∙ sym (least_more op us i u (subst (λ z. i < length z) e within))

pub unit_passed : (op : Op) (us units : List Unit) (i : ℕ) (u : Unit) (least : Option ℕ) → units ≡ us → i < length units → u ≡ get_or units i u → least ≡ least_latency op (take i us) → among u.ops op ≡ false →
    least ≡ least_latency op (take (i + 1) us)
unit_passed op us units i u least e within is before has =
    let at : u ≡ get_or us i u = subst (λ z. u ≡ get_or z i u) e is in
    before
    ∙ sym (ap (λ b. cond b (Some (lesser u.latency (least_latency op (take i us)))) (least_latency op (take i us))) has)
    ∙ ap (λ z. with_unit op z (least_latency op (take i us))) at
    ∙ sym (least_more op us i u (subst (λ z. i < length z) e within))
