-- The ways on through registers, one more at a time.
use Rattle.std.proofs.Common.{◌≡◌, ℕ, ◌+◌, ◌<◌, ◌≤◌, eqb, Bool, true, false, List, [], length, length-set, get_or, set, Some, None, refl, sym, ap, ◌∙◌, subst, arith, ⊎_elim, inl, inr}
use Rattle.std.specs.Prelude.{◌⊎◌, ◌&&◌, Contains, replicate}
use Rattle.std.specs.List.{list_any}
use Rattle.std.proofs.lemmas.Bool.{cases_lt, cases_eq, cases_Bool, eq-eqb, ne_eqb, false≢true}
use Rattle.std.proofs.lemmas.List.{get_or-replicate, get_or_past, length-replicate, get_or-set_same, get_or-set_other}
use Rattle.cg_model.specs.Array.{delay_by}
use Rattle.cg_model.specs.declared.array.Kind.{Kind}
use Rattle.cg_model.specs.declared.array.Kind.TheVariants.{Wire, Register, Port, Out}
use Rattle.cg_route.specs.Layers.{Step, Sought, Layer, size, at, onward, Drives, delay_into, link, cost, IsBest, IsBegun, IsBelow, entered}
use Rattle.cg_mrrg.proofs.After.{any_at}

-- a link takes one cycle, or none
pub kind_delay : (k : Kind) → (delay_by k ≡ 0) ⊎ (delay_by k ≡ 1)
kind_delay Register = inr refl
kind_delay Wire = inl refl
kind_delay Port = inl refl
kind_delay Out = inl refl

pub one_or_none : (S : Sought) (r : ℕ) → (delay_into S r ≡ 0) ⊎ (delay_into S r ≡ 1)
one_or_none S r = kind_delay _

pub onward_now : (S : Sought) (here later : Layer) (r : ℕ) → delay_into S r ≡ 0 → onward S here later r ≡ at here r
onward_now S here later r e = rw (eq-eqb (delay_into S r) 0 e) refl

pub onward_later : (S : Sought) (here later : Layer) (r : ℕ) → delay_into S r ≡ 1 → onward S here later r ≡ at later r
onward_later S here later r e = rw (ne_eqb (delay_into S r) 0 (λ z. omega (arith, e, z))) refl

pub no_driver : (ds : List ℕ) (q : ℕ) → list_any (eqb q) ds ≡ false → Contains ds q → ⊥
no_driver ds q f m = false≢true (sym f ∙ any_at ds m.0 q q m.1 m.2)

-- where links to it have no delay, the price to r from time t on is that at time t
pub cost_now : (S : Sought) (q t s r : ℕ) → t + delay_into S r ≡ s → cost S q t r ≡ link S s r q
cost_now S q t s r e = ap (λ z. link S z r q) e

-- at the end there is no later layer
pub begun_end : (S : Sought) (t : ℕ) (here : Layer) → here ≡ replicate (size S) None → IsBegun S t (size S) [] here
begun_end S t here is =
    record {
      all = ap (λ (l : Layer). length l) is ∙ length-replicate (size S) None;
      each = λ q l.
          subst (λ e. IsBest (λ x. Drives S q x × (delay_into S x ≡ 1) × (x < size S)) (at []) (cost S q t) e)
          (sym (ap (λ h. at h q) is ∙ get_or-replicate (size S) q None None l.0)) (λ x u. refl);
    }

pub none_below : (S : Sought) (high : ℕ) (here : Layer) → here ≡ replicate (size S) None → IsBelow high here
none_below S high here is q s e =
    ⊎_elim
    (λ (a : q < size S). let z : at here q ≡ None = ap (λ h. at h q) is ∙ get_or-replicate (size S) q None None a in absurd (cc))
    (λ (a : size S ≤ q).
    let long = ap (λ (l : Layer). length l) is ∙ length-replicate (size S) None in
    let z : at here q ≡ None = get_or_past here q None (omega arith) in absurd (cc))
    (cases_lt q (size S))

-- entering the end makes nothing dearer
pub entered_below : (S : Sought) (k r high : ℕ) (old : Layer) → r < length old → IsBelow high old → IsBelow high (entered S k r old)
entered_below S k r high old known h =
    ⊎_elim
    (λ (b : (eqb k 0 && eqb r S.to) ≡ true). rw b (λ q s is.
    ⊎_elim
    (λ (a : q ≡ r).
    let z : Some (record { price = 0; next = r }) ≡ Some s = sym (get_or-set_same old r (Some (record { price = 0; next = r })) None known) ∙ subst (λ x. at (set old r (Some (record { price = 0; next = r }))) x ≡ Some s) a is in
    let w : record { price = 0; next = r } ≡ s = cc in
    omega (arith, ap (λ (y : Step). y.price) w))
    (λ a. h q s (sym (get_or-set_other old r q (Some (record { price = 0; next = r })) None a) ∙ is))
    (cases_eq q r)))
    (λ (b : (eqb k 0 && eqb r S.to) ≡ false). rw b h)
    (cases_Bool (eqb k 0 && eqb r S.to))

pub entered_long : (S : Sought) (k r : ℕ) (old : Layer) → length (entered S k r old) ≡ length old
entered_long S k r old =
    ⊎_elim
    (λ (b : (eqb k 0 && eqb r S.to) ≡ true). rw b (length-set old r (Some (record { price = 0; next = r }))))
    (λ (b : (eqb k 0 && eqb r S.to) ≡ false). rw b refl)
    (cases_Bool (eqb k 0 && eqb r S.to))

pub more_below : (low high : ℕ) (layer : Layer) → low ≤ high → IsBelow low layer → IsBelow high layer
more_below low high layer le h q s is = let z = h q s is in omega arith
