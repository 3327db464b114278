use Rattle.std.proofs.Common.{◌≡◌, ◌≢◌, ◌∙◌, ℕ, ◌+◌, ◌<◌, ◌≤◌, List, Option, Some, None, length, length-set, get_or, set, sym, subst, ap, arith, ⊎_elim}
use Rattle.std.proofs.lemmas.Bool.{cases_lt, cases_eq}
use Rattle.std.proofs.lemmas.List.{get_or-set_same, get_or-set_other}
use Rattle.cg_model.specs.Array.{delay}
use Rattle.cg_route.specs.Layers.{Sought, Way, way_of, way_into, delay_into, size, AreCheap}
use Rattle.cg_route.proofs.Carries.{into_register, into_other, put_cheap, ways_are}
use Rattle.cg_route.proofs.search.Search.ways.Goals as goal
use Rattle.cg_route.proofs.search.Search.ways.Goals.{then-delay_into-eq1+in-Some, then-delay_into-eq1+in_default, else-delay_into-eq1}

-- an entry that stays as it is
kept : (ways new : List (Option Way)) (i : ℕ) (f : ℕ → Option Way) → new ≡ ways → f i ≡ None → ((r : ℕ) → r < i → get_or ways r None ≡ f r) → ((r : ℕ) → i ≤ r → get_or ways r None ≡ None) →
    ((r : ℕ) → r < i + 1 → get_or new r None ≡ f r) × ((r : ℕ) → i + 1 ≤ r → get_or new r None ≡ None)
kept ways new i f same none first rest = (
  λ r l.
      ap (λ (w : List (Option Way)). get_or w r None) same ∙
      ⊎_elim (λ (a : r < i). first r a)
      (λ (a : i ≤ r). let e : i ≡ r = omega arith in rest r a ∙ sym (subst (λ r. f r ≡ None) e none))
      (cases_lt r i),
  λ r l. ap (λ (w : List (Option Way)). get_or w r None) same ∙ rest r (omega arith),
)

pub loop-resource-preserved : goal.loop-resource-preserved
loop-resource-preserved c =
    let S = c.args.self.now in
    let s = c.args.time in
    let later = c.args.later.now in
    let i = c.loop-resource.resource in
    let old : List (Option Way) = c.loop-resource.ways.items in
    let new : List (Option Way) = c.if-delay_into-eq1.ways.items in
    let all = c.loop-resource.invariant.all in
    let first = c.loop-resource.invariant.first in
    let rest = c.loop-resource.invariant.rest in
    let count : c.self.inside.count ≡ size S = c.self.invariant.3 ∙ ap (λ (S : Sought). size S) c.self.view_is in
    let test = c.loop-resource-test.true in
    let inside : i < size S = omega (arith, test, count) in
    let known : i < length old = omega (arith, inside, all) in
    let f : ℕ → Option Way = way_into S s later in
    let delays : c.delay_into.result ≡ delay_into S i = c.delay_into.ensures ∙ ap (λ A. delay A i) c.self.invariant.1 ∙ ap (λ (S : Sought). delay_into S i) c.self.view_is in
    elim c.if-delay_into-eq1.branch [
      | then-delay_into-eq1+in-Some w ↦
          let way : Way = w.way.result in
          let is : new ≡ set old i (Some way) = ap (λ v. v.items) w.ways-is in
          let e : Some way ≡ f i = w.way.ensures.way ∙ ap (λ o. way_of S s i o) (sym w.in-Some.is) ∙ sym (into_register S s later i (sym delays ∙ w.if-delay_into-eq1.true)) in
          record {
            all = ap (λ (l : List (Option Way)). length l) is ∙ length-set old i (Some way) ∙ all;
            first = λ r l.
                ap (λ (w : List (Option Way)). get_or w r None) is ∙
                ⊎_elim
                (λ (a : r ≡ i). subst (λ r. get_or (set old i (Some way)) r None ≡ f r) (sym a) (get_or-set_same old i (Some way) None known ∙ e))
                (λ (a : r ≢ i). get_or-set_other old i r (Some way) None a ∙ first r (omega (arith, l, a)))
                (cases_eq r i);
            rest = λ r l. ap (λ (w : List (Option Way)). get_or w r None) is ∙ get_or-set_other old i r (Some way) None (λ z. omega (arith, z, l)) ∙ rest r (omega arith);
            cheap = subst (λ l. AreCheap l) (sym is) (put_cheap old i way known w.way.ensures.cheap c.loop-resource.invariant.cheap);
          }
      | then-delay_into-eq1+in_default w ↦
          let is : new ≡ old = ap (λ v. v.items) w.ways-is in
          let none : f i ≡ None = into_register S s later i (sym delays ∙ w.if-delay_into-eq1.true) ∙ ap (λ o. way_of S s i o) w.in_default.is in
          let (a, b) = kept old new i f is none first rest in
          record {
            all = ap (λ (l : List (Option Way)). length l) is ∙ all;
            first = a;
            rest = b;
            cheap = subst (λ l. AreCheap l) (sym is) c.loop-resource.invariant.cheap;
          }
      | else-delay_into-eq1 w ↦
          let is : new ≡ old = ap (λ v. v.items) w.ways-is in
          let none : f i ≡ None = into_other S s later i (λ one. w.if-delay_into-eq1.false (delays ∙ one)) in
          let (a, b) = kept old new i f is none first rest in
          record {
            all = ap (λ (l : List (Option Way)). length l) is ∙ all;
            first = a;
            rest = b;
            cheap = subst (λ l. AreCheap l) (sym is) c.loop-resource.invariant.cheap;
          }
    ]

pub returns-clause-ways : goal.returns-clause-ways
returns-clause-ways c =
    let S = c.args.self.now in
    let count : c.self.inside.count ≡ size S = c.self.invariant.3 ∙ ap (λ (S : Sought). size S) c.self.view_is in
    let over = c.loop-resource-test.false in
    ways_are S c.args.time c.args.later.now c.loop-resource.ways.items c.loop-resource.invariant.all (λ r l. c.loop-resource.invariant.first r (omega (arith, count, over, l)))
