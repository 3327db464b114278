use Rattle.std.proofs.Common.{◌≡◌, ◌∙◌, ◌+◌, ◌<◌, ℕ, cond, List, length, true, subst, ap, sym}
use Rattle.std.specs.Prelude.{HoldsAt}
use Rattle.cg_congestion.specs.declared.laws.PlainPosition.{PlainPosition}
use Rattle.cg_congestion.specs.Claims.{same, uses}
use Rattle.cg_congestion.specs.Plain.{plain, plains}
use Rattle.cg_congestion.proofs.Plain.{uses_taken}
use Rattle.cg_congestion.proofs.laws.take_one.Goals as goal

pub returns-in-Some-clause-taken : goal.returns-in-Some-clause-taken
returns-in-Some-clause-taken c =
    let ps = c.args.positions.now.items in
    let i : ℕ = c.in-Some.place in
    let found = c.in-Some.ensures.some in
    let inside : i < length ps = subst (λ (l : List PlainPosition). i < length l) c.deref.ensures.value found.0 in
    let here : HoldsAt (λ q. same (plain c.args.position) (plain q) ≡ true) ps i = subst (λ (l : List PlainPosition). HoldsAt (λ q. same (plain c.args.position) (plain q) ≡ true) l i) c.deref.ensures.value found.1 in
    λ q. uses_taken ps i c.swap_remove.result c.args.position inside here q ∙ ap (λ (l : List PlainPosition). uses (plains l) q + cond (same q (plain c.args.position)) 1 0) (sym c.swap_remove.ensures.items)
