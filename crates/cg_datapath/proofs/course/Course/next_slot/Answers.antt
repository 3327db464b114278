use Rattle.std.proofs.Common.{◌≡◌, ◌<◌, ◌+◌, ◌%◌, ℕ, suc, sym, ap, ◌∙◌, arith}
use Rattle.std.proofs.lemmas.Nat.{mod_below}
use Rattle.cg_datapath.specs.Course.{Course}
use Rattle.cg_datapath.proofs.Slots.{next_within, next_round}
use Rattle.cg_datapath.proofs.course.Course.next_slot.Goals as goal

pub returns-then-self-clause-slot : goal.returns-then-self-clause-slot
returns-then-self-clause-slot g c =
    let v = c.self.inside in
    let inv = c.self.invariant in
    let ii = (g.C.Contexts.config v.contexts.now).ii in
    let e : suc v.done ≡ v.done + 1 = omega arith in
    let slot_is = inv.moment_is.slot in
    let ii_is = inv.ii_is in
    let last : suc (v.done % ii) ≡ ii = omega arith in
    sym (next_round v.done ii inv.canonical.interval last).0 ∙ ap (λ (z : ℕ). z % ii) e ∙ ap (λ (k : Course). (k.done + 1) % k.config.ii) c.self.view_is

pub returns-else-self-clause-slot : goal.returns-else-self-clause-slot
returns-else-self-clause-slot g c =
    let v = c.self.inside in
    let inv = c.self.invariant in
    let ii = (g.C.Contexts.config v.contexts.now).ii in
    let e : suc v.done ≡ v.done + 1 = omega arith in
    let slot_is = inv.moment_is.slot in
    let ii_is = inv.ii_is in
    let below : v.done % ii < ii = omega (arith, mod_below v.done ii inv.canonical.interval) in
    let more : suc (v.done % ii) < ii = omega arith in
    let here : v.moment.slot + 1 ≡ suc (v.done % ii) = omega arith in
    here ∙ sym (next_within v.done ii inv.canonical.interval more).0 ∙ ap (λ (z : ℕ). z % ii) e ∙ ap (λ (k : Course). (k.done + 1) % k.config.ii) c.self.view_is
