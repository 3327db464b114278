use Rattle.std.proofs.Common.{◌≡◌, ◌∙◌, refl, sym, ap, subst, length, arith}
use Rattle.cg_model.specs.Array.{IsArch}
use Rattle.cg_list_laws.specs.Below.{sum_below}
use Rattle.cg_occupancy.specs.Counts.{starts_of}
use Rattle.cg_list_laws.proofs.Below.{sum_below-none}
use Rattle.cg_occupancy.proofs.Counted.{added, all_slots}
use Rattle.cg_occupancy.proofs.marks.Marks.busy_slots.Goals as goal

pub loop-unit-init : goal.loop-unit-init
loop-unit-init c = (sym (sum_below-none (starts_of c.args.self.now)), omega arith)

pub loop-unit-preserved : goal.loop-unit-preserved
loop-unit-preserved c =
    let m = c.args.self.now in
    let x = c.loop-unit.unit in
    let valid : IsArch m.arch = subst IsArch c.arch.ensures.arch c.units-unit-end.ensures.valid in
    let most = valid.small.contexts.1 in
    let slots = c.arch.ensures.legal.contexts in
    let few = c.starts_of-count.ensures.few in
    let least = c.loop-unit.invariant.1 in
    (added (starts_of m) x c.loop-unit.count c.starts_of-count.result _ c.loop-unit.invariant.0 c.starts_of-count.ensures.value refl, omega (arith, least, few, slots, most))

pub returns : goal.returns
returns c =
    let m = c.args.self.now in
    let units = ap length (c.units-unit-end.ensures.units ∙ ap (λ z. z.units) c.arch.ensures.arch) in
    let last : c.loop-unit.unit ≡ length m.arch.units = omega (arith, units) in
    c.loop-unit.invariant.0 ∙ ap (sum_below (starts_of m)) last ∙ all_slots m
