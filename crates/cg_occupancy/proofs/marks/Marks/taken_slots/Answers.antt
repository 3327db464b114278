use Rattle.std.proofs.Common.{◌≡◌, ◌∙◌, sym, ap, subst, true, false, length, arith}
use Rattle.cg_model.specs.Array.{IsArch}
use Rattle.cg_list_laws.specs.Below.{sum_below}
use Rattle.cg_list_laws.proofs.Below.{sum_below-none}
use Rattle.cg_occupancy.proofs.Counted.{added, passed_by, taken_by, taken_counted, all_taken}
use Rattle.cg_occupancy.proofs.marks.Marks.taken_slots.Goals as goal
use Rattle.cg_occupancy.proofs.marks.Marks.taken_slots.Goals.{then-is_of, else-is_of}

pub loop-resource-init : goal.loop-resource-init
loop-resource-init c = (sym (sum_below-none (taken_by c.args.self.now c.args.kind)), omega arith)

pub loop-resource-preserved : goal.loop-resource-preserved
loop-resource-preserved c =
    let m = c.args.self.now in
    let k = c.args.kind in
    let f = taken_by m k in
    let r = c.loop-resource.resource in
    let is = c.is_of.ensures in
    let valid : IsArch m.arch = subst IsArch c.arch.ensures.arch c.resources-resource-end.ensures.valid in
    let most = valid.small.contexts.1 in
    let slots = c.arch.ensures.legal.contexts in
    let least = c.loop-resource.invariant.1 in
    elim c.if-is_of.branch [
      | then-is_of w ↦
          (let few = w.stays_of-count.ensures.few in
          (added f r c.loop-resource.count w.stays_of-count.result _ c.loop-resource.invariant.0 (w.stays_of-count.ensures.value ∙ taken_counted m k r true (sym w.if-is_of.true ∙ is)) w.count-is, omega (arith, least, few, slots, most)))
      | else-is_of w ↦ (passed_by f r c.loop-resource.count _ c.loop-resource.invariant.0 (taken_counted m k r false (sym w.if-is_of.false ∙ is)) w.count-is, omega (arith, least))
    ]

pub returns : goal.returns
returns c =
    let m = c.args.self.now in
    let f = taken_by m c.args.kind in
    let resources = ap length (c.resources-resource-end.ensures.resources ∙ ap (λ z. z.resources) c.arch.ensures.arch) in
    let last : c.loop-resource.resource ≡ length m.arch.resources = omega (arith, resources) in
    c.loop-resource.invariant.0 ∙ ap (sum_below f) last ∙ all_taken m c.args.kind
