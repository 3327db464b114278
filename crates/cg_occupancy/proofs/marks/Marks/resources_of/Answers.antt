use Rattle.std.proofs.Common.{◌≡◌, ◌∙◌, sym, ap, true, false, length, arith}
use Rattle.cg_list_laws.specs.Below.{sum_below}
use Rattle.cg_list_laws.proofs.Below.{sum_below-none}
use Rattle.cg_occupancy.proofs.Counted.{added, passed_by, of_kind, kind_counted, all_of_kind}
use Rattle.cg_occupancy.proofs.marks.Marks.resources_of.Goals as goal
use Rattle.cg_occupancy.proofs.marks.Marks.resources_of.Goals.{then-is_of, else-is_of}

pub loop-resource-init : goal.loop-resource-init
loop-resource-init c = (sym (sum_below-none (of_kind c.args.self.now c.args.kind)), omega arith)

pub loop-resource-preserved : goal.loop-resource-preserved
loop-resource-preserved c =
    let m = c.args.self.now in
    let k = c.args.kind in
    let f = of_kind m k in
    let r = c.loop-resource.resource in
    let is = c.is_of.ensures in
    let least = c.loop-resource.invariant.1 in
    elim c.if-is_of.branch [
      | then-is_of w ↦ (added f r c.loop-resource.count 1 _ c.loop-resource.invariant.0 (kind_counted m k r true (sym w.if-is_of.true ∙ is)) w.count-is, omega (arith, least))
      | else-is_of w ↦ (passed_by f r c.loop-resource.count _ c.loop-resource.invariant.0 (kind_counted m k r false (sym w.if-is_of.false ∙ is)) w.count-is, omega (arith, least))
    ]

pub returns : goal.returns
returns c =
    let m = c.args.self.now in
    let f = of_kind m c.args.kind in
    let resources = ap length (c.resources-resource-end.ensures.resources ∙ ap (λ z. z.resources) c.arch.ensures.arch) in
    let last : c.loop-resource.resource ≡ length m.arch.resources = omega (arith, resources) in
    c.loop-resource.invariant.0 ∙ ap (sum_below f) last ∙ all_of_kind m c.args.kind
