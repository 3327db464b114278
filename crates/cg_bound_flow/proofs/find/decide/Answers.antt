use Rattle.std.proofs.Common.{◌≡◌, ℕ, ◌*◌, ◌<◌, ◌≤◌, List, length, ap, ◌∙◌, sym, subst, arith}
use Rattle.std.specs.Prelude.{slice_index}
use Rattle.cg_model.specs.Kernel.{size}
use Rattle.cg_bound_registers.specs.Pressure.{total, registers}
use Rattle.cg_bound_registers.specs.Sums.{table}
use Rattle.cg_bound_registers.specs.Times.{longest}
use Rattle.cg_bound_flow.specs.Finish.{IsSchedule, stay_of}
use Rattle.cg_bound_flow.specs.Taken.{IsTaken}
use Rattle.cg_bound_flow.proofs.Certificates.{short}
use Rattle.cg_bound_flow.proofs.Values.{stay_small, certifies}
use Rattle.cg_bound_flow.proofs.Finished.{loose, excess, stays_sum}
use Rattle.cg_bound_flow.proofs.find.decide.Goals as goal

pub returns-then-all_stays-room : goal.returns-then-all_stays-room
returns-then-all_stays-room c =
    let K = c.args.instance.kernel.now in
    let e : length c.nodes-n.result.now ≡ size K = ap length c.nodes-n.ensures.nodes in
    let s : IsSchedule (size K) c.args.routing.now.potentials.items c.args.routing.now.routed.items c.in_ok-times.times = subst (λ z. IsSchedule z c.args.routing.now.potentials.items c.args.routing.now.routed.items c.in_ok-times.times) e c.in_ok-times.ensures in
    let a = ap (λ z. total z (longest c.in_ok-times.times)) e in
    let b = c.all_stays.ensures.value in
    let d = ap (λ z. c.args.instance.ii * z) c.count_registers.ensures.value in
    let f = c.if-all_stays-room.true in
    loose c.args.instance.arch.now K (table c.args.instance.hops.now) c.args.instance.ii c.nodes-n.ensures.valid c.args.links.now c.requires.network c.args.routing.now.flow.items c.args.routing.now.potentials.items c.args.routing.now.routed.items c.requires.routing.kept c.requires.routing.circulation c.requires.routing.spans c.requires.all c.requires.graph c.in_ok-times.times s (omega arith)

pub certificate-requires-clause-ones : goal.certificate-requires-clause-ones
certificate-requires-clause-ones c =
    λ k v p e. subst (λ (z : List ℕ). slice_index z k ≤ 1) (sym c.deref.ensures.value)
    (stay_small c.args.instance.arch.now c.args.instance.kernel.now (table c.args.instance.hops.now) c.args.instance.ii c.nodes-n.ensures.valid c.args.links.now c.args.routing.now.flow.items c.args.routing.now.routed.items c.requires.network.right c.requires.routing.circulation k v p e)

pub returns : goal.returns
returns c =
    let K = c.args.instance.kernel.now in
    let e : length c.nodes-n.result.now ≡ size K = ap length c.nodes-n.ensures.nodes in
    let s : IsSchedule (size K) c.args.routing.now.potentials.items c.args.routing.now.routed.items c.in_ok-times.times = subst (λ z. IsSchedule z c.args.routing.now.potentials.items c.args.routing.now.routed.items c.in_ok-times.times) e c.in_ok-times.ensures in
    let a = ap (λ z. total z (longest c.in_ok-times.times)) e in
    let b = c.all_stays.ensures.value in
    let d = ap (λ z. c.args.instance.ii * z) c.count_registers.ensures.value in
    let f = c.if-all_stays-room.false in
    let g = stays_sum (size K) c.args.routing.now.potentials.items c.args.routing.now.routed.items c.in_ok-times.times s in
    let taken = subst (λ (z : List ℕ). IsTaken K c.args.links.now z c.in_ok-certificate.field-0) c.deref.ensures.value c.in_ok-certificate.ensures.taken in
    let much : c.args.instance.ii * registers c.args.instance.arch.now < total (size K) (stay_of (size K) c.args.routing.now.potentials.items c.args.routing.now.routed.items) = omega arith in (
      certifies c.args.instance.arch.now K (table c.args.instance.hops.now) c.args.instance.ii c.nodes-n.ensures.valid c.args.links.now c.args.routing.now.flow.items c.args.routing.now.routed.items c.requires.network.right c.requires.routing.circulation c.in_ok-certificate.field-0 taken
          (excess c.args.instance.arch.now K (table c.args.instance.hops.now) c.args.instance.ii c.nodes-n.ensures.valid c.args.links.now c.requires.network c.args.routing.now.flow.items c.args.routing.now.potentials.items c.args.routing.now.routed.items c.requires.routing.kept c.requires.routing.circulation c.requires.routing.spans c.requires.all c.requires.graph much),
      short (length c.args.links.now) c.in_ok-certificate.field-0 c.requires.graph.short c.in_ok-certificate.ensures.few,
    )
