use Rattle.std.proofs.Common.{◌≡◌, ℕ, ◌+◌, ◌*◌, ◌<◌, List, [], length, set, ap, sym, ◌∙◌, subst, arith}
use Rattle.std.specs.Prelude.{slice_index}
use Rattle.cg_model.specs.Kernel.{size}
use Rattle.cg_bound_registers.specs.Pressure.{registers}
use Rattle.cg_bound_registers.specs.Sums.{table}
use Rattle.cg_bound_flow.specs.Network.{link}
use Rattle.cg_bound_flow.specs.Push.{IsPushed, gather}
use Rattle.cg_bound_flow.specs.Route.{IsCirculation}
use Rattle.cg_bound_flow.proofs.Logs.{read}
use Rattle.cg_bound_flow.proofs.Certificates.{short}
use Rattle.cg_bound_flow.proofs.Values.{stay_small, certifies}
use Rattle.cg_bound_flow.proofs.Finished.{within, circulation, blocked_excess}
use Rattle.cg_bound_flow.proofs.find.recurrence.Goals as goal

pub certificate-requires-clause-ones : goal.certificate-requires-clause-ones
certificate-requires-clause-ones c =
    let A = c.args.instance.arch.now in
    let K = c.args.instance.kernel.now in
    let hops = table c.args.instance.hops.now in
    let good = c.nodes-nodes.ensures.valid in
    let links = c.args.priced.links.now in
    let m = c.args.blocked.now.link in
    let by = c.args.instance.ii * c.count_registers.result + 1 in
    let flow = c.args.flow.now.items in
    let flow1 = c.push.new.flow.items in
    let (inside, each, reached, goal, long) = c.requires.blocked in
    let pushed : IsPushed links c.args.priced.potentials.now flow (link links m).to (link links m).from by flow1 = subst (λ z. IsPushed links c.args.priced.potentials.now flow z (link links m).from by flow1) reached.first c.push.ensures in
    let l = within A K hops c.args.instance.ii good links c.requires.network flow c.args.priced.potentials.now m by flow1 c.requires.idle c.requires.flows inside c.requires.graph pushed in
    let q : c.deref.result.now ≡ set flow1 m (slice_index flow1 m + by) = c.deref.ensures.value ∙ ap (λ z. set flow1 m (z + by)) (read flow1 m c.index_mut.result.now 0 l c.index_mut.ensures.value) in
    let circ : IsCirculation (size K) links c.deref.result.now [] = subst (λ (z : List ℕ). IsCirculation (size K) links z []) (sym q)
    (circulation A K hops c.args.instance.ii good links c.requires.network flow c.args.priced.potentials.now m by flow1 c.requires.idle c.requires.flows inside c.requires.graph pushed) in
    λ k v p e. stay_small A K hops c.args.instance.ii good links c.deref.result.now [] c.requires.network.right circ k v p e

pub returns : goal.returns
returns c =
    let A = c.args.instance.arch.now in
    let K = c.args.instance.kernel.now in
    let hops = table c.args.instance.hops.now in
    let good = c.nodes-nodes.ensures.valid in
    let links = c.args.priced.links.now in
    let m = c.args.blocked.now.link in
    let by = c.args.instance.ii * c.count_registers.result + 1 in
    let flow = c.args.flow.now.items in
    let flow1 = c.push.new.flow.items in
    let (inside, each, reached, goal, long) = c.requires.blocked in
    let pushed : IsPushed links c.args.priced.potentials.now flow (link links m).to (link links m).from by flow1 = subst (λ z. IsPushed links c.args.priced.potentials.now flow z (link links m).from by flow1) reached.first c.push.ensures in
    let l = within A K hops c.args.instance.ii good links c.requires.network flow c.args.priced.potentials.now m by flow1 c.requires.idle c.requires.flows inside c.requires.graph pushed in
    let q : c.deref.result.now ≡ set flow1 m (slice_index flow1 m + by) = c.deref.ensures.value ∙ ap (λ z. set flow1 m (z + by)) (read flow1 m c.index_mut.result.now 0 l c.index_mut.ensures.value) in
    let circ : IsCirculation (size K) links c.deref.result.now [] = subst (λ (z : List ℕ). IsCirculation (size K) links z []) (sym q)
    (circulation A K hops c.args.instance.ii good links c.requires.network flow c.args.priced.potentials.now m by flow1 c.requires.idle c.requires.flows inside c.requires.graph pushed) in
    let much : c.args.instance.ii * registers A < by = let d = ap (λ z. c.args.instance.ii * z) c.count_registers.ensures.value in omega arith in
    let more = subst (λ (z : List ℕ). c.args.instance.ii * registers A + gather links z (λ l. l.loss) < gather links z (λ l. l.gain)) (sym q)
    (blocked_excess A K hops c.args.instance.ii good links c.requires.network flow c.args.priced.potentials.now m by flow1 c.requires.idle c.requires.flows inside c.requires.graph pushed much long) in (
      certifies A K hops c.args.instance.ii good links c.deref.result.now [] c.requires.network.right circ c.in_ok-found.found c.in_ok-found.ensures.taken more,
      short (length c.args.priced.links.now) c.in_ok-found.found c.requires.graph.short c.in_ok-found.ensures.few,
    )
