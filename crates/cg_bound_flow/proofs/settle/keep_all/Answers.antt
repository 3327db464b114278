use Rattle.std.proofs.Common.{◌≡◌, ℕ, ◌+◌, ◌-◌, ◌<◌, ◌≤◌, Vec, Global, Option, None, List, length, sym, subst, arith}
use Rattle.std.specs.Prelude.{slice_index}
use Rattle.cg_bound_flow.specs.declared.reach.Reached.{Reached}
use Rattle.cg_bound_flow.specs.Network.{link}
use Rattle.cg_bound_flow.specs.Lift.{IsLifted}
use Rattle.cg_bound_flow.specs.Route.{IsSettling}
use Rattle.cg_bound_flow.proofs.Logs.{read}
use Rattle.cg_bound_flow.proofs.Routes.{settling_kept, settling_lifted}
use Rattle.cg_bound_flow.proofs.settle.keep_all.Goals as goal
use Rattle.cg_bound_flow.proofs.settle.keep_all.Goals.{then-low-high+in_ok-reached+in_default, else-low-high}

pub loop-k-preserved : goal.loop-k-preserved
loop-k-preserved c =
    let at = c.loop-k.potentials.items in
    let l = link c.args.network.links.now c.loop-k.k in
    let n = c.loop-k.invariant.each in
    let f = c.requires.graph.from c.loop-k.k c.loop-k-test.true in
    let t = c.requires.graph.to c.loop-k.k c.loop-k-test.true in
    let lf : l.from < length at = omega arith in
    let lt : l.to < length at = omega arith in
    let i : c.index.result.now ≡ slice_index at l.from = read at l.from c.index.result.now 0 lf c.index.ensures in
    let j : c.index-in-loop-k.result.now ≡ slice_index at l.to = read at l.to c.index-in-loop-k.result.now 0 lt c.index-in-loop-k.ensures in
    elim c.if-low-high.branch [
      | then-low-high+in_ok-reached+in_default w ↦
          let need = (c.index.result.now + l.gain) - (c.index-in-loop-k.result.now + l.loss) in
          let m = w.if-low-high.true in
          let lifted : IsLifted c.args.network.links.now c.loop-k.k c.args.flow.now at l.to l.from need w.lift.new.potentials.items w.in_ok-reached.field-0 = w.in_ok-reached.ensures in
          let none : IsLifted c.args.network.links.now c.loop-k.k c.args.flow.now at l.to l.from need w.lift.new.potentials.items None =
          subst (λ (o : Option Reached). IsLifted c.args.network.links.now c.loop-k.k c.args.flow.now at l.to l.from need w.lift.new.potentials.items o) w.in_default.is lifted in
          subst (λ (v : Vec ℕ Global). IsSettling c.args.network.links.now c.args.flow.now (length c.args.potentials.now.items) (c.loop-k.k + 1) v.items) (sym w.potentials-is)
          (settling_lifted c.args.network.links.now c.args.flow.now (length c.args.potentials.now.items) c.requires.idle c.loop-k.k need at w.lift.new.potentials.items c.loop-k.invariant (omega arith) (omega arith) none)
      | else-low-high w ↦
          let m = w.if-low-high.false in
          subst (λ (v : Vec ℕ Global). IsSettling c.args.network.links.now c.args.flow.now (length c.args.potentials.now.items) (c.loop-k.k + 1) v.items) (sym w.potentials-is)
          (settling_kept c.args.network.links.now c.args.flow.now (length c.args.potentials.now.items) c.requires.idle c.loop-k.k at c.loop-k.invariant (omega arith))
    ]
