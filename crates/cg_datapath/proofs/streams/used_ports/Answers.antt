use Rattle.std.proofs.Common.{◌≡◌, ◌+◌, length, sym, ap, subst}
use Rattle.cg_datapath.specs.Reserved.{AreMarked}
use Rattle.cg_datapath.proofs.Marked.{marks_next}
use Rattle.cg_datapath.proofs.streams.used_ports.Goals as goal

pub loop-slot-preserved : goal.loop-slot-preserved
loop-slot-preserved g c =
    let C = g.C.Contexts.config c.args.contexts.now in
    let same : length c.units-units.result.now ≡ length c.args.arch.now.units = ap length c.units-units.ensures.units in
    subst (λ n. AreMarked C n (c.loop-slot.slot + 1) c.mark_used.new.used) same
    (marks_next C (length c.units-units.result.now) c.loop-slot.slot c.loop-slot.used c.mark_used.new.used c.mark_used.ensures.kept c.mark_used.ensures.marked c.mark_used.ensures.only
    (subst (λ n. AreMarked C n c.loop-slot.slot c.loop-slot.used) (sym same) c.loop-slot.invariant))
