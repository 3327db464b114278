use Rattle.std.proofs.Common.{◌≡◌, ℕ, length, arith, subst, take, get_or, List, ap, ◌∙◌}
use Rattle.std.proofs.Math.Seq.{take-length}
use Rattle.cg_turns.specs.declared.pair.Access.{Access}
use Rattle.cg_turns.specs.Trace.{IsLatest, IsLooked, no_access}
use Rattle.cg_turns.proofs.Pairs.{latest_load}
use Rattle.cg_turns.proofs.pair.latest_unordered.Goals as goal

pub loop-place-preserved : goal.loop-place-preserved
loop-place-preserved c =
    latest_load c.args.table.now c.args.later c.args.store c.args.loads.now c.loop-place.place c.loop-place-test.true c.loop-place.latest c.looked_at-latest.result
    (subst (λ (m : ℕ). IsLooked c.args.table.now m c.args.later (get_or c.args.loads.now c.loop-place.place no_access) c.loop-place.latest c.looked_at-latest.result) c.requires.size c.looked_at-latest.ensures)
    c.loop-place.invariant

pub returns : goal.returns
returns c =
    let e : c.loop-place.place ≡ length c.args.loads.now = omega arith in
    subst (λ (z : List Access). IsLatest c.args.table.now c.args.later c.args.store z c.loop-place.latest) (ap (λ z. take z c.args.loads.now) e ∙ take-length c.args.loads.now) c.loop-place.invariant
