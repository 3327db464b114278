use Rattle.std.proofs.Common.{arith}
use Rattle.cg_recur.proofs.Paths.{comes_again}
use Rattle.cg_recur.proofs.closed.repeat.Goals as goal

pub unreachable-requires : goal.unreachable-requires
unreachable-requires c = comes_again c.args.edges.now c.args.ii c.args.nodes c.args.log.now c.args.path.now c.requires.path.0 c.requires.path.1 (λ i j l m. c.loop-b.invariant i j l (omega arith))
