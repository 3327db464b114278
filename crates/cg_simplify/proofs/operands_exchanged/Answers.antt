use Rattle.cg_simplify.proofs.Exchanged.{copies, constants, edges, exchanges_restate}
use Rattle.cg_simplify.proofs.operands_exchanged.Goals as goal

pub returns : goal.returns
returns c =
    record {
      rewritten = λ K L good wired x. c.restated.ensures K L good wired (exchanges_restate K L x);
      copies = copies;
      constants = constants;
      edges = edges;
    }
