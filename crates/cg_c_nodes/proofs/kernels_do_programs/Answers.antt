use Rattle.cg_c_nodes.proofs.CompiledRun.{came_to_end, leaves}
use Rattle.cg_c_nodes.proofs.kernels_do_programs.Goals as goal

pub returns : goal.returns
returns c = λ p d K accesses image left typed does true_of ordered b holding left_is.
    let e = came_to_end p image left typed left_is in
    leaves p d K accesses image left typed does b holding e.0 e.1 e.2 true_of ordered
