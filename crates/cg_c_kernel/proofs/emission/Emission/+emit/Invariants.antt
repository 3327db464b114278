use Rattle.cg_c_kernel.proofs.emission.Emission.+emit.Given as goal

abbrev pub decreases-emit : goal.decreases-emit
decreases-emit l = l.v
