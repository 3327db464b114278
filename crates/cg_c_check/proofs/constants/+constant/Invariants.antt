use Rattle.std.proofs.Common.{◌≡◌, Ok, drop}
use Rattle.cg_c_check.specs.Chains.{constant_chained}
use Rattle.cg_c_check.proofs.constants.+constant.Given as goal

-- what is left to be joined gives the value of the whole
abbrev pub invariant-chain_constant-loop-link : goal.invariant-chain_constant-loop-link
invariant-chain_constant-loop-link l = constant_chained l.names (Ok l.fn.first) l.fn.rest ≡ constant_chained l.names (Ok l.x) (drop l.link-index l.rest)
