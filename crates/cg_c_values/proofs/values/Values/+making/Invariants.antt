use Rattle.std.proofs.Common.{◌+◌, ◌*◌}
use Rattle.cg_c_values.proofs.values.Values.+making.Given as goal

-- the identities that are left; where they are as many, from a plan down to an operation
abbrev pub decreases-two_within : goal.decreases-two_within
decreases-two_within l = 2 * l.depth

abbrev pub decreases-planned : goal.decreases-planned
decreases-planned l = 2 * l.depth + 1
