use Rattle.cg_c_values.proofs.values.Values.+select_within.Given as goal

-- the identities that are left
abbrev pub decreases-select_within : goal.decreases-select_within
decreases-select_within l = l.depth
