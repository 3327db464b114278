-- Ports to which outputs write.
use Rattle.std.specs.Prelude.{List, Bool, false, ◌||◌, nat_lt, slice_index_or}
use Rattle.cg_model.specs.Limits.{last_port}
use Rattle.cg_loop_syntax.specs.declared.uses.Role.{Role}
use Rattle.cg_loop_syntax.specs.declared.uses.Role.TheVariants as roles

-- a port that doesn't exist, or an output to one that is already written
abbrev pub is_bad : List Bool → Role → Bool
is_bad written (roles.Input p) = nat_lt last_port p
is_bad written (roles.Output p) = nat_lt last_port p || slice_index_or written p false
is_bad written _ = false
