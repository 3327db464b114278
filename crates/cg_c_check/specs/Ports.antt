-- The ports of streams.
use Rattle.std.specs.Prelude.{ℕ, nat_lt, Bool, not, ◌&&◌, ◌==◌, List, Ok}
use Rattle.std.specs.List.{list_any}
use Rattle.cg_c_syntax.specs.Tree.{Expr}
use Rattle.cg_c_check.specs.declared.fault.CheckFault.TheVariants.{BadPort}
use Rattle.cg_c_check.specs.Faults.{Checked, ◌>>=◌, ◌>>◌, demand}
use Rattle.cg_c_check.specs.Names.{Names}
use Rattle.cg_c_check.specs.Constants.{constant_of, place_of}

-- the number of ports of each kind
abbrev pub ports : ℕ
ports = 16

-- F12: a port is below 16, and none of those that are taken
abbrev pub is_free_port : List ℕ → ℕ → Bool
is_free_port taken port = nat_lt port ports && not (list_any (λ other. other == port) taken)

-- the port that an expression is
unfoldable pub port_of : List ℕ → Names → Expr → Checked ℕ
port_of taken names e = do
  port ← constant_of names e
  demand (is_free_port taken port.word) (BadPort (place_of e))
  Ok port.word
