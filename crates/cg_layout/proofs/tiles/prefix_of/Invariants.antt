use Rattle.std.proofs.Common.{◌≡◌}
use Rattle.std.specs.Prelude.{string_bytes, nat_eq}
use Rattle.std.specs.List.{starts_with}
use Rattle.cg_model.specs.First.{first_from}
use Rattle.cg_layout.proofs.Found.{first_after}
use Rattle.cg_layout.proofs.tiles.prefix_of.Given as goal

abbrev pub invariant-loop-number : goal.invariant-loop-number
invariant-loop-number l =
    first_from (λ v prefix. starts_with nat_eq l.name (string_bytes prefix)) 0 l.prefixes ≡ first_after (λ v prefix. starts_with nat_eq l.name (string_bytes prefix)) l.prefixes l.number
