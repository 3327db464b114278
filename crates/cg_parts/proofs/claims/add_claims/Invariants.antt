use Rattle.std.proofs.Common.{◌≡◌, ℕ, List, take, Some, None, bytes_eq, cond}
use Rattle.std.specs.List.{list_any}
use Rattle.std.specs.Option.{option_or}
use Rattle.cg_reading.specs.Numbers.{found_in}
use Rattle.cg_parts.proofs.claims.add_claims.Given as goal

abbrev pub invariant-loop-name : goal.invariant-loop-name
invariant-loop-name l = (other : List ℕ) → found_in l.numbers other ≡ option_or (found_in l.fn.numbers other) (cond (list_any (λ claim. bytes_eq claim other) (take l.name-index l.names)) (Some l.number) None)
