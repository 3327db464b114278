-- Numbers of names that are below their count.
use Rattle.std.specs.Prelude.{ℕ, List, true, ◌≡◌, nat_lt}
use Rattle.std.specs.List.{list_all}
use Rattle.cg_loop_reader.specs.declared.numbering.NumberedUse.{NumberedUse}

abbrev pub AreBelow : ℕ → List NumberedUse → Type 0
AreBelow names uses = list_all (λ u. nat_lt u.name names) uses ≡ true
