-- The mapping that bytes describe, or why they describe none.
use Rattle.std.specs.Prelude.{ℕ, List, Option, Some, None, Result, Ok, Err}
use Rattle.serde_json.specs.Data.{Data}
use Rattle.cg_model.specs.Array.{Arch}
use Rattle.cg_model.specs.Kernel.{Kernel}
use Rattle.cg_model.specs.Mapping.{Mapping}
use Rattle.cg_json.specs.Bytes.{value_of}
use Rattle.cg_mapping.specs.Written.{MappingPlace, WrittenMapping, written_of}
use Rattle.cg_mapping.specs.Rules.{NamedMapping, unknown_key, too_large}
use Rattle.cg_mapping.specs.Names.{named_of}
use Rattle.cg_mapping.specs.Complete.{MappingFault, mapping_of}
use Rattle.cg_mapping.specs.declared.fault.MappingFault.TheVariants as fault

-- P6, checked after P5
abbrev pub answer_within : Kernel → NamedMapping → Option MappingPlace → Result Mapping MappingFault
answer_within K m (Some p) = Err (fault.TooLarge p)
answer_within K m None = mapping_of K m

-- P5, checked after P4
abbrev pub answer_named : Kernel → Result NamedMapping MappingPlace → Result Mapping MappingFault
answer_named K (Err p) = Err (fault.UnknownName p)
answer_named K (Ok m) = answer_within K m (too_large m)

-- P4, checked after P3
abbrev pub answer_known : Arch → Kernel → WrittenMapping → Option MappingPlace → Result Mapping MappingFault
answer_known A K w (Some p) = Err (fault.UnknownKey p)
answer_known A K w None = answer_named K (named_of A K w)

-- P3, checked after P2
abbrev pub answer_written : Arch → Kernel → Result WrittenMapping MappingPlace → Result Mapping MappingFault
answer_written A K (Err p) = Err (fault.WrongShape p)
answer_written A K (Ok w) = answer_known A K w (unknown_key w)

-- P2, checked after P1
abbrev pub answer_in : Arch → Kernel → Option Data → Result Mapping MappingFault
answer_in A K None = Err fault.NotJson
answer_in A K (Some d) = answer_written A K (written_of d)

-- the mapping of the kernel on the architecture that the bytes describe, its places and routes in order; or the lowest
-- of P1 to P6 that applies, at its first place
unfoldable pub answer_of : Arch → Kernel → List ℕ → Result Mapping MappingFault
answer_of A K bytes = answer_in A K (value_of bytes)
