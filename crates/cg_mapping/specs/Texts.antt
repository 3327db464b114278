-- The texts of mapping faults in reports.
use Rattle.std.specs.Prelude.{ℕ, List, [], ◌++◌, codes, decimal}
use Rattle.cg_mapping.specs.declared.fault.MappingPlace.{MappingPlace}
use Rattle.cg_mapping.specs.declared.fault.MappingPlace.TheVariants as at
use Rattle.cg_mapping.specs.declared.fault.Gap.{Gap}
use Rattle.cg_mapping.specs.declared.fault.Gap.TheVariants as gap
use Rattle.cg_mapping.specs.declared.fault.MappingFault.{MappingFault}
use Rattle.cg_mapping.specs.declared.fault.MappingFault.TheVariants as fault

-- a code and a name, and the place of the fault: the file, or the number of a place or route
abbrev pub place_text : List ℕ → MappingPlace → List ℕ
place_text code at.File = code ++ codes " file"
place_text code (at.Place p) = code ++ (codes " places " ++ decimal p)
place_text code (at.Route r) = code ++ (codes " routes " ++ decimal r)

-- the node without exactly one place, or the operand without exactly one route
abbrev pub gap_text : Gap → List ℕ
gap_text (gap.Node name) = codes "P6 Incomplete node " ++ name
gap_text (gap.Arg name p) = codes "P6 Incomplete arg " ++ (name ++ (codes " " ++ decimal p))

-- the code, the name and the place
abbrev pub mapping_fault_text : MappingFault → List ℕ
mapping_fault_text fault.Memory = []
mapping_fault_text fault.NotJson = codes "P1 NotJson file"
mapping_fault_text (fault.WrongShape p) = place_text (codes "P2 WrongShape") p
mapping_fault_text (fault.UnknownKey p) = place_text (codes "P3 UnknownKey") p
mapping_fault_text (fault.UnknownName p) = place_text (codes "P4 UnknownName") p
mapping_fault_text (fault.TooLarge p) = place_text (codes "P5 TooLarge") p
mapping_fault_text (fault.Incomplete g) = gap_text g
