-- The texts of faults in reports.
use Rattle.std.specs.Prelude.{ℕ, List, [], ◌++◌, codes, decimal}
use Rattle.cg_image_text.specs.declared.fault.TextFault.{TextFault}
use Rattle.cg_image_text.specs.declared.fault.TextFault.TheVariants as fault
use Rattle.cg_image_text.specs.declared.place.Place.{Place}

-- the code and the name, and then the place
abbrev pub with_place : List ℕ → Place → List ℕ
with_place name place = name ++ (codes " line " ++ (decimal place.line ++ (codes " column " ++ decimal place.column)))

-- the code, the name and the place
abbrev pub text_fault_text : TextFault → List ℕ
text_fault_text fault.Memory = []
text_fault_text (fault.UnknownWord place) = with_place (codes "T1 UnknownWord") place
text_fault_text (fault.NoSection place) = with_place (codes "T2 NoSection") place
text_fault_text (fault.BadPort place) = with_place (codes "T3 BadPort") place
text_fault_text (fault.TooLarge place) = with_place (codes "T4 TooLarge") place
