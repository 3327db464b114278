-- The texts of image faults in reports.
use Rattle.std.specs.Prelude.{ℕ, List, [], ◌++◌, codes, decimal}
use Rattle.cg_pad.specs.declared.fault.ImageFault.{ImageFault}
use Rattle.cg_pad.specs.declared.fault.ImageFault.TheVariants as image
use Rattle.cg_pad.specs.declared.fault.TooLargePlace.TheVariants as place

-- the code, the name and the place
abbrev pub image_fault_text : ImageFault → List ℕ
image_fault_text image.Memory = []
image_fault_text image.Magic = codes "I1 Magic byte 0"
image_fault_text (image.Truncated n) = codes "I2 Truncated length " ++ decimal n
image_fault_text (image.TooLarge (place.Memory n)) = codes "I3 TooLarge memory " ++ decimal n
image_fault_text (image.TooLarge (place.Stream port n)) = codes "I3 TooLarge stream " ++ (decimal port ++ (codes " " ++ decimal n))
image_fault_text (image.Trailing n) = codes "I4 Trailing byte " ++ decimal n
