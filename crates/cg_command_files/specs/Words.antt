-- `words IMAGE`.
use Rattle.std.specs.Prelude.{◌≡◌, Result, Ok, Err}
use Rattle.cg_model.specs.Work.{Image}
use Rattle.cg_files.specs.Held.{Holds, Appends}
use Rattle.cg_effects.specs.declared.outcome.Status.TheVariants.{Done}
use Rattle.cg_effects.specs.Outcome.{Name, Bytes, File, Outcome}
use Rattle.cg_effects.specs.Ends.{Moment}
use Rattle.cg_effects.specs.Refusals.{malformed_of, reports}
use Rattle.cg_pad.specs.declared.fault.ImageFault.{ImageFault}
use Rattle.cg_pad.specs.Bytes as images
use Rattle.cg_pad.specs.Texts.{image_fault_text}
use Rattle.cg_image_text.specs.Sections as texts
use Rattle.cg_image_text.specs.Printed.{text_of}

-- given the result of parsing the bytes: an image, whose text is the report, or a fault
abbrev pub words_by : File → Result Image ImageFault → Outcome
words_by file (Ok image) = reports Done (text_of image)
words_by file (Err fault) = malformed_of file.name (image_fault_text fault)

-- what the command defines for the file
abbrev pub words_of : File → Outcome
words_of file = words_by file (images.answer_of file.bytes)

-- the bytes are an image
abbrev pub IsImageFile : File → Type 0
IsImageFile file = (image : Image) × (images.answer_of file.bytes ≡ Ok image)

-- Done: an image was read, and the text that describes it was reported
pub record IsWorded (file : Name) (before after : Moment) : Type 0 where
  pub bytes : Bytes
  pub held : Holds before.held file bytes
  pub image : Image
  pub spelled : images.answer_of bytes ≡ Ok image
  pub read_back : texts.answer_of (text_of image) ≡ Ok image
  pub put : Appends before.taken (text_of image) after.taken
