-- `image TEXT OUT`.
use Rattle.std.specs.Prelude.{◌≡◌, ℕ, List, [], ◌∷◌, ◌++◌, length, slice_index_or, Result, Ok, Err, codes, decimal}
use Rattle.cg_list_laws.specs.Below.{lists_below}
use Rattle.cg_model.specs.Limits.{port_count}
use Rattle.cg_model.specs.Work.{Image}
use Rattle.cg_files.specs.Held.{Holds, Appends}
use Rattle.cg_effects.specs.declared.outcome.Status.TheVariants.{Done}
use Rattle.cg_effects.specs.Outcome.{Name, Bytes, File, Outcome, line_of}
use Rattle.cg_effects.specs.Ends.{Moment}
use Rattle.cg_effects.specs.Refusals.{malformed_of, writes_one}
use Rattle.cg_pad.specs.Bytes as images
use Rattle.cg_image_text.specs.declared.fault.TextFault.{TextFault}
use Rattle.cg_image_text.specs.Sections as texts
use Rattle.cg_image_text.specs.Texts.{text_fault_text}

-- the number of words of the stream of a port, if it isn't empty
abbrev pub count_line : ℕ → List ℕ → Bytes
count_line port [] = []
count_line port (word ∷ words) = line_of (codes "stream " ∷ decimal port ∷ codes " " ∷ decimal (length (word ∷ words)) ∷ [])

abbrev pub stream_line : Image → ℕ → Bytes
stream_line image port = count_line port (slice_index_or image.streams port [])

-- the report: the number of words of the memory, and of each stream that isn't empty
abbrev pub image_report : Image → Bytes
image_report image = line_of (codes "memory " ∷ decimal (length image.memory) ∷ []) ++ lists_below (stream_line image) port_count

-- Done: the image is written under the name `out`
abbrev pub image_written : Image → Name → Outcome
image_written image out = writes_one Done (image_report image) out (images.image_bytes image)

-- given the result of parsing the text: an image, or a fault
abbrev pub image_by : File → Name → Result Image TextFault → Outcome
image_by file out (Ok image) = image_written image out
image_by file out (Err fault) = malformed_of file.name (text_fault_text fault)

-- what the command defines for the file
abbrev pub image_of : File → Name → Outcome
image_of file out = image_by file out (texts.answer_of file.bytes)

-- the bytes are a text that describes an image
abbrev pub IsImageText : File → Type 0
IsImageText file = (image : Image) × (texts.answer_of file.bytes ≡ Ok image)

-- Done: a text was read, and the image that it describes is held under the other name, as bytes from which the image is
-- read back. The numbers of its words were reported
pub record IsImaged (file out : Name) (before after : Moment) : Type 0 where
  pub bytes : Bytes
  pub held : Holds before.held file bytes
  pub image : Image
  pub spelled : texts.answer_of bytes ≡ Ok image
  pub read_back : images.answer_of (images.image_bytes image) ≡ Ok image
  pub written : Holds after.held out (images.image_bytes image)
  pub put : Appends before.taken (image_report image) after.taken
