-- The meaning of the fields of a text, one after another: the section that receives words, and the words.
use Rattle.std.specs.Prelude.{ℕ, ◌+◌, List, [], ◌∷◌, ◌++◌, length, replicate, slice_index_or, slice_set, nat_lt, bytes_eq, codes, Option, Some, None, Result, Ok, Err, if◌then◌else◌}
use Rattle.cg_model.specs.Limits.{most_memory, most_stream, port_count}
use Rattle.cg_model.specs.Work.{Image}
use Rattle.cg_image_text.specs.declared.fault.Misread.{Misread}
use Rattle.cg_image_text.specs.declared.fault.Misread.TheVariants.{Unknown, Large}
use Rattle.cg_image_text.specs.declared.fault.TextFault.{TextFault}
use Rattle.cg_image_text.specs.declared.fault.TextFault.TheVariants.{UnknownWord, NoSection, BadPort, TooLarge}
use Rattle.cg_image_text.specs.declared.place.Place.{Place}
use Rattle.cg_image_text.specs.declared.run.Run.{Run}
use Rattle.cg_image_text.specs.declared.sections.Section.{Section}
use Rattle.cg_image_text.specs.declared.sections.Section.TheVariants.{Memory, Stream}
use Rattle.cg_image_text.specs.Fields.{Field, fields_of}
use Rattle.cg_image_text.specs.Numbers.{and_then, numeral}
use Rattle.cg_image_text.specs.Places.{place_behind}
use Rattle.cg_image_text.specs.Runs.{run_words, run_of}

-- the state of reading: the image so far, the section that receives words, and the position of a word `stream` whose
-- port comes next
pub record Reading : Type 0 where
  pub image : Image
  pub section : Option Section
  pub open_stream : Option ℕ

-- the state before the first field: no words, and sixteen streams
abbrev pub begun : Reading
begun = record { image = record { memory = []; streams = replicate port_count [] }; section = None; open_stream = None }

-- ---- words

-- the words of a section
abbrev pub section_words : Image → Section → List ℕ
section_words image Memory = image.memory
section_words image (Stream port) = slice_index_or image.streams port []

-- the greatest number of words of a section
abbrev pub most_words : Section → ℕ
most_words Memory = most_memory
most_words (Stream port) = most_stream

-- the image with the section's words replaced by these
abbrev pub with_words : Image → Section → List ℕ → Image
with_words image Memory words = record image { memory = words }
with_words image (Stream port) words = record image { streams = slice_set image.streams port words }

-- the words followed by a run, up to `most` of them
abbrev pub added : ℕ → List ℕ → Place → Run → Result (List ℕ) TextFault
added most words place run = if nat_lt most (length words + run.count) then Err (TooLarge place) else Ok (words ++ run_words run)

-- a run appended to the section
abbrev pub add_to : Reading → Section → Place → Run → Result Reading TextFault
add_to r section place run =
    and_then (added (most_words section) (section_words r.image section) place run)
    (λ words. Ok (record r { image = with_words r.image section words }))

-- a run appended where a section has begun
abbrev pub add_run : Reading → Option Section → Place → Run → Result Reading TextFault
add_run r None place run = Err (NoSection place)
add_run r (Some section) place run = add_to r section place run

-- the words of a field appended, if the field denotes words
abbrev pub add_words : Reading → Place → Result Run Misread → Result Reading TextFault
add_words r place (Ok run) = add_run r r.section place run
add_words r place (Err Unknown) = Err (UnknownWord place)
add_words r place (Err Large) = Err (TooLarge place)

-- ---- sections

-- the port of a number from 0 to 15
abbrev pub port_by : Result ℕ Misread → Option ℕ
port_by (Ok n) = if nat_lt n port_count then Some n else None
port_by (Err e) = None

-- the port after the word `stream`, in decimal
abbrev pub port_of : List ℕ → Option ℕ
port_of text = port_by (numeral 10 text)

-- the stream of the port receives the words that follow
abbrev pub to_stream : Reading → Place → Option ℕ → Result Reading TextFault
to_stream r place (Some port) = Ok (record r { section = Some (Stream port); open_stream = None })
to_stream r place None = Err (BadPort place)

-- ---- fields

-- a field that is not a port: the word `memory`, the word `stream`, or words
abbrev pub read_plain : List ℕ → Reading → Field → Result Reading TextFault
read_plain text r f =
    if bytes_eq f.text (codes "memory") then Ok (record r { section = Some Memory })
    else (if bytes_eq f.text (codes "stream") then Ok (record r { open_stream = Some f.place })
    else add_words r (place_behind text f.place) (run_of f.text))

-- a field is a port where one comes next
abbrev pub read_by : List ℕ → Reading → Field → Option ℕ → Result Reading TextFault
read_by text r f (Some stream) = to_stream r (place_behind text f.place) (port_of f.text)
read_by text r f None = read_plain text r f

-- one field of the text
unfoldable pub read_field : List ℕ → Reading → Field → Result Reading TextFault
read_field text r f = read_by text r f r.open_stream

-- fields of the text, up to the first fault
abbrev pub read_fields : List ℕ → Reading → List Field → Result Reading TextFault
read_fields text r [] = Ok r
read_fields text r (f ∷ fields) = and_then (read_field text r f) (λ s. read_fields text s fields)

-- the end of the text, where a port must not be missing
abbrev pub ended : List ℕ → Image → Option ℕ → Result Image TextFault
ended text image (Some stream) = Err (BadPort (place_behind text stream))
ended text image None = Ok image

-- the image that the text describes, or why it describes none
unfoldable pub answer_of : List ℕ → Result Image TextFault
answer_of text = and_then (read_fields text begun (fields_of text)) (λ r. ended text r.image r.open_stream)
