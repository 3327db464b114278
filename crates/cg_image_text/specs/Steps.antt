-- The state after a step of reading, and the destination of words.
use Rattle.std.specs.Prelude.{ℕ, Option, Some, None, Result, Ok, Err}
use Rattle.cg_image_text.specs.declared.sections.Section.{Section}
use Rattle.cg_image_text.specs.declared.sections.Section.TheVariants.{Memory, Stream}

-- the state after a step that gives no value
abbrev pub state_after : {V S F : Type 0} → Result V F → S → Result S F
state_after (Ok v) s = Ok s
state_after (Err e) s = Err e

-- the port of the stream that receives words, and otherwise 0
abbrev pub section_port : Option Section → ℕ
section_port (Some (Stream port)) = port
section_port (Some Memory) = 0
section_port None = 0
