use Rattle.std.proofs.Common.{◌≡◌, ◌-◌, length}
use Rattle.cg_image_text.specs.Fields.{fields_at, fields_of}
use Rattle.cg_image_text.specs.Sections.{read_fields}
use Rattle.cg_image_text.proofs.sections.Reader.read_fields.Given as goal

-- what was read, and then the fields that are left
abbrev pub invariant-loop-piece : goal.invariant-loop-piece
invariant-loop-piece l = read_fields l.text l.self (fields_at l.text l.at) ≡ read_fields l.text l.fn.self (fields_of l.text)

abbrev pub decreases-loop-piece : goal.decreases-loop-piece
decreases-loop-piece l = length l.text - l.at
