-- `show ARCH KERNEL MAPPING [OUT]`.
use Rattle.std.specs.Prelude.{◌≡◌, List, [], ◌∷◌, Option, Some, None}
use Rattle.cg_model.specs.Mapping.{IsLegal}
use Rattle.cg_effects.specs.declared.outcome.Status.TheVariants.{Done, No}
use Rattle.cg_files.specs.Held.{Held, Holds, Appends}
use Rattle.cg_effects.specs.Outcome.{Name, Bytes, File, Outcome}
use Rattle.cg_effects.specs.Ends.{Moment}
use Rattle.cg_effects.specs.Refusals.{reports}
use Rattle.cg_check.specs.Legal.{Mapped}
use Rattle.cg_check.specs.declared.rule.Violation.{Violation}
use Rattle.cg_check.specs.Rules.{violation}
use Rattle.cg_inputs.specs.Answered.{ReadThen}
use Rattle.cg_inputs.specs.Sources.{AreMapped, HoldMapped}
use Rattle.cg_command_judge.specs.Check.{illegal_report}
use Rattle.cg_occupancy.specs.Marks.{AreExact}
use Rattle.cg_show_table.specs.declared.margin.Margin.{Margin}
use Rattle.cg_show_table.specs.Margin.{IsMargin}
use Rattle.cg_show_table.specs.Table.{table_lines, text_of}
use Rattle.cg_show.specs.Picture.{picture_text}

-- the lines of the report as a text, and the picture
abbrev pub show_report : Mapped → Margin → Bytes
show_report m margin = text_of (table_lines m margin)

abbrev pub show_picture : Mapped → Margin → Bytes
show_picture m margin = picture_text m (table_lines m margin)

-- the picture is written where a file is named for it
abbrev pub show_writes : Mapped → Margin → List Name → List File
show_writes m margin (out ∷ []) = record { name = out; bytes = show_picture m margin } ∷ []
show_writes m margin _ = []

-- where several recurrences or classes are valid, which one is shown is left open
pub record IsShown (outs : List Name) (m : Mapped) (o : Outcome) : Type 0 where
  pub margin : Margin
  pub is_margin : IsMargin m.arch m.kernel margin
  pub outcome : o ≡ record { status = Done; report = show_report m margin; writes = show_writes m margin outs }

-- given the violation, if there is one
abbrev pub IsShownBy : List Name → Mapped → Option Violation → Outcome → Type 0
IsShownBy outs m None o = IsShown outs m o
IsShownBy outs m (Some v) o = o ≡ reports No (illegal_report m.arch m.kernel v)

abbrev pub IsShowing : List Name → Mapped → Outcome → Type 0
IsShowing outs m o = IsShownBy outs m (violation m.arch m.kernel m.mapping) o

abbrev pub IsShow : File → File → File → List Name → Outcome → Type 0
IsShow arch kernel mapping outs o = ReadThen (AreMapped arch kernel mapping) (IsShowing outs) o

-- the picture is held under the name, if there is one
abbrev pub HoldPicture : Held → List Name → Bytes → Type 0
HoldPicture held (out ∷ []) bytes = Holds held out bytes
HoldPicture held _ bytes = Unit {0}

-- Done: the mapping that was read is legal; its picture is held under the last name if one was given, and the
-- lines of the report were put. The marks of both are what the mapping begins and carries, and no others
pub record IsShownRun (arch kernel mapping : Name) (outs : List Name) (before after : Moment) : Type 0 where
  pub mapped : Mapped
  pub read : HoldMapped arch kernel mapping before mapped
  pub legal : IsLegal mapped.arch mapped.kernel mapped.mapping
  pub exact : AreExact mapped
  pub margin : Margin
  pub is_margin : IsMargin mapped.arch mapped.kernel margin
  pub written : HoldPicture after.held outs (show_picture mapped margin)
  pub put : Appends before.taken (show_report mapped margin) after.taken
