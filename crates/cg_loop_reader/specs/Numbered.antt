-- Uses with numbers in place of names.
use Rattle.std.specs.Prelude.{List, [], ◌∷◌, map}
use Rattle.cg_loop_syntax.specs.Uses as uses
use Rattle.cg_loop_reader.specs.declared.numbering.NumberedUse.{NumberedUse}
use Rattle.cg_loop_reader.specs.declared.numbering.NumberedUses.{NumberedUses}

-- a use whose name is its number
abbrev pub numbered_use : NumberedUse → uses.Use
numbered_use u = record { role = u.role; name = u.name ∷ []; place = u.place }

abbrev pub all_uses : List NumberedUse → List uses.Use
all_uses = map numbered_use

abbrev pub uses_of : NumberedUses → List uses.Use
uses_of n = all_uses n.uses.items
