use Rattle.std.proofs.Common.{◌≡◌, ◌≤◌, length}
use Rattle.cg_list_laws.specs.Below.{lists_below}
use Rattle.cg_show.specs.Panels.{panel_text}
use Rattle.cg_show.proofs.panels.panels.Given as goal

abbrev pub invariant-loop-slot : goal.invariant-loop-slot
invariant-loop-slot l = (l.text.items ≡ lists_below (panel_text l.marks) l.slot) × (length l.text.items ≤ l.room)
