-- When the turns of a kernel do what a program in C does.
use Rattle.std.specs.Prelude.{◌≡◌, List, Contains, Some}
use Rattle.cg_word.specs.Word.{is_store}
use Rattle.cg_model.specs.Kernel.{Kernel, node}
use Rattle.cg_model.specs.Order.{IsUnaliased}
use Rattle.cg_model.specs.Turns.{turns_left}
use Rattle.cg_model.specs.Work.{Image}
use Rattle.cg_c_check.specs.Program.{Program}
use Rattle.cg_c_meaning.specs.Meaning.{Holds, c_left}
use Rattle.cg_c_meaning.specs.Turns.{turns_of}
use Rattle.cg_c_meaning.specs.Typed.{IsTyped}
use Rattle.cg_c_order.specs.declared.access.Access.{Access}
use Rattle.cg_c_order.specs.Accesses.{AreOrdered}
use Rattle.cg_c_turn.specs.Draft.{Draft}
use Rattle.cg_c_turn.specs.Turn.{Turns}
use Rattle.cg_c_nodes.specs.Beside.{RunsBeside}

-- each access says whether its node stores
abbrev pub AreTrue : Kernel → List Access → Type 0
AreTrue K accesses = (a : Access) → Contains accesses a → a.stores ≡ is_store (node K a.node).op

-- as many turns of the kernel as the program has leave what a call of the program leaves, with no access outside the
-- memory, and all accesses that matter are ordered
pub record DoesProgram (p : Program) (K : Kernel) (image left : Image) : Type 0 where
  pub leaves : (turns_left K (turns_of p.levels) image).image ≡ left
  pub outside : (turns_left K (turns_of p.levels) image).outside ≡ 0
  pub unaliased : IsUnaliased K (turns_of p.levels) image

-- where the draft is a turn of the program, the kernel's turns run beside the draft, and its accesses are ordered, the
-- kernel does what the program does on each image of which C says what is left
abbrev pub KernelsDoPrograms : Type 0
KernelsDoPrograms = (p : Program) (d : Draft) (K : Kernel) (accesses : List Access) (image left : Image) →
    IsTyped p → Turns p d → AreTrue K accesses → AreOrdered accesses K →
    RunsBeside d K image accesses (turns_of p.levels) → Holds p image → c_left p image ≡ Some left → DoesProgram p K image left
