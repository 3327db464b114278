-- The effect of one step on the frame.
use Rattle.std.specs.Prelude.{◌≡◌, ℕ, ◌+◌, ◌*◌, ◌++◌, [], length, map, slice_set, slice_index_or}
use Rattle.cg_model.specs.Kernel.{Kernel, size, node}
use Rattle.cg_model.specs.Work.{Image, Work, value, stored, sent, missed}
use Rattle.cg_turns.specs.Window.{operand_in}
use Rattle.cg_turns.specs.declared.frame.Frame.{Frame}

-- the work of node v, with its operands from the window
abbrev pub work_in : Kernel → ℕ → ℕ → ℕ → Frame → Work
work_in K v i row f = record { op = (node K v).op; port = (node K v).port; turn = i; args = map (operand_in f.window.items row (size K) i) (node K v).operands }

-- from frame f to frame g, w was done, and its value is at that place of the window
pub record DoesWork (image : Image) (at : ℕ) (w : Work) (f g : Frame) : Type 0 where
  pub memory : g.memory ≡ stored f.memory w
  pub ports : length g.streams.items ≡ length f.streams.items
  pub streams : (port : ℕ) → slice_index_or g.streams.items port [] ≡ slice_index_or f.streams.items port [] ++ sent port w
  pub outside : g.outside ≡ f.outside + missed (length f.memory) w
  pub window : g.window.items ≡ slice_set f.window.items at (value image f.memory w)

-- node v of turn i was done
abbrev pub Steps : Kernel → Image → ℕ → ℕ → ℕ → Frame → Frame → Type 0
Steps K image v i row f g = DoesWork image (row * size K + v) (work_in K v i row f) f g
