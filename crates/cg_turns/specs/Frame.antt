-- The state of a run is the effect of the steps so far.
use Rattle.std.specs.Prelude.{◌≡◌, ℕ, ◌+◌, ◌*◌, ◌<◌, [], length, slice_index_or}
use Rattle.cg_model.specs.Kernel.{Kernel, size}
use Rattle.cg_model.specs.Limits.{port_count}
use Rattle.cg_model.specs.Work.{Image}
use Rattle.cg_model.specs.Turns.{Progress, before}
use Rattle.cg_turns.specs.Window.{IsWindow}
use Rattle.cg_turns.specs.declared.frame.Frame.{Frame}

-- a frame that has the effects of the steps so far, before node v of turn i
pub record IsProgress (m i v : ℕ) (p : Progress) (f : Frame) : Type 0 where
  pub memory : f.memory ≡ p.memory
  pub ports : length f.streams.items ≡ port_count
  pub streams : (port : ℕ) → port < port_count → slice_index_or f.streams.items port [] ≡ p.streams port
  pub outside : f.outside ≡ p.outside
  pub window : IsWindow m i v f.window.items p.values
  pub steps : length p.values ≡ i * m + v

-- the frame before node v of turn i
abbrev pub IsAt : Kernel → Image → ℕ → ℕ → Frame → Type 0
IsAt K image i v f = IsProgress (size K) i v (before K image (i * size K + v)) f
