-- The meaning of the fields of a course.
use Rattle.std.specs.Prelude.{◌≡◌, ℕ, ◌*◌, ◌≤◌, ◌^◌, List, [], length, vec_capacity}
use Rattle.std.specs.declared.vec.Vec.{Vec}
use Rattle.std.specs.declared.alloc.Global.{Global}
use Rattle.cg_model.specs.Limits.{most_turns}
use Rattle.cg_model.specs.Array.{Arch, IsArch}
use Rattle.cg_model.specs.Config.{Config}
use Rattle.cg_model.specs.Canonical.{IsCanonical}
use Rattle.cg_model.specs.Work.{Image}
use Rattle.cg_datapath.specs.Course.{Course, AreShort, course_cycles}
use Rattle.cg_datapath.specs.Reserved.{stream, IsReserved, HaveRoom, HaveSent, HaveFew}
use Rattle.cg_datapath.specs.Moment.{IsMoment}
use Rattle.cg_datapath.specs.declared.moment.Moment.{Moment}
use Rattle.cg_datapath.specs.declared.effects.Effects.{Effects}

-- the effects of a run before its first cycle, with room for all its effects, and for no other words of streams
pub record IsFresh (A : Arch) (C : Config) (n : ℕ) (image : Image) (e : Effects) : Type 0 where
  pub memory : e.memory ≡ image.memory
  pub pending : e.pending.items ≡ []
  pub pending_room : length A.units ≤ vec_capacity e.pending
  pub ports : length e.streams.items ≡ 16
  pub empty : (port : ℕ) → (stream e.streams.items port).words ≡ []
  pub room : IsReserved C (length A.units) n e.streams.items
  pub outside : e.outside ≡ 0

-- the effects of a run after c cycles, with room for the rest
pub record AreEffects (A : Arch) (C : Config) (n c : ℕ) (e : Effects) : Type 0 where
  pub fits : length e.memory ≤ A.memory
  pub ports : length e.streams.items ≡ 16
  pub sent : HaveSent C (length A.units) c e.streams.items
  pub few_words : HaveFew n e.streams.items
  pub room : HaveRoom C (length A.units) n e.streams.items
  pub pending : e.pending.items ≡ []
  pub pending_room : length A.units ≤ vec_capacity e.pending
  pub few : e.outside ≤ c * 1024

-- a course, by the fields of its struct
pub record IsCourse (k : Course) (ii len : ℕ) (moment : Moment) (e : Effects) (finished : Vec (List ℕ) Global) : Type 0 where
  pub valid : IsArch k.arch
  pub canonical : IsCanonical k.arch k.config
  pub turns : k.n ≤ most_turns
  pub units : length k.terminals ≡ length k.arch.units
  pub latencies : AreShort k.terminals
  pub ii_is : ii ≡ k.config.ii
  pub length_is : len ≡ course_cycles k
  pub length_few : len ≤ 2 ^ 27
  pub within : k.done ≤ len
  pub moment_is : IsMoment moment k.config.ii k.done
  pub history_long : length k.history ≡ 4 * length k.arch.units
  pub effects : AreEffects k.arch k.config k.n k.done e
  pub finished_room : (finished.items ≡ []) × (16 ≤ vec_capacity finished)
