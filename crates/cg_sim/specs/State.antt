-- The meaning of the fields of a simulator.
use Rattle.std.specs.Prelude.{◌≡◌, ℕ, ◌+◌, ◌<◌, ◌≤◌, List, [], length, slice_index, slice_index_or}
use Rattle.cg_model.specs.Array.{Arch, IsArch}
use Rattle.cg_model.specs.Config.{Config}
use Rattle.cg_model.specs.Canonical.{IsCanonical}
use Rattle.cg_model.specs.Work.{Image}
use Rattle.cg_model.specs.Machine.{at_cycle, ago}
use Rattle.cg_datapath.specs.Course.{Course, result_ago}
use Rattle.cg_sim.specs.Plan.{AreTerminals, IsPlan}
use Rattle.cg_sim.specs.declared.plan.Plan.{Plan}

-- after c cycles: the words of the last cycle and of the one before it, with one more word that is 0, and the course
pub record IsState (A : Arch) (C : Config) (n : ℕ) (image : Image) (c : ℕ) (words before : List ℕ) (k : Course) : Type 0 where
  pub words_long : length words ≡ length A.resources + 1
  pub before_long : length before ≡ length A.resources + 1
  pub words_are : (r : ℕ) → slice_index words r ≡ (ago (at_cycle A C n image c).past 1).words r
  pub before_none : slice_index before (length A.resources) ≡ 0
  pub results : (x d : ℕ) → x < length A.units → 0 < d → d ≤ 4 →
      result_ago k x d ≡ (ago (at_cycle A C n image c).past d).results x
  pub memory : k.memory ≡ (at_cycle A C n image c).memory
  pub ports : length k.streams ≡ 16
  pub streams : (port : ℕ) → port < 16 → slice_index_or k.streams port [] ≡ (at_cycle A C n image c).streams port
  pub outside : k.outside ≡ (at_cycle A C n image c).outside

-- a run, by the fields of a simulator
pub record IsRunning (C : Config) (k : Course) (plan : Plan) (words before : List ℕ) : Type 0 where
  pub valid : IsArch k.arch
  pub canonical : IsCanonical k.arch k.config
  pub config_is : C ≡ k.config
  pub plan_is : IsPlan k.arch plan
  pub terminals_are : AreTerminals k.arch.units (length k.arch.resources) k.terminals
  pub state_is : IsState k.arch k.config k.n k.image k.done words before k
