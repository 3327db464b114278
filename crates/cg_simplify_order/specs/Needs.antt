-- The order edges that a rewritten kernel needs, so that its accesses are ordered wherever those of the given kernel are.
use Rattle.std.specs.Prelude.{◌≡◌, ◌≢◌, ℕ, ◌<◌, ◌≤◌, true, Some}
use Rattle.cg_model.specs.Kernel.{Kernel, HasOrder, size, node}
use Rattle.cg_model.specs.Limits.{most_turns}
use Rattle.cg_model.specs.Order.{IsUnaliased}
use Rattle.cg_model.specs.Work.{Image, IsImage}
use Rattle.cg_distance.specs.Least.{IsLeast}
use Rattle.cg_depend.specs.Depend.{Gap, Within, conflict, distance_for}

-- node x of the given kernel K is node u of the rewritten kernel L, by its name
pub record IsNamesake (K L : Kernel) (x u : ℕ) : Type 0 where
  pub inside : x < size K
  pub named : (node K x).name ≡ (node L u).name

-- nodes u and v of L, of which one stores, are ordered in the given kernel K by a chain over d turns and by none over
-- fewer, and from d turns on they can meet first after g turns: v has to come after u over g turns, or 255 if g is more
pub record IsNeed (K L : Kernel) (u v r : ℕ) : Type 0 where
  pub first : u < size L
  pub second : v < size L
  pub other : u ≢ v
  pub meet : conflict L u v ≡ true
  pub before : ℕ
  pub after : ℕ
  pub least : ℕ
  pub turns : ℕ
  pub source : IsNamesake K L before u
  pub target : IsNamesake K L after v
  pub chain : IsLeast K before after least
  pub gap : Gap L (record { source = u; target = v; least = least }) (Some turns)
  pub near : r ≡ distance_for turns

-- each order edge of M is a need of L
abbrev pub AreNeeded : Kernel → Kernel → Kernel → Type 0
AreNeeded K L M = (e u v r : ℕ) → HasOrder M e u v r → IsNeed K L u v r

-- each need of L is met in M: by a chain of edges over no more turns
abbrev pub AreMet : Kernel → Kernel → Kernel → Type 0
AreMet K L M = (u v r : ℕ) → IsNeed K L u v r → Within M u v r

-- where all accesses of K that matter are ordered, those of M are
abbrev pub StaysUnaliased : Kernel → Kernel → Type 0
StaysUnaliased K M = (n : ℕ) (image : Image) → IsImage image → n ≤ most_turns → IsUnaliased K n image → IsUnaliased M n image
