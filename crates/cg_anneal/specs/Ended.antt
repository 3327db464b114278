-- How the walk ends.
use Rattle.std.specs.Prelude.{◌≡◌, ℕ, ◌<◌, List}
use Rattle.rand_pcg.specs.Lcg.{Lcg}
use Rattle.cg_model.specs.Kernel.{Kernel}
use Rattle.cg_model.specs.Array.{Arch}
use Rattle.cg_recur.specs.Recurrences.{AreEarliest}
use Rattle.cg_walk_spec.specs.State.{State, cost, mapping_of}
use Rattle.cg_walk_spec.specs.Walk.{IsEnd}
use Rattle.cg_anneal.specs.Walking.{Walking, at_state}
use Rattle.cg_anneal.specs.declared.finding.Reached.{Reached}
use Rattle.cg_anneal.specs.declared.finding.Reached.TheVariants.{Zero, Cost}
use Rattle.cg_anneal.specs.declared.finding.Found.{Found}
use Rattle.cg_anneal.specs.declared.finding.Found.TheVariants.{Mapped, Spent}

-- the mapping that a state represents, after k moves
abbrev pub IsFoundAt : Arch → Kernel → ℕ → State → ℕ → Found → Type 0
IsFoundAt A K ii S k (Mapped m j) = (m ≡ record { arch = A; kernel = K; mapping = mapping_of K ii S }) × (j ≡ k)
IsFoundAt A K ii S k (Spent c) = ⊥

-- the moves of a walk were made from its start on: up to the first state of cost 0, or all of them, and that cost is
-- left
abbrev pub IsReached : Walking → ℕ → ℕ → Walking → Reached → Type 0
IsReached W seed moves V (Zero k) =
    (V ≡ at_state W V.state) × (cost W.arch W.kernel W.ii V.state ≡ 0)
    × ((g : Lcg) × IsEnd W.arch W.kernel W.ii W.early moves seed k g V.state)
IsReached W seed moves V (Cost c) =
    (V ≡ at_state W V.state) × (cost W.arch W.kernel W.ii V.state ≡ c) × (0 < c)
    × ((g : Lcg) × IsEnd W.arch W.kernel W.ii W.early moves seed moves g V.state)

-- where the walk ends at cost 0, the mapping that its last state represents, and the number of moves; else the cost
-- that is left after all moves
abbrev pub IsWalkedFrom : Arch → Kernel → ℕ → List ℕ → ℕ → ℕ → Found → Type 0
IsWalkedFrom A K ii early seed moves (Mapped m k) =
    (g : Lcg) × (S : State) × IsEnd A K ii early moves seed k g S × (cost A K ii S ≡ 0) × (m ≡ record { arch = A; kernel = K; mapping = mapping_of K ii S })
IsWalkedFrom A K ii early seed moves (Spent c) =
    (g : Lcg) × (S : State) × IsEnd A K ii early moves seed moves g S × (cost A K ii S ≡ c) × (0 < c)

-- the same with the kernel's earliest times
abbrev pub IsWalked : Arch → Kernel → ℕ → ℕ → ℕ → Found → Type 0
IsWalked A K ii seed moves found = (early : List ℕ) × AreEarliest A K ii early × IsWalkedFrom A K ii early seed moves found
