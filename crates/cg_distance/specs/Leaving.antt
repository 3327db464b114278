-- The links that leave each node.
use Rattle.std.specs.Prelude.{ℕ, ◌≡◌, ◌<◌, ◌⊎◌, List, [], length, slice_index_or, Contains}
use Rattle.cg_model.specs.declared.kernel.Operand.TheVariants.{Edge}
use Rattle.cg_model.specs.Kernel.{Kernel, HasOperand, HasOrder, size}
use Rattle.cg_distance.specs.declared.links.Link.{Link}

-- a link to v of distance d
abbrev pub link : ℕ → ℕ → Link
link v d = record { to = v; distance = d }

-- the links that leave node u
abbrev pub leaving : List (List Link) → ℕ → List Link
leaving lists u = slice_index_or lists u []

-- an edge into an earlier node than `to`, or into `to` at an operand below p, or an order edge with a number below e
pub data Seen (K : Kernel) (to p e : ℕ) : ℕ → ℕ → ℕ → Type 0 where
  seen_data : {u v d : ℕ} (q : ℕ) (init : List ℕ) → v < size K → HasOperand K v q (Edge u d init) →
      (v < to) ⊎ ((v ≡ to) × (q < p)) → Seen K to p e u v d
  seen_order : {u v d : ℕ} (f : ℕ) → HasOrder K f u v d → f < e → Seen K to p e u v d

-- m lists hold the edges of a relation, each in the list of the node that it leaves
pub record HasLinks (m : ℕ) (L : ℕ → ℕ → ℕ → Type 0) (lists : List (List Link)) : Type 0 where
  pub long : length lists ≡ m
  pub sound : (u v d : ℕ) → Contains (leaving lists u) (link v d) → L u v d
  pub complete : (u v d : ℕ) → L u v d → Contains (leaving lists u) (link v d)
