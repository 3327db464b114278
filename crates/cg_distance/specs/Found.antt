-- What a search has found so far: a total for each node that it reached, and the nodes that wait.
use Rattle.std.specs.Prelude.{ℕ, ◌≡◌, ◌+◌, ◌^◌, ◌<◌, ◌≤◌, ◌⊎◌, Bool, true, nat_lt, List, length, sum_by, Contains, Option, Some, None, slice_index_or}
use Rattle.std.specs.declared.cmp.Reverse.{Reverse}
use Rattle.cg_model.specs.Kernel.{Kernel, size}
use Rattle.cg_model.specs.Order.{Links, Chain}
use Rattle.cg_distance.specs.declared.links.Link.{Link}
use Rattle.cg_distance.specs.declared.reach.Reached.{Reached}
use Rattle.cg_distance.specs.Leaving.{link}

-- the total of node v, None where it was not reached
abbrev pub total_of : List (Option ℕ) → ℕ → Option ℕ
total_of totals v = slice_index_or totals v None

-- whether a total is less than the known one, or none is known
abbrev pub nearer : ℕ → Option ℕ → Bool
nearer x None = true
nearer x (Some y) = nat_lt x y

-- a node as it waits in the queue, which gives the least total first
abbrev pub waiting : Reached → Reverse Reached
waiting r = record { 0 = r }

-- node v waits with total x
abbrev pub Waits : List (Reverse Reached) → ℕ → ℕ → Type 0
Waits queue v x = Contains queue (waiting (record { total = x; node = v }))

-- node v has a total of at most e, or e isn't a 32-bit number
abbrev pub Has : List (Option ℕ) → ℕ → ℕ → Type 0
Has totals v e = (2 ^ 32 ≤ e) ⊎ ((x : ℕ) × (total_of totals v ≡ Some x) × (x ≤ e))

-- the amount by which a total can still fall
abbrev pub weight : Option ℕ → ℕ
weight None = 2 ^ 32
weight (Some x) = x

-- an upper bound on the remaining work: totals can fall, and nodes wait
abbrev pub work : List (Option ℕ) → List (Reverse Reached) → ℕ
work totals queue = sum_by weight totals + length queue

-- one total is offered: x, of node u
abbrev pub OnlyAt : ℕ → ℕ → ℕ → ℕ → Type 0
OnlyAt u x v e = (v ≡ u) × (e ≡ x)

-- these links, from a node at total x, offer the totals
abbrev pub Beyond : List Link → ℕ → ℕ → ℕ → Type 0
Beyond links x v e = (d : ℕ) × Contains links (link v d) × (e ≡ x + d)

-- the links that leave the node of r offer the totals, where the total of r is still the known one
abbrev pub Due : List (Option ℕ) → List Link → Reached → ℕ → ℕ → Type 0
Due totals links r v e = (total_of totals r.node ≡ Some r.total) × Beyond links r.total v e

-- from totals and queue to totals' and queue' all offered totals that are less than the known ones are recorded: no
-- total grows, a node with a new total waits with it, waiting nodes still wait, and the remaining work doesn't grow
pub record Takes (offered : ℕ → ℕ → Type 0) (totals : List (Option ℕ)) (queue : List (Reverse Reached)) (totals' : List (Option ℕ)) (queue' : List (Reverse Reached)) : Type 0 where
  pub long : length totals' ≡ length totals
  pub taken : (v e : ℕ) → offered v e → Has totals' v e
  pub falls : (v e : ℕ) → Has totals v e → Has totals' v e
  pub fresh : (v x : ℕ) → total_of totals' v ≡ Some x → (total_of totals v ≡ Some x) ⊎ (offered v x × Waits queue' v x)
  pub kept : (v x : ℕ) → Waits queue v x → Waits queue' v x
  pub nodes : (v x : ℕ) → Waits queue' v x → Waits queue v x ⊎ (v < length totals)
  pub less : work totals' queue' ≤ work totals queue

-- a search from a source is under way: each total is that of a chain; the links that leave the source were followed,
-- and those that leave another node were followed from its total, or the node waits with that total
pub record IsUnderWay (K : Kernel) (source : ℕ) (totals : List (Option ℕ)) (queue : List (Reverse Reached)) : Type 0 where
  pub long : length totals ≡ size K
  pub chains : (v x : ℕ) → total_of totals v ≡ Some x → Chain K source v x
  pub first : (v d : ℕ) → Links K source v d → Has totals v d
  pub next : (u x v d : ℕ) → total_of totals u ≡ Some x → Links K u v d → Waits queue u x ⊎ Has totals v (x + d)
  pub nodes : (v x : ℕ) → Waits queue v x → v < size K
