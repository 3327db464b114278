-- The order edges that accesses of a kernel need, where two of them may be to one word if they are to one array.
use Rattle.std.specs.Prelude.{◌≡◌, ℕ, ◌+◌, ◌-◌, ◌<◌, Bool, true, false, ◌&&◌, ◌||◌, eqb, if◌then◌else◌, List, [], ◌∷◌, ◌++◌, length, flat_map, map, reverse, find, Option, Some, None, slice_get, slice_index_or, Contains}
use Rattle.std.specs.List.{range_with_len}
use Rattle.cg_model.specs.declared.kernel.Node.{Node}
use Rattle.cg_model.specs.declared.kernel.OrderEdge.{OrderEdge}
use Rattle.cg_model.specs.Kernel.{Kernel}
use Rattle.cg_model.specs.Limits.{most_order_edges}
use Rattle.cg_depend.specs.Depend.{Within}
pub use Rattle.cg_c_order.specs.declared.access.Access.{Access}

abbrev pub kernel_with : List Node → List OrderEdge → Kernel
kernel_with nodes order = record { nodes = nodes; order = order }

-- accesses in program order, of nodes below n
pub record AreAccesses (n : ℕ) (accesses : List Access) : Type 0 where
  pub below : (a : Access) → Contains accesses a → a.node < n
  pub rising : (i j : ℕ) (a b : Access) → i < j → slice_get accesses i ≡ Some a → slice_get accesses j ≡ Some b → a.node < b.node

-- two accesses to one array, of which one stores
abbrev pub conflict : Access → Access → Bool
conflict a b = eqb a.array b.array && (a.stores || b.stores)

-- of two such accesses the later one of a turn comes after the earlier one, and that one in the next turn after it
pub record AreOrdered (accesses : List Access) (K : Kernel) : Type 0 where
  pub forth : (a b : Access) → Contains accesses a → Contains accesses b → conflict a b ≡ true → a.node < b.node → Within K a.node b.node 0
  pub back : (a b : Access) → Contains accesses a → Contains accesses b → conflict a b ≡ true → a.node < b.node → Within K b.node a.node 1

-- ---- the edges that are wanted

-- the edge from node u to node v over d turns
abbrev pub edge : ℕ → ℕ → ℕ → OrderEdge
edge u v d = record { from = u; to = v; distance = d }

-- the access of node u, if it is one
abbrev pub access_of : List Access → ℕ → Option Access
access_of accesses u = find (λ a. eqb a.node u) accesses

-- for each of n nodes its access, if it is one
abbrev pub by_node : ℕ → List Access → List (Option Access)
by_node n accesses = map (access_of accesses) (range_with_len 0 n)

-- both are accesses, and they conflict
abbrev pub both_conflict : Option Access → Option Access → Bool
both_conflict None b = false
both_conflict (Some a) None = false
both_conflict (Some a) (Some b) = conflict a b

-- the nodes u and v of a table of accesses conflict
abbrev pub conflict_at : List (Option Access) → ℕ → ℕ → Bool
conflict_at table u v = both_conflict (slice_index_or table u None) (slice_index_or table v None)

-- the edge, if any, from node u to the node `gap` nodes after it, in one turn
abbrev pub forth_from : List (Option Access) → ℕ → ℕ → List OrderEdge
forth_from table gap u = if conflict_at table u (u + gap) then edge u (u + gap) 0 ∷ [] else []

-- the edge, if any, to node u of the next turn from the node `gap` nodes after it
abbrev pub back_to : List (Option Access) → ℕ → ℕ → List OrderEdge
back_to table gap u = if conflict_at table u (u + gap) then edge (u + gap) u 1 ∷ [] else []

-- those of one difference, by rising nodes
unfoldable pub forth_at : List (Option Access) → ℕ → List OrderEdge
forth_at table gap = flat_map (forth_from table gap) (range_with_len 0 (length table - gap))

unfoldable pub back_at : List (Option Access) → ℕ → List OrderEdge
back_at table gap = flat_map (back_to table gap) (range_with_len 0 (length table - gap))

-- the differences of two of n nodes, rising
abbrev pub gaps : ℕ → List ℕ
gaps n = range_with_len 1 (n - 1)

-- all forth edges, by rising differences
unfoldable pub all_forth : List (Option Access) → List OrderEdge
all_forth table = flat_map (forth_at table) (gaps (length table))

-- all back edges, by falling differences
unfoldable pub all_back : List (Option Access) → List OrderEdge
all_back table = flat_map (back_at table) (reverse (gaps (length table)))

-- the edges that accesses of n nodes want
abbrev pub wanted : ℕ → List Access → List OrderEdge
wanted n accesses = all_forth (by_node n accesses) ++ all_back (by_node n accesses)

-- ---- the edges that are taken

-- of these wanted edges those are taken: each one to whose end no chain leads yet over no more turns
pub data Chosen (nodes : List Node) : List OrderEdge → List OrderEdge → Type 0 where
  none : Chosen nodes [] []
  led : {ws es : List OrderEdge} (w : OrderEdge) → Chosen nodes ws es → Within (kernel_with nodes es) w.from w.to w.distance →
      Chosen nodes (ws ++ w ∷ []) es
  taken : {ws es : List OrderEdge} (w : OrderEdge) → Chosen nodes ws es → (Within (kernel_with nodes es) w.from w.to w.distance → ⊥) →
      Chosen nodes (ws ++ w ∷ []) (es ++ w ∷ [])

-- K has these nodes, and the order edges that are taken for these accesses
pub record IsOrderedBy (nodes : List Node) (accesses : List Access) (K : Kernel) : Type 0 where
  pub same : K.nodes ≡ nodes
  pub chosen : Chosen nodes (wanted (length nodes) accesses) K.order

-- of the first of these wanted edges more are taken than a kernel may have
pub record IsExceeded (nodes : List Node) (wishes : List OrderEdge) : Type 0 where
  pub first : List OrderEdge
  pub rest : List OrderEdge
  pub edges : List OrderEdge
  pub parts : first ++ rest ≡ wishes
  pub chosen : Chosen nodes first edges
  pub many : most_order_edges < length edges

-- these accesses need more order edges than a kernel may have
abbrev pub NeedsMore : List Node → List Access → Type 0
NeedsMore nodes accesses = IsExceeded nodes (wanted (length nodes) accesses)
