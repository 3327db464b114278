-- The order edges that a kernel's accesses need, whatever the image.
use Rattle.std.specs.Prelude.{◌≡◌, ℕ, ◌+◌, ◌*◌, ◌%◌, ◌<◌, ◌≤◌, min, nat_lt, if◌then◌else◌, Bool, ◌&&◌, ◌||◌, List, [], ◌∷◌, ◌++◌, length, Option, Some, None, flat_map}
use Rattle.std.specs.List.{range_with_len}
use Rattle.cg_word.specs.declared.op.Op.TheVariants.{Sub}
use Rattle.cg_word.specs.Word.{words, apply_of, is_access, is_store}
use Rattle.cg_model.specs.declared.kernel.OrderEdge.{OrderEdge}
use Rattle.cg_model.specs.Kernel.{Kernel, size, node}
use Rattle.cg_model.specs.Limits.{most_order_distance, most_turns}
use Rattle.cg_model.specs.Order.{Chain}
use Rattle.cg_depend.specs.Affine.{AffinePair, address_pair}

-- a question: in which later turns, from `least` turns later on, may the target access the word that the source
-- accesses?
pub record Ask : Type 0 where
  pub source : ℕ
  pub target : ℕ
  pub least : ℕ

-- nodes u and v access the memory, and at least one of them stores
abbrev pub conflict : Kernel → ℕ → ℕ → Bool
conflict K u v = is_access (node K u).op && (is_access (node K v).op && (is_store (node K u).op || is_store (node K v).op))

-- the questions for a pair of nodes: v after u, in the same turn or later, and u after v, in a later turn
abbrev pub asks_of : Kernel → ℕ → ℕ → List Ask
asks_of K u v =
    if nat_lt u v && conflict K u v
    then record { source = u; target = v; least = 0 } ∷ record { source = v; target = u; least = 1 } ∷ []
    else []

-- all questions, by u and then by v
abbrev pub asks : Kernel → List Ask
asks K = flat_map (λ u. flat_map (asks_of K u) (range_with_len 0 (size K))) (range_with_len 0 (size K))

-- the addresses have these pairs, with one stride
pub record HaveOneStride (K : Kernel) (a : Ask) (p q : AffinePair) : Type 0 where
  pub of_source : address_pair K a.source ≡ Some p
  pub of_target : address_pair K a.target ≡ Some q
  pub one : p.stride ≡ q.stride

-- an address with pair q is, x turns later, equal to one with pair p now
abbrev pub Meets : AffinePair → AffinePair → ℕ → Type 0
Meets p q x = (p.stride * x) % words ≡ apply_of Sub p.base q.base 0

-- the least number of turns after which the target may access the source's word; None where it doesn't in any run.
-- Where the addresses have no pairs with one stride, this may be any turn
pub data Gap (K : Kernel) (a : Ask) : Option ℕ → Type 0 where
  never : (p q : AffinePair) → HaveOneStride K a p q →
      ((x : ℕ) → a.least ≤ x → x < most_turns → Meets p q x → ⊥) → Gap K a None
  first : (p q : AffinePair) (x : ℕ) → HaveOneStride K a p q → a.least ≤ x → x < most_turns → Meets p q x →
      ((y : ℕ) → a.least ≤ y → y < x → Meets p q y → ⊥) → Gap K a (Some x)
  unknown : ((p q : AffinePair) → HaveOneStride K a p q → ⊥) → Gap K a (Some a.least)

-- the distance of an order edge for a gap
abbrev pub distance_for : ℕ → ℕ
distance_for g = min g most_order_distance

-- a chain of the kernel's own edges leads from u to v over at most the given number of turns
abbrev pub Within : Kernel → ℕ → ℕ → ℕ → Type 0
Within K u v most = (d : ℕ) × Chain K u v d × (d ≤ most)

-- the edge that answers a question
abbrev pub edge_for : Ask → ℕ → OrderEdge
edge_for a g = record { from = a.source; to = a.target; distance = distance_for g }

-- the edges that are added for these questions: one for each question with a gap, unless a chain already orders the two
-- nodes as closely
pub data Added (K : Kernel) : List Ask → List OrderEdge → Type 0 where
  none : Added K [] []
  apart : {a : Ask} {rest : List Ask} {es : List OrderEdge} → Gap K a None → Added K rest es → Added K (a ∷ rest) es
  chained : {a : Ask} {rest : List Ask} {es : List OrderEdge} (g : ℕ) → Gap K a (Some g) →
      Within K a.source a.target (distance_for g) → Added K rest es → Added K (a ∷ rest) es
  added : {a : Ask} {rest : List Ask} {es : List OrderEdge} (g : ℕ) → Gap K a (Some g) →
      (Within K a.source a.target (distance_for g) → ⊥) → Added K rest es → Added K (a ∷ rest) (edge_for a g ∷ es)

-- the kernel with these order edges after its own
abbrev pub with_order : Kernel → List OrderEdge → Kernel
with_order K es = record { nodes = K.nodes; order = K.order ++ es }

-- these are all the edges that K's accesses need in addition to its own
abbrev pub AreNeeded : Kernel → List OrderEdge → Type 0
AreNeeded K es = Added K (asks K) es

-- K' is K with the edges that its accesses need
abbrev pub IsDepend : Kernel → Kernel → Type 0
IsDepend K K' = (es : List OrderEdge) × (K' ≡ with_order K es) × AreNeeded K es

-- with the needed edges K would have n order edges in all
abbrev pub NeedsOrder : Kernel → ℕ → Type 0
NeedsOrder K n = (es : List OrderEdge) × AreNeeded K es × (n ≡ length K.order + length es)

-- K' has K's nodes, and its order edges begin with K's
abbrev pub BeginsWith : Kernel → Kernel → Type 0
BeginsWith K K' = (K'.nodes ≡ K.nodes) × (es : List OrderEdge) × (K'.order ≡ K.order ++ es)
