-- The claims of each node as a list, each once with the number of its uses.
use Rattle.std.specs.Prelude.{◌≡◌, ℕ, zero, suc, ◌%◌, ◌/◌, ◌<◌, ◌⊎◌, if◌then◌else◌, true, List, [], ◌∷◌, ◌++◌, Option, Some, None, replicate, All, AllPairs, sum_by}
use Rattle.cg_model.specs.Mapping.{Position}
use Rattle.cg_mrrg.specs.declared.links.MNode.{MNode}
use Rattle.cg_congestion.specs.Claims.{same, uses, is_at}
pub use Rattle.cg_congestion.specs.declared.claim.ClaimUse.{ClaimUse}

-- the position of a claim on resource r
abbrev pub position_of : ℕ → ClaimUse → Position
position_of r c = record { source = c.source; resource = r; time = c.time; from = c.before }

-- no predecessor comes before each
abbrev pub rank_of : Option ℕ → ℕ
rank_of None = zero
rank_of (Some q) = suc q

-- by source, then time, then predecessor
abbrev pub IsBefore : ClaimUse → ClaimUse → Type 0
IsBefore c d =
    (c.source < d.source) ⊎ (c.source ≡ d.source) × ((c.time < d.time) ⊎ (c.time ≡ d.time) × (rank_of c.before < rank_of d.before))

-- the number of uses of a claim by a list of claims on resource r
abbrev pub uses_in : ℕ → List ClaimUse → Position → ℕ
uses_in r cs p = sum_by (λ c. if same p (position_of r c) then c.uses else 0) cs

-- a list of different claims on a node in order, each used
pub record IsNodeList (ii : ℕ) (n : MNode) (cs : List ClaimUse) : Type 0 where
  pub sorted : AllPairs IsBefore cs
  pub used : All (λ c. 0 < c.uses) cs
  pub here : All (λ c. c.time % ii ≡ n.slot) cs

-- the claims of the given positions on a node, in order, each once with the number of its uses
pub record AreClaims (ii : ℕ) (ps : List Position) (n : MNode) (cs : List ClaimUse) : Type 0 where
  pub list : IsNodeList ii n cs
  pub exact : (p : Position) → is_at ii n p ≡ true → uses ps p ≡ uses_in n.resource cs p

-- the positions of claims on resource r
abbrev pub expand : ℕ → List ClaimUse → List Position
expand r [] = []
expand r (c ∷ cs) = replicate c.uses (position_of r c) ++ expand r cs

-- the positions of lists by node, from node number k on
abbrev pub expand_all : ℕ → ℕ → List (List ClaimUse) → List Position
expand_all ii k [] = []
expand_all ii k (cs ∷ nodes) = expand (k / ii) cs ++ expand_all ii (suc k) nodes
