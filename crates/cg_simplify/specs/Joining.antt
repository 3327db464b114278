-- Loads that may take the word that an earlier load of the same text has loaded.
use Rattle.std.specs.Prelude.{◌≡◌, ℕ, ◌<◌, true, List, Option, Some}
use Rattle.cg_word.specs.Word.{has_value, is_access, is_store}
use Rattle.cg_model.specs.Kernel.{Kernel, node}
use Rattle.cg_depend.specs.Depend.{Gap}
use Rattle.cg_depend.specs.Gathered.{ask}
use Rattle.cg_simplify.specs.Merging.{SameText}

-- by their addresses w doesn't access in any turn the word that m accesses in the same turn
pub record IsApart (K : Kernel) (m w : ℕ) : Type 0 where
  pub turns : Option ℕ
  pub gap : Gap K (ask m w 0) turns
  pub later : turns ≡ Some 0 → ⊥

-- the stores between m and n leave the word that m loads
abbrev pub MayJoin : Kernel → ℕ → ℕ → Type 0
MayJoin K m n = (w : ℕ) → m < w → w < n → is_store (node K w).op ≡ true → IsApart K m w

-- node n may be like an earlier node m of its text: it has a value, and if it loads, it may join m
pub record MayTake (K : Kernel) (m n : ℕ) : Type 0 where
  pub valued : has_value (node K n).op ≡ true
  pub joins : is_access (node K n).op ≡ true → MayJoin K m n

-- m is an earlier node of the text of node n, up to what nodes count as
pub record HasText (K : Kernel) (counted : List ℕ) (n m : ℕ) : Type 0 where
  pub before : m < n
  pub same : SameText counted m (node K m) n (node K n)
