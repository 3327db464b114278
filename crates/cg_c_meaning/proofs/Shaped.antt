-- Arrays with dimensions, and tables whose rows are nested as deep as these.
use Rattle.std.proofs.Common.{ℕ, zero, suc, List, [], ◌∷◌}
use Rattle.cg_c_syntax.specs.Tree.{Exprs, NoExprs, MoreExprs, Rows, RowsList, Items, Inner, NoRows, OneMore, Array, Global, Define, Enumeration, Arrays, Constants}
use Rattle.cg_c_check.specs.Constants.{count}

-- rows inside n others
abbrev mutual
  pub IsDeep : Rows → ℕ → Type 0
  IsDeep (Items place es) zero = Unit {0}
  IsDeep (Items place es) (suc n) = ⊥
  IsDeep (Inner place rs) zero = ⊥
  IsDeep (Inner place rs) (suc n) = AreDeep rs n

  pub AreDeep : RowsList → ℕ → Type 0
  AreDeep NoRows n = Unit {0}
  AreDeep (OneMore r rs) n = IsDeep r n × AreDeep rs n

abbrev pub HasDimensions : Exprs → Type 0
HasDimensions NoExprs = ⊥
HasDimensions (MoreExprs e es) = Unit {0}

abbrev pub HasRows : Exprs → Rows → Type 0
HasRows NoExprs rows = ⊥
HasRows (MoreExprs e es) rows = IsDeep rows (count es)

abbrev pub HaveDimensions : List Array → Type 0
HaveDimensions [] = Unit {0}
HaveDimensions (a ∷ further) = HasDimensions a.dimensions × HaveDimensions further

abbrev pub IsShaped : Global → Type 0
IsShaped (Define c) = Unit {0}
IsShaped (Enumeration cs) = Unit {0}
IsShaped (Arrays signedness arrays) = HaveDimensions arrays
IsShaped (Constants t) = HasRows t.array.dimensions t.rows

abbrev pub AreShaped : List Global → Type 0
AreShaped [] = Unit {0}
AreShaped (g ∷ gs) = IsShaped g × AreShaped gs
