-- Arrays lie one after another, and tables have a word for each element.
use Rattle.std.proofs.Common.{◌≡◌, ℕ, zero, suc, ◌+◌, ◌*◌, ◌<◌, ◌≤◌, ◌==◌, nat_lt, nat_le, List, [], ◌∷◌, ◌++◌, length, refl, sym, ap, ◌∙◌, subst, arith, mul-pos, ltb-true, leb-true, eqb-true, length-append}
use Rattle.std.proofs.lemmas.Bool.{and_parts}
use Rattle.std.proofs.Math.Nat.{mul_assoc}
use Rattle.cg_c_syntax.specs.Tree.{Expr, Exprs, NoExprs, MoreExprs, Rows, RowsList, Items, Inner, NoRows, OneMore}
use Rattle.cg_c_check.specs.declared.program.Array.{Array}
use Rattle.cg_c_check.specs.declared.fault.CheckFault.TheVariants.{BadArray}
use Rattle.cg_c_check.specs.Names.{Names}
use Rattle.cg_c_check.specs.Constants.{constant_of, count, place_of}
use Rattle.cg_c_check.specs.Arrays.{most_memory, size_of, has_room, dimensions_of, values_of, rows_count, table_of, tables_of}
use Rattle.cg_c_meaning.specs.Typed.{IsArray, table_in, HasTableWords, AreArranged}
use Rattle.cg_c_meaning.proofs.Walking.{WhereOk, if_demanded, where_onward, anything}
use Rattle.cg_c_meaning.proofs.Shaped.{IsDeep, AreDeep}

-- ---- dimensions

-- n dimensions, none of them 0; with them an array at the address start, of `size` words by those before, ends in memory
abbrev pub AreDimensions : (start size n : ℕ) → List ℕ → Type 0
AreDimensions start size n ds = (length ds ≡ n) × (0 < size_of ds) × (start + size * size_of ds ≤ most_memory)

with_dimension : (start size n d : ℕ) (ds : List ℕ) → 0 < d → AreDimensions start (size * d) n ds → AreDimensions start size (suc n) (d ∷ ds)
with_dimension start size n d ds some h = (ap suc h.0, mul-pos some h.1, omega (arith, h.2, mul_assoc size d (size_of ds)))

one_more : (names : Names) (start size n : ℕ) (e : Expr) (es : Exprs) → ((d : ℕ) → start + size * d ≤ most_memory → WhereOk (dimensions_of names start (size * d) es) (AreDimensions start (size * d) n))
    → WhereOk (dimensions_of names start size (MoreExprs e es)) (AreDimensions start size (suc n))
unfolding dimensions_of
one_more names start size n e es h =
    where_onward (AreDimensions start size (suc n)) (constant_of names e) _ (anything _) (λ c _.
    if_demanded (AreDimensions start size (suc n)) (has_room start size c.word) (BadArray (place_of e)) _ (λ room.
    let parts = and_parts (nat_lt 0 c.word) (nat_le (start + size * c.word) most_memory) room in
    where_onward (AreDimensions start size (suc n)) (dimensions_of names start (size * c.word) es) _ (h c.word (leb-true (start + size * c.word) most_memory parts.1)) (λ ds g.
    with_dimension start size n c.word ds (ltb-true 0 c.word parts.0) g)))

further_are : (names : Names) (start size : ℕ) (es : Exprs) → start + size ≤ most_memory → WhereOk (dimensions_of names start size es) (AreDimensions start size (count es))
unfolding dimensions_of
further_are names start size NoExprs room = (refl, omega arith, omega arith)
further_are names start size (MoreExprs e es) room = one_more names start size (count es) e es (λ d more. further_are names start (size * d) es more)

pub dimensions_are : (names : Names) (start size : ℕ) (e : Expr) (es : Exprs) → WhereOk (dimensions_of names start size (MoreExprs e es)) (AreDimensions start size (suc (count es)))
dimensions_are names start size e es = one_more names start size (count es) e es (λ d more. further_are names start (size * d) es more)

-- ---- tables

values_are : (names : Names) (es : Exprs) → WhereOk (values_of names es) (λ words. length words ≡ count es)
unfolding values_of
values_are names NoExprs = refl
values_are names (MoreExprs e es) =
    where_onward (λ words. length words ≡ suc (count es)) (constant_of names e) _ (anything _) (λ c _.
    where_onward (λ words. length words ≡ suc (count es)) (values_of names es) _ (values_are names es) (λ words h. ap suc h))

mutual
  unfolding table_of tables_of

  pub table_is : (names : Names) (ds : List ℕ) (rows : Rows) (n : ℕ) → IsDeep rows n → length ds ≡ suc n → WhereOk (table_of names ds rows) (λ words. length words ≡ size_of ds)
  table_is names (d ∷ []) (Items place es) zero deep long =
      if_demanded (λ words. length words ≡ d * 1) (d == count es) (BadArray place) _ (λ first.
      subst (λ m. WhereOk (values_of names es) (λ words. length words ≡ m)) (sym (eqb-true d (count es) first) ∙ omega arith) (values_are names es))
  table_is names (d ∷ e ∷ ds) (Inner place rs) (suc n) deep long =
      if_demanded (λ words. length words ≡ d * size_of (e ∷ ds)) (d == rows_count rs) (BadArray place) _ (λ first.
      subst (λ m. WhereOk (tables_of names (e ∷ ds) rs) (λ words. length words ≡ m * size_of (e ∷ ds))) (sym (eqb-true d (rows_count rs) first)) (tables_are names (e ∷ ds) rs n deep (omega arith)))
  table_is names [] rows n deep long = absurd (omega arith)
  table_is names (d ∷ e ∷ ds) (Items place es) zero deep long = absurd (omega arith)
  table_is names (d ∷ []) (Inner place rs) (suc n) deep long = absurd (omega arith)
  table_is names ds (Items place es) (suc n) deep long = absurd deep
  table_is names ds (Inner place rs) zero deep long = absurd deep

  tables_are : (names : Names) (ds : List ℕ) (rs : RowsList) (n : ℕ) → AreDeep rs n → length ds ≡ suc n → WhereOk (tables_of names ds rs) (λ words. length words ≡ rows_count rs * size_of ds)
  tables_are names ds NoRows n deep long = omega arith
  tables_are names ds (OneMore r rs) n deep long =
      where_onward (λ words. length words ≡ suc (rows_count rs) * size_of ds) (table_of names ds r) _ (table_is names ds r n deep.0 long) (λ words h.
      where_onward (λ words. length words ≡ suc (rows_count rs) * size_of ds) (tables_of names ds rs) _ (tables_are names ds rs n deep.1 long) (λ more g.
      length-append words more ∙ omega (arith, h, g)))

-- ---- arrays one after another

-- and this address is the one behind them
abbrev pub AreArrangedTo : (start : ℕ) → List Array → (end : ℕ) → Type 0
AreArrangedTo start [] end = (start ≡ end) × (end ≤ most_memory)
AreArrangedTo start (a ∷ further) end =
    (a.start ≡ start) × (0 < size_of a.dimensions) × HasTableWords a a.table × AreArrangedTo (start + size_of a.dimensions) further end

pub arranged : (start end : ℕ) (arrays : List Array) → AreArrangedTo start arrays end → AreArranged start arrays
arranged start end [] h = omega (arith, h.0, h.1)
arranged start end (a ∷ further) h = (h.0, h.1, h.2, arranged (start + size_of a.dimensions) end further h.3)

pub one_more_arranged : (start end : ℕ) (arrays : List Array) (a : Array) → AreArrangedTo start arrays end → a.start ≡ end → 0 < size_of a.dimensions → HasTableWords a a.table → end + size_of a.dimensions ≤ most_memory
    → AreArrangedTo start (arrays ++ a ∷ []) (end + size_of a.dimensions)
one_more_arranged start end [] a h at some words room = (at ∙ sym h.0, some, words, (ap (λ n. n + size_of a.dimensions) h.0, room))
one_more_arranged start end (b ∷ arrays) a h at some words room = (h.0, h.1, h.2, one_more_arranged (start + size_of b.dimensions) end arrays a h.3 at some words room)

-- ---- arrays by their numbers

pub is_last : (arrays : List Array) (a : Array) → IsArray (arrays ++ a ∷ []) (length arrays)
is_last arrays a = omega (arith, length-append arrays (a ∷ []))

pub still_array : (arrays : List Array) (a : Array) (number : ℕ) → IsArray arrays number → IsArray (arrays ++ a ∷ []) number
still_array arrays a number h = omega (arith, h, length-append arrays (a ∷ []))

pub table_of_last : (arrays : List Array) (a : Array) → table_in (arrays ++ a ∷ []) (length arrays) ≡ a.table
table_of_last [] a = refl
table_of_last (b ∷ arrays) a = table_of_last arrays a

pub still_table : (arrays : List Array) (a : Array) (number : ℕ) → IsArray arrays number → table_in (arrays ++ a ∷ []) number ≡ table_in arrays number
still_table [] a number h = absurd (omega arith)
still_table (b ∷ arrays) a zero h = refl
still_table (b ∷ arrays) a (suc number) h = still_table arrays a number (omega arith)
