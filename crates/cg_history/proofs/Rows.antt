-- The rows of the ring.
use Rattle.std.proofs.Common.{◌≡◌, ◌≢◌, ℕ, suc, ◌+◌, ◌-◌, ◌*◌, ◌%◌, ◌<◌, ◌≤◌, length, refl, sym, ap, ◌∙◌, arith, ⊎_elim, mul-le-mul_right}
use Rattle.std.specs.Prelude.{slice_index, slice_set}
use Rattle.std.proofs.lemmas.Bool.{cases_lt}
use Rattle.std.proofs.lemmas.List.{get_or-set_same, get_or-set_other}
use Rattle.std.proofs.lemmas.Nat.{mod-mul-add}
use Rattle.cg_model.specs.Array.{Arch}
use Rattle.cg_model.specs.Config.{Config}
use Rattle.cg_model.specs.Work.{Image}
use Rattle.cg_history.specs.Results.{Results, IsRing, KeepsRows, result_ago, result_now}
use Rattle.cg_history.specs.State.{HasResults}

-- a place in a row
pub place_below : (row rows units x : ℕ) → row < rows → x < units → row * units + x < rows * units
place_below row rows units x l m = let a : (row + 1) * units ≤ rows * units = mul-le-mul_right units (omega arith) in omega arith

-- places of two rows differ
places_apart : (a b units x y : ℕ) → a ≢ b → x < units → y < units → a * units + x ≢ b * units + y
places_apart a b units x y ne l m e =
    ⊎_elim
    (λ k. let z : (a + 1) * units ≤ b * units = mul-le-mul_right units (omega arith) in omega arith)
    (λ k. let z : (b + 1) * units ≤ a * units = (let w : b < a = other k in mul-le-mul_right units (omega arith)) in omega arith)
    (cases_lt a b)
  where
    other : b ≤ a → b < a
    other k = ⊎_elim (λ l. l) (λ l. absurd (ne (omega arith))) (cases_lt b a)

-- the row of d cycles ago
pub back_low : (row rows d : ℕ) → row < rows → d ≤ row → (row + rows - d) % rows ≡ row - d
back_low row rows d l k =
    let e : row + rows - d ≡ 1 * rows + (row - d) = omega arith in
    ap (λ (z : ℕ). z % rows) e ∙ mod-mul-add 1 rows (row - d) (omega arith)

pub back_high : (row rows d : ℕ) → row < d → d ≤ rows → (row + rows - d) % rows ≡ row + rows - d
back_high row rows d l k =
    let e : row + rows - d ≡ 0 * rows + (row + rows - d) = omega arith in
    ap (λ (z : ℕ). z % rows) e ∙ mod-mul-add 0 rows (row + rows - d) (omega arith)

pub back_within : (row rows d : ℕ) → row < rows → d ≤ rows → (row + rows - d) % rows < rows
back_within row rows d l k =
    ⊎_elim (λ m. let e = back_high row rows d m k in omega arith) (λ m. let e = back_low row rows d l m in omega arith) (cases_lt row d)

back_apart : (row rows d : ℕ) → row < rows → 0 < d → d < rows → (row + rows - d) % rows ≢ row
back_apart row rows d l p k is =
    ⊎_elim
    (λ m. let e = back_high row rows d m (omega arith) in omega arith)
    (λ m. let e = back_low row rows d l m in omega arith)
    (cases_lt row d)

pub next_inside : (row rows : ℕ) → row + 1 < rows → (row + 1) % rows ≡ row + 1
next_inside row rows l =
    let e : row + 1 ≡ 0 * rows + (row + 1) = omega arith in
    ap (λ (z : ℕ). z % rows) e ∙ mod-mul-add 0 rows (row + 1) l

pub next_around : (row rows : ℕ) → row < rows → row + 1 ≡ rows → (row + 1) % rows ≡ 0
next_around row rows l is =
    let e : row + 1 ≡ 1 * rows + 0 = omega arith in
    ap (λ (z : ℕ). z % rows) e ∙ mod-mul-add 1 rows 0 (omega arith)

-- after the ring has moved on by a row
moved : (row rows d : ℕ) → row < rows → d < rows → ((row + 1) % rows + rows - suc d) % rows ≡ (row + rows - d) % rows
moved row rows d l k =
    ⊎_elim
    (λ m.
    let e = next_inside row rows m in
    let z : (row + 1) % rows + rows - suc d ≡ row + rows - d = omega arith in
    ap (λ (y : ℕ). y % rows) z)
    (λ m.
    let last : row + 1 ≡ rows = omega arith in
    let e = next_around row rows l last in
    let z : (row + 1) % rows + rows - suc d ≡ 0 * rows + (rows - suc d) = omega arith in
    ap (λ (y : ℕ). y % rows) z ∙ mod-mul-add 0 rows (rows - suc d) (omega arith) ∙ sym (back_low row rows d l (omega arith) ∙ (let w : row - d ≡ rows - suc d = omega arith in w)))
    (cases_lt (row + 1) rows)

-- a result that is set in the current row
module _ (h : Results) (ring : IsRing h) (x v : ℕ) (known : x < h.units) where
  abbrev changed : Results
  changed = record h { words = slice_set h.words (h.row * h.units + x) v }

  pub set_now : result_now changed x ≡ v
  set_now = get_or-set_same h.words (h.row * h.units + x) v 0 (let a = place_below h.row h.rows h.units x ring.within known in let b = ring.long in omega arith)

  pub set_others : (y : ℕ) → y ≢ x → result_now changed y ≡ result_now h y
  set_others y ne = let apart : h.row * h.units + y ≢ h.row * h.units + x = λ e. ne (omega arith) in get_or-set_other h.words (h.row * h.units + x) (h.row * h.units + y) v 0 apart

  set_earlier : (y d : ℕ) → y < h.units → 0 < d → d < h.rows → result_ago changed y d ≡ result_ago h y d
  set_earlier y d l p k =
      get_or-set_other h.words (h.row * h.units + x) ((h.row + h.rows - d) % h.rows * h.units + y) v 0
      (places_apart ((h.row + h.rows - d) % h.rows) h.row h.units y x (back_apart h.row h.rows d ring.within p k) l known)

  pub set_keeps : KeepsRows h changed
  set_keeps = record { units = refl; rows = refl; row = refl; earlier = set_earlier }

pub keeps_all : (h : Results) → KeepsRows h h
keeps_all h = record { units = refl; rows = refl; row = refl; earlier = λ y d l p k. refl }

pub keeps_more : (f g h : Results) → KeepsRows f g → KeepsRows g h → KeepsRows f h
keeps_more f g h first then =
    record {
      units = then.units ∙ first.units;
      rows = then.rows ∙ first.rows;
      row = then.row ∙ first.row;
      earlier = λ y d l p k. let eu = first.units in let er = first.rows in then.earlier y d (omega arith) p (omega arith) ∙ first.earlier y d l p k;
    }

-- the results of the array, in a ring that kept its rows
pub has_kept : (A : Arch) (C : Config) (n : ℕ) (image : Image) (c : ℕ) (old new : Results) → old.units ≡ length A.units → KeepsRows old new → HasResults A C n image c old → HasResults A C n image c new
has_kept A C n image c old new units kept has x d l p k on =
    let er = kept.rows in
    kept.earlier x d (omega arith) p (omega arith) ∙ has x d l p (omega arith) on

-- the next cycle's ring
module _ (h : Results) (ring : IsRing h) where
  abbrev next : Results
  next = record h { row = (h.row + 1) % h.rows }

  pub next_first : (x : ℕ) → result_ago next x 1 ≡ result_now h x
  next_first x =
      let e : ((h.row + 1) % h.rows + h.rows - 1) % h.rows ≡ h.row = moved h.row h.rows 0 ring.within (let w = ring.within in omega arith) ∙ back_low h.row h.rows 0 ring.within (omega arith) ∙ (let z : h.row - 0 ≡ h.row = omega arith in z) in
      ap (λ (r : ℕ). slice_index h.words (r * h.units + x)) e

  pub next_later : (x d : ℕ) → d < h.rows → result_ago next x (d + 1) ≡ result_ago h x d
  next_later x d k =
      let e : d + 1 ≡ suc d = omega arith in
      ap (result_ago next x) e ∙ ap (λ (r : ℕ). slice_index h.words (r * h.units + x)) (moved h.row h.rows d ring.within k)
