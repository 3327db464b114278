-- The units between two tasks are off.
use Rattle.std.proofs.Common.{◌≡◌, ℕ, zero, suc, ◌+◌, ◌-◌, ◌/◌, ◌%◌, ◌<◌, ◌≤◌, true, List, length, Option, Some, None, refl, ap, ◌∙◌, subst, arith, ⊎_elim}
use Rattle.std.proofs.lemmas.Bool.{cases_lt}
use Rattle.cg_word.specs.declared.op.Op.{Op}
use Rattle.cg_model.specs.Array.{Arch}
use Rattle.cg_model.specs.Config.{Config, fields}
use Rattle.cg_model.specs.Canonical.{is_on}
use Rattle.cg_model.specs.Work.{Image, Work}
use Rattle.cg_model.specs.Machine.{begins, begun_by}
use Rattle.cg_datapath.specs.Effects.{BeginsAll}
use Rattle.cg_datapath.specs.declared.effects.Effects.{Effects}
use Rattle.cg_datapath.proofs.Begun.{begins_by, begins_nothing}
use Rattle.cg_datapath.proofs.EachUnit.{begins_more}
use Rattle.cg_origins.specs.Tasks.{AreTasks, task}
use Rattle.cg_origins.specs.declared.tasks.Task.{Task}

-- the number of the first unit after those of the first j tasks
abbrev pub next_unit : List Task → ℕ → ℕ
next_unit ts zero = 0
next_unit ts (suc j) = suc (task ts j).unit

pub next_more : (ts : List Task) (j : ℕ) → next_unit ts (j + 1) ≡ (task ts j).unit + 1
next_more ts j = let e : j + 1 ≡ suc j = omega arith in ap (next_unit ts) e ∙ (let z : suc (task ts j).unit ≡ (task ts j).unit + 1 = omega arith in z)

off_by : (o : Option Op) → (is_on o ≡ true → ⊥) → o ≡ None
off_by None h = refl
off_by (Some op) h = absurd (h refl)

module _ (A : Arch) (C : Config) (slot rows : ℕ) (ts : List Task) (are : AreTasks A C slot rows ts) where
  -- later tasks are those of later units
  apart : (i k : ℕ) → suc (i + k) < length ts → (task ts i).unit < (task ts (suc (i + k))).unit
  apart i zero l = let e : i + zero ≡ i = omega arith in rw e (are.rising i (omega arith))
  apart i (suc k) l =
      let e : i + suc k ≡ suc (i + k) = omega arith in
      let a = apart i k (omega arith) in
      let b = are.rising (suc (i + k)) (omega arith) in
      rw e (omega arith)

  pub rises : (i j : ℕ) → i < j → j < length ts → (task ts i).unit < (task ts j).unit
  rises i j l m = let e : suc (i + (j - suc i)) ≡ j = omega arith in subst (λ (z : ℕ). (task ts i).unit < (task ts z).unit) e (apart i (j - suc i) (omega arith))

  pub next_within : (j : ℕ) → j < length ts → next_unit ts j ≤ (task ts j).unit
  next_within zero l = omega arith
  next_within (suc j) l = are.rising j l

  pub next_below : (j : ℕ) → j ≤ length ts → next_unit ts j ≤ length A.units
  next_below zero l = omega arith
  next_below (suc j) l = (are.each j l).known

  -- a unit between is off
  between : (j y : ℕ) → j ≤ length ts → next_unit ts j ≤ y → (j < length ts → y < (task ts j).unit) → y < length A.units → is_on (fields C y slot).op ≡ true → ⊥
  between j y few from to known on =
      let (i, within, is) = are.all y known on in
      ⊎_elim
      (λ l. let a = before i j l few in let b : next_unit ts j ≤ y = from in omega arith)
      (λ l. ⊎_elim
      (λ k. let a = rises j i k within in let b = to (omega arith) in omega arith)
      (λ k. let e : i ≡ j = omega arith in let a : y < (task ts j).unit = to (omega arith) in let b : (task ts j).unit ≡ y = subst (λ (z : ℕ). (task ts z).unit ≡ y) e is in omega arith)
      (cases_lt j i))
      (cases_lt i j)
    where
      before : (i j : ℕ) → i < j → j ≤ length ts → (task ts i).unit < next_unit ts j
      before i zero l m = absurd (omega arith)
      before i (suc j) l m =
          ⊎_elim
          (λ k. let a = rises i j k (omega arith) in omega arith)
          (λ k. let e : i ≡ j = omega arith in let same : (task ts i).unit ≡ (task ts j).unit = ap (λ (z : ℕ). (task ts z).unit) e in omega arith)
          (cases_lt i j)

  module _ (n : ℕ) (image : Image) (c : ℕ) (at : c % C.ii ≡ slot) where
    abbrev works : ℕ → Option Work
    works = λ x. begins A C n image x c

    idle : (y : ℕ) → (is_on (fields C y slot).op ≡ true → ⊥) → works y ≡ None
    idle y off =
        let none : (fields C y (c % C.ii)).op ≡ None = ap (λ (s : ℕ). (fields C y s).op) at ∙ off_by (fields C y slot).op off in
        ap (begun_by (fields C y (c % C.ii)) n (c / C.ii) _) none

    over : (e f : Effects) (x k : ℕ) → BeginsAll image works x e f → ((y : ℕ) → x ≤ y → y < x + k → works y ≡ None) → BeginsAll image works (x + k) e f
    over e f x zero all none = let z : x ≡ x + zero = omega arith in subst (λ (y : ℕ). BeginsAll image works y e f) z all
    over e f x (suc k) all none =
        let z : x + k + 1 ≡ x + suc k = omega arith in
        subst (λ (y : ℕ). BeginsAll image works y e f) z
        (begins_more image works (x + k) e f f 0 (over e f x k all (λ y l m. none y l (omega arith)))
        (begins_by image (works (x + k)) None f f 0 (none (x + k) (omega arith) (omega arith)) (begins_nothing image f)))

    -- up to the next task's unit
    pub up_to : (e f : Effects) (j : ℕ) → j < length ts → (task ts j).unit < length A.units → BeginsAll image works (next_unit ts j) e f → BeginsAll image works (task ts j).unit e f
    up_to e f j l known all =
        let below = next_within j l in
        let z : next_unit ts j + ((task ts j).unit - next_unit ts j) ≡ (task ts j).unit = omega arith in
        subst (λ (y : ℕ). BeginsAll image works y e f) z
        (over e f (next_unit ts j) ((task ts j).unit - next_unit ts j) all
        (λ y from to. idle y (between j y (omega arith) from (λ m. omega arith) (omega arith))))

    -- and after the last one up to the last unit
    pub to_end : (e f : Effects) (j : ℕ) → j ≡ length ts → next_unit ts j ≤ length A.units → BeginsAll image works (next_unit ts j) e f → BeginsAll image works (length A.units) e f
    to_end e f j l below all =
        let z : next_unit ts j + (length A.units - next_unit ts j) ≡ length A.units = omega arith in
        subst (λ (y : ℕ). BeginsAll image works y e f) z
        (over e f (next_unit ts j) (length A.units - next_unit ts j) all
        (λ y from to. idle y (between j y (omega arith) from (λ m. absurd (omega arith)) (omega arith))))
