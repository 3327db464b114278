-- The tasks of the first units, unit by unit.
use Rattle.std.proofs.Common.{◌≡◌, ℕ, suc, ◌+◌, ◌<◌, ◌≤◌, true, List, [], ◌∷◌, ◌++◌, None, length, refl, sym, ap, subst, ◌∙◌, arith, ⊎_elim}
use Rattle.std.specs.Prelude.{slice_index_or}
use Rattle.std.proofs.lemmas.Bool.{cases_lt, true≢false}
use Rattle.std.proofs.lemmas.List.{get_or_append_left, get_or_push, length_push}
use Rattle.cg_model.specs.Array.{Arch}
use Rattle.cg_model.specs.Config.{Config, fields}
use Rattle.cg_model.specs.Canonical.{is_on}
use Rattle.cg_origins.specs.declared.tasks.Task.{Task}
use Rattle.cg_origins.specs.Tasks.{AreTasks, IsTask, source_at, task}
use Rattle.cg_origins.proofs.Operands.{operand_later}

-- a task stays one at more rows
pub task_later : (A : Arch) (C : Config) (slot rows rows' : ℕ) (t : Task) → rows ≤ rows' → IsTask A C slot rows t → IsTask A C slot rows' t
task_later A C slot rows rows' t more is =
    record {
      known = is.known;
      op = is.op;
      port = is.port;
      stage = is.stage;
      operands = λ p l. operand_later A C slot t.unit p t.warm rows t.warm rows' (source_at t p) (omega arith) more (is.operands p l);
      rest = is.rest;
    }

-- tasks stay the tasks of a slot at more rows
pub tasks_later : (A : Arch) (C : Config) (slot rows rows' : ℕ) (ts : List Task) → rows ≤ rows' → AreTasks A C slot rows ts → AreTasks A C slot rows' ts
tasks_later A C slot rows rows' ts more are =
    record {
      each = λ j l. task_later A C slot rows rows' (task ts j) more (are.each j l);
      rising = are.rising;
      all = are.all;
    }

-- the tasks of the first m units that are on in the slot
pub record AreTasksBelow (A : Arch) (C : Config) (slot rows m : ℕ) (ts : List Task) : Type 0 where
  pub each : (j : ℕ) → j < length ts → IsTask A C slot rows (task ts j)
  pub below : (j : ℕ) → j < length ts → (task ts j).unit < m
  pub rising : (j : ℕ) → suc j < length ts → (task ts j).unit < (task ts (suc j)).unit
  pub all : (x : ℕ) → x < m → is_on (fields C x slot).op ≡ true → (j : ℕ) × (j < length ts) × ((task ts j).unit ≡ x)

-- tasks that are equal to tasks of these rows are tasks of these rows
pub tasks_same : (A : Arch) (C : Config) (slot rows rows' m : ℕ) (ts ts' : List Task) → rows' ≡ rows → ts' ≡ ts → AreTasksBelow A C slot rows m ts → AreTasksBelow A C slot rows' m ts'
tasks_same A C slot rows rows' m ts ts' er et are =
    subst (λ (z : ℕ). AreTasksBelow A C slot z m ts') (sym er) (subst (λ (z : List Task). AreTasksBelow A C slot rows m z) (sym et) are)

pub tasks_none : (A : Arch) (C : Config) (slot rows : ℕ) → AreTasksBelow A C slot rows 0 []
tasks_none A C slot rows =
    record {
      each = λ j l. absurd (omega arith);
      below = λ j l. absurd (omega arith);
      rising = λ j l. absurd (omega arith);
      all = λ x l on. absurd (omega arith);
    }

-- a unit that is off adds no task
pub tasks_skip : (A : Arch) (C : Config) (slot rows m : ℕ) (ts : List Task) → (fields C m slot).op ≡ None → AreTasksBelow A C slot rows m ts → AreTasksBelow A C slot rows (m + 1) ts
tasks_skip A C slot rows m ts off are =
    record {
      each = are.each;
      below = (λ j l. let b = are.below j l in omega arith);
      rising = are.rising;
      all = λ x l on. ⊎_elim (λ b. are.all x b on) (λ b. let e : x ≡ m = omega arith in absurd (true≢false (sym on ∙ ap (λ z. is_on (fields C z slot).op) e ∙ ap is_on off))) (cases_lt x m);
    }

-- a unit that is on adds its task
module _ (A : Arch) (C : Config) (slot rows m : ℕ) (ts : List Task) (t : Task) where
  old_task : (j : ℕ) → j < length ts → task (ts ++ t ∷ []) j ≡ task ts j
  old_task j l = get_or_append_left ts (t ∷ []) _ j l

  last_task : (j : ℕ) → j ≡ length ts → task (ts ++ t ∷ []) j ≡ t
  last_task j e = get_or_push ts t _ j (sym e)

  each_task : (P : Task → Type 0) → ((j : ℕ) → j < length ts → P (task ts j)) → P t → (j : ℕ) → j < length (ts ++ t ∷ []) → P (task (ts ++ t ∷ []) j)
  each_task P old last j l =
      let long = length_push ts t in
      ⊎_elim (λ b. subst P (sym (old_task j b)) (old j b)) (λ b. subst P (sym (last_task j (omega arith))) last) (cases_lt j (length ts))

  pub tasks_more : (rows' : ℕ) → rows ≤ rows' → IsTask A C slot rows' t → t.unit ≡ m → AreTasksBelow A C slot rows m ts → AreTasksBelow A C slot rows' (m + 1) (ts ++ t ∷ [])
  tasks_more rows' more is own are =
      let long = length_push ts t in
      record {
        each = each_task (IsTask A C slot rows') (λ j l. task_later A C slot rows rows' (task ts j) more (are.each j l)) is;
        below = each_task (λ z. z.unit < m + 1) (λ j l. let b = are.below j l in omega arith) (omega arith);
        rising = λ j l.
            let first : (task (ts ++ t ∷ []) j).unit ≡ (task ts j).unit = ap (λ (z : Task). z.unit) (old_task j (omega arith)) in
            ⊎_elim
            (λ b.
            let second : (task (ts ++ t ∷ []) (suc j)).unit ≡ (task ts (suc j)).unit = ap (λ (z : Task). z.unit) (old_task (suc j) b) in
            let r = are.rising j b in
            omega arith)
            (λ b.
            let second : (task (ts ++ t ∷ []) (suc j)).unit ≡ t.unit = ap (λ (z : Task). z.unit) (last_task (suc j) (omega arith)) in
            let r = are.below j (omega arith) in
            omega arith)
            (cases_lt (suc j) (length ts));
        all = λ x l on.
            ⊎_elim
            (λ b. let (j, inside, its) = are.all x b on in (j, omega arith, ap (λ (z : Task). z.unit) (old_task j inside) ∙ its))
            (λ b. (length ts, omega arith, ap (λ (z : Task). z.unit) (last_task (length ts) refl) ∙ own ∙ omega arith))
            (cases_lt x m);
      }

-- the tasks of all units
pub tasks_all : (A : Arch) (C : Config) (slot rows m : ℕ) (ts : List Task) → length A.units ≤ m → AreTasksBelow A C slot rows m ts → AreTasks A C slot rows ts
tasks_all A C slot rows m ts whole are =
    record {
      each = are.each;
      rising = are.rising;
      all = λ x l on. are.all x (omega arith) on;
    }

-- the tasks of the first n slots and one more
pub slots_more : (A : Arch) (C : Config) (n rows rows' : ℕ) (slots : List (List Task)) (ts : List Task) → length slots ≡ n → rows ≤ rows' →
    ((slot : ℕ) → slot < n → AreTasks A C slot rows (slice_index_or slots slot [])) → AreTasks A C n rows' ts →
    (slot : ℕ) → slot < n + 1 → AreTasks A C slot rows' (slice_index_or (slots ++ ts ∷ []) slot [])
slots_more A C n rows rows' slots ts long more each one slot l =
    ⊎_elim
    (λ b.
    subst (λ (z : List Task). AreTasks A C slot rows' z) (sym (get_or_append_left slots (ts ∷ []) [] slot (omega arith)))
    (tasks_later A C slot rows rows' _ more (each slot b)))
    (λ b.
    let e : n ≡ slot = omega arith in
    subst (λ (z : ℕ). AreTasks A C z rows' (slice_index_or (slots ++ ts ∷ []) z [])) e
    (subst (λ (z : List Task). AreTasks A C n rows' z) (sym (get_or_push slots ts [] n long)) one))
    (cases_lt slot n)
