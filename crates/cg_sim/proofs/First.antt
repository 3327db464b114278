-- The array of the first 22 operations leaves what that of today leaves.
use Rattle.std.proofs.Common.{◌≡◌, ℕ, zero, suc, ◌+◌, ◌/◌, ◌%◌, ◌<◌, ◌≤◌, Bool, true, false, if◌then◌else◌, List, [], ◌∷◌, ◌++◌, length, Option, Some, None, refl, sym, ap, subst, ◌∙◌, arith, ⊎_elim}
use Rattle.std.specs.Prelude.{slice_index_or}
use Rattle.std.proofs.lemmas.Bool.{cases_lt}
use Rattle.std.proofs.lemmas.List.{get_or_past}
use Rattle.cg_word.specs.declared.op.Op.{Op}
use Rattle.cg_word.specs.declared.op.Op.TheVariants.{LoadIf, StoreIf, OutputIf}
use Rattle.cg_word.specs.Word.{code}
use Rattle.cg_model.specs.declared.config.UnitFields.{UnitFields}
use Rattle.cg_model.specs.Work.{Image, Work, value_by, stored, sent, missed, left}
use Rattle.cg_model.specs.Array.{Arch}
use Rattle.cg_model.specs.Canonical.{IsCanonical}
use Rattle.cg_model.specs.Config.{Config, fields, off}
use Rattle.cg_model.specs.Machine.{State, result_of, memory_after, sent_after, missed_after, memory_by, sent_by_units, missed_by_units, active, begun_by, cycles, words_in, works_in, after_cycle, at_cycle}
use Rattle.cg_pad.proofs.Args.{on}
use Rattle.cg_sim.specs.FirstMachine.{first_value_by, first_stored, first_sent, first_missed, first_result_of, first_memory_after, first_sent_after, first_missed_after, first_memory_by, first_sent_by_units, first_missed_by_units, first_after_cycle, first_at_cycle, first_greatest, IsFirstOp, IsFirst, MachinesAgree}

-- what a unit began does the same in both arrays
record DoesTheSame (o : Option Work) : Type 0 where
  result : (image : Image) (memory : List ℕ) → first_result_of image memory o ≡ result_of image memory o
  memory : (memory : List ℕ) → first_memory_after memory o ≡ memory_after memory o
  sent : (port : ℕ) → first_sent_after port o ≡ sent_after port o
  missed : (size : ℕ) → first_missed_after size o ≡ missed_after size o

same_none : DoesTheSame None
same_none = record { result = λ image memory. refl; memory = λ memory. refl; sent = λ port. refl; missed = λ size. refl }

same_op : (port turn : ℕ) (args : List ℕ) (op : Op) → code op ≤ first_greatest → DoesTheSame (Some (on op port turn args))
unfolding first_value_by first_stored first_sent first_missed value_by stored sent missed
same_op port turn args LoadIf h = absurd (omega arith)
same_op port turn args StoreIf h = absurd (omega arith)
same_op port turn args OutputIf h = absurd (omega arith)
same_op port turn args op h = record { result = λ image memory. refl; memory = λ memory. refl; sent = λ at. refl; missed = λ size. refl }

same_where : (b : Bool) (w : Work) → DoesTheSame (Some w) → DoesTheSame (if b then Some w else None)
same_where true w s = s
same_where false w s = same_none

same_begun : (f : UnitFields) (n round : ℕ) (on_port : ℕ → ℕ) (o : Option Op) → IsFirstOp o → DoesTheSame (begun_by f n round on_port o)
same_begun f n round on_port None h = same_none
same_begun f n round on_port (Some op) h = same_where (active f n round) _ (same_op _ _ _ op h)

-- all units of a cycle
module _ (works : ℕ → Option Work) (same : (x : ℕ) → DoesTheSame (works x)) where
  same_memory : (memory : List ℕ) (x : ℕ) → first_memory_by works memory x ≡ memory_by works memory x
  unfolding first_memory_by memory_by
  same_memory memory zero = refl
  same_memory memory (suc x) = (same x).memory (first_memory_by works memory x) ∙ ap (λ m. memory_after m (works x)) (same_memory memory x)

  same_sent : (port x : ℕ) → first_sent_by_units works port x ≡ sent_by_units works port x
  unfolding first_sent_by_units sent_by_units
  same_sent port zero = refl
  same_sent port (suc x) = λ i. same_sent port x i ++ (same x).sent port i

  same_missed : (size x : ℕ) → first_missed_by_units works size x ≡ missed_by_units works size x
  unfolding first_missed_by_units missed_by_units
  same_missed size zero = refl
  same_missed size (suc x) = λ i. same_missed size x i + (same x).missed size i

-- all cycles
module _ (A : Arch) (C : Config) (n : ℕ) (image : Image) where
  same_after : (c : ℕ) (s : State) (works : ℕ → Option Work) → ((x : ℕ) → DoesTheSame (works x)) → first_after_cycle A C n image c s works ≡ after_cycle A C n image c s works
  same_after c s works same =
      λ i. record {
        past = record { words = words_in A C n image c s.past; results = λ x. (same x).result image s.memory i } ∷ s.past;
        memory = same_memory works same s.memory (length A.units) i;
        streams = λ port. s.streams port ++ same_sent works same port (length A.units) i;
        outside = s.outside + same_missed works same (length s.memory) (length A.units) i;
      }

  same_at : IsFirst C → (c : ℕ) → first_at_cycle A C n image c ≡ at_cycle A C n image c
  unfolding first_at_cycle at_cycle
  same_at is zero = refl
  same_at is (suc c) =
      let low : c % C.ii < C.ii = (let some = is.interval in omega arith) in
      let s = first_at_cycle A C n image c in
      same_after c s (works_in A C n image c s.past) (λ x. same_begun (fields C x (c % C.ii)) n (c / C.ii) _ _ (is.known x (c % C.ii) low))
      ∙ ap (λ (t : State). after_cycle A C n image c t (works_in A C n image c t.past)) (same_at is c)

pub machines_agree : (C : Config) → IsFirst C → MachinesAgree C
machines_agree C is A n image = ap (λ (s : State). left s.memory s.streams s.outside) (same_at A C n image is (cycles C n))

-- past the last unit the fields are off
pub first_of_canonical : (A : Arch) (C : Config) → IsCanonical A C → ((x slot : ℕ) → x < length A.units → slot < C.ii → IsFirstOp (fields C x slot).op) → IsFirst C
first_of_canonical A C good known =
    record {
      interval = good.interval;
      known = λ x slot l. ⊎_elim
          (λ here. known x slot here l)
          (λ past.
          let rows = (good.rows slot l).1 in
          let none : fields C x slot ≡ off = get_or_past (slice_index_or C.units slot []) x off (omega arith) in
          subst (λ (f : UnitFields). IsFirstOp f.op) (sym none) tt)
          (cases_lt x (length A.units));
    }
