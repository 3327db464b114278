-- The bits of a mapping's configuration, and what their run does.
use Rattle.std.proofs.Common.{◌≡◌, ℕ, ◌<◌, List, [], length, map, Ok, Some, refl, sym, ap, subst, ◌∙◌, arith}
use Rattle.std.specs.Prelude.{slice_index_or, replicate}
use Rattle.std.specs.List.{range_with_len}
use Rattle.std.proofs.lemmas.List.{get_or-replicate}
use Rattle.std.proofs.lemmas.List.FromFn.{get_or-map-range_with_len}
use Rattle.cg_model.specs.Work.{Image, Work}
use Rattle.cg_model.specs.Kernel.{Kernel, size}
use Rattle.cg_model.specs.Array.{Arch, IsArch}
use Rattle.cg_model.specs.Mapping.{Mapping, IsLegal, Begins, positions}
use Rattle.cg_model.specs.Config.{Config, select, fields, off}
use Rattle.cg_model.specs.Configured.{configuration_of, select_in, node_on, fields_by}
use Rattle.cg_model.specs.Canonical.{IsCanonical}
use Rattle.cg_model.specs.Machine.{begins}
use Rattle.cg_model.specs.Overlap.{Follows, LeavesTheSame}
use Rattle.cg_arch.specs.Kept.{digest_of}
use Rattle.cg_bits.specs.Answers.{answer_of, faults_of, config_of, unless_fault}
use Rattle.cg_bits.specs.Spelling.{AreBits}
use Rattle.cg_bits.proofs.Answered.{none_of, config_is}
use Rattle.cg_emit.specs.Building.{HasNodes, with_positions}
use Rattle.cg_emit.specs.Emitted.{DoesTurns}
use Rattle.cg_emit.proofs.Selected.{HasSelects, selects_of, becomes, interval_kept, units_kept}
use Rattle.cg_emit.proofs.Whole.{same_config}

-- ---- what is built is the configuration

module _ (A : Arch) (K : Kernel) (M : Mapping) where
  interval_of : (configuration_of A K M).ii ≡ M.ii
  unfolding configuration_of
  interval_of = refl

  select_of : (r slot : ℕ) → r < length A.resources → slot < M.ii → select (configuration_of A K M) r slot ≡ select_in A M.ii r slot (positions A K M)
  unfolding configuration_of
  select_of r slot lt in_time =
      ap (λ row. slice_index_or row r 0) (get_or-map-range_with_len (λ i. map (λ q. select_in A M.ii q i (positions A K M)) (range_with_len 0 (length A.resources))) 0 M.ii slot slot [] in_time (omega arith))
      ∙ get_or-map-range_with_len (λ q. select_in A M.ii q slot (positions A K M)) 0 (length A.resources) r r 0 lt (omega arith)

  fields_of : (x slot : ℕ) → x < length A.units → slot < M.ii → fields (configuration_of A K M) x slot ≡ fields_by K M (node_on M x slot (size K))
  unfolding configuration_of
  fields_of x slot lt in_time =
      ap (λ row. slice_index_or row x off) (get_or-map-range_with_len (λ i. map (λ y. fields_by K M (node_on M y i (size K))) (range_with_len 0 (length A.units))) 0 M.ii slot slot [] in_time (omega arith))
      ∙ get_or-map-range_with_len (λ y. fields_by K M (node_on M y slot (size K))) 0 (length A.units) x x off lt (omega arith)

  -- the configuration that has the nodes' fields, and then the positions' selects
  module _ (legal : IsLegal A K M) (C D : Config) (before : IsCanonical A C) (after : IsCanonical A D) (nodes : HasNodes A K M C (size K))
      (idle : C.selects ≡ replicate M.ii (replicate (length A.resources) 0)) (is : D ≡ with_positions A (positions A K M) C) where
    ii_is : D.ii ≡ M.ii
    ii_is = ap (λ (z : Config). z.ii) is ∙ interval_kept A (positions A K M) C ∙ nodes.interval

    unset : (r slot : ℕ) → r < length A.resources → slot < M.ii → select C r slot ≡ 0
    unset r slot lt in_time =
        ap (λ rows. slice_index_or (slice_index_or rows slot []) r 0) idle
        ∙ ap (λ xs. slice_index_or xs r 0) (get_or-replicate M.ii slot (replicate (length A.resources) 0) [] in_time) ∙ get_or-replicate (length A.resources) r 0 0 lt

    select_is : (r slot : ℕ) → r < length A.resources → slot < M.ii → select D r slot ≡ select (configuration_of A K M) r slot
    select_is r slot lt in_time =
        ap (λ z. select z r slot) is
        ∙ becomes A M.ii legal.interval r slot lt in_time (positions A K M) C (subst (λ z. HasSelects A z C) nodes.interval (selects_of A C before)) (unset r slot lt in_time)
        (λ p q m n a b c d. legal.one_way p q m n (a ∙ sym b) (c ∙ sym d))
        ∙ sym (select_of r slot lt in_time)

    fields_are : (x slot : ℕ) → x < length A.units → slot < M.ii → fields D x slot ≡ fields (configuration_of A K M) x slot
    fields_are x slot lt in_time =
        ap (λ z. fields z x slot) is ∙ ap (λ rows. slice_index_or (slice_index_or rows slot []) x off) (units_kept A (positions A K M) C)
        ∙ nodes.asked x slot lt in_time ∙ sym (fields_of x slot lt in_time)

    pub built : IsCanonical A (configuration_of A K M) → D ≡ configuration_of A K M
    built right =
        same_config A D (configuration_of A K M) after right (ii_is ∙ sym interval_of)
        (λ r slot lt in_time. select_is r slot lt (let e = ii_is in omega arith)) (λ x slot lt in_time. fields_are x slot lt (let e = ii_is in omega arith))

-- ---- what is read

no_fault_answered : {X : Type 0} (x y : X) (A : Arch) (bytes : List ℕ) → faults_of A bytes ≡ [] → x ≡ y → unless_fault (faults_of A bytes) x ≡ Ok y
no_fault_answered x y A bytes none same = ap (λ z. unless_fault z x) none ∙ ap (λ z. Ok z) same

pub is_read : (A : Arch) (C : Config) (bytes : List ℕ) → IsArch A → length (digest_of A) ≡ 32 → AreBits A C bytes → answer_of A bytes ≡ Ok C
is_read A C bytes valid sized bits = no_fault_answered (config_of A bytes) C A bytes (none_of A C bytes valid sized bits) (config_is A C bytes valid sized bits)

pub one_config : (A : Arch) (C D : Config) (bytes : List ℕ) → IsArch A → length (digest_of A) ≡ 32 → AreBits A C bytes → AreBits A D bytes → C ≡ D
one_config A C D bytes valid sized c d = sym (config_is A C bytes valid sized c) ∙ config_is A D bytes valid sized d

-- ---- what the run does

abbrev pub BeginsOnly : Arch → Kernel → Mapping → ℕ → Image → Type 0
BeginsOnly A K M n image =
    (x c : ℕ) (w : Work) → x < length A.units → begins A (configuration_of A K M) n image x c ≡ Some w →
    (v : ℕ) × (i : ℕ) × (i < n) × Begins K M x c v i

pub does_turns : (A : Arch) (K : Kernel) (M : Mapping) (C : Config) (n : ℕ) (image : Image) → configuration_of A K M ≡ C →
    Follows A K M n image → BeginsOnly A K M n image → LeavesTheSame A K M n image → DoesTurns A K M C n image
does_turns A K M C n image same follows only leaves =
    subst (λ z. DoesTurns A K M z n image) same
    (record {
      words = follows.on_resources;
      starts = follows.in_units;
      results = follows.of_units;
      nothing_else = only;
      memory = leaves.memory;
      streams = leaves.streams;
      outside = leaves.outside;
      all = leaves.all;
    })
