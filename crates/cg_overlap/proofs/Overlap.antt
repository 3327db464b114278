-- The overlap theorem.
use Rattle.std.proofs.Common.{◌≡◌, ℕ, ◌+◌, ◌*◌, ◌<◌, length, Some, sym, ap, ◌∙◌, subst₂, arith}
use mathlib.Core.Path.{fun_ext}
use Rattle.cg_model.specs.Work.{Image, Work, left}
use Rattle.cg_model.specs.declared.kernel.Operand.TheVariants.{Edge}
use Rattle.cg_model.specs.Kernel.{Kernel, IsKernel, size}
use Rattle.cg_model.specs.Turns.{val, work, turns}
use Rattle.cg_model.specs.Order.{IsUnaliased, HasNoAccess}
use Rattle.std.proofs.Common.{◌%◌}
use Rattle.std.proofs.lemmas.Nat.{mod_below}
use Rattle.std.proofs.lemmas.Bool.{true≢false}
use Rattle.cg_model.specs.Array.{Arch, IsArch}
use Rattle.cg_model.specs.Mapping.{Mapping, Begins, place, IsLegal}
use Rattle.cg_model.specs.Configured.{configuration_of}
use Rattle.cg_model.specs.Machine.{begins, result, machine}
use Rattle.cg_model.specs.Overlap.{Follows, LeavesTheSame}
use Rattle.cg_overlap.proofs.Sequence.{positive_from}
use Rattle.cg_overlap.proofs.Travel.{carried}
use Rattle.cg_overlap.proofs.Starts.{started}
use Rattle.cg_overlap.proofs.Induction.{right, begun_right}
use Rattle.cg_overlap.proofs.Ends.{memory_left}
use Rattle.cg_overlap.proofs.Streams.{stream_left}
use Rattle.cg_overlap.proofs.Misses.{outside_left}
use Rattle.cg_model.proofs.Mappings.{operand_within}

module _ (A : Arch) (K : Kernel) (M : Mapping) (n : ℕ) (image : Image) (is : IsArch A) (good : IsKernel K) (legal : IsLegal A K M) (unaliased : IsUnaliased K n image) where
  value_of : (v i : ℕ) → v < size K → i < n → result A (configuration_of A K M) n image (place M v).unit ((place M v).time + i * M.ii) ≡ val K image v i
  value_of v i lv li = let c = (place M v).time + i * M.ii + 1 in right A K M n image is good legal unaliased c v i lv li (omega arith)

  pub follows : Follows A K M n image
  follows =
      record {
        on_resources = λ r c v i h li. carried A K M n image is legal (λ v p u d init o. good.wired.sources v p u d init (operand_within K v p (Edge u d init) o) o) (val K image) r c v i (λ u lu. value_of u i lu li) h;
        in_units = λ x c v i h li.
            subst₂ (λ x t. begins A (configuration_of A K M) n image x t ≡ Some (work K image (i * size K + v))) h.1 (sym h.2)
            (begun_right A K M n image is good legal ((place M v).time + i * M.ii) (right A K M n image is good legal unaliased ((place M v).time + i * M.ii)) v i h.0 li (omega arith));
        of_units = λ x c v i h li. subst₂ (λ x t. result A (configuration_of A K M) n image x t ≡ val K image v i) h.1 (sym h.2) (value_of v i h.0 li);
      }

  pub leaves_the_same : LeavesTheSame A K M n image
  leaves_the_same =
      let C = configuration_of A K M in
      let streams = fun_ext (stream_left A K M n image is good legal unaliased) in
      record {
        memory = memory_left A K M n image is good legal unaliased;
        streams = stream_left A K M n image is good legal unaliased;
        outside = outside_left A K M n image is good legal unaliased;
        all = ap (λ z. left z (machine A C n image).streams (machine A C n image).outside) (memory_left A K M n image is good legal unaliased)
            ∙ ap (λ z. left (turns K n image).memory z (machine A C n image).outside) streams
            ∙ ap (left (turns K n image).memory (turns K n image).streams) (outside_left A K M n image is good legal unaliased);
      }

-- what a unit begins is a node's in one of the n turns
pub begins_only : (A : Arch) (K : Kernel) (M : Mapping) (n : ℕ) (image : Image) → IsLegal A K M → (x c : ℕ) (w : Work) → x < length A.units → begins A (configuration_of A K M) n image x c ≡ Some w →
    (v : ℕ) × (i : ℕ) × (i < n) × Begins K M x c v i
begins_only A K M n image legal x c w l e = let (v, i, lv, li, at, ct) = started A K M n image x c w legal.interval l e in (v, i, li, (lv, at, ct))

-- where no node reaches the scratchpad, nothing is asked of the image
pub unaliased_without : (K : Kernel) (n : ℕ) (image : Image) → HasNoAccess K → IsUnaliased K n image
unaliased_without K n image never a k l la lt b rk rl s = absurd (true≢false (sym rl.is ∙ never (l % size K) (mod_below l (size K) (positive_from l n (size K) b))))

module _ (A : Arch) (K : Kernel) (M : Mapping) (n : ℕ) (image : Image) (is : IsArch A) (good : IsKernel K) (legal : IsLegal A K M) (never : HasNoAccess K) where
  pub follows_alone : Follows A K M n image
  follows_alone = follows A K M n image is good legal (unaliased_without K n image never)

  pub leaves_alone : LeavesTheSame A K M n image
  leaves_alone = leaves_the_same A K M n image is good legal (unaliased_without K n image never)
