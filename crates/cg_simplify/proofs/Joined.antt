-- A load's word stays until a later step of the same turn, where the stores between leave it.
use Rattle.std.proofs.Common.{◌≡◌, ℕ, zero, suc, ◌+◌, ◌-◌, ◌*◌, ◌<◌, ◌≤◌, true, false, List, Some, sym, ap, ◌∙◌, subst, arith, ⊎_elim}
use Rattle.std.specs.Prelude.{slice_index, slice_set}
use Rattle.std.proofs.lemmas.Bool.{and_parts, cases_Bool, cases_lt, cond-true, cond-false, true≢false}
use Rattle.std.proofs.lemmas.List.{get_or-set_other}
use Rattle.cg_word.specs.Word.{address_arg, is_store}
use Rattle.cg_model.specs.Kernel.{Kernel, IsKernel, node, size}
use Rattle.cg_model.specs.Work.{Image, Reaches, Work, Writes, address, last_operand, stored, stores}
use Rattle.cg_model.specs.Turns.{before, val, work, work_of}
use Rattle.cg_overlap.proofs.Memory.{reaches}
use Rattle.cg_overlap.proofs.Sequence.{work_is}
use Rattle.cg_depend.specs.Affine.{pairs}
use Rattle.cg_depend.specs.Gathered.{ask}
use Rattle.cg_depend.proofs.Gaps.{Goes, gap_within}
use Rattle.cg_depend.proofs.Pairs.{arg_runs, pairs_right}
use Rattle.cg_simplify.specs.Joining.{MayJoin}

kept_word : (memory : List ℕ) (w : Work) (a : ℕ) → (Writes w a → ⊥) → slice_index (stored memory w) a ≡ slice_index memory a
unfolding stored
kept_word memory w a never =
    ⊎_elim
    (λ t.
    let parts = and_parts _ _ t in
    ap (λ (m : List ℕ). slice_index m a) (cond-true (stores w) (slice_set memory (address w.op w.args) (last_operand w.op w.args)) memory t)
    ∙ get_or-set_other memory (address w.op w.args) a (last_operand w.op w.args) 0 (λ f. never (record { is = parts.0; acting = parts.1; there = sym f })))
    (λ f. ap (λ (m : List ℕ). slice_index m a) (cond-false (stores w) _ memory f))
    (cases_Bool (stores w))

kept_step : (K : Kernel) (image : Image) (s a : ℕ) → (Writes (work K image s) a → ⊥) → slice_index (before K image (suc s)).memory a ≡ slice_index (before K image s).memory a
unfolding before
kept_step K image s a never = kept_word (before K image s).memory (work K image s) a never

module _ (K : Kernel) (good : IsKernel K) (image : Image) (m n : ℕ) (b : m < n) (ln : n < size K) (loads : is_store (node K m).op ≡ false) (join : MayJoin K m n) (i : ℕ) where
  -- node v reaches the word in this turn
  abbrev Here : ℕ → ℕ → Type 0
  Here v a = Reaches (work_of (node K v) i (val K image)) a

  goes : (v a : ℕ) → Here v a → Goes K v i a
  goes v a r =
      record {
        by_pair = λ p e. let run = arg_runs K image good.wired (pairs K v) v (address_arg (node K v).op) p (pairs_right K image good.wired v) e in (run.small_base, sym r.there ∙ run.at i);
      }

  not_both : (w a : ℕ) → m < w → w < n → is_store (node K w).op ≡ true → Here m a → Here w a → ⊥
  not_both w a l h is rm rw2 =
      let apart = join w l h is in
      let z : i ≡ i + 0 = omega arith in
      let g = gap_within K (ask m w 0) apart.turns a i 0 apart.gap (omega arith) (omega arith) (goes m a rm) (subst (λ (y : ℕ). Goes K w y a) z (goes w a rw2)) in
      let first : g.0 ≡ 0 = let small = g.2 in omega arith in
      apart.later (g.1 ∙ ap (λ (x : ℕ). Some x) first)

  unwritten : (a w : ℕ) → Reaches (work K image (i * size K + m)) a → m ≤ w → w < n → Writes (work K image (i * size K + w)) a → ⊥
  unwritten a w r l h wr =
      let there : Writes (work_of (node K w) i (val K image)) a = subst (λ (x : Work). Writes x a) (work_is K image good.wired i w (omega arith)) wr in
      let first : Here m a = subst (λ (x : Work). Reaches x a) (work_is K image good.wired i m (omega arith)) r in
      ⊎_elim
      (λ (e : m < w). not_both w a e h there.is first (reaches (work_of (node K w) i (val K image)) a there))
      (λ (e : w ≤ m).
      let same : w ≡ m = omega arith in
      let bad : is_store (node K m).op ≡ true = subst (λ (x : ℕ). is_store (node K x).op ≡ true) same there.is in
      true≢false (sym bad ∙ loads))
      (cases_lt m w)

  same_until : (a : ℕ) → Reaches (work K image (i * size K + m)) a → (k : ℕ) → m + k ≤ n → slice_index (before K image (i * size K + (m + k))).memory a ≡ slice_index (before K image (i * size K + m)).memory a
  same_until a r zero l = let e : m + 0 ≡ m = omega arith in ap (λ (x : ℕ). slice_index (before K image (i * size K + x)).memory a) e
  same_until a r (suc k) l =
      let e : i * size K + (m + suc k) ≡ suc (i * size K + (m + k)) = omega arith in
      ap (λ (x : ℕ). slice_index (before K image x).memory a) e
      ∙ kept_step K image (i * size K + (m + k)) a (unwritten a (m + k) r (omega arith) (omega arith))
      ∙ same_until a r k (omega arith)

  pub same_there : (a : ℕ) → Reaches (work K image (i * size K + m)) a → slice_index (before K image (i * size K + n)).memory a ≡ slice_index (before K image (i * size K + m)).memory a
  same_there a r =
      let e : n ≡ m + (n - m) = omega arith in
      ap (λ (x : ℕ). slice_index (before K image (i * size K + x)).memory a) e ∙ same_until a r (n - m) (omega arith)
