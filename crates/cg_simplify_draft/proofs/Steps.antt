-- What the steps of a turn do to the memory, the streams and the count of accesses outside.
use Rattle.std.proofs.Common.{◌≡◌, ℕ, zero, suc, ◌+◌, ◌-◌, ◌*◌, ◌<◌, Bool, true, false, eqb, List, [], length, refl, sym, ap, ◌∙◌, subst, arith, ⊎_elim}
use Rattle.std.specs.Prelude.{◌&&◌}
use Rattle.std.proofs.lemmas.Bool.{cases_lt, cases_Bool, cond-false, le-ltb, lt-ltb, and_parts, and_from, and_left, true≢false}
use Rattle.cg_word.specs.declared.op.Op.{Op}
use Rattle.cg_word.specs.declared.op.Op.TheVariants.{Load, LoadIf, Store, StoreIf}
use Rattle.cg_word.specs.Word.{is_access, is_store, is_output}
use Rattle.cg_model.specs.Work.{Image, Work, acts, value_by, stores, stored, sends, sent, missed}
use Rattle.cg_model.specs.declared.kernel.Operand.{Operand}
use Rattle.cg_model.specs.declared.kernel.Operand.TheVariants.{Const as Constant, Edge}
use Rattle.cg_model.specs.Kernel.{Kernel, IsWired, node, size}
use Rattle.cg_model.specs.Turns.{operand, work_of, before, after, work, val}
use Rattle.cg_model.proofs.Elements.{map_same}
use Rattle.cg_model.proofs.Lengths.{memory_stays}
use Rattle.cg_model.proofs.Sums.{total}
use Rattle.cg_overlap.proofs.Sequence.{IsSound, sound, work_is}

-- ---- one operation

pub value_anywhere : (image : Image) (memory other : List ℕ) (port turn : ℕ) (args : List ℕ) (op : Op) → is_access op ≡ false →
    value_by image memory port turn args op ≡ value_by image other port turn args op
unfolding value_by
value_anywhere image memory other port turn args Load h = absurd (cc)
value_anywhere image memory other port turn args LoadIf h = absurd (cc)
value_anywhere image memory other port turn args _ h = refl

pub access_store : (op : Op) → is_store op ≡ true → is_access op ≡ true
access_store Store h = refl
access_store StoreIf h = refl
access_store _ h = absurd (cc)

pub stored_idle : (w : Work) → stores w ≡ false → (memory : List ℕ) → stored memory w ≡ memory
unfolding stored
stored_idle w h memory = cond-false (stores w) _ memory h

pub stored_other : (w : Work) → is_store w.op ≡ false → (memory : List ℕ) → stored memory w ≡ memory
stored_other w h memory = stored_idle w (and_left _ _ h) memory

-- an output of that port
abbrev pub opens : ℕ → Work → Bool
opens port w = is_output w.op && eqb w.port port

pub opens_sends : (port : ℕ) (w : Work) → sends port w ≡ true → opens port w ≡ true
opens_sends port w t =
    let a = and_parts (is_output w.op) (acts w.op w.args && eqb w.port port) t in
    let b = and_parts (acts w.op w.args) (eqb w.port port) a.1 in
    and_from (is_output w.op) (eqb w.port port) a.0 b.1

pub sent_idle : (port : ℕ) (w : Work) → sends port w ≡ false → sent port w ≡ []
unfolding sent
sent_idle port w h = cond-false (sends port w) _ [] h

pub sent_other : (port : ℕ) (w : Work) → opens port w ≡ false → sent port w ≡ []
sent_other port w h =
    ⊎_elim (λ t. absurd (true≢false (sym (opens_sends port w t) ∙ h))) (λ f. sent_idle port w f) (cases_Bool (sends port w))

-- ---- steps

module _ (K : Kernel) (image : Image) where
  pub next : (k : ℕ) → before K image (suc k) ≡ after image (work K image k) (before K image k)
  unfolding before
  next k = refl

  pub counted : (at q : ℕ) → (before K image (at + q)).outside ≡ (before K image at).outside + total q (λ u. missed (length image.memory) (work K image (at + u)))
  counted at zero = let e = ap (λ k. (before K image k).outside) (let z : at + 0 ≡ at = omega arith in z) in omega arith
  counted at (suc q) =
      ap (λ k. (before K image k).outside) (let z : at + suc q ≡ suc (at + q) = omega arith in z)
      ∙ ap (λ p. p.outside) (next (at + q))
      ∙ ap (λ z. (before K image (at + q)).outside + missed z (work K image (at + q))) (memory_stays K image (at + q))
      ∙ (let e = counted at q in omega arith)

-- ---- operands by words, which agree with the values of earlier steps

earlier_step : (j d m u v : ℕ) → u < m → (d ≡ 0 → u < v) → j * m + u < (j + d) * m + v
earlier_step j zero m u v l h = let h' : u < v = h refl in omega arith
earlier_step j (suc d) m u v l h = omega arith

module _ (L : Kernel) (image : Image) (W : ℕ → ℕ → ℕ) (i v : ℕ) (known : (u j : ℕ) → u < size L → j * size L + u < i * size L + v → val L image u j ≡ W u j) where
  operand_known : (o : Operand) → IsSound (size L) v o → operand (val L image) i o ≡ operand W i o
  operand_known (Constant w) s = refl
  operand_known (Edge u d init) s =
      ⊎_elim (λ a. rw (lt-ltb i d a) refl)
      (λ a.
      let e : i - d + d ≡ i = omega arith in
      let earlier : (i - d) * size L + u < i * size L + v = subst (λ z. (i - d) * size L + u < z * size L + v) e (earlier_step (i - d) d (size L) u v s.0 s.1) in
      rw (le-ltb i d a) (known u (i - d) s.0 earlier))
      (cases_lt i d)

  pub work_known : IsWired L → v < size L → work L image (i * size L + v) ≡ work_of (node L v) i W
  work_known wired l =
      work_is L image wired i v l
      ∙ ap (λ args. record { op = (node L v).op; port = (node L v).port; turn = i; args = args })
      (map_same (operand (val L image) i) (operand W i) (node L v).operands (λ p o h. operand_known o (sound L wired v p o l h)))
