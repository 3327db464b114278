-- Each stream is written by one node, in the order of turns, by the array as by the turns.
use Rattle.std.proofs.Common.{true, eqb-true, subst, ◌≡◌, ℕ, zero, suc, ◌+◌, ◌*◌, ◌/◌, ◌%◌, ◌<◌, List, [], ◌++◌, length, Option, Some, None, refl, sym, ap, ◌∙◌, subst₂, arith, ⊎_elim, inl, inr, append-nil}
use Rattle.std.specs.Prelude.{◌⊎◌}
use Rattle.std.proofs.lemmas.Bool.{cases_lt, cases_eq, cases_Bool, cond-false, and_parts, true≢false}
use Rattle.std.proofs.lemmas.Nat.{mod_below}
use Rattle.cg_word.specs.declared.op.Op.{Op}
use Rattle.cg_word.specs.Word.{is_output}
use Rattle.cg_model.specs.Work.{Image, Work, sends, sent}
use Rattle.cg_model.specs.Kernel.{Kernel, IsKernel, node, size}
use Rattle.cg_model.specs.Turns.{before, turns, work}
use Rattle.cg_model.specs.Order.{IsUnaliased}
use Rattle.cg_model.specs.Array.{Arch, IsArch}
use Rattle.cg_model.specs.Mapping.{Mapping, place, IsLegal}
use Rattle.cg_model.specs.Configured.{configuration_of}
use Rattle.cg_model.specs.Machine.{sent_after, sent_by_units, at_cycle, begins, machine, cycles}
use Rattle.cg_overlap.proofs.Appends.{first, appended}
use Rattle.cg_overlap.proofs.Sequence.{step_node, step_within, step_of, turn_below, positive_from}
use Rattle.cg_overlap.proofs.Starts.{started}
use Rattle.cg_overlap.proofs.Induction.{right, begun_right}
use Rattle.cg_overlap.proofs.Ends.{within_run}

-- an operation that is no output of a port sends nothing there
abbrev pub Sends : ℕ → ℕ → Op → Type 0
Sends port at op = (is_output op ≡ true) × (at ≡ port)

silent : (port : ℕ) (w : Work) → (Sends port w.port w.op → ⊥) → sent port w ≡ []
unfolding sent
silent port w h =
    ⊎_elim (λ t. let (a, b) = and_parts _ _ t in let (c, d) = and_parts _ _ b in absurd (h (a, eqb-true _ _ d)))
    (λ f. cond-false (sends port w) _ _ f) (cases_Bool (sends port w))

append_none : (xs ys zs : List ℕ) → zs ≡ [] → xs ≡ ys → xs ++ zs ≡ ys
append_none xs ys zs e f = rw e (append-nil xs ∙ f)

-- the units of one cycle
none_after : (port : ℕ) (o : Option Work) → ((w : Work) → o ≡ Some w → Sends port w.port w.op → ⊥) → sent_after port o ≡ []
none_after port None h = refl
none_after port (Some w) h = silent port w (h w refl)

pub none_by_units : (works : ℕ → Option Work) (port x : ℕ) → ((u : ℕ) (w : Work) → u < x → works u ≡ Some w → Sends port w.port w.op → ⊥) → sent_by_units works port x ≡ []
unfolding sent_by_units
none_by_units works port zero h = refl
none_by_units works port (suc x) h =
    rw (none_by_units works port x (λ u w b. h u w (omega arith)), none_after port (works x) (λ w. h x w (omega arith))) refl

pub one_by_units : (works : ℕ → Option Work) (port x u : ℕ) (w : Work) → u < x → works u ≡ Some w →
    ((y : ℕ) (v : Work) → y < x → works y ≡ Some v → Sends port v.port v.op → y ≡ u) → sent_by_units works port x ≡ sent port w
unfolding sent_by_units
one_by_units works port zero u w l e alone = absurd (omega arith)
one_by_units works port (suc x) u w l e alone =
    ⊎_elim
    (λ b.
    let rest : sent_after port (works x) ≡ [] = none_after port (works x) (λ v f s. let z = alone x v (omega arith) f s in omega arith) in
    append_none (sent_by_units works port x) (sent port w) (sent_after port (works x)) rest (one_by_units works port x u w b e (λ (y : ℕ) (v : Work) (c : y < x). alone y v (omega arith))))
    (λ b.
    let z : x ≡ u = omega arith in
    let before' : sent_by_units works port x ≡ [] = none_by_units works port x (λ y v c f s. let q = alone y v (omega arith) f s in omega arith) in
    rw before' (ap (sent_after port) (ap works z ∙ e)))
    (cases_lt u x)

-- the node that writes a port, if there is one
sends_cases : (port at : ℕ) (op : Op) → Sends port at op ⊎ (Sends port at op → ⊥)
sends_cases port at op =
    ⊎_elim (λ t. ⊎_elim (λ e. inl (t, e)) (λ e. inr (λ h. e h.1)) (cases_eq at port))
    (λ f. inr (λ h. true≢false (sym h.0 ∙ f))) (cases_Bool (is_output op))

writer : (K : Kernel) (port m : ℕ) → ((v : ℕ) × (v < m) × Sends port (node K v).port (node K v).op) ⊎ ((v : ℕ) → v < m → Sends port (node K v).port (node K v).op → ⊥)
writer K port zero = inr (λ v l. absurd (omega arith))
writer K port (suc m) =
    ⊎_elim (λ h. inl (h.0, omega (arith, h.1), h.2))
    (λ h.
    ⊎_elim (λ a. inl (m, omega arith, a))
    (λ a. inr (λ v l c. ⊎_elim (λ e. h v e c) (λ e. let z : v ≡ m = omega arith in a (subst (λ y. Sends port (node K y).port (node K y).op) z c)) (cases_lt v m)))
    (sends_cases port (node K m).port (node K m).op))
    (writer K port m)

-- the steps of n turns
module _ (K : Kernel) (n : ℕ) (image : Image) (good : IsKernel K) (port : ℕ) where
  -- what node v sends in turn i
  abbrev item : ℕ → ℕ → List ℕ
  item v i = sent port (work K image (i * size K + v))

  written_turns : (v : ℕ) → v < size K → Sends port (node K v).port (node K v).op → (turns K n image).streams port ≡ first (item v) n
  unfolding before
  written_turns v l sends =
      appended (λ k. (before K image k).streams port) v (size K) n (n * size K) (item v) (omega arith) refl
      (λ i li. let e : v + i * size K ≡ i * size K + v = omega arith in ap (λ k. (before K image (v + i * size K)).streams port ++ sent port (work K image k)) e)
      (λ c lc h.
      append_none ((before K image c).streams port) _ (sent port (work K image c))
      (silent port (work K image c) (λ s.
      let z : c % size K ≡ v = good.one_output (c % size K) v (mod_below c (size K) (positive_from c n (size K) lc)) l s.0 sends.0 (s.1 ∙ sym sends.1) in
      h (c / size K) (turn_below c n (size K) lc) (let y = step_of c (size K) in omega arith)))
      refl)
      (λ i li. let z = step_within i (size K) v n l li in omega arith)

  silent_turns : ((v : ℕ) → v < size K → Sends port (node K v).port (node K v).op → ⊥) → (turns K n image).streams port ≡ []
  unfolding before
  silent_turns none =
      appended (λ k. (before K image k).streams port) 0 1 0 (n * size K) (λ i. []) (omega arith) refl (λ i li. absurd (omega arith))
      (λ c lc h. append_none ((before K image c).streams port) _ (sent port (work K image c))
      (silent port (work K image c) (none (c % size K) (mod_below c (size K) (positive_from c n (size K) lc)))) refl)
      (λ i li. absurd (omega arith))

module _ (A : Arch) (K : Kernel) (M : Mapping) (n : ℕ) (image : Image) (is : IsArch A) (good : IsKernel K) (legal : IsLegal A K M) (unaliased : IsUnaliased K n image) (port : ℕ) where
  -- an operation that a unit begins is a node's, in a turn
  begun_node : (u c : ℕ) (w : Work) → u < length A.units → begins A (configuration_of A K M) n image u c ≡ Some w →
      (v : ℕ) × (i : ℕ) × (v < size K) × (i < n) × ((place M v).unit ≡ u) × (c ≡ (place M v).time + i * M.ii) × (w.op ≡ (node K v).op) × (w.port ≡ (node K v).port)
  begun_node u c w lu e =
      let (v, i, lv, li, x, ct) = started A K M n image u c w legal.interval lu e in
      let begun = begun_right A K M n image is good legal (suc c) (right A K M n image is good legal unaliased (suc c)) v i lv li (omega (arith, ct)) in
      let same : Some w ≡ Some (work K image (i * size K + v)) = sym e ∙ subst₂ (λ x t. begins A (configuration_of A K M) n image x t ≡ Some (work K image (i * size K + v))) x (sym ct) begun in
      let z : w ≡ work K image (i * size K + v) = cc in
      let node_v = step_node i (size K) v lv in
      (v, i, lv, li, x, ct, ap (λ y. y.op) z ∙ ap (λ k. (node K k).op) node_v, ap (λ y. y.port) z ∙ ap (λ k. (node K k).port) node_v)

  written_array : (v : ℕ) → v < size K → Sends port (node K v).port (node K v).op → (machine A (configuration_of A K M) n image).streams port ≡ first (item K n image good port v) n
  unfolding at_cycle
  written_array v l sends =
      appended (λ c. (at_cycle A (configuration_of A K M) n image c).streams port) (place M v).time M.ii n (cycles (configuration_of A K M) n) (item K n image good port v) legal.interval refl
      (λ i li.
      let c = (place M v).time + i * M.ii in
      ap (λ xs. (at_cycle A (configuration_of A K M) n image c).streams port ++ xs)
      (one_by_units (λ x. begins A (configuration_of A K M) n image x c) port (length A.units) (place M v).unit (work K image (i * size K + v)) (legal.units v l)
      (begun_right A K M n image is good legal c (right A K M n image is good legal unaliased c) v i l li (omega arith))
      (λ y w b e s.
      let (v', i', lv, li', x, ct, wo, wp) = begun_node y c w b e in
      let z : v' ≡ v = good.one_output v' v lv l (ap is_output (sym wo) ∙ s.0) sends.0 (sym wp ∙ s.1 ∙ sym sends.1) in
      sym x ∙ ap (λ k. (place M k).unit) z)))
      (λ c lc h.
      append_none ((at_cycle A (configuration_of A K M) n image c).streams port) _ _
      (none_by_units (λ x. begins A (configuration_of A K M) n image x c) port (length A.units) (λ u w b e s.
      let (v', i', lv, li', x, ct, wo, wp) = begun_node u c w b e in
      let z : v' ≡ v = good.one_output v' v lv l (ap is_output (sym wo) ∙ s.0) sends.0 (sym wp ∙ s.1 ∙ sym sends.1) in
      h i' li' (sym (ct ∙ ap (λ k. (place M k).time + i' * M.ii) z))))
      refl)
      (λ i li. within_run A K M n i v legal li)

  silent_array : ((v : ℕ) → v < size K → Sends port (node K v).port (node K v).op → ⊥) → (machine A (configuration_of A K M) n image).streams port ≡ []
  unfolding at_cycle
  silent_array none =
      appended (λ c. (at_cycle A (configuration_of A K M) n image c).streams port) 0 1 0 (cycles (configuration_of A K M) n) (λ i. []) (omega arith) refl (λ i li. absurd (omega arith))
      (λ c lc h.
      append_none ((at_cycle A (configuration_of A K M) n image c).streams port) _ _
      (none_by_units (λ x. begins A (configuration_of A K M) n image x c) port (length A.units) (λ u w b e s.
      let (v', i', lv, li', x, ct, wo, wp) = begun_node u c w b e in none v' lv (ap is_output (sym wo) ∙ s.0, sym wp ∙ s.1)))
      refl)
      (λ i li. absurd (omega arith))

  pub stream_left : (machine A (configuration_of A K M) n image).streams port ≡ (turns K n image).streams port
  stream_left =
      ⊎_elim (λ h. written_array h.0 h.1 h.2 ∙ sym (written_turns K n image good port h.0 h.1 h.2)) (λ h. silent_array h ∙ sym (silent_turns K n image good port h)) (writer K port (size K))
