-- A kernel that follows another one leaves what that one leaves.
use Rattle.std.proofs.Common.{◌≡◌, ℕ, zero, suc, ◌+◌, ◌*◌, ◌<◌, ◌≤◌, Bool, true, false, List, [], ◌++◌, length, sym, ap, ◌∙◌, subst, arith, ⊎_elim, inl, inr, append-nil}
use Rattle.std.specs.Prelude.{◌⊎◌}
use Rattle.std.specs.List.{range_with_len}
use Rattle.std.proofs.lemmas.Bool.{cases_lt, cases_Bool, and_parts, eqb-true}
use Rattle.std.proofs.lemmas.Nat.{same_from_place}
use Rattle.cg_word.specs.Word.{is_access, is_store}
use Rattle.cg_model.specs.Limits.{port_count}
use Rattle.cg_model.specs.Kernel.{Kernel, IsKernel, IsWired, node, size}
use Rattle.cg_model.specs.Work.{Image, Work, value, stores, stored, sends, sent, missed}
use Rattle.cg_model.specs.Turns.{before, work, work_of, val, turns}
use Rattle.cg_model.proofs.Elements.{map_same}
use Rattle.cg_model.proofs.Sums.{total_same}
use Rattle.cg_overlap.proofs.Sequence.{step_node}
use Rattle.cg_simplify_draft.specs.Follows.{Follows, RunsAlike}
use Rattle.cg_simplify_draft.proofs.Folds.{run, run_same, runs_on, Thins, Cut, folded}
use Rattle.cg_simplify_draft.proofs.Counts.{total_some}
use Rattle.cg_simplify_draft.proofs.Steps.{value_anywhere, access_store, stored_idle, stored_other, opens, opens_sends, sent_idle, sent_other, next, counted, work_known}

module _ (K L : Kernel) (image : Image) (n : ℕ) (f : ℕ → ℕ) (W : ℕ → ℕ → ℕ) (good : IsKernel K) (wired : IsWired L) (h : Follows K L image n f W) where
  -- step u of K in turn i, and what node v of L does then on the words
  abbrev given : ℕ → ℕ → Work
  given i u = work K image (i * size K + u)

  abbrev does : ℕ → ℕ → Work
  does i v = work_of (node L v) i W

  -- ---- the stores of a turn

  abbrev store_K : ℕ → ℕ → List ℕ → List ℕ
  store_K i u s = stored s (given i u)

  abbrev store_L : ℕ → ℕ → List ℕ → List ℕ
  store_L i v s = stored s (does i v)

  abbrev is_store_of : ℕ → Bool
  is_store_of v = is_store (node L v).op

  store_plain : (i v : ℕ) → i < n → v < size L → is_store_of v ≡ false → (s : List ℕ) → stored s (given i (f v)) ≡ s
  store_plain i v li l e s = sym ((h.does v i l li).writes s) ∙ stored_other (does i v) e s

  store_rest : (i u : ℕ) → i < n → u < size K → ((v : ℕ) × (v < size L) × (f v ≡ u) × (is_store_of v ≡ true)) ⊎ ((s : List ℕ) → stored s (given i u) ≡ s)
  store_rest i u li l =
      ⊎_elim
      (λ t.
      let v = h.effects u i l li (inl t) in
      ⊎_elim (λ e. inl (v.0, v.1, v.2, e)) (λ e. inr (λ s. subst (λ z. stored s (given i z) ≡ s) v.2 (store_plain i v.0 li v.1 e s))) (cases_Bool (is_store_of v.0)))
      (λ e. inr (λ s. stored_idle (given i u) e s))
      (cases_Bool (stores (given i u)))

  stores_thin : (i : ℕ) → i < n → Thins (store_K i) (store_L i) f is_store_of (size L) (size K)
  stores_thin i li =
      record {
        same = λ v l s. (h.does v i l li).writes s;
        plain = λ v l e s. store_plain i v li l e s;
        rest = λ u l. store_rest i u li l;
        ordered = λ v w b l e g. h.ordered v w b l (access_store (node L v).op e) (access_store (node L w).op g) (inl e);
      }

  -- the stores of L before an access are the stores of K before its node
  cut_access : (v : ℕ) → v < size L → is_access (node L v).op ≡ true → Cut f is_store_of (size L) v (f v)
  cut_access v l a =
      record {
        low = λ w b e. h.ordered w v b l (access_store (node L w).op e) a (inl e);
        high = λ w b e g.
            ⊎_elim (λ y. y)
            (λ y. ⊎_elim (λ (x : v < w). let z : f v < f w = h.ordered v w x b a (access_store (node L w).op e) (inr e) in absurd (omega arith))
            (λ x. let z : v ≡ w = omega arith in absurd (let q : f v ≡ f w = ap f z in omega arith)) (cases_lt v w))
            (cases_lt w v);
      }

  cut_all : (mark : ℕ → Bool) → Cut f mark (size L) (size L) (size K)
  cut_all mark = record { low = λ v l e. h.inside v l; high = λ v l e g. l }

  memory_K : (i u : ℕ) → run (store_K i) u (turns K i image).memory ≡ (before K image (i * size K + u)).memory
  memory_K i u = runs_on (λ k. (before K image k).memory) (λ k s. stored s (work K image k)) (λ k. ap (λ p. p.memory) (next K image k)) (i * size K) u

  -- ---- what is sent to a port in a turn

  abbrev send_K : ℕ → ℕ → ℕ → List ℕ → List ℕ
  send_K port i u s = s ++ sent port (given i u)

  abbrev send_L : ℕ → ℕ → ℕ → List ℕ → List ℕ
  send_L port i v s = s ++ sent port (does i v)

  abbrev opens_at : ℕ → ℕ → ℕ → Bool
  opens_at port i v = opens port (given i (f v))

  appends_none : (xs ys : List ℕ) → ys ≡ [] → xs ++ ys ≡ xs
  appends_none xs ys e = ap (λ z. xs ++ z) e ∙ append-nil xs

  send_rest : (port i u : ℕ) → i < n → u < size K → ((v : ℕ) × (v < size L) × (f v ≡ u) × (opens_at port i v ≡ true)) ⊎ ((s : List ℕ) → send_K port i u s ≡ s)
  send_rest port i u li l =
      ⊎_elim
      (λ t.
      let v = h.effects u i l li (inr (port, t)) in
      inl (v.0, v.1, v.2, subst (λ z. opens port (given i z) ≡ true) (sym v.2) (opens_sends port (given i u) t)))
      (λ e. inr (λ s. appends_none s (sent port (given i u)) (sent_idle port (given i u) e)))
      (cases_Bool (sends port (given i u)))

  -- at most one node of K sends to the port
  one_sends : (port i v w : ℕ) → v < size L → w < size L → opens_at port i v ≡ true → opens_at port i w ≡ true → v ≡ w
  one_sends port i v w lv lw a b =
      let lx = h.inside v lv in
      let ly = h.inside w lw in
      let p = and_parts _ _ (subst (λ z. opens port (record (given i (f v)) { op = (node K z).op; port = (node K z).port }) ≡ true) (step_node i (size K) (f v) lx) a) in
      let q = and_parts _ _ (subst (λ z. opens port (record (given i (f w)) { op = (node K z).op; port = (node K z).port }) ≡ true) (step_node i (size K) (f w) ly) b) in
      h.apart v w lv lw (good.one_output (f v) (f w) lx ly p.0 q.0 (eqb-true _ _ p.1 ∙ sym (eqb-true _ _ q.1)))

  sends_thin : (port i : ℕ) → i < n → Thins (send_K port i) (send_L port i) f (opens_at port i) (size L) (size K)
  sends_thin port i li =
      record {
        same = λ v l s. ap (λ z. s ++ z) ((h.does v i l li).appends port);
        plain = λ v l e s. appends_none s (sent port (given i (f v))) (sent_other port (given i (f v)) e);
        rest = λ u l. send_rest port i u li l;
        ordered = λ v w b l e g. absurd (let z : v ≡ w = one_sends port i v w (omega arith) l e g in omega arith);
      }

  -- ---- values

  abbrev Known : ℕ → ℕ → Type 0
  Known i v = (u j : ℕ) → u < size L → j * size L + u < i * size L + v → val L image u j ≡ W u j

  work_is_does : (i v : ℕ) → Known i v → v < size L → work L image (i * size L + v) ≡ does i v
  work_is_does i v k l = work_known L image W i v k wired l

  known_less : (i v w : ℕ) → v ≤ w → Known i w → Known i v
  known_less i v w b k u j l e = k u j l (omega arith)

  memory_L : (i v : ℕ) → v ≤ size L → Known i v → run (store_L i) v (turns L i image).memory ≡ (before L image (i * size L + v)).memory
  memory_L i v l k =
      run_same (store_L i) (λ w s. stored s (work L image (i * size L + w))) v
      (λ w b s. ap (stored s) (sym (work_is_does i w (known_less i w v (omega arith) k) (omega arith)))) (turns L i image).memory
      ∙ runs_on (λ k. (before L image k).memory) (λ k s. stored s (work L image k)) (λ k. ap (λ p. p.memory) (next L image k)) (i * size L) v

  streams_L : (port i v : ℕ) → v ≤ size L → Known i v → run (send_L port i) v ((turns L i image).streams port) ≡ (before L image (i * size L + v)).streams port
  streams_L port i v l k =
      run_same (send_L port i) (λ w s. s ++ sent port (work L image (i * size L + w))) v
      (λ w b s. ap (λ z. s ++ sent port z) (sym (work_is_does i w (known_less i w v (omega arith) k) (omega arith)))) ((turns L i image).streams port)
      ∙ runs_on (λ k. (before L image k).streams port) (λ k s. s ++ sent port (work L image k)) (λ k. ap (λ p. p.streams port) (next L image k)) (i * size L) v

  streams_K : (port i u : ℕ) → run (send_K port i) u ((turns K i image).streams port) ≡ (before K image (i * size K + u)).streams port
  streams_K port i u = runs_on (λ k. (before K image k).streams port) (λ k s. s ++ sent port (work K image k)) (λ k. ap (λ p. p.streams port) (next K image k)) (i * size K) u

  abbrev SameMemory : ℕ → Type 0
  SameMemory i = (turns L i image).memory ≡ (turns K i image).memory

  -- the memory before an access of L is the memory before its node of K
  memory_here : (i v : ℕ) → i < n → v < size L → is_access (node L v).op ≡ true → Known i v → SameMemory i →
      (before L image (i * size L + v)).memory ≡ (before K image (i * size K + f v)).memory
  memory_here i v li l a k same =
      sym (memory_L i v (omega arith) k)
      ∙ ap (run (store_L i) v) same
      ∙ folded (store_K i) (store_L i) f is_store_of (size L) (size K) (stores_thin i li) (turns K i image).memory v (omega arith) (f v) (let b = h.inside v l in omega arith) (cut_access v l a)
      ∙ memory_K i (f v)

  value_same : (i v : ℕ) → i < n → v < size L → Known i v → SameMemory i →
      value image (before L image (i * size L + v)).memory (does i v) ≡ value image (before K image (i * size K + f v)).memory (does i v)
  value_same i v li l k same =
      ⊎_elim
      (λ a. ap (λ m. value image m (does i v)) (memory_here i v li l a k same))
      (λ a. value_anywhere image _ _ (node L v).port i (does i v).args (node L v).op a)
      (cases_Bool (is_access (node L v).op))

  value_here : (i v : ℕ) → i < n → v < size L → Known i v → SameMemory i → val L image v i ≡ W v i
  value_here i v li l k same =
      ap (value image (before L image (i * size L + v)).memory) (work_is_does i v k l) ∙ value_same i v li l k same ∙ (h.does v i l li).gives

  known_more : (i v : ℕ) → i < n → v < size L → Known i v → SameMemory i → Known i (suc v)
  known_more i v li l k same u j lu e =
      ⊎_elim
      (λ b. k u j lu b)
      (λ b.
      let there : j * size L + u ≡ i * size L + v = omega arith in
      let at = same_from_place j u i v (size L) lu l there in
      rw (at.0, at.1) (value_here i v li l k same))
      (cases_lt (j * size L + u) (i * size L + v))

  known_turn : (i : ℕ) → i < n → Known i 0 → SameMemory i → (v : ℕ) → v ≤ size L → Known i v
  known_turn i li k same zero l = k
  known_turn i li k same (suc v) l = known_more i v li (omega arith) (known_turn i li k same v (omega arith)) same

  -- ---- turn by turn

  record Agrees (i : ℕ) : Type 0 where
    known : Known i 0
    memory : SameMemory i
    streams : (port : ℕ) → (turns L i image).streams port ≡ (turns K i image).streams port
    outside : (turns L i image).outside ≤ (turns K i image).outside

  turn_end : (M : Kernel) (i : ℕ) → before M image (i * size M + size M) ≡ turns M (suc i) image
  turn_end M i = ap (before M image) (let e : i * size M + size M ≡ suc i * size M = omega arith in e)

  begins : Agrees 0
  unfolding before
  begins =
      let z : (M : Kernel) → turns M 0 image ≡ before M image 0 = λ M. ap (before M image) (let e : 0 * size M ≡ 0 = omega arith in e) in
      record {
        known = λ u j l e. absurd (omega arith);
        memory = ap (λ p. p.memory) (z L) ∙ sym (ap (λ p. p.memory) (z K));
        streams = λ port. ap (λ p. p.streams port) (z L) ∙ sym (ap (λ p. p.streams port) (z K));
        outside = let a = ap (λ p. p.outside) (z L) in let b = ap (λ p. p.outside) (z K) in omega arith;
      }

  memory_turned : (i : ℕ) → i < n → Known i (size L) → SameMemory i → SameMemory (suc i)
  memory_turned i li k same =
      ap (λ p. p.memory) (sym (turn_end L i))
      ∙ sym (memory_L i (size L) (omega arith) k)
      ∙ ap (run (store_L i) (size L)) same
      ∙ folded (store_K i) (store_L i) f is_store_of (size L) (size K) (stores_thin i li) (turns K i image).memory (size L) (omega arith) (size K) (omega arith) (cut_all is_store_of)
      ∙ memory_K i (size K)
      ∙ ap (λ p. p.memory) (turn_end K i)

  streams_turned : (port i : ℕ) → i < n → Known i (size L) → (turns L i image).streams port ≡ (turns K i image).streams port → (turns L (suc i) image).streams port ≡ (turns K (suc i) image).streams port
  streams_turned port i li k same =
      ap (λ p. p.streams port) (sym (turn_end L i))
      ∙ sym (streams_L port i (size L) (omega arith) k)
      ∙ ap (run (send_L port i) (size L)) same
      ∙ folded (send_K port i) (send_L port i) f (opens_at port i) (size L) (size K) (sends_thin port i li) ((turns K i image).streams port) (size L) (omega arith) (size K) (omega arith) (cut_all (opens_at port i))
      ∙ streams_K port i (size K)
      ∙ ap (λ p. p.streams port) (turn_end K i)

  outside_turned : (i : ℕ) → i < n → Known i (size L) → (turns L i image).outside ≤ (turns K i image).outside → (turns L (suc i) image).outside ≤ (turns K (suc i) image).outside
  outside_turned i li k less =
      let room = length image.memory in
      let of_L = counted L image (i * size L) (size L) in
      let of_K = counted K image (i * size K) (size K) in
      let end_L = ap (λ p. p.outside) (turn_end L i) in
      let end_K = ap (λ p. p.outside) (turn_end K i) in
      let words = total_same (size L) (λ v. missed (length image.memory) (work L image (i * size L + v))) (λ v. missed (length image.memory) (does i v)) (λ v l. ap (missed (length image.memory)) (work_is_does i v (known_less i v (size L) (omega arith) k) l)) in
      let some = total_some (size L) (size K) f (λ v. missed (length image.memory) (does i v)) (λ u. missed (length image.memory) (given i u)) h.inside h.apart (λ v l. (h.does v i l li).misses (length image.memory)) in
      omega arith

  goes_on : (i : ℕ) → i < n → Agrees i → Agrees (suc i)
  goes_on i li a =
      let k = known_turn i li a.known a.memory (size L) (omega arith) in
      record {
        known = λ u j l e. k u j l (omega arith);
        memory = memory_turned i li k a.memory;
        streams = λ port. streams_turned port i li k (a.streams port);
        outside = outside_turned i li k a.outside;
      }

  agrees : (i : ℕ) → i ≤ n → Agrees i
  agrees zero l = begins
  agrees (suc i) l = goes_on i (omega arith) (agrees i (omega arith))

  value_now : (v i : ℕ) → v < size L → i < n → val L image v i ≡ W v i
  value_now v i l li =
      let a = agrees i (omega arith) in
      value_here i v li l (known_turn i li a.known a.memory v (omega arith)) a.memory

  work_now : (v i : ℕ) → v < size L → i < n → work L image (i * size L + v) ≡ work_of (node L v) i W
  work_now v i l li =
      let a = agrees i (omega arith) in
      work_is_does i v (known_turn i li a.known a.memory v (omega arith)) l

  pub runs_alike : RunsAlike K L image n W
  runs_alike =
      let a = agrees n (omega arith) in
      record {
        values = value_now;
        works = work_now;
        memory = a.memory;
        streams = a.streams;
        outside = a.outside;
        left = λ i. record { memory = a.memory i; streams = map_same (turns L n image).streams (turns K n image).streams (range_with_len 0 port_count) (λ k port e. a.streams port) i };
      }
