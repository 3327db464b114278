-- What n turns leave is small: the memory keeps its length, and each output stream has at most n
-- words.
use Rattle.std.proofs.Common.{◌≡◌, ℕ, zero, suc, ◌+◌, ◌*◌, ◌<◌, ◌≤◌, ◌⊎◌, inl, inr, true, [], ◌∷◌, length, sym, ap, ◌∙◌, subst, arith, ⊎_elim, eqb-true, length-append}
use Rattle.std.specs.Prelude.{slice_index_or, map}
use Rattle.std.specs.List.{range_with_len}
use Rattle.std.proofs.lemmas.Bool.{cases_lt, cases_Bool, cond-false, cond_both, and_parts}
use Rattle.std.proofs.lemmas.List.{get_or_past}
use Rattle.std.proofs.lemmas.List.FromFn.{get_or-map-range_with_len, length-map-range_with_len}
use Rattle.std.proofs.lemmas.Nat.{mod-mul-add}
use Rattle.cg_word.specs.Word.{is_output}
use Rattle.cg_model.specs.Kernel.{Kernel, IsKernel, size, node}
use Rattle.cg_model.specs.Work.{Image, Work, last_operand, sends, sent}
use Rattle.cg_model.specs.Turns.{before, work, turns, turns_left}
use Rattle.cg_model.proofs.Lengths.{memory_stays}

-- an operation appends at most one word to a stream
sent_short : (port : ℕ) (w : Work) → length (sent port w) ≤ 1
unfolding sent
sent_short port w = cond_both (sends port w) (last_operand w.op w.args ∷ []) [] (λ z. length z ≤ 1) (λ t. omega arith) (λ f. omega arith)

-- node v is an output of the port
abbrev Sends : Kernel → ℕ → ℕ → Type 0
Sends K port v = (is_output (node K v).op ≡ true) × ((node K v).port ≡ port)

-- an operation appends no word to a stream, or it is an output of that port
sent_cases : (port : ℕ) (w : Work) → (sent port w ≡ []) ⊎ ((is_output w.op ≡ true) × (w.port ≡ port))
unfolding sent
sent_cases port w =
    ⊎_elim (λ t. let (a, b) = and_parts _ _ t in let (c, d) = and_parts _ _ b in inr (a, eqb-true _ _ d))
    (λ f. inl (cond-false (sends port w) _ _ f)) (cases_Bool (sends port w))

-- in turn i before node v, a stream has at most i words, or one more where a node before v is its output
abbrev IsShort : Kernel → Image → ℕ → ℕ → ℕ → Type 0
IsShort K image port i v =
    (length ((before K image (i * size K + v)).streams port) ≤ i) ⊎
    ((length ((before K image (i * size K + v)).streams port) ≤ suc i) × ((u : ℕ) × (u < v) × Sends K port u))

module _ (K : Kernel) (image : Image) (port : ℕ) (good : IsKernel K) where
  -- a step appends what its node sends
  grown : (k : ℕ) → length ((before K image (suc k)).streams port) ≡ length ((before K image k).streams port) + length (sent port (work K image k))
  unfolding before
  grown k = length-append ((before K image k).streams port) (sent port (work K image k))

  -- node v in turn i appends no word to the stream, or it is its output
  step_cases : (i v : ℕ) → v < size K → (sent port (work K image (i * size K + v)) ≡ []) ⊎ Sends K port v
  step_cases i v l =
      ⊎_elim (λ e. inl e) (λ s. inr (subst (λ z. Sends K port z) (mod-mul-add i (size K) v l) s)) (sent_cases port (work K image (i * size K + v)))

  -- a stream that is short before node v is short before the next
  short_next : (i v : ℕ) → v < size K → IsShort K image port i v → IsShort K image port i (suc v)
  short_next i v l h =
      let k : i * size K + suc v ≡ suc (i * size K + v) = omega arith in
      let g = ap (λ z. length ((before K image z).streams port)) k ∙ grown (i * size K + v) in
      let one = sent_short port (work K image (i * size K + v)) in
      ⊎_elim
      (λ e.
      let none = ap length e in
      ⊎_elim (λ a. inl (omega arith)) (λ a. inr (omega (arith, a.0), (a.1.0, omega (arith, a.1.1), a.1.2))) h)
      (λ s.
      ⊎_elim (λ a. inr (omega arith, (v, omega arith, s)))
      (λ a.
      let (u, lu, su) = a.1 in
      let same : u ≡ v = good.one_output u v (omega arith) l su.0 s.0 (su.1 ∙ sym s.1) in
      absurd (omega arith))
      h)
      (step_cases i v l)

  -- a stream of at most i words at the start of turn i is short before each of its nodes
  short_within : (i : ℕ) → length ((before K image (i * size K)).streams port) ≤ i → (v : ℕ) → v ≤ size K → IsShort K image port i v
  short_within i h zero l =
      let k : i * size K + 0 ≡ i * size K = omega arith in
      let e = ap (λ z. length ((before K image z).streams port)) k in
      inl (omega arith)
  short_within i h (suc v) l = short_next i v (omega arith) (short_within i h v (omega arith))

  -- after n turns a stream has at most n words
  short_after : (n : ℕ) → length ((before K image (n * size K)).streams port) ≤ n
  unfolding before
  short_after zero =
      let k : 0 * size K ≡ 0 = omega arith in
      let e = ap (λ z. length ((before K image z).streams port)) k in
      omega arith
  short_after (suc n) =
      let k : suc n * size K ≡ n * size K + size K = omega arith in
      let e = ap (λ z. length ((before K image z).streams port)) k in
      ⊎_elim (λ a. omega arith) (λ a. omega (arith, a.0)) (short_within n (short_after n) (size K) (omega arith))

-- after n turns each output stream has at most n words
pub stream_short : (K : Kernel) (n : ℕ) (image : Image) (port : ℕ) → IsKernel K → length ((turns K n image).streams port) ≤ n
stream_short K n image port good = short_after K image port good n

-- what n turns leave has a memory of the image's length and output streams of at most n words
pub left_small : (K : Kernel) (n : ℕ) (image : Image) → IsKernel K →
    (length (turns_left K n image).image.memory ≡ length image.memory) × ((port : ℕ) → length (slice_index_or (turns_left K n image).image.streams port []) ≤ n)
left_small K n image good = (
  memory_stays K image (n * size K),
  λ port.
      ⊎_elim
      (λ l. let e = ap length (get_or-map-range_with_len (turns K n image).streams 0 16 port port [] l (omega arith)) in
      omega (arith, e, stream_short K n image port good))
      (λ l. let long = length-map-range_with_len (turns K n image).streams 0 16 in
      let e = ap length (get_or_past (map (turns K n image).streams (range_with_len 0 16)) port [] (omega arith)) in
      omega (arith, e))
      (cases_lt port 16),
)
