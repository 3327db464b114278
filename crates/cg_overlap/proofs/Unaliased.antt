-- A run is unaliased where the accesses of each two nodes are ordered.
use Rattle.std.proofs.Common.{◌≡◌, ℕ, zero, suc, List, length, refl, ap, ◌+◌, ◌*◌, ◌/◌, ◌%◌, ◌<◌, ◌≤◌, sym, subst, arith, ⊎_elim, inl}
use Rattle.std.specs.Prelude.{◌⊎◌, true}
use Rattle.std.proofs.Math.Nat.{mul-le-mul_right}
use Rattle.std.proofs.lemmas.Bool.{cases_order, cases_lt}
use Rattle.std.proofs.lemmas.Nat.{mod_below}
use Rattle.cg_word.specs.Word.{is_store}
use Rattle.cg_model.specs.Work.{Image, Reaches}
use Rattle.cg_model.specs.Kernel.{Kernel, IsWired, node, size}
use Rattle.cg_model.specs.declared.kernel.Node.{Node}
use Rattle.cg_model.specs.declared.kernel.OrderEdge.{OrderEdge}
use Rattle.cg_model.specs.Turns.{before, after, work_at, work, work_of, val, turns}
use Rattle.cg_model.specs.Order.{IsOrdered, IsUnaliased}
use Rattle.cg_overlap.proofs.Sequence.{work_is, step_of, turn_below, positive_from}

-- turns of steps in order
same_node : (i j u v m : ℕ) → i * m + u < j * m + v → u ≡ v → i < j
same_node i j u v m h e = ⊎_elim (λ l. l) (λ l. absurd (let p : j * m ≤ i * m = mul-le-mul_right m l in omega arith)) (cases_lt i j)

node_later : (i j u v m : ℕ) → i * m + u < j * m + v → v < m → i ≤ j
node_later i j u v m h l = ⊎_elim (λ b. absurd (let p : (j + 1) * m ≤ i * m = mul-le-mul_right m (let z : j + 1 ≤ i = omega arith in z) in omega arith)) (λ b. b) (cases_lt j i)

node_earlier : (i j u v m : ℕ) → i * m + u < j * m + v → v < u → i < j
node_earlier i j u v m h l = ⊎_elim (λ b. b) (λ b. absurd (let p : j * m ≤ i * m = mul-le-mul_right m b in omega arith)) (cases_lt i j)

-- accesses of two nodes to one word, at least one of them a store, in turns in the order of steps
abbrev pub AreOrdered : Kernel → ℕ → Image → Type 0
AreOrdered K n image =
    (a u i v j : ℕ) → u < size K → v < size K → j < n → Reaches (work_of (node K u) i (val K image)) a → Reaches (work_of (node K v) j (val K image)) a →
    (is_store (node K u).op ≡ true) ⊎ (is_store (node K v).op ≡ true) → (u < v → i ≤ j → IsOrdered K u i v j) × (v < u → i < j → IsOrdered K u i v j)

pub work_step : (K : Kernel) (image : Image) → IsWired K → (k : ℕ) → k % size K < size K → work K image k ≡ work_of (node K (k % size K)) (k / size K) (val K image)
work_step K image good k l = subst (λ z. work K image z ≡ work_of (node K (k % size K)) (k / size K) (val K image)) (sym (step_of k (size K))) (work_is K image good (k / size K) (k % size K) l)

pub unaliased_from : (K : Kernel) (n : ℕ) (image : Image) → IsWired K → AreOrdered K n image → IsUnaliased K n image
unaliased_from K n image good ordered a k l la b last rk rl st =
    let pos = positive_from l n (size K) last in
    let mk = mod_below k (size K) pos in
    let ml = mod_below l (size K) pos in
    let turn = turn_below l n (size K) last in
    let rises : k / size K * size K + k % size K < l / size K * size K + l % size K = let x = step_of k (size K) in let y = step_of l (size K) in omega arith in
    let (later, earlier) =
    ordered a (k % size K) (k / size K) (l % size K) (l / size K) mk ml turn (subst (λ w. Reaches w a) (work_step K image good k mk) rk) (subst (λ w. Reaches w a) (work_step K image good l ml) rl) st in
    ⊎_elim (λ e. inl (e, same_node (k / size K) (l / size K) _ _ (size K) rises e))
    (λ h. ⊎_elim (λ u. later u (node_later (k / size K) (l / size K) _ _ (size K) rises ml)) (λ u. earlier u (node_earlier (k / size K) (l / size K) _ _ (size K) rises u)) h)
    (cases_order (k % size K) (l % size K))

-- order edges change no turn
module _ (nodes : List Node) (some others : List OrderEdge) (image : Image) where
  pub same_before : (k : ℕ) → before (record { nodes = nodes; order = some }) image k ≡ before (record { nodes = nodes; order = others }) image k
  unfolding before
  same_before zero = refl
  same_before (suc k) = ap (λ p. after image (work_at (record { nodes = nodes; order = others }) k p.values) p) (same_before k)

  pub same_turns : (n : ℕ) → turns (record { nodes = nodes; order = some }) n image ≡ turns (record { nodes = nodes; order = others }) n image
  same_turns n = same_before (n * length nodes)
