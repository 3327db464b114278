-- A rewritten kernel whose needs are met is unaliased wherever the given one is.
use Rattle.std.proofs.Common.{◌≡◌, ℕ, ◌+◌, ◌-◌, ◌*◌, ◌/◌, ◌%◌, ◌<◌, ◌≤◌, List, length, Option, Some, refl, sym, ap, ◌∙◌, subst, arith, ⊎_elim, inl, inr, mul-le-mul_right}
use Rattle.std.specs.Prelude.{◌⊎◌, true}
use Rattle.std.proofs.lemmas.Bool.{cases_lt, cases_eq, and_from, or_left, or_right}
use Rattle.std.proofs.lemmas.Nat.{mod_below}
use Rattle.cg_word.specs.Word.{is_access, is_store, address_arg}
use Rattle.cg_model.specs.Limits.{most_turns}
use Rattle.cg_model.specs.Work.{Image, IsImage, Reaches}
use Rattle.cg_model.specs.declared.kernel.OrderEdge.{OrderEdge}
use Rattle.cg_model.specs.Kernel.{Kernel, IsKernel, node, size}
use Rattle.cg_model.specs.Turns.{Progress, work, work_of, work_at, val}
use Rattle.cg_model.specs.Order.{Chain, IsOrdered, IsUnaliased}
use Rattle.cg_overlap.proofs.Sequence.{work_is, step_node, step_turn, step_within, step_of, turn_below, positive_from}
use Rattle.cg_overlap.proofs.Unaliased.{same_before}
use Rattle.cg_distance.specs.Least.{IsLeast}
use Rattle.cg_depend.specs.Affine.{pairs}
use Rattle.cg_depend.specs.Depend.{Gap, Within, conflict, distance_for}
use Rattle.cg_depend.specs.Gathered.{ask}
use Rattle.cg_depend.proofs.Always.{gap_of}
use Rattle.cg_depend.proofs.Gaps.{Goes, gap_within}
use Rattle.cg_depend.proofs.Pairs.{arg_runs, pairs_right}
use Rattle.cg_simplify_draft.specs.Rewritten.{IsRewritten}
use Rattle.cg_simplify_order.specs.Needs.{IsNamesake, AreMet, StaysUnaliased}
use Rattle.cg_simplify_order.specs.Found.{reordered}
use Rattle.cg_simplify_order.proofs.Least.{some_least}
use Rattle.cg_simplify_order.proofs.Needed.{is_need}

-- a later step is in a later turn, or a later one of the turn
turns_of : (i j u v m : ℕ) → i * m + u < j * m + v → v < m → (i < j) ⊎ ((i ≡ j) × (u < v))
turns_of i j u v m h l =
    ⊎_elim inl
    (λ (b : j ≤ i). ⊎_elim
    (λ (c : j < i). absurd (let p : (j + 1) * m ≤ i * m = mul-le-mul_right m (let z : j + 1 ≤ i = omega arith in z) in omega arith))
    (λ (c : i ≤ j). let e : i ≡ j = omega arith in let p : i * m ≡ j * m = ap (λ z. z * m) e in inr (e, omega arith))
    (cases_lt j i))
    (cases_lt i j)

step_before : (i j x y m : ℕ) → i < j → x < m → i * m + x < j * m + y
step_before i j x y m h l = let p : (i + 1) * m ≤ j * m = mul-le-mul_right m (let z : i + 1 ≤ j = omega arith in z) in omega arith

step_beside : (i j x y m : ℕ) → i ≡ j → x < y → i * m + x < j * m + y
step_beside i j x y m e l = let p : i * m ≡ j * m = ap (λ z. z * m) e in omega arith

ordered_as : (K : Kernel) (a b c d x i y j : ℕ) → a ≡ x → b ≡ i → c ≡ y → d ≡ j → IsOrdered K a b c d → IsOrdered K x i y j
ordered_as K a b c d x i y j ea eb ec ed h =
    subst (λ z. IsOrdered K x i y z) ed (subst (λ z. IsOrdered K x i z d) ec (subst (λ z. IsOrdered K x z c d) eb (subst (λ z. IsOrdered K z b c d) ea h)))

gap_is : (L : Kernel) (u v d g : ℕ) (o : Option ℕ) → o ≡ Some g → Gap L (ask u v d) o → Gap L (ask u v d) (Some g)
gap_is L u v d g o e gap = subst (Gap L (ask u v d)) e gap

module _ (K L : Kernel) (es : List OrderEdge) (image : Image) (n : ℕ) (good : IsKernel K) (made : IsKernel L) (h : IsRewritten K L) (met : AreMet K L (reordered L es)) (words : IsImage image) (few : n ≤ most_turns) (safe : IsUnaliased K n image) where
  -- step v of turn i of L reaches the word
  abbrev Here : ℕ → ℕ → ℕ → Type 0
  Here v i a = Reaches (work_of (node L v) i (val L image)) a

  here : (v i a : ℕ) → v < size L → Reaches (work L image (i * size L + v)) a → Here v i a
  here v i a l r = subst (λ w. Reaches w a) (work_is L image made.wired i v l) r

  goes : (v i a : ℕ) → Here v i a → Goes L v i a
  goes v i a r =
      record {
        by_pair = λ p e. let run = arg_runs L image made.wired (pairs L v) v (address_arg (node L v).op) p (pairs_right L image made.wired v) e in (run.small_base, sym r.there ∙ run.at i);
      }

  meets : (u i v j a : ℕ) → Here u i a → Here v j a → (is_store (node L u).op ≡ true) ⊎ (is_store (node L v).op ≡ true) → conflict L u v ≡ true
  meets u i v j a ru rv st = and_from _ _ ru.is (and_from _ _ rv.is (⊎_elim (λ s. or_left _ _ s) (λ s. or_right _ _ s) st))

  namesake : (v : ℕ) → v < size L → IsNamesake K L (h.from v) v
  namesake v l = record { inside = h.inside v l; named = sym (h.named v l) }

  -- two nodes that meet first after g turns
  gapped : (u i v j a least g : ℕ) → u < size L → v < size L → (u ≡ v → ⊥) → Here u i a → Here v j a → (is_store (node L u).op ≡ true) ⊎ (is_store (node L v).op ≡ true) →
      IsLeast K (h.from u) (h.from v) least → Gap L (ask u v least) (Some g) → g ≤ j - i → i ≤ j → IsOrdered (reordered L es) u i v j
  gapped u i v j a least g lu lv ne ru rv st chain gap small rises =
      let m : Within (reordered L es) u v (distance_for g) =
      met u v (distance_for g) (is_need K L u v (distance_for g) (h.from u) (h.from v) least g lu lv ne (meets u i v j a ru rv st) (namesake u lu) (namesake v lv) chain gap refl) in
      let far : m.0 ≤ distance_for g = m.2 in
      inr (m.0, m.1, omega arith)

  -- two nodes of which the least chain of the given kernel is over few enough turns
  chained : (u i v j a least : ℕ) → u < size L → v < size L → (u ≡ v → ⊥) → j < n → Here u i a → Here v j a → (is_store (node L u).op ≡ true) ⊎ (is_store (node L v).op ≡ true) →
      IsLeast K (h.from u) (h.from v) least → i + least ≤ j → IsOrdered (reordered L es) u i v j
  chained u i v j a least lu lv ne turn ru rv st chain within =
      let gap = gap_of L (ask u v least) in
      let there : Goes L v (i + (j - i)) a = subst (λ (z : ℕ). Goes L v z a) (let e : j ≡ i + (j - i) = omega arith in e) (goes v j a rv) in
      let w = gap_within L (ask u v least) gap.0 a i (j - i) gap.1 (omega arith) (omega arith) (goes u i a ru) there in
      gapped u i v j a least w.0 lu lv ne ru rv st chain (gap_is L u v least w.0 gap.0 w.1 gap.1) w.2 (omega arith)

  -- and so where any of its chains is
  linked : (u i v j a d : ℕ) → u < size L → v < size L → (u ≡ v → ⊥) → j < n → Here u i a → Here v j a → (is_store (node L u).op ≡ true) ⊎ (is_store (node L v).op ≡ true) →
      Chain K (h.from u) (h.from v) d → i + d ≤ j → IsOrdered (reordered L es) u i v j
  linked u i v j a d lu lv ne turn ru rv st chain within =
      let least = some_least K good (h.from u) (h.from v) d (λ e. ne (h.apart u v lu lv e)) chain in
      let below : least.0 ≤ d = least.1.least d chain in
      chained u i v j a least.0 lu lv ne turn ru rv st least.1 (omega arith)

  -- the steps of the given kernel that they stand for are in the same order
  given_order : (u i v j : ℕ) → u < size L → v < size L → i * size L + u < j * size L + v → is_access (node L u).op ≡ true → is_access (node L v).op ≡ true →
      (is_store (node L u).op ≡ true) ⊎ (is_store (node L v).op ≡ true) → i * size K + h.from u < j * size K + h.from v
  given_order u i v j lu lv rises au av st =
      ⊎_elim
      (λ l. step_before i j (h.from u) (h.from v) (size K) l (h.inside u lu))
      (λ e. step_beside i j (h.from u) (h.from v) (size K) e.0 (h.ordered u v e.1 lv au av st))
      (turns_of i j u v (size L) rises lv)

  given_store : (u i : ℕ) → u < size L → is_store (node L u).op ≡ true → is_store (work K image (i * size K + h.from u)).op ≡ true
  given_store u i l s = subst (λ z. is_store (node K z).op ≡ true) (sym (step_node i (size K) (h.from u) (h.inside u l))) (h.stores u l s)

  -- so the given kernel orders them
  given_ordered : (u i v j a : ℕ) → a < length image.memory → u < size L → v < size L → j < n → i * size L + u < j * size L + v →
      Reaches (work L image (i * size L + u)) a → Reaches (work L image (j * size L + v)) a → (is_store (node L u).op ≡ true) ⊎ (is_store (node L v).op ≡ true) →
      IsOrdered K (h.from u) i (h.from v) j
  given_ordered u i v j a inside lu lv turn rises ru rv st =
      let x = h.inside u lu in
      let y = h.inside v lv in
      ordered_as K _ _ _ _ (h.from u) i (h.from v) j (step_node i (size K) (h.from u) x) (step_turn i (size K) (h.from u) x) (step_node j (size K) (h.from v) y) (step_turn j (size K) (h.from v) y)
      (safe a (i * size K + h.from u) (j * size K + h.from v) inside (given_order u i v j lu lv rises (here u i a lu ru).is (here v j a lv rv).is st)
      (step_within j (size K) (h.from v) n y turn) (h.reaches image u i a words lu ru) (h.reaches image v j a words lv rv)
      (⊎_elim (λ s. inl (given_store u i lu s)) (λ s. inr (given_store v j lv s)) st))

  ordered : (u i v j a : ℕ) → a < length image.memory → u < size L → v < size L → j < n → i * size L + u < j * size L + v →
      Reaches (work L image (i * size L + u)) a → Reaches (work L image (j * size L + v)) a → (is_store (node L u).op ≡ true) ⊎ (is_store (node L v).op ≡ true) →
      IsOrdered (reordered L es) u i v j
  ordered u i v j a inside lu lv turn rises ru rv st =
      ⊎_elim
      (λ e. inl (e, ⊎_elim (λ l. l) (λ o. absurd (let b = o.1 in omega arith)) (turns_of i j u v (size L) rises lv)))
      (λ ne. ⊎_elim
      (λ o. absurd (ne (h.apart u v lu lv o.0)))
      (λ c. linked u i v j a c.0 lu lv ne turn (here u i a lu ru) (here v j a lv rv) st c.1 c.2)
      (given_ordered u i v j a inside lu lv turn rises ru rv st))
      (cases_eq u v)

  -- other order edges change no step
  same_work : (k : ℕ) → work (reordered L es) image k ≡ work L image k
  same_work k = ap (λ (p : Progress). work_at L k p.values) (same_before L.nodes es L.order image k)

  reached : (k a : ℕ) → Reaches (work (reordered L es) image k) a → Reaches (work L image (k / size L * size L + k % size L)) a
  reached k a r = subst (λ w. Reaches w a) (same_work k ∙ ap (work L image) (step_of k (size L))) r

  unaliased : IsUnaliased (reordered L es) n image
  unaliased a k l inside b last rk rl st =
      let pos = positive_from l n (size L) last in
      let rises : k / size L * size L + k % size L < l / size L * size L + l % size L = let x = step_of k (size L) in let y = step_of l (size L) in omega arith in
      ordered (k % size L) (k / size L) (l % size L) (l / size L) a inside (mod_below k (size L) pos) (mod_below l (size L) pos) (turn_below l n (size L) last) rises (reached k a rk) (reached l a rl) st

pub stays : (K L M : Kernel) (es : List OrderEdge) → IsKernel K → IsKernel L → IsRewritten K L → M ≡ reordered L es → AreMet K L M → StaysUnaliased K M
stays K L M es good made h is met n image words few safe =
    subst (λ (z : Kernel). IsUnaliased z n image) (sym is)
    (unaliased K L es image n good made h (subst (λ (z : Kernel). AreMet K L z) is met) words few safe)
