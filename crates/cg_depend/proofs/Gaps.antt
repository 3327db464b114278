-- The gap between two accesses is at most the number of turns between them, where they reach one word.
use Rattle.std.proofs.Common.{◌≡◌, ℕ, ◌+◌, ◌-◌, ◌*◌, ◌%◌, ◌<◌, ◌≤◌, Option, Some, None, refl, sym, ap, ◌∙◌, arith, ⊎_elim}
use Rattle.std.proofs.lemmas.Bool.{cases_lt}
use Rattle.cg_word.specs.Word.{words, apply_of}
use Rattle.cg_model.specs.Kernel.{Kernel}
use Rattle.cg_model.specs.Limits.{most_turns}
use Rattle.cg_depend.specs.Affine.{AffinePair, at_turn, address_pair}
use Rattle.cg_depend.specs.Depend.{Ask, Gap, never, first, unknown, Meets}
use Rattle.cg_depend.proofs.Numbers.{more, cancelled, cancelled_any}

-- two lines of stride s that are one word in turns i and i + x
met : (W b c s i x : ℕ) → 0 < W → c ≤ W → (b + s * i) % W ≡ (c + s * (i + x)) % W → (s * x) % W ≡ (b + W - c) % W
met W b c s i x p h e =
    cancelled W (s * x) c (b + W - c) h
    (cancelled_any W (s * x + c) (s * i) b p (ap (λ z. z % W) (let f : s * x + c + s * i ≡ c + s * (i + x) = omega arith in f) ∙ sym e)
    ∙ sym (more W 1 b (b + W - c + c) (omega arith)))

pub meets : (p q : AffinePair) (i x : ℕ) → q.base < words → p.stride ≡ q.stride → at_turn p i ≡ at_turn q (i + x) → Meets p q x
unfolding apply_of
meets p q i x h e same = met words p.base q.base p.stride i x (omega arith) (omega arith) (same ∙ ap (λ s. (q.base + s * (i + x)) % words) (sym e))

-- an access whose address pair, if any, gives its word
pub record Goes (K : Kernel) (v i word : ℕ) : Type 0 where
  pub by_pair : (p : AffinePair) → address_pair K v ≡ Some p → (p.base < words) × (word ≡ at_turn p i)

-- the gap of a question that two accesses of one word pose
pub gap_within : (K : Kernel) (a : Ask) (o : Option ℕ) (word i x : ℕ) → Gap K a o → a.least ≤ x → x < most_turns → Goes K a.source i word → Goes K a.target (i + x) word → (g : ℕ) × (o ≡ Some g) × (g ≤ x)
gap_within K a None word i x (never p q one none) l m s t =
    absurd (none x l m (meets p q i x (t.by_pair q one.of_target).0 one.one (sym (s.by_pair p one.of_source).1 ∙ (t.by_pair q one.of_target).1)))
gap_within K a (Some g) word i x (first p q y one least most is only) l m s t =
    (g, refl, ⊎_elim (λ b. absurd (only x l b (meets p q i x (t.by_pair q one.of_target).0 one.one (sym (s.by_pair p one.of_source).1 ∙ (t.by_pair q one.of_target).1)))) (λ b. b) (cases_lt x g))
gap_within K a (Some g) word i x (unknown none) l m s t = (a.least, refl, l)
