-- Edges of words.
use Rattle.std.proofs.Common.{◌≡◌, ◌≢◌, ℕ, ◌<◌, ◌≤◌, ◌==◌, if◌then◌else◌, Bool, true, false, List, length, Option, Some, None, refl, sym, ap, ◌∙◌, subst, arith, inl, inr, ⊎_elim}
use Rattle.std.specs.Prelude.{slice_index}
use Rattle.std.proofs.lemmas.Bool.{cases_eq, cases_lt}
use Rattle.std.proofs.lemmas.Bool.Decides.{nat_tests}
use Rattle.std.proofs.lemmas.List.{get_or_past}
use Rattle.cg_c_values.specs.declared.value.Value.{Value}
use Rattle.cg_c_values.specs.declared.value.Value.TheVariants as values
use Rattle.cg_c_values.specs.Values.{value_at}
use Rattle.cg_c_kernel.specs.declared.edges.Edge.{Edge}
use Rattle.cg_c_kernel.specs.Live.{AreClosed, final_in, has_mark}
use Rattle.cg_c_kernel.specs.Made.{Made, IsLiveWord, Grows, HasLoads, MayBeMade}
use Rattle.cg_c_kernel.specs.Edges.{AreEdges, Continues, IsEdge, IsFinal, IsFollowed, IsSettled, KeepsEdges, edge_in, has_edge, is_there}
use Rattle.cg_c_kernel.proofs.Growing.{is_grows}

-- ---- edges stay what they are

continues_kept : (a b : List (Option Edge)) (number from : ℕ) (rest : List ℕ) → KeepsEdges a b → Continues (edge_in a number) from rest → Continues (edge_in b number) from rest
continues_kept a b number from rest k = by (edge_in a number) (k number)
  where
    by : (o : Option Edge) → ((e : Edge) → o ≡ Some e → edge_in b number ≡ Some e) → Continues o from rest → Continues (edge_in b number) from rest
    by None f i = absurd i
    by (Some e) f i = rw (f e refl) i

followed_kept : (s t : Made) (a b : List (Option Edge)) (number from : ℕ) (rest : List ℕ) → Grows s t → KeepsEdges a b → IsFollowed s a number from rest → IsFollowed t b number from rest
followed_kept s t a b number from rest g k (inl (e, i)) = inl (e, is_grows s t _ _ _ _ g i)
followed_kept s t a b number from rest g k (inr c) = inr (continues_kept a b number from rest k c)

final_kept : (s t : Made) (a b : List (Option Edge)) (v from : ℕ) (rest : List ℕ) (value : Value) → Grows s t → KeepsEdges a b → IsFinal s a v from rest value → IsFinal t b v from rest value
final_kept s t a b v from rest (values.Const word) g k (e, i) = (e, is_grows s t _ _ _ _ g i)
final_kept s t a b v from rest (values.Carried number) g k i = followed_kept s t a b number from rest g k i
final_kept s t a b v from rest values.Turn g k (e, i) = (e, g.at v from i)
final_kept s t a b v from rest (values.Quotient d) g k (e, i) = (e, g.at v from i)
final_kept s t a b v from rest (values.Digit d x) g k (e, i) = (e, g.at v from i)
final_kept s t a b v from rest (values.Input p) g k (e, i) = (e, g.at v from i)
final_kept s t a b v from rest (values.Loaded x y z w) g k (e, i) = (e, g.at v from i)
final_kept s t a b v from rest (values.Two x y z) g k (e, i) = (e, g.at v from i)
final_kept s t a b v from rest (values.Select x y z) g k (e, i) = (e, g.at v from i)

edge_kept : (old : List Value) (s t : Made) (a b : List (Option Edge)) (number : ℕ) (o : Option ℕ) (word : ℕ) (e : Edge) → Grows s t → KeepsEdges a b → IsEdge old s a number o word e → IsEdge old t b number o word e
edge_kept old s t a b number None word e g k i = record { rest = i.rest; words = i.words; followed = followed_kept s t a b number e.from i.rest g k i.followed }
edge_kept old s t a b number (Some v) word e g k i = record { rest = i.rest; words = i.words; final = final_kept s t a b v e.from i.rest (value_at old v) g k i.final }

-- ---- one more edge

-- b has an edge more than a
pub record HasMore (a b : List (Option Edge)) (number : ℕ) (e : Edge) : Type 0 where
  pub none : has_edge a number ≡ false
  pub set : (n : ℕ) → edge_in b n ≡ (if n == number then Some e else edge_in a n)

there_not : (o : Option Edge) (e : Edge) → is_there o ≡ false → o ≡ Some e → ⊥
there_not None e h i = absurd (cc)
there_not (Some f) e h i = absurd (cc)

set_here : (a b : List (Option Edge)) (number : ℕ) (e : Edge) → HasMore a b number e → edge_in b number ≡ Some e
set_here a b number e h = grind (arith, nat_tests, h.set number)

set_other : (a b : List (Option Edge)) (number n : ℕ) (e : Edge) → HasMore a b number e → n ≢ number → edge_in b n ≡ edge_in a n
set_other a b number n e h ne = grind (arith, nat_tests, h.set n)

pub more_keeps : (a b : List (Option Edge)) (number : ℕ) (e : Edge) → HasMore a b number e → KeepsEdges a b
more_keeps a b number e h n f is =
    ⊎_elim
    (λ (q : n ≡ number). absurd (there_not (edge_in a number) f h.none (subst (λ (z : ℕ). edge_in a z ≡ Some f) q is)))
    (λ (q : n ≢ number). set_other a b number n e h q ∙ is) (cases_eq n number)

pub more_edges : (old : List Value) (finals : List (Option ℕ)) (initial : List ℕ) (s t : Made) (a b : List (Option Edge)) (number : ℕ) (e : Edge) → AreEdges old finals initial s a → Grows s t → HasMore a b number e →
    IsEdge old t a number (final_in finals number) (slice_index initial number) e → AreEdges old finals initial t b
more_edges old finals initial s t a b number e are g h i =
    let keeps = more_keeps a b number e h in
    record {
      each = λ n f is.
          ⊎_elim
          (λ (q : n ≡ number).
          let here : edge_in b n ≡ Some e = subst (λ (z : ℕ). edge_in b z ≡ Some e) (sym q) (set_here a b number e h) in
          let same : e ≡ f = cc in
          subst (λ (z : Edge). IsEdge old t b n (final_in finals n) (slice_index initial n) z) same
          (subst (λ (z : ℕ). IsEdge old t b z (final_in finals z) (slice_index initial z) e) (sym q) (edge_kept old t t a b number (final_in finals number) (slice_index initial number) e (record { longer = omega arith; nodes = λ m x j. j; at = λ v m j. j }) keeps i)))
          (λ (q : n ≢ number). edge_kept old s t a b n (final_in finals n) (slice_index initial n) f g keeps (are.each n f (sym (set_other a b number n e h q) ∙ is))) (cases_eq n number);
    }

pub more_there : (a b : List (Option Edge)) (number : ℕ) (e : Edge) → HasMore a b number e → has_edge b number ≡ true
more_there a b number e h = ap is_there (set_here a b number e h)

-- ---- the final value of a live word

marked_within : (marks : List Bool) (v : ℕ) → has_mark marks v ≡ true → v < length marks
marked_within marks v h = ⊎_elim (λ l. l) (λ (past : length marks ≤ v). let e = get_or_past marks v false past in absurd (cc)) (cases_lt v (length marks))

pub final_may : (old : List Value) (finals : List (Option ℕ)) (marks : List Bool) (s : Made) (number v : ℕ) → length marks ≡ length old → AreClosed old finals marks → IsLiveWord old marks number → HasLoads old marks s (length old) →
    Some v ≡ final_in finals number → MayBeMade old marks s v
final_may old finals marks s number v long closed live loads is =
    let needs = rw live.is at (closed live.v live.within live.live) in
    let has : has_mark marks v ≡ true = rw (sym is) at needs in
    let within = marked_within marks v has in
    record { within = omega arith; live = has; loads = λ u le. loads u (omega arith) }

-- the final value of a live word is live
pub final_live : (old : List Value) (finals : List (Option ℕ)) (marks : List Bool) (number v : ℕ) → length marks ≡ length old → AreClosed old finals marks → IsLiveWord old marks number →
    Some v ≡ final_in finals number → (v < length old) × (has_mark marks v ≡ true)
final_live old finals marks number v long closed live is =
    let needs = rw live.is at (closed live.v live.within live.live) in
    let has : has_mark marks v ≡ true = rw (sym is) at needs in
    let within = marked_within marks v has in
    (omega arith, has)

-- a word that a live word becomes is live
pub next_live : (old : List Value) (finals : List (Option ℕ)) (marks : List Bool) (number v next : ℕ) → length marks ≡ length old → AreClosed old finals marks → IsLiveWord old marks number →
    Some v ≡ final_in finals number → values.Carried next ≡ value_at old v → IsLiveWord old marks next
next_live old finals marks number v next long closed live is e =
    let f = final_live old finals marks number v long closed live is in
    record { v = v; within = f.0; is = sym e; live = f.1 }

-- ---- settled values

has_kept : (a b : List (Option Edge)) (number : ℕ) → KeepsEdges a b → has_edge a number ≡ true → has_edge b number ≡ true
has_kept a b number k = by (edge_in a number) (k number)
  where
    by : (o : Option Edge) → ((e : Edge) → o ≡ Some e → edge_in b number ≡ Some e) → is_there o ≡ true → has_edge b number ≡ true
    by None f h = absurd (cc)
    by (Some e) f h = ap is_there (f e refl)

pub settled_kept : (old : List Value) (marks : List Bool) (a b : List (Option Edge)) (v : ℕ) → KeepsEdges a b → IsSettled old marks a v → IsSettled old marks b v
settled_kept old marks a b v k h number is live = has_kept a b number k (h number is live)
