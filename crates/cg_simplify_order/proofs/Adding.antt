-- Needs that are added pair by pair and row by row.
use Rattle.std.proofs.Common.{◌≡◌, ℕ, ◌+◌, ◌<◌, ◌≤◌, List, [], ◌∷◌, ◌++◌, sym, ap, ◌∙◌, subst, arith, ⊎_elim, inl, inr}
use Rattle.std.specs.Prelude.{◌⊎◌, Contains}
use Rattle.std.proofs.lemmas.Bool.{cases_lt}
use Rattle.std.proofs.lemmas.List.Elements.{Contains-append_left, Contains-push, Contains-push_cases}
use Rattle.cg_model.specs.declared.kernel.OrderEdge.{OrderEdge}
use Rattle.cg_model.specs.Kernel.{Kernel, IsKernel, size}
use Rattle.cg_simplify_order.specs.Needs.{IsNeed}
use Rattle.cg_simplify_order.specs.Found.{Adds, AreAllNeeds, AllPairs, OnePair, PairsTo, RowsTo, HasNoNeed, edge}
use Rattle.cg_simplify_order.proofs.Needed.{one_need}

pub adds_none : (K L : Kernel) (list : List OrderEdge) (u v : ℕ) → HasNoNeed K L u v → Adds K L (OnePair u v) list list
adds_none K L list u v never =
    record {
      kept = λ e h. h;
      fresh = λ e h. inl h;
      taken = λ x y r asked n. absurd (never r (subst (λ z. IsNeed K L z v r) asked.0 (subst (λ z. IsNeed K L x z r) asked.1 n)));
    }

pub adds_one : (K L : Kernel) → IsKernel K → (old new : List OrderEdge) (u v r : ℕ) → IsNeed K L u v r → new ≡ old ++ edge u v r ∷ [] → Adds K L (OnePair u v) old new
adds_one K L good old new u v r need is =
    record {
      kept = λ e h. subst (λ xs. Contains xs e) (sym is) (Contains-append_left old (edge u v r ∷ []) e h);
      fresh = λ e h.
          ⊎_elim inl
          (λ s. inr (subst (λ (z : OrderEdge). IsNeed K L z.from z.to z.distance) s need))
          (Contains-push_cases old (edge u v r) e (subst (λ xs. Contains xs e) is h));
      taken = λ x y s asked n.
          let there : Contains new (edge u v r) = subst (λ xs. Contains xs (edge u v r)) (sym is) (Contains-push old (edge u v r)) in
          let n' : IsNeed K L u v s = subst (λ z. IsNeed K L z v s) asked.0 (subst (λ z. IsNeed K L x z s) asked.1 n) in
          let same : edge u v r ≡ edge x y s = ap (λ z. edge u v z) (one_need K L good u v r s need n') ∙ ap (λ z. edge z v s) (sym asked.0) ∙ ap (λ z. edge x z s) (sym asked.1) in
          subst (Contains new) same there;
    }

adds_then : (K L : Kernel) (P Q R : ℕ → ℕ → Type 0) (a b c : List OrderEdge) → ((u v : ℕ) → R u v → P u v ⊎ Q u v) → Adds K L P a b → Adds K L Q b c → Adds K L R a c
adds_then K L P Q R a b c cases p q =
    record {
      kept = λ e h. q.kept e (p.kept e h);
      fresh = λ e h. ⊎_elim (p.fresh e) inr (q.fresh e h);
      taken = λ u v r asked n. ⊎_elim (λ h. q.kept (edge u v r) (p.taken u v r h n)) (λ h. q.taken u v r h n) (cases u v asked);
    }

adds_nothing : (K L : Kernel) (P : ℕ → ℕ → Type 0) (list : List OrderEdge) → ((u v : ℕ) → P u v → ⊥) → Adds K L P list list
adds_nothing K L P list none = record { kept = λ e h. h; fresh = λ e h. inl h; taken = λ u v r asked n. absurd (none u v asked) }

pub row_start : (K L : Kernel) (list : List OrderEdge) (u : ℕ) → Adds K L (PairsTo u 0) list list
row_start K L list u = adds_nothing K L (PairsTo u 0) list (λ x y h. let l = h.1 in omega arith)

pub row_more : (K L : Kernel) (a b c : List OrderEdge) (u v : ℕ) → Adds K L (PairsTo u v) a b → Adds K L (OnePair u v) b c → Adds K L (PairsTo u (v + 1)) a c
row_more K L a b c u v =
    adds_then K L (PairsTo u v) (OnePair u v) (PairsTo u (v + 1)) a b c
    (λ x y h. let m = h.1 in ⊎_elim (λ (l : y < v). inl (h.0, l)) (λ (l : v ≤ y). inr (h.0, omega arith)) (cases_lt y v))

pub row_all : (K L : Kernel) (a b : List OrderEdge) (u v : ℕ) → size L ≤ v → Adds K L (PairsTo u v) a b → Adds K L (AllPairs u) a b
row_all K L a b u v l p = record { kept = p.kept; fresh = p.fresh; taken = λ x y r asked n. p.taken x y r (asked, let m = n.second in omega arith) n }

pub rows_start : (K L : Kernel) (list : List OrderEdge) → Adds K L (RowsTo 0) list list
rows_start K L list = adds_nothing K L (RowsTo 0) list (λ x y h. omega arith)

pub rows_more : (K L : Kernel) (a b c : List OrderEdge) (u : ℕ) → Adds K L (RowsTo u) a b → Adds K L (AllPairs u) b c → Adds K L (RowsTo (u + 1)) a c
rows_more K L a b c u =
    adds_then K L (RowsTo u) (AllPairs u) (RowsTo (u + 1)) a b c
    (λ x y h. ⊎_elim (λ (l : x < u). inl l) (λ (l : u ≤ x). inr (omega arith)) (cases_lt x u))

empty : (e : OrderEdge) → Contains [] e → ⊥
empty e h = let l = h.1 in omega arith

pub all_added : (K L : Kernel) (list : List OrderEdge) (u : ℕ) → size L ≤ u → Adds K L (RowsTo u) [] list → AreAllNeeds K L list
all_added K L list u l p =
    record {
      sound = λ e h. ⊎_elim (λ b. absurd (empty e b)) (λ n. n) (p.fresh e h);
      complete = λ x y r n. p.taken x y r (let m = n.first in omega arith) n;
    }
