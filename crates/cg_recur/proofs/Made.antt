-- What the rounds leave, for what reads it.
use Rattle.std.proofs.Common.{◌≡◌, ℕ, ◌<◌, Bool, true, false, List, length, sym, subst}
use Rattle.std.specs.Prelude.{slice_get, slice_index}
use Rattle.cg_recur.specs.declared.edge.Edge.{Edge}
use Rattle.cg_recur.specs.Chain.{IsCycle, IsEarly}
use Rattle.cg_recur.specs.declared.moments.Step.{Step}
use Rattle.cg_recur.specs.Log.{IsWithin, IsLog, IsShallow, IsDeep, IsMade, AreTimes}
use Rattle.cg_recur.proofs.Ends.{answers}
use Rattle.cg_recur.proofs.Closing.{closed_chain}

module _ (es : List Edge) (ii n : ℕ) where
  -- of lists that are the same
  pub made_at : (log l : List Step) (last m : List ℕ) (b : Bool) → l ≡ log → m ≡ last → IsMade es ii n log last b → IsMade es ii n l m b
  made_at log l last m b e f h = subst (λ z. IsMade es ii n z m b) (sym e) (subst (λ z. IsMade es ii n log z b) (sym f) h)

  module _ (l : List Step) (m : List ℕ) where
    whole : IsLog es ii n l m → IsLog es ii (length m) l m
    whole h = subst (λ z. IsLog es ii z l m) (sym h.each) h

    pub good : (b : Bool) → IsMade es ii n l m b → IsLog es ii (length m) l m
    good true h = whole h.0
    good false h = whole h.0

    pub deep : (b : Bool) → b ≡ true → IsMade es ii n l m b → IsDeep (length m) l
    deep true e h = subst (λ z. IsDeep z l) (sym h.0.each) h.1
    deep false e h = absurd (cc)

    -- where no chain is too long the rounds leave no deep log
    pub none_deep : (b : Bool) → ((xs : List ℕ) → IsCycle (slice_get es) ii xs → ⊥) → IsMade es ii n l m b → IsMade es ii n l m false
    none_deep true none h = absurd (let (xs, c) = closed_chain es ii n l m h.0 h.1 in none xs c.0)
    none_deep false none h = h

    pub shallow : IsMade es ii n l m false → IsShallow (length m) l
    shallow h = subst (λ z. IsShallow z l) (sym h.0.each) h.1

    pub early : IsWithin es n → (ts : List ℕ) → IsMade es ii n l m false → AreTimes l m ts →
        (length ts ≡ n) × ((v : ℕ) → v < n → IsEarly (slice_get es) ii v (slice_index ts v)) × ((xs : List ℕ) → IsCycle (slice_get es) ii xs → ⊥)
    early within ts h are = answers es ii n l m within h.0 h.2 ts are
