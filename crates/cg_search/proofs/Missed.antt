-- What is left at intervals, one more and one replaced.
use Rattle.std.proofs.Common.{ℕ, zero, suc, ◌+◌, ◌<◌, ◌≡◌, List, [], ◌∷◌, ◌++◌, length, get_or, sym, arith, subst}
use Rattle.std.proofs.Math.ListN.{set}
use Rattle.cg_model.specs.Kernel.{Kernel}
use Rattle.cg_model.specs.Array.{Arch}
use Rattle.cg_model.specs.Mapping.{Mapping}
use Rattle.cg_search_respond.specs.Faults.{faults_of}
use Rattle.cg_search_respond.specs.Responded.{IsMissed}
use Rattle.cg_search_respond.proofs.Weighed.{faults_some}
use Rattle.cg_search.specs.declared.misses.Miss.{Miss}
use Rattle.cg_search.specs.Search.{IsMiss, AreMissedFrom}

module _ (A : Arch) (K : Kernel) where
  -- a mapping with its faults
  pub miss_of : (ii n : ℕ) (M : Mapping) → n ≡ faults_of A K M → IsMissed A K ii M → IsMiss A K ii (record { faults = n; mapping = M })
  miss_of ii n M counted is = record { missed = is; counted = counted; some = subst (λ k. 0 < k) (sym counted) (faults_some A K M) }

  at : {m : Miss} (ii jj : ℕ) → ii ≡ jj → IsMiss A K ii m → IsMiss A K jj m
  at {m} ii jj e is = subst (λ z. IsMiss A K z m) e is

  pub one_more : (ii : ℕ) (misses : List Miss) (m : Miss) → AreMissedFrom A K ii misses → IsMiss A K (ii + length misses) m → AreMissedFrom A K ii (misses ++ (m ∷ []))
  one_more ii [] m are is = (at (ii + 0) ii (omega arith) is, tt)
  one_more ii (n ∷ misses) m are is = (are.0, one_more (ii + 1) misses m are.1 (at (ii + suc (length misses)) (ii + 1 + length misses) (omega arith) is))

  pub replaced : (ii : ℕ) (misses : List Miss) (k : ℕ) (m : Miss) → AreMissedFrom A K ii misses → IsMiss A K (ii + k) m → AreMissedFrom A K ii (set misses k m)
  replaced ii [] k m are is = tt
  replaced ii (n ∷ misses) zero m are is = (at (ii + 0) ii (omega arith) is, are.1)
  replaced ii (n ∷ misses) (suc k) m are is = (are.0, replaced (ii + 1) misses k m are.1 (at (ii + suc k) (ii + 1 + k) (omega arith) is))

  -- the one at an interval
  pub missed_at : (ii : ℕ) (misses : List Miss) (k : ℕ) (d : Miss) → AreMissedFrom A K ii misses → k < length misses → IsMiss A K (ii + k) (get_or misses k d)
  missed_at ii [] k d are few = absurd (omega (arith, few))
  missed_at ii (m ∷ misses) zero d are few = at ii (ii + 0) (omega arith) are.0
  missed_at ii (m ∷ misses) (suc k) d are few = at (ii + 1 + k) (ii + suc k) (omega arith) (missed_at (ii + 1) misses k d are.1 (omega (arith, few)))
