-- A kernel with a legal mapping has a longest recurrence and a fullest class, or none: by definitions alone.
use Rattle.std.proofs.Common.{◌≡◌, ℕ, zero, suc, ◌+◌, ◌-◌, ◌^◌, ◌<◌, ◌≤◌, List, length, Option, Some, None, refl, subst, arith, inl, inr, ⊎_elim}
use Rattle.std.specs.Prelude.{◌⊎◌}
use Rattle.std.specs.Global.{Vec}
use denote.RawPtr.{null_ptr}
use Rattle.cg_word.specs.declared.op.Op.{Op}
use Rattle.cg_model.specs.Kernel.{Kernel, IsKernel}
use Rattle.cg_model.specs.Array.{Arch, IsArch}
use Rattle.cg_model.specs.Mapping.{Mapping, IsLegal}
use Rattle.cg_recur.specs.declared.edge.EdgeId.{EdgeId}
use Rattle.cg_recur.specs.Edges.{edge_of, latency}
use Rattle.cg_recur.specs.Chain.{IsShown}
use Rattle.cg_recur.proofs.Latencies.{latency_small}
use Rattle.cg_recur.specs.Recurrences.{IsRecurrence, HasNoRecurrence}
use Rattle.cg_recur.proofs.Decided.{recurrence_or_none, shown_short}
use Rattle.cg_class.specs.Class.{IsOverfull, AreOfNodes}
use Rattle.cg_class.proofs.Subsets.{overfull_or_none}
use Rattle.cg_bound.specs.Bound.{HasNoOverfull}
use Rattle.cg_bound.proofs.Legal.{not_forbidden}
use Rattle.cg_show_table.specs.declared.margin.LongChain.{LongChain}
use Rattle.cg_show_table.specs.declared.margin.FullClass.{FullClass}
use Rattle.cg_show_table.specs.declared.margin.Margin.{Margin}
use Rattle.cg_show_table.specs.Margin.{IsLongest, IsFullest, IsChain, IsClass, IsMargin}

-- from an interval that is free down: none forbids, or one does below a free one
down : (Free Forbidden : ℕ → Type 0) → ((n : ℕ) → Forbidden n ⊎ Free n) → (n : ℕ) → Free n → Free 0 ⊎ ((k : ℕ) × Free (k + 1) × Forbidden k)
down Free Forbidden decide zero free = inl free
down Free Forbidden decide (suc n) free =
    ⊎_elim
    (λ there. inr (n, (let e : suc n ≡ n + 1 = omega arith in subst Free e free), there))
    (λ below. down Free Forbidden decide n below)
    (decide n)

-- a list as a value of the program: where it would stand in memory is no matter of what is said of it
abbrev held : (ids : List EdgeId) → length ids < 2 ^ 63 → Vec EdgeId
held ids l = record { ptr = null_ptr; len = length ids; cap = length ids; alloc = record { memory = record { seal = tt } }; items = ids; ok = (refl, omega arith); small = l }

-- a recurrence in its shown form
abbrev ShowsRecurrence : Arch → Kernel → ℕ → Type 0
ShowsRecurrence A K n = (ids : List EdgeId) × IsRecurrence A K n ids × IsShown (edge_of A K) ids

-- an overfull set of operations of nodes
abbrev ShowsOverfull : Arch → Kernel → ℕ → Type 0
ShowsOverfull A K n = (set : List Op) × IsOverfull A K n set × AreOfNodes K set

module _ (A : Arch) (K : Kernel) (M : Mapping) (arch : IsArch A) (good : IsKernel K) (legal : IsLegal A K M) where
  small : (op : Op) → latency A op ≤ 4
  small op = latency_small A op arch

  below : (k : ℕ) → k ≡ k + 1 - 1
  below k = omega arith

  longest : (k : ℕ) → HasNoRecurrence A K (k + 1) → ShowsRecurrence A K k → (c : LongChain) × IsLongest A K c
  longest k free (ids, c, shown) =
      let short : length ids < 2 ^ 63 = let a = shown_short A K small good k ids c shown in let b = good.few in omega arith in
      (record { least = k + 1; edges = held ids short }, record { some = omega arith; free = free; forbids = subst (λ n. IsRecurrence A K n ids) (below k) c; shown = shown })

  fullest : (k : ℕ) → HasNoOverfull A K (k + 1) → ShowsOverfull A K k → (c : FullClass) × IsFullest A K c
  fullest k free (set, over, own) =
      (record { least = k + 1; ops = set }, record { some = omega arith; free = free; overfull = subst (λ n. IsOverfull A K n set) (below k) over; own = own })

  some_chain : (c : Option LongChain) × IsChain A K c
  some_chain =
      ⊎_elim
      (λ none. (None, none))
      (λ (k, free, there). let (c, is) = longest k free there in (Some c, is))
      (down (HasNoRecurrence A K) (ShowsRecurrence A K) (λ n. recurrence_or_none A K small good n) M.ii (λ ids c. not_forbidden A K M good legal (inl (ids, c))))

  some_class : (c : Option FullClass) × IsClass A K c
  some_class =
      ⊎_elim
      (λ none. (None, none))
      (λ (k, free, there). let (c, is) = fullest k free there in (Some c, is))
      (down (HasNoOverfull A K) (ShowsOverfull A K) (λ n. overfull_or_none A K n) M.ii (λ set over. not_forbidden A K M good legal (inr (set, over))))

  pub some_margin : (m : Margin) × IsMargin A K m
  some_margin =
      let (chain, is_chain) = some_chain in
      let (ops, is_class) = some_class in
      (record { chain = chain; «class» = ops }, record { chain = is_chain; «class» = is_class })
