-- For each interval there is a reason of each kind, or none; and a reason, or times that show that there is none: by
-- definitions alone.
use Rattle.std.proofs.Common.{ℕ, ◌+◌, ◌*◌, ◌≤◌, Option, Some, None, refl, arith, ⊎_elim}
use Rattle.cg_word.specs.declared.op.Op.{Op}
use Rattle.cg_model.specs.Kernel.{Kernel, IsKernel}
use Rattle.cg_model.specs.Array.{Arch, IsArch}
use Rattle.cg_recur.specs.Edges.{latency}
use Rattle.cg_recur.proofs.Latencies.{latency_small}
use Rattle.cg_recur.proofs.Decided.{recurrence_or_none, shown_short}
use Rattle.cg_class.proofs.Subsets.{overfull_or_none}
use Rattle.cg_bound_routes.specs.declared.missing.Missing.{Missing}
use Rattle.cg_bound_registers.specs.Sums.{table}
use Rattle.cg_bound_all.proofs.Decided.{IsDecided, decided}
use Rattle.cg_bound_recurrence.proofs.Decided.{way_cycle_or_none}
use Rattle.cg_bound_all.specs.declared.reason.Kind.{Kind}
use Rattle.cg_bound_all.specs.declared.reason.Kind.TheVariants as kinds
use Rattle.cg_bound_all.specs.declared.reason.Reason.{Reason}
use Rattle.cg_bound_all.specs.declared.reason.Reason.TheVariants.{Recurrence, Class, NoWay, Ways, Registers}
use Rattle.cg_bound_all.specs.declared.numbers.Numbers.{Numbers}
use Rattle.cg_bound_all.specs.declared.numbers.HopTables.{HopTables}
use Rattle.cg_bound_all.specs.declared.least.Verdict.{Verdict}
use Rattle.cg_bound_all.specs.declared.least.Verdict.TheVariants.{Excluded, Open}
use Rattle.cg_bound_all.specs.Why.{HasNoWay, IsMissing, AreNumbers, AreAllNumbers, numbers_at, IsExcluded}
use Rattle.cg_bound_all.specs.Scan.{IsFound, IsVerdict}
use Rattle.cg_bound_all.proofs.Reasons.{no_registers, numbers_for}
use Rattle.cg_bound_all.proofs.Scans.{open_verdict}
use Rattle.cg_bound_all.proofs.Tables.{held}

module _ (A : Arch) (K : Kernel) (arch : IsArch A) (valid : IsKernel K) where
  small : (op : Op) → latency A op ≤ 4
  small op = latency_small A op arch

  module _ (n : Numbers) (ii : ℕ) (are : AreNumbers A K ii n) where
    abbrev hops : ℕ → ℕ → ℕ
    hops = table n.hops.items

    abbrev HasFound : Kind → Type 0
    HasFound kind = (o : Option Reason) × IsFound A K hops ii kind o

    near : (v p : ℕ) → hops v p ≤ 4096
    near v p = are.small (3 * v + p)

    by_recurrence : HasFound kinds.Recurrence
    by_recurrence =
        ⊎_elim {C = HasFound kinds.Recurrence}
        (λ (ids, c, shown). (Some (Recurrence (held ids (let a = shown_short A K small valid ii ids c shown in let b = valid.few in omega arith))), (c, refl)))
        (λ none. (None, λ (ids, c). none ids c))
        (recurrence_or_none A K small valid ii)

    by_class : HasFound kinds.Class
    by_class =
        ⊎_elim {C = HasFound kinds.Class} (λ (set, over, bound). (Some (Class set), (over, refl))) (λ none. (None, λ (set, over). none set over)) (overfull_or_none A K ii)

    long_ways : ((v p : ℕ) → HasNoWay A K ii v p → ⊥) → HasFound kinds.Ways
    long_ways each =
        ⊎_elim {C = HasFound kinds.Ways}
        (λ (ids, c, short). (Some (Ways (held ids (let b = valid.few in omega arith))), (c, refl)))
        (λ none. (None, λ excluded. ⊎_elim {C = ⊥} (λ (v, p, h). each v p h) (λ (ids, c). none ids c) excluded))
        (way_cycle_or_none A K hops ii arch valid near)

    by_missing : (o : Option Missing) → IsMissing A K ii o → HasFound kinds.Ways
    by_missing (Some m) h = (Some (NoWay m), (h, refl))
    by_missing None h = long_ways h

    by_ways : HasFound kinds.Ways
    by_ways = by_missing n.missing are.missing

    module _ (interval : ii ≤ 64) where
      pressed : IsDecided A K hops ii
      pressed = decided A K hops ii arch valid near interval

      by_registers : HasFound kinds.Registers
      by_registers =
          ⊎_elim {C = HasFound kinds.Registers} (λ (P, h, s). (Some (Registers P), ((h, s), refl))) (λ (t, loose). (None, no_registers A K hops ii t valid loose)) pressed

      pub some_reason : (kind : Kind) → HasFound kind
      some_reason kinds.Recurrence = by_recurrence
      some_reason kinds.Class = by_class
      some_reason kinds.Ways = by_ways
      some_reason kinds.Registers = by_registers

  -- what is found of an interval
  module _ (f : HopTables) (all : AreAllNumbers A K f) (ii : ℕ) (some : 1 ≤ ii) (interval : ii ≤ 64) where
    abbrev n : Numbers
    n = numbers_at f ii

    abbrev HasVerdict : Type 0
    HasVerdict = (v : Verdict) × IsVerdict A K f ii v

    abbrev Free : Kind → Type 0
    Free kind = IsExcluded A K (table n.hops.items) ii kind → ⊥

    are_here : AreNumbers A K ii n
    are_here = numbers_for A K f ii some all

    after_ways : Free kinds.Recurrence → Free kinds.Class → (o : Option Reason) → IsFound A K (table n.hops.items) ii kinds.Ways o → HasVerdict
    after_ways a b (Some r) h = (Excluded r, h.0)
    after_ways a b None c =
        ⊎_elim {C = HasVerdict} (λ (P, h, s). (Excluded (Registers P), (h, s))) (λ (t, loose). (Open t, open_verdict A K f ii n t valid refl (a, b, c) loose)) (pressed n ii are_here interval)

    after_class : Free kinds.Recurrence → (o : Option Reason) → IsFound A K (table n.hops.items) ii kinds.Class o → HasVerdict
    after_class a (Some r) h = (Excluded r, h.0)
    after_class a None b = let (o, h) = by_ways n ii are_here in after_ways a b o h

    after_recurrence : (o : Option Reason) → IsFound A K (table n.hops.items) ii kinds.Recurrence o → HasVerdict
    after_recurrence (Some r) h = (Excluded r, h.0)
    after_recurrence None a = let (o, h) = by_class n ii are_here in after_class a o h

    pub some_verdict : HasVerdict
    some_verdict = let (o, h) = by_recurrence n ii are_here in after_recurrence o h
