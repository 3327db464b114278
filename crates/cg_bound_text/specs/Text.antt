-- The report on the least interval that no reason excludes.
use Rattle.std.specs.Prelude.{ℕ, zero, suc, ◌+◌, ◌*◌, ⊤, eqb, if◌then◌else◌, List, [], ◌++◌, length, flat_map, sum_by, codes, decimal, Option, Some, None}
use Rattle.cg_model.specs.Kernel.{Kernel, size}
use Rattle.cg_model.specs.Array.{Arch}
use Rattle.cg_recur.specs.declared.edge.EdgeId.{EdgeId}
use Rattle.cg_recur.specs.declared.edge.EdgeId.TheVariants.{Arg, Order}
use Rattle.cg_recur.specs.Edges.{edge_of}
use Rattle.cg_recur.specs.Chain.{latencies, distances}
use Rattle.cg_bound.specs.Text.{edge_word, edge_words, cycle_text, class_text}
use Rattle.cg_bound_routes.specs.declared.missing.Missing.{Missing}
use Rattle.cg_bound_registers.specs.declared.certificate.Stay.{Stay}
use Rattle.cg_bound_registers.specs.declared.certificate.Pull.{Pull}
use Rattle.cg_bound_registers.specs.declared.certificate.Tie.{Tie}
use Rattle.cg_bound_registers.specs.declared.certificate.Pressure.{Pressure}
use Rattle.cg_bound_registers.specs.declared.times.Times.{Times}
use Rattle.cg_bound_registers.specs.Pressure.{registers, least_stays, total}
use Rattle.cg_bound_registers.specs.Times.{longest}
use Rattle.cg_bound_recurrence.specs.WayCycles.{registers_of}
use Rattle.cg_bound_all.specs.declared.reason.Kind.{Kind}
use Rattle.cg_bound_all.specs.declared.reason.Kind.TheVariants as kinds
use Rattle.cg_bound_all.specs.declared.reason.Reason.{Reason}
use Rattle.cg_bound_all.specs.declared.reason.Reason.TheVariants.{Recurrence, Class, NoWay, Ways, Registers}
use Rattle.cg_bound_all.specs.declared.numbers.HopTables.{HopTables}
use Rattle.cg_bound_all.specs.declared.bounds.Bound.{Bound}
use Rattle.cg_bound_all.specs.declared.least.Least.{Least}
use Rattle.cg_bound_all.specs.declared.why.Why.{Why}
use Rattle.cg_bound_all.specs.Why.{hops_at, below_of, HasShortLists}

-- ---- reasons

-- a closed chain with the sums of its latencies, of the registers on its ways, and of its distances
abbrev pub way_cycle_text : Arch → Kernel → (ℕ → ℕ → ℕ) → List EdgeId → List ℕ
way_cycle_text A K hops ids =
    codes "cycle" ++ (edge_words K ids ++ (codes " latency " ++ (decimal (latencies (edge_of A K) ids)
    ++ (codes " ways " ++ (decimal (sum_by (registers_of hops) ids) ++ (codes " distance " ++ decimal (distances (edge_of A K) ids)))))))

-- a number after a blank
abbrev pub weight_word : ℕ → List ℕ
weight_word weight = codes " " ++ decimal weight

-- edges of a circulation, each after a blank, with a weight after it
abbrev pub stay_word : Kernel → Stay → List ℕ
stay_word K s = edge_word K (Arg s.node s.arg)

abbrev pub pull_word : Kernel → Pull → List ℕ
pull_word K x = edge_word K (Arg x.node x.arg) ++ weight_word x.weight

abbrev pub tie_word : Kernel → Tie → List ℕ
tie_word K x = edge_word K (Order x.edge) ++ weight_word x.weight

-- the name of a list that isn't empty
abbrev pub heading : List ℕ → ℕ → List ℕ
heading name zero = []
heading name (suc n) = name

abbrev pub circulation_text : Kernel → Pressure → List ℕ
circulation_text K P =
    heading (codes " stay") (length P.stays.items) ++ (flat_map (stay_word K) P.stays.items
    ++ (heading (codes " pull") (length P.pulls.items) ++ (flat_map (pull_word K) P.pulls.items
    ++ (heading (codes " tie") (length P.ties.items) ++ flat_map (tie_word K) P.ties.items))))

-- the least number of register slots that the values need, the number that there are, and the circulation that shows it
abbrev pub registers_text : Arch → Kernel → (ℕ → ℕ → ℕ) → ℕ → Pressure → List ℕ
registers_text A K hops ii P =
    codes "registers " ++ (decimal (least_stays A K hops ii P) ++ (codes " of " ++ (decimal (ii * registers A) ++ circulation_text K P)))

abbrev pub no_way_text : Kernel → Missing → List ℕ
no_way_text K m = codes "no way" ++ edge_word K (Arg m.node m.arg)

abbrev pub reason_text : Arch → Kernel → (ℕ → ℕ → ℕ) → ℕ → Reason → List ℕ
reason_text A K hops ii (Recurrence ids) = cycle_text A K ids.items
reason_text A K hops ii (Class set) = class_text A K set
reason_text A K hops ii (NoWay m) = no_way_text K m
reason_text A K hops ii (Ways ids) = way_cycle_text A K hops ids.items
reason_text A K hops ii (Registers P) = registers_text A K hops ii P

-- that a reason excludes an interval, after a colon
abbrev pub impossible_words : ℕ → List ℕ
impossible_words ii = codes ": impossible at ii " ++ (decimal ii ++ codes ": ")

abbrev pub impossible_text : Arch → Kernel → HopTables → ℕ → Reason → List ℕ
impossible_text A K f ii r = impossible_words ii ++ reason_text A K (hops_at f ii) ii r

-- a reason that excludes an interval, as a line of its own
abbrev pub excluded_line : Arch → Kernel → HopTables → ℕ → Reason → List ℕ
excluded_line A K f ii r = codes "ii " ++ (decimal ii ++ (codes " impossible: " ++ (reason_text A K (hops_at f ii) ii r ++ codes "\n")))

-- the lists of a reason are short, if there is one
abbrev pub HasShortBelow : Option Reason → Type 0
HasShortBelow (Some r) = HasShortLists r
HasShortBelow None = ⊤

-- ---- lines

abbrev pub least_word : Option ℕ → List ℕ
least_word (Some l) = decimal l
least_word None = codes "none"

abbrev pub kind_word : Kind → List ℕ
kind_word kinds.Recurrence = codes "recurrence "
kind_word kinds.Ways = codes "ways "
kind_word kinds.Class = codes "class "
kind_word kinds.Registers = codes "registers "

-- what excludes the interval below
abbrev pub below_text : Arch → Kernel → HopTables → ℕ → Option Reason → List ℕ
below_text A K f ii (Some r) = impossible_text A K f ii r
below_text A K f ii None = []

abbrev pub bound_line : Arch → Kernel → HopTables → Bound → List ℕ
bound_line A K f bound =
    kind_word bound.kind ++ (least_word bound.least ++ (below_text A K f (below_of A.contexts bound.least) bound.below ++ codes "\n"))

-- the lines of the bounds whose least interval is `below` plus 1
abbrev pub lines_above : Arch → Kernel → HopTables → List Bound → ℕ → List ℕ
lines_above A K f bounds below = flat_map (λ bound. if eqb (below_of A.contexts bound.least) below then bound_line A K f bound else []) bounds

-- the lines of the bounds whose least interval is at most n, the greatest first
abbrev pub lines_to : Arch → Kernel → HopTables → List Bound → ℕ → List ℕ
lines_to A K f bounds zero = []
lines_to A K f bounds (suc n) = lines_above A K f bounds n ++ lines_to A K f bounds n

-- the least interval that no reason excludes, and what excludes the one below it if the lines of the kinds don't give
-- it
abbrev pub least_line : Arch → Kernel → HopTables → Least → List ℕ
least_line A K f least =
    codes "least " ++ (least_word least.interval ++ (below_text A K f (below_of A.contexts least.interval) least.below ++ codes "\n"))

-- the number of register slots that are enough at the least interval, and the number that there are
abbrev pub free_line : Arch → Kernel → Option ℕ → Option Times → List ℕ
free_line A K (Some l) (Some t) =
    codes "free " ++ (decimal l ++ (codes ": " ++ (decimal (total (size K) (longest t))
    ++ (codes " of " ++ (decimal (l * registers A) ++ codes " register slots are enough\n")))))
free_line A K l t = []

-- the whole report
abbrev pub why_text : Arch → Kernel → Why → List ℕ
why_text A K w =
    least_line A K w.tables w.least
    ++ (lines_to A K w.tables w.bounds.items (A.contexts + 1) ++ free_line A K w.least.interval w.least.times)
