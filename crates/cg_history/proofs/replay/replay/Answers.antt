use Rattle.std.proofs.Common.{◌≡◌, ◌<◌, ◌≤◌, ◌+◌, ◌*◌, ℕ, List, [], length, ap, subst, sym, ◌∙◌, arith, rules}
use Rattle.std.specs.Prelude.{slice_index_or}
use Rattle.std.proofs.lemmas.List.{get_or_read}
use Rattle.cg_model.specs.Machine.{cycles}
use Rattle.cg_datapath.proofs.Facts.{stages_few}
use Rattle.cg_origins.specs.Tasks.{AreTasks}
use Rattle.cg_origins.specs.declared.tasks.Task.{Task}
use Rattle.cg_history.specs.Results.{IsFirst}
use Rattle.cg_history.specs.State.{IsAt, cycle_in}
use Rattle.cg_history.proofs.Ends.{first_at, left_by, storable_by}
use Rattle.cg_history.proofs.replay.replay.Goals as goal

pub rounds-round-end-requires-clause-stages : goal.rounds-round-end-requires-clause-stages
rounds-round-end-requires-clause-stages g c =
    let few = stages_few c.args.run.now.arch.now (g.C.Contexts.config c.args.run.now.contexts.now) c.requires.canonical in
    subst (λ (s : ℕ). (0 < s) × (s ≤ 65535)) (sym c.stages-stages.ensures) few

pub length_in_cycles-requires-clause-stages : goal.length_in_cycles-requires-clause-stages
length_in_cycles-requires-clause-stages g c =
    let few = stages_few c.args.run.now.arch.now (g.C.Contexts.config c.args.run.now.contexts.now) c.requires.canonical in
    subst (λ (s : ℕ). (0 < s) × (s ≤ 65535)) (sym c.stages-stages.ensures) few

pub loop-round-init : goal.loop-round-init
loop-round-init g c =
    let A = c.args.run.now.arch.now in
    let C = g.C.Contexts.config c.args.run.now.contexts.now in
    let h = c.in_ok-history.history in
    let e = c.in_ok-effects.effects in
    let units : length c.units-units.result.now ≡ length A.units = ap length c.units-units.ensures.units in
    let first : IsFirst (length A.units) c.args.tasks.now.rows h = subst (λ (z : ℕ). IsFirst z c.args.tasks.now.rows h) units c.in_ok-history.ensures in
    let start : 0 ≡ cycle_in C 0 0 = omega arith in
    record {
      rows = first.rows_are;
      state = subst (λ (z : ℕ). IsAt A C c.args.run.now.n c.args.run.now.image.now z h e) start
          (first_at A C c.args.run.now.n c.args.run.now.image.now h e c.args.tasks.now.rows first c.requires.fits c.in_ok-effects.ensures);
    }

pub run_cycle-requires-clause-tasks : goal.run_cycle-requires-clause-tasks
run_cycle-requires-clause-tasks g c =
    let A = c.args.run.now.arch.now in
    let C = g.C.Contexts.config c.args.run.now.contexts.now in
    let slot = c.loop-slot.slot in
    let inside : slot < C.ii = search rules in
    let long = c.requires.tasks.long in
    let row : c.as_slice-row.result.now ≡ slice_index_or c.args.tasks.now.slots.items slot [] = c.as_slice-row.ensures ∙ get_or_read c.args.tasks.now.slots.items slot c.index.result.now (omega arith) c.index.ensures [] in
    subst (λ (z : ℕ). AreTasks A C slot z c.as_slice-row.result.now) (sym c.loop-slot.invariant.rows)
    (subst (λ (ts : List Task). AreTasks A C slot c.args.tasks.now.rows ts) (sym row) (c.requires.tasks.each slot inside))

pub loop-slot-preserved : goal.loop-slot-preserved
loop-slot-preserved g c =
    let A = c.args.run.now.arch.now in
    let C = g.C.Contexts.config c.args.run.now.contexts.now in
    let slot = c.loop-slot.slot in
    let round = c.loop-round.round in
    let next : cycle_in C slot round + 1 ≡ cycle_in C (slot + 1) round = omega arith in
    record {
      rows = c.run_cycle.ensures.rows ∙ c.loop-slot.invariant.rows;
      state = subst (λ (z : ℕ). IsAt A C c.args.run.now.n c.args.run.now.image.now z c.run_cycle.new.history c.run_cycle.new.effects) next c.run_cycle.ensures.state;
    }

pub loop-round-preserved : goal.loop-round-preserved
loop-round-preserved g c =
    let A = c.args.run.now.arch.now in
    let C = g.C.Contexts.config c.args.run.now.contexts.now in
    let round = c.loop-round.round in
    let last : c.loop-slot.slot ≡ C.ii = search rules in
    let next : cycle_in C c.loop-slot.slot round ≡ cycle_in C 0 (round + 1) = omega arith in
    record {
      rows = c.loop-slot.invariant.rows;
      state = subst (λ (z : ℕ). IsAt A C c.args.run.now.n c.args.run.now.image.now z c.loop-slot.history c.loop-slot.effects) next c.loop-slot.invariant.state;
    }

pub returns-clause-left : goal.returns-clause-left
returns-clause-left g c =
    let A = c.args.run.now.arch.now in
    let C = g.C.Contexts.config c.args.run.now.contexts.now in
    let n = c.args.run.now.n in
    let round = c.loop-round.round in
    let all : c.rounds-round-end.result * C.ii ≡ cycles C n = c.rounds-round-end.ensures.value C (sym c.stages-stages.ensures) in
    let done : round ≡ c.rounds-round-end.result = search rules in
    let last : cycle_in C 0 round ≡ cycles C n = (let e = ap (λ (z : ℕ). z * C.ii) done in omega arith) in
    left_by A C n c.args.run.now.image.now (cycle_in C 0 round) c.loop-round.history c.loop-round.effects c.loop-round.invariant.state
    c.ended.result.image.memory c.ended.result.image.streams c.ended.ensures.memory c.ended.ensures.streams c.ended.result.outside c.ended.ensures.outside last

pub returns-clause-storable : goal.returns-clause-storable
returns-clause-storable g c =
    let A = c.args.run.now.arch.now in
    let C = g.C.Contexts.config c.args.run.now.contexts.now in
    storable_by A C c.args.run.now.n c.args.run.now.image.now (cycle_in C 0 c.loop-round.round) c.loop-round.history c.loop-round.effects c.loop-round.invariant.state
    c.ended.result.image.memory c.ended.result.image.streams c.ended.ensures.memory c.ended.ensures.streams c.units-units.ensures.valid c.requires.turns
