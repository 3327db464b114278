use Rattle.std.proofs.Common.{map, sym, subst, ◌∙◌, List}
use Rattle.cg_c_check.specs.declared.program.Level.{Level as MadeLevel}
use Rattle.cg_c_check.specs.declared.program.Array.{Array}
use Rattle.cg_c_check.specs.declared.program.Stmt.{Stmt as MadeStmt}
use Rattle.cg_c_check.specs.Written.{level_of, stmts_of, program_of}
use Rattle.cg_c_values.specs.Listed.{listed}
use Rattle.cg_c_turn.specs.Draft.{draft_of}
use Rattle.cg_c_turn.specs.Nested.{AreQuiet, IsNested}
use Rattle.cg_c_turn.proofs.Turning.{turn_is}
use Rattle.cg_c_turn.proofs.Loops.{positive, whole_index}
use Rattle.cg_c_turn.proofs.Quiet.{quiet_levels}
use Rattle.cg_c_turn.proofs.Beginning.{turns_are}
use Rattle.cg_c_turn.proofs.turn.turn_of.Goals as goal
use Rattle.cg_c_turn.proofs.PortsBelow.{nest_below}

pub nest-requires-clause-index : goal.nest-requires-clause-index
nest-requires-clause-index c = whole_index (listed c.add.new.self) c.in_ok-index.index _ (turn_is (listed c.add.new.self) c.in_ok-index.index c.in_ok-index.ensures.within c.in_ok-index.ensures.added)

pub nest-requires-clause-levels : goal.nest-requires-clause-levels
nest-requires-clause-levels c =
    subst (λ (z : List Array). AreQuiet z (map level_of c.as_slice-2.result.now)) (sym (c.in_ok-draft.ensures.arrays_are ∙ c.as_slice.ensures.value))
    (subst (λ (z : List MadeLevel). AreQuiet c.args.program.now.arrays.items (map level_of z)) (sym c.as_slice-2.ensures.value) (quiet_levels c.args.program.now.arrays.items (map level_of c.args.program.now.levels.items) c.requires.typed.levels))

pub nest-requires-clause-outermost : goal.nest-requires-clause-outermost
nest-requires-clause-outermost c e = turn_is (listed c.add.new.self) c.in_ok-index.index c.in_ok-index.ensures.within c.in_ok-index.ensures.added

pub returns : goal.returns
returns c =
    let p = program_of c.args.program.now in
    let blank = c.in_ok-draft.ensures in
    let b = record (draft_of c.in_ok-draft.draft) { values = listed c.add.new.self } in
    let d = draft_of c.nest.new.self in
    turns_are p b d c.in_ok-index.index
    (record { arrays_are = blank.arrays_are ∙ c.as_slice.ensures.value; counters = blank.counters; effects = blank.effects; guard = blank.guard; words = blank.words; initial = blank.initial; latest = blank.latest })
    (turn_is (listed c.add.new.self) c.in_ok-index.index c.in_ok-index.ensures.within c.in_ok-index.ensures.added)
    (positive p.levels c.requires.typed.iterates)
    c.requires.typed.sent_once
    (nest_below p.arrays p.levels p.body c.requires.typed.levels c.requires.typed.body)
    (subst (λ (z : List MadeStmt). IsNested b d c.in_ok-index.index p.levels (stmts_of z)) c.as_slice-3.ensures.value
    (subst (λ (z : List MadeLevel). IsNested b d c.in_ok-index.index (map level_of z) (stmts_of c.as_slice-3.result.now)) c.as_slice-2.ensures.value c.in_ok-nest.ensures))
