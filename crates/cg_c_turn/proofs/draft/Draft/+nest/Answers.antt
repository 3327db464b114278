use Rattle.std.proofs.Common.{rules, ◌≡◌, ◌≤◌, ◌-◌, true, ℕ, List, [], ◌∷◌, length, map, ap, sym, subst, ◌∙◌, arith}
use Rattle.std.proofs.lemmas.Result.{on_ok_weaker}
use Rattle.std.proofs.lemmas.List.{nil_from_length}
use Rattle.cg_c_check.specs.declared.program.Array.{Array}
use Rattle.cg_c_check.specs.declared.program.Level.{Level as MadeLevel}
use Rattle.cg_c_check.specs.declared.program.Stmt.{Stmt as MadeStmt}
use Rattle.cg_c_check.specs.Written.{level_of, stmts_of}
use Rattle.cg_c_check.specs.Program.{Level}
use Rattle.cg_c_values.specs.Listed.{listed}
use Rattle.cg_c_meaning.specs.Meaning.{stmts}
use Rattle.cg_c_meaning.specs.Turns.{all_turn, turns_of}
use Rattle.cg_c_meaning.specs.Typed.{AreTypedStmts, stmts_inputs, stmts_outputs}
use Rattle.cg_c_turn.specs.Draft.{Draft, draft_of}
use Rattle.cg_c_turn.specs.Nested.{AreQuiet, EntersLoop, IsEdge, IsIndex, IsNested}
use Rattle.cg_c_turn.proofs.Loops.{bare, nested_is, positive, entered_formed, fewer, inner_few, popped, first_trips, inner_turns, index_in, with_counters, with_counters_formed}
use Rattle.std.specs.Vec.{vec_len}
use Rattle.cg_c_turn.specs.Stands.{IsFormed}
use Rattle.cg_c_turn.proofs.Prefixes.{keeps_on}
use Rattle.cg_c_turn.proofs.draft.Draft.+nest.Goals as goal

pub returns-in_default : goal.returns-in_default
returns-in_default t c =
    let none : c.args.levels.now ≡ [] = nil_from_length c.args.levels.now c.in_default.ensures.cases in
    on_ok_weaker c.stmts.result (λ h. subst (λ (z : List MadeLevel). IsNested (draft_of c.args.self.now) (draft_of c.stmts.new.self) c.args.index (map level_of z) (stmts_of c.args.body.now)) (sym none) (bare c.args.index (stmts_of c.args.body.now) h)) c.stmts.ensures

pub before-requires-clause-typed : goal.before-requires-clause-typed
before-requires-clause-typed t c =
    let q = subst (λ (z : List MadeLevel). AreQuiet c.args.self.now.arrays.now (map level_of z)) c.in-Some.ensures.cases.0 c.requires.levels in
    subst (λ (z : List MadeStmt). AreTypedStmts c.args.self.now.arrays.now true (stmts_of z)) (sym c.as_slice.ensures.value) q.0

pub before-requires-clause-none : goal.before-requires-clause-none
before-requires-clause-none t c =
    let q = subst (λ (z : List MadeLevel). AreQuiet c.args.self.now.arrays.now (map level_of z)) c.in-Some.ensures.cases.0 c.requires.levels in
    ap (λ (z : List MadeStmt). stmts_inputs (stmts_of z)) c.as_slice.ensures.value ∙ q.2

pub nest-requires : goal.nest-requires
nest-requires t c =
    let levels = map level_of c.args.levels.now in
    let ls = map level_of c.in-Some.inner.now in
    let l = level_of c.in-Some.level.now in
    let cons = ap (λ (z : List MadeLevel). map level_of z) c.in-Some.ensures.cases.0 in
    let enters = c.in_ok-inner_index.ensures in
    let edge = c.in_ok-before.ensures.performs 0 in
    let arrays = ap (λ (z : Draft). z.arrays) enters.rest ∙ edge.grows.arrays in
    let q = subst (λ (z : List Level). AreQuiet c.args.self.now.arrays.now z) cons c.requires.levels in
    let turn = subst (λ (z : List Level). all_turn z ≡ true) cons c.requires.iterate in
    let span = c.span_of.ensures in (
      fewer c.in-Some.inner.now c.args.levels.now t c.in-Some.ensures.cases.1 c.decreases,
      (
        entered_formed enters edge.formed,
        (
          subst (λ n. IsIndex (listed c.enter_loop.new.self.values) c.in_ok-inner_index.inner_index n) span (index_in (listed c.enter_loop.new.self.values) c.in_ok-inner_index.inner_index c.span_of.result enters.index_is),
          (
            subst (λ (z : List Array). AreQuiet z ls) (sym arrays) q.4,
            (
              subst (λ (z : List Array). AreTypedStmts z true (stmts_of c.args.body.now)) (sym arrays) c.requires.body,
              (
                c.requires.apart,
                (
                  inner_turns l ls turn,
                  (
                    inner_few l ls 1000000 turn (subst (λ (z : List Level). turns_of z ≤ 1000000) cons c.requires.few),
                    λ never. absurd (cc),
                  ),
                ),
              ),
            ),
          ),
        ),
      ),
    )

pub overflow_sub-span : goal.overflow_sub-span
overflow_sub-span t c = subst (λ n. 1 ≤ n) (sym c.span_of-span.ensures) (positive (map level_of c.args.levels.now) c.requires.iterate)

pub edge-requires-clause-formed : goal.edge-requires-clause-formed
edge-requires-clause-formed t c =
    let ls = map level_of c.in-Some.inner.now in
    let edge = c.in_ok-before.ensures.performs 0 in
    let inner = c.in_ok-nest.ensures.performs 0 (positive ls (inner_turns (level_of c.in-Some.level.now) ls (subst (λ (z : List Level). all_turn z ≡ true) (ap (λ (z : List MadeLevel). map level_of z) c.in-Some.ensures.cases.0) c.requires.iterate))) in
    let enters = c.in_ok-inner_index.ensures in
    let len : vec_len c.nest.new.self.counters ≡ length c.nest.new.self.counters.items = search rules in
    let counters : c.pop.new.self.items ≡ (draft_of c.before-2.new.self).counters = popped _ _ _ enters.counter c.pop.ensures.rest len (inner.grows.counters ∙ ap (λ (z : Draft). z.counters) enters.rest) in
    subst (λ (z : List ℕ). IsFormed (with_counters (draft_of c.nest.new.self) z)) (sym counters) (with_counters_formed (draft_of c.before-2.new.self) (draft_of c.nest.new.self) edge.formed inner.formed (keeps_on enters.adds.keeps inner.grows.values))

pub edge-requires-clause-index : goal.edge-requires-clause-index
edge-requires-clause-index t c =
    let ls = map level_of c.in-Some.inner.now in
    let edge = c.in_ok-before.ensures.performs 0 in
    let inner = c.in_ok-nest.ensures.performs 0 (positive ls (inner_turns (level_of c.in-Some.level.now) ls (subst (λ (z : List Level). all_turn z ≡ true) (ap (λ (z : List MadeLevel). map level_of z) c.in-Some.ensures.cases.0) c.requires.iterate))) in
    let enters = c.in_ok-inner_index.ensures in
    omega (arith, c.requires.index.within, edge.grows.values.longer, enters.adds.keeps.longer, inner.grows.values.longer)

pub edge-requires-clause-typed : goal.edge-requires-clause-typed
edge-requires-clause-typed t c =
    let ls = map level_of c.in-Some.inner.now in
    let edge = c.in_ok-before.ensures.performs 0 in
    let inner = c.in_ok-nest.ensures.performs 0 (positive ls (inner_turns (level_of c.in-Some.level.now) ls (subst (λ (z : List Level). all_turn z ≡ true) (ap (λ (z : List MadeLevel). map level_of z) c.in-Some.ensures.cases.0) c.requires.iterate))) in
    let enters = c.in_ok-inner_index.ensures in
    let arrays = inner.grows.arrays ∙ ap (λ (z : Draft). z.arrays) enters.rest ∙ edge.grows.arrays in
    let q = subst (λ (z : List MadeLevel). AreQuiet c.args.self.now.arrays.now (map level_of z)) c.in-Some.ensures.cases.0 c.requires.levels in
    subst (λ (z : List Array). AreTypedStmts z true (stmts_of c.as_slice-2.result.now)) (sym arrays) (subst (λ (z : List MadeStmt). AreTypedStmts c.args.self.now.arrays.now true (stmts_of z)) (sym c.as_slice-2.ensures.value) q.1)

pub edge-requires-clause-none : goal.edge-requires-clause-none
edge-requires-clause-none t c =
    let q = subst (λ (z : List MadeLevel). AreQuiet c.args.self.now.arrays.now (map level_of z)) c.in-Some.ensures.cases.0 c.requires.levels in
    ap (λ (z : List MadeStmt). stmts_inputs (stmts_of z)) c.as_slice-2.ensures.value ∙ q.3

pub returns : goal.returns
returns t c =
    let ls = map level_of c.in-Some.inner.now in
    let edge = c.in_ok-before.ensures.performs 0 in
    let inner = c.in_ok-nest.ensures.performs 0 (positive ls (inner_turns (level_of c.in-Some.level.now) ls (subst (λ (z : List Level). all_turn z ≡ true) (ap (λ (z : List MadeLevel). map level_of z) c.in-Some.ensures.cases.0) c.requires.iterate))) in
    let enters = c.in_ok-inner_index.ensures in
    let l = level_of c.in-Some.level.now in
    let cons = ap (λ (z : List MadeLevel). map level_of z) c.in-Some.ensures.cases.0 in
    let quiet = subst (λ (z : List Level). AreQuiet c.args.self.now.arrays.now z) cons c.requires.levels in
    let turn = subst (λ (z : List Level). all_turn z ≡ true) cons c.requires.iterate in
    let at = subst (λ (z : List Level). IsIndex (listed c.args.self.now.values) c.args.index (turns_of z)) cons c.requires.index in
    let some = first_trips l ls turn in
    let few = positive ls (inner_turns l ls turn) in
    let len : vec_len c.nest.new.self.counters ≡ length c.nest.new.self.counters.items = search rules in
    let counters : c.pop.new.self.items ≡ (draft_of c.before-2.new.self).counters = popped _ _ _ enters.counter c.pop.ensures.rest len (inner.grows.counters ∙ ap (λ (z : Draft). z.counters) enters.rest) in
    let span : c.span_of-span.result - 1 ≡ turns_of (l ∷ ls) - 1 = ap (λ n. n - 1) (c.span_of-span.ensures ∙ ap turns_of cons) in
    let body = stmts_of c.args.body.now in
    on_ok_weaker c.edge.result
    (λ h.
    let one : IsEdge (draft_of c.args.self.now) (draft_of c.before-2.new.self) c.args.index 0 (λ x. stmts x l.before) (stmts_outputs l.before) = subst (λ (z : List MadeStmt). IsEdge (draft_of c.args.self.now) (draft_of c.before-2.new.self) c.args.index 0 (λ x. stmts x (stmts_of z)) (stmts_outputs (stmts_of z))) c.as_slice.ensures.value c.in_ok-before.ensures in
    let enters_by : EntersLoop (draft_of c.before-2.new.self) (draft_of c.enter_loop.new.self) l.range (turns_of ls) c.in_ok-inner_index.inner_index = subst (λ n. EntersLoop (draft_of c.before-2.new.self) (draft_of c.enter_loop.new.self) l.range n c.in_ok-inner_index.inner_index) c.span_of.ensures enters in
    let last : IsEdge (with_counters (draft_of c.nest.new.self) (draft_of c.before-2.new.self).counters) (draft_of c.edge.new.self) c.args.index (turns_of (l ∷ ls) - 1) (λ x. stmts x l.after) (stmts_outputs l.after) =
    subst (λ (z : List ℕ). IsEdge (with_counters (draft_of c.nest.new.self) z) (draft_of c.edge.new.self) c.args.index (turns_of (l ∷ ls) - 1) (λ x. stmts x l.after) (stmts_outputs l.after)) counters
    (subst (λ (n : ℕ). IsEdge (with_counters (draft_of c.nest.new.self) c.pop.new.self.items) (draft_of c.edge.new.self) c.args.index n (λ x. stmts x l.after) (stmts_outputs l.after)) span
    (subst (λ (z : List MadeStmt). IsEdge (with_counters (draft_of c.nest.new.self) c.pop.new.self.items) (draft_of c.edge.new.self) c.args.index (c.span_of-span.result - 1) (λ x. stmts x (stmts_of z)) (stmts_outputs (stmts_of z))) c.as_slice-2.ensures.value h)) in
    subst (λ (z : List Level). IsNested (draft_of c.args.self.now) (draft_of c.edge.new.self) c.args.index z body) (sym cons)
    (nested_is l ls body c.requires.formed at some few quiet c.requires.body c.requires.apart one enters_by c.in_ok-nest.ensures last))
    c.edge.ensures
