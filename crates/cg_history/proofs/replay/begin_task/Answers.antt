use Rattle.std.proofs.Common.{◌≡◌, ◌<◌, ℕ, List, length, sym, ap, subst, ◌∙◌, arith, rules}
use Rattle.std.specs.Prelude.{slice_index}
use Rattle.cg_word.specs.Word.{arity}
use Rattle.cg_model.specs.Canonical.{gives_output}
use Rattle.cg_model.specs.Machine.{arguments, begins}
use Rattle.cg_datapath.specs.Reserved.{stream}
use Rattle.cg_datapath.proofs.Begun.{begins_by, begins_nothing}
use Rattle.cg_history.specs.State.{cycle_in}
use Rattle.cg_history.proofs.Operands.{f, on_port, warm_right, cold_right, task_begins, task_idle}
use Rattle.cg_history.proofs.Plain.{plain_begins}
use Rattle.cg_history.proofs.Rounds.{slot_of, round_of}
use Rattle.cg_history.proofs.replay.begin_task.Goals.{then-turn-task, else-turn-task}
use Rattle.cg_history.proofs.replay.begin_task.Goals as goal

pub returns-in_default-clause-work : goal.returns-in_default-clause-work
returns-in_default-clause-work g c =
    let A = c.args.run.now.arch.now in
    let C = g.C.Contexts.config c.args.run.now.contexts.now in
    let n = c.args.run.now.n in
    let image = c.args.run.now.image.now in
    let t = c.args.task.now in
    let k = cycle_in C c.args.slot c.args.round in
    let none = task_idle A C n image c.args.slot c.args.round k (slot_of C c.args.slot c.args.round c.requires.slot) (round_of C c.args.slot c.args.round c.requires.slot) c.args.history.now c.requires.results t c.requires.task
    (λ turn from is few. c.in_default.not-Some turn ((c.turn_in.ensures turn).1 (from, is, few))) in
    begins_by image (begins A C n image t.unit k) _ c.args.effects.now c.args.effects.now 0 none (begins_nothing image c.args.effects.now)

pub begin_work-requires-clause-port : goal.begin_work-requires-clause-port
begin_work-requires-clause-port g c = λ out.
    let t = c.args.task.now in
    let is = c.requires.task in
    let streams = c.args.effects.now.streams.items in
    let (from, turn_is, few) = (c.turn_in.ensures c.in-Some.turn).0 c.in-Some.is in
    let stage = is.stage in
    subst (λ (q : ℕ). (q < length streams) × (length (stream streams q).words < (stream streams q).room)) (sym is.port)
    (c.requires.room (ap gives_output is.op ∙ out) (omega arith) (omega arith))

pub returns-then-is_plain-clause-work : goal.returns-then-is_plain-clause-work
returns-then-is_plain-clause-work g c =
    let A = c.args.run.now.arch.now in
    let C = g.C.Contexts.config c.args.run.now.contexts.now in
    let n = c.args.run.now.n in
    let image = c.args.run.now.image.now in
    let t = c.args.task.now in
    let h = c.args.history.now in
    let slot = c.args.slot in
    let round = c.args.round in
    let k = cycle_in C slot round in
    let turn = c.in-Some.turn in
    let at = slot_of C slot round c.requires.slot in
    let in_round = round_of C slot round c.requires.slot in
    let when = (c.turn_in.ensures turn).0 c.in-Some.is in
    let words = c.source_words-words.result in
    let args = c.if-turn-task.args in
    let fs = f A C n image slot round k at in_round h c.requires.results t c.requires.task in
    let ports = on_port A C n image slot round k at in_round h c.requires.results t c.requires.task in
    let right : (p : ℕ) → p < 3 → slice_index args p ≡ slice_index (arguments fs turn ports (arity t.op)) p =
    elim c.if-turn-task.branch [
      | then-turn-task w ↦ λ p l.
          ap (λ (xs : List ℕ). slice_index xs p) w.args-is
          ∙ cold_right A C n image slot round k at in_round h c.requires.results t c.requires.task turn p (slice_index w.initial_words-args.result p) (slice_index words p) (c.source_words-words.ensures p l) (w.initial_words-args.ensures.told p l) (w.initial_words-args.ensures.rest p l)
      | else-turn-task w ↦ λ p l.
          ap (λ (xs : List ℕ). slice_index xs p) w.args-is
          ∙ warm_right A C n image slot round k at in_round h c.requires.results t c.requires.task turn p (slice_index words p) w.if-turn-task.false (c.source_words-words.ensures p l)
    ] in
    let long : length args ≡ 3 = search rules in
    let e = c.args.effects.now in
    task_begins A C n image slot round k at in_round h c.requires.results t c.requires.task turn when.0 when.1 when.2 args long right e e c.apply.result
    (plain_begins image t.op t.port turn args e c.apply.result (sym c.is_plain.ensures ∙ c.if-is_plain.true) c.apply.ensures)

pub returns-clause-work : goal.returns-clause-work
returns-clause-work g c =
    let A = c.args.run.now.arch.now in
    let C = g.C.Contexts.config c.args.run.now.contexts.now in
    let n = c.args.run.now.n in
    let image = c.args.run.now.image.now in
    let t = c.args.task.now in
    let h = c.args.history.now in
    let slot = c.args.slot in
    let round = c.args.round in
    let k = cycle_in C slot round in
    let turn = c.in-Some.turn in
    let at = slot_of C slot round c.requires.slot in
    let in_round = round_of C slot round c.requires.slot in
    let when = (c.turn_in.ensures turn).0 c.in-Some.is in
    let words = c.source_words-words.result in
    let args = c.if-turn-task.args in
    let fs = f A C n image slot round k at in_round h c.requires.results t c.requires.task in
    let ports = on_port A C n image slot round k at in_round h c.requires.results t c.requires.task in
    let right : (p : ℕ) → p < 3 → slice_index args p ≡ slice_index (arguments fs turn ports (arity t.op)) p =
    elim c.if-turn-task.branch [
      | then-turn-task w ↦ λ p l.
          ap (λ (xs : List ℕ). slice_index xs p) w.args-is
          ∙ cold_right A C n image slot round k at in_round h c.requires.results t c.requires.task turn p (slice_index w.initial_words-args.result p) (slice_index words p) (c.source_words-words.ensures p l) (w.initial_words-args.ensures.told p l) (w.initial_words-args.ensures.rest p l)
      | else-turn-task w ↦ λ p l.
          ap (λ (xs : List ℕ). slice_index xs p) w.args-is
          ∙ warm_right A C n image slot round k at in_round h c.requires.results t c.requires.task turn p (slice_index words p) w.if-turn-task.false (c.source_words-words.ensures p l)
    ] in
    let long : length args ≡ 3 = search rules in
    task_begins A C n image slot round k at in_round h c.requires.results t c.requires.task turn when.0 when.1 when.2 args long right c.args.effects.now c.begin_work.new.effects c.begin_work.result c.begin_work.ensures.work
