use Rattle.std.proofs.Common.{◌≡◌, ◌<◌, ◌%◌, ◌/◌, ℕ, true, length, Option, sym, ap, subst, ◌∙◌, arith, rules, ⊎_elim}
use Rattle.std.specs.Prelude.{vec_len}
use Rattle.std.proofs.lemmas.Bool.{cases_lt}
use Rattle.cg_model.specs.Config.{fields}
use Rattle.cg_model.specs.Canonical.{is_on}
use Rattle.cg_model.specs.Work.{Work}
use Rattle.cg_model.specs.Machine.{begins, result_of}
use Rattle.cg_datapath.specs.Effects.{BeginsAll, HasRoom}
use Rattle.cg_datapath.proofs.EachUnit.{begins_none, begins_more, room_now}
use Rattle.cg_datapath.proofs.Next.{has_room}
use Rattle.cg_origins.specs.Tasks.{task}
use Rattle.cg_history.specs.Results.{result_now}
use Rattle.cg_history.specs.State.{cycle_in}
use Rattle.cg_history.proofs.Gaps.{next_more, next_within, rises, up_to, to_end, next_below}
use Rattle.cg_history.proofs.Rows.{has_kept, keeps_all, keeps_more}
use Rattle.cg_history.proofs.Rounds.{slot_of, round_of, are_begun}
use Rattle.cg_history.proofs.replay.begin_tasks.Goals as goal

pub loop-j-init : goal.loop-j-init
loop-j-init g c = record {
  effects = begins_none c.args.run.now.image.now _ c.args.effects.now;
  few = omega arith;
  kept = keeps_all c.args.history.now;
  now = λ i l. absurd (omega arith);
}

pub begin_task-result-requires-clause-results : goal.begin_task-result-requires-clause-results
begin_task-result-requires-clause-results g c =
    let A = c.args.run.now.arch.now in
    let C = g.C.Contexts.config c.args.run.now.contexts.now in
    has_kept A C c.args.run.now.n c.args.run.now.image.now (cycle_in C c.args.slot c.args.round) c.args.history.now c.loop-j.history c.requires.state.units c.loop-j.invariant.kept c.requires.state.results

pub begin_task-result-requires-clause-pending : goal.begin_task-result-requires-clause-pending
begin_task-result-requires-clause-pending g c =
    let ts = c.args.tasks.now in
    let inv = c.loop-j.invariant in
    let s = c.requires.state.effects in
    let few = inv.effects.pending_few in
    let room = inv.effects.pending_room in
    let enough = s.pending_room in
    let none : vec_len c.args.effects.now.pending ≡ 0 = search rules in
    let here : c.loop-j.j < length ts = search rules in
    let below = next_within c.args.run.now.arch.now _ c.args.slot c.args.history.now.rows ts c.requires.tasks c.loop-j.j here in
    let known = (c.requires.tasks.each c.loop-j.j here).known in
    omega arith

pub begin_task-result-requires-clause-room : goal.begin_task-result-requires-clause-room
begin_task-result-requires-clause-room g c =
    let A = c.args.run.now.arch.now in
    let C = g.C.Contexts.config c.args.run.now.contexts.now in
    let n = c.args.run.now.n in
    let image = c.args.run.now.image.now in
    let ts = c.args.tasks.now in
    let j = c.loop-j.j in
    let slot = c.args.slot in
    let round = c.args.round in
    let k = cycle_in C slot round in
    let works : ℕ → Option Work = λ x. begins A C n image x k in
    let here : j < length ts = search rules in
    let x = (task ts j).unit in
    let known = (c.requires.tasks.each j here).known in
    let at = slot_of C slot round c.requires.slot in
    let all : BeginsAll image works x c.args.effects.now c.loop-j.effects = up_to A C slot c.args.history.now.rows ts c.requires.tasks n image k at c.args.effects.now c.loop-j.effects j here known c.loop-j.invariant.effects in
    let room = room_now image works x c.args.effects.now c.loop-j.effects (fields C x (k % C.ii)) n (k / C.ii) all
    (has_room A C n k works (are_begun A C n image k) c.requires.canonical c.args.effects.now c.requires.state.effects x known) in
    subst (λ (z : ℕ). HasRoom c.loop-j.effects.streams.items (fields C x slot) n z) (round_of C slot round c.requires.slot)
    (subst (λ (z : ℕ). HasRoom c.loop-j.effects.streams.items (fields C x z) n (k / C.ii)) at room)

pub loop-j-preserved : goal.loop-j-preserved
loop-j-preserved g c =
    let A = c.args.run.now.arch.now in
    let C = g.C.Contexts.config c.args.run.now.contexts.now in
    let n = c.args.run.now.n in
    let image = c.args.run.now.image.now in
    let ts = c.args.tasks.now in
    let j = c.loop-j.j in
    let k = cycle_in C c.args.slot c.args.round in
    let works : ℕ → Option Work = λ x. begins A C n image x k in
    let here : j < length ts = search rules in
    let x = (task ts j).unit in
    let is = c.requires.tasks in
    let known = (is.each j here).known in
    let at = slot_of C c.args.slot c.args.round c.requires.slot in
    let inv = c.loop-j.invariant in
    let e = c.args.effects.now in
    let g' = c.begin_task-result.new.effects in
    let r = c.begin_task-result.result in
    let all : BeginsAll image works x e c.loop-j.effects = up_to A C c.args.slot c.args.history.now.rows ts is n image k at e c.loop-j.effects j here known inv.effects in
    let one = c.begin_task-result.ensures.work in
    let next = next_more ts j in
    let below = next_within A C c.args.slot c.args.history.now.rows ts is j here in
    let right : r ≡ result_of image e.memory (works x) = one.result_is ∙ ap (λ m. result_of image m (works x)) all.memory in
    record {
      effects = subst (λ (y : ℕ). BeginsAll image works y e g') (sym next) (begins_more image works x e c.loop-j.effects g' r all one);
      few = (let a = c.begin_task-result.ensures.few in let b = inv.few in omega arith);
      kept = keeps_more c.args.history.now c.loop-j.history c.set.new.self inv.kept c.set.ensures.kept;
      now = λ i l. ⊎_elim
          (λ m. let low = rises A C c.args.slot c.args.history.now.rows ts is i j m here in
          c.set.ensures.others (task ts i).unit (λ same. omega arith) ∙ inv.now i m)
          (λ m. let same : i ≡ j = omega arith in
          subst (λ (z : ℕ). result_now c.set.new.self (task ts z).unit ≡ result_of image e.memory (works (task ts z).unit)) (sym same) (c.set.ensures.now ∙ right))
          (cases_lt i j);
    }

pub returns-clause-effects : goal.returns-clause-effects
returns-clause-effects g c =
    let A = c.args.run.now.arch.now in
    let C = g.C.Contexts.config c.args.run.now.contexts.now in
    let ts = c.args.tasks.now in
    let last : c.loop-j.j ≡ length ts = search rules in
    let at = slot_of C c.args.slot c.args.round c.requires.slot in
    to_end A C c.args.slot c.args.history.now.rows ts c.requires.tasks c.args.run.now.n c.args.run.now.image.now (cycle_in C c.args.slot c.args.round) at c.args.effects.now c.loop-j.effects c.loop-j.j last
    (next_below A C c.args.slot c.args.history.now.rows ts c.requires.tasks c.loop-j.j (omega arith)) c.loop-j.invariant.effects

pub returns-clause-few : goal.returns-clause-few
returns-clause-few g c =
    let A = c.args.run.now.arch.now in
    let C = g.C.Contexts.config c.args.run.now.contexts.now in
    let ts = c.args.tasks.now in
    let last : c.loop-j.j ≡ length ts = search rules in
    let below = next_below A C c.args.slot c.args.history.now.rows ts c.requires.tasks c.loop-j.j (omega arith) in
    let few = c.loop-j.invariant.few in
    omega arith

pub returns-clause-now : goal.returns-clause-now
returns-clause-now g c = λ x known on.
    let A = c.args.run.now.arch.now in
    let C = g.C.Contexts.config c.args.run.now.contexts.now in
    let n = c.args.run.now.n in
    let image = c.args.run.now.image.now in
    let ts = c.args.tasks.now in
    let k = cycle_in C c.args.slot c.args.round in
    let last : c.loop-j.j ≡ length ts = search rules in
    let at = slot_of C c.args.slot c.args.round c.requires.slot in
    let (i, within, same) = c.requires.tasks.all x known (subst (λ (s : ℕ). is_on (fields C x s).op ≡ true) at on) in
    subst (λ (y : ℕ). result_now c.loop-j.history y ≡ result_of image c.args.effects.now.memory (begins A C n image y k)) same (c.loop-j.invariant.now i (omega arith))
    ∙ ap (λ m. result_of image m (begins A C n image x k)) c.requires.state.memory
