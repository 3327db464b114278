use Rattle.std.proofs.Common.{ℕ, arith, rules, subst, ◌%◌, ◌<◌, ◌≡◌, ◌+◌, ◌*◌, length, ap, ◌∙◌, sym}
use Rattle.cg_model.specs.Turns.{work}
use Rattle.cg_model.specs.Kernel as plain
use Rattle.cg_model.specs.Kernel.{IsKernel}
use Rattle.cg_model.proofs.Lengths.{memory_stays}
use Rattle.cg_turns.specs.declared.pair.Access.{Access}
use Rattle.cg_turns.specs.Pairs.{step_of}
use Rattle.cg_turns.specs.Watched.{IsWatched}
use Rattle.cg_turns.proofs.Pairs.{watched_step}
use Rattle.cg_turns.specs.Step.{Steps, work_in}
use Rattle.cg_turns.proofs.Steps.{stepped, work_right}
use Rattle.cg_turns.proofs.frame.one_turn.Goals as goal

pub loop-place-preserved : goal.loop-place-preserved
loop-place-preserved c =
    let K = c.args.program.kernel.now in
    let f = c.loop-place.frame in
    let g = c.step.new.frame in
    let good : IsKernel K = c.nodes-size.ensures.valid in
    let within : c.loop-place.place < plain.size K = search rules in
    let done : Steps K c.args.program.image.now c.loop-place.place c.args.turn.number c.args.turn.row f g = c.in_ok-word.ensures.steps in
    let done' : Steps K c.args.program.image.now c.loop-place.place c.args.turn.number (c.args.turn.number % 5) f g = subst (λ (row : ℕ). Steps K c.args.program.image.now c.loop-place.place c.args.turn.number row f g) c.args.turn.here done in
    let access : Access = record { node = c.loop-place.place; turn = c.args.turn.number } in
    let progress = c.loop-place.invariant.at in
    let long : length f.memory ≡ length c.args.program.image.now.memory = ap length progress.memory ∙ memory_stays K c.args.program.image.now (c.args.turn.number * plain.size K + c.loop-place.place) in
    let right : work_in K c.loop-place.place c.args.turn.number c.args.turn.row f ≡ work K c.args.program.image.now (step_of (plain.size K) access) =
    subst (λ (row : ℕ). work_in K c.loop-place.place c.args.turn.number row f ≡ work K c.args.program.image.now (step_of (plain.size K) access)) (sym c.args.turn.here) (work_right K c.args.program.image.now good c.args.turn.number c.loop-place.place f within progress) in
    let next : step_of (plain.size K) access + 1 ≡ c.args.turn.number * plain.size K + (c.loop-place.place + 1) = omega arith in
    record {
      at = stepped K c.args.program.image.now good c.args.turn.number c.loop-place.place f within c.loop-place.invariant.at g done';
      outside = omega (arith, c.in_ok-word.ensures.outside);
      watched = subst (λ z. IsWatched K c.args.program.image.now z c.watch_step.new.watch) next
          (watched_step K c.args.program.image.now (length f.memory) (work_in K c.loop-place.place c.args.turn.number c.args.turn.row f) access c.in_ok-word.word c.loop-place.watch c.watch_step.new.watch within long right c.in_ok-word.ensures.reached c.in_ok-watch_step.ensures c.loop-place.invariant.watched);
    }

pub returns-clause-watched : goal.returns-clause-watched
returns-clause-watched c =
    let K = c.args.program.kernel.now in
    let long : length c.nodes-size.result.now ≡ plain.size K = ap length c.nodes-size.ensures.nodes in
    let e : c.loop-place.place ≡ plain.size K = omega arith in
    subst (λ z. IsWatched K c.args.program.image.now (c.args.turn.number * plain.size K + z) c.loop-place.watch) e c.loop-place.invariant.watched
