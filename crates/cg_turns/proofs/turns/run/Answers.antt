use Rattle.std.proofs.Common.{◌≡◌, ℕ, ◌∙◌, subst, arith, rules, ◌≤◌, ◌+◌, ◌*◌, ap, sym, length}
use Rattle.cg_model.specs.Kernel as plain
use Rattle.cg_turns.specs.Watched.{IsWatched}
use Rattle.cg_turns.specs.Pairs.{IsPairOf}
use Rattle.cg_turns.specs.Trace.{IsPairSoFar}
use Rattle.cg_turns.proofs.Pairs.{watched_start, pair_done}
use Rattle.cg_turns.proofs.Small.{left_small}
use Rattle.cg_turns.proofs.Steps.{turned, finished}
use Rattle.cg_model.specs.Work.{Left}
use Rattle.cg_turns.specs.Done.{IsSmall}
use Rattle.cg_turns.specs.Frame.{IsAt}
use Rattle.cg_turns.proofs.turns.run.Goals as goal
use Rattle.cg_turns.proofs.turns.run.Goals.{then-row-eq4, else-row-eq4}

pub loop-turn-init : goal.loop-turn-init
loop-turn-init c = record { at = c.in_ok-frame.ensures.at; outside = omega (arith, c.in_ok-frame.ensures.outside); row = search rules; watched = (let z : 0 ≡ 0 * plain.size c.args.kernel.now + 0 = omega arith in subst (λ (s : ℕ). IsWatched c.args.kernel.now c.args.image.now s c.in_ok-watch.watch) z (watched_start c.args.kernel.now c.args.image.now c.in_ok-watch.watch _ c.in_ok-watch.ensures (ap length c.memory.ensures))) }

pub loop-turn-preserved : goal.loop-turn-preserved
loop-turn-preserved c =
    let more : c.one_turn.new.frame.outside ≤ 1024 * c.loop-turn.turn + 1024 = c.in_ok-one_turn.ensures.outside in
    record {
      at = turned c.args.kernel.now c.args.image.now c.loop-turn.turn c.one_turn.new.frame c.in_ok-one_turn.ensures.at;
      outside = omega arith;
      watched = (let z : c.loop-turn.turn * plain.size c.args.kernel.now + plain.size c.args.kernel.now ≡ (c.loop-turn.turn + 1) * plain.size c.args.kernel.now + 0 = omega arith in subst (λ (s : ℕ). IsWatched c.args.kernel.now c.args.image.now s c.one_turn.new.watch) z c.in_ok-one_turn.ensures.watched);
      row = elim c.if-row-eq4.branch [ then-row-eq4 w ↦ omega arith | else-row-eq4 w ↦ omega arith ];
    }

pub returns-clause-done : goal.returns-clause-done
returns-clause-done c = c.done.ensures.left ∙ finished c.args.kernel.now c.args.n c.args.image.now c.loop-turn.frame (let e : c.loop-turn.turn ≡ c.args.n = omega arith in subst (λ (t : ℕ). IsAt c.args.kernel.now c.args.image.now t 0 c.loop-turn.frame) e c.loop-turn.invariant.at)

pub returns-clause-pair : goal.returns-clause-pair
returns-clause-pair c =
    let K = c.args.kernel.now in
    let e : c.loop-turn.turn * plain.size K + 0 ≡ c.args.n * plain.size K = (let t : c.loop-turn.turn ≡ c.args.n = omega arith in ap (λ (z : ℕ). z * plain.size K + 0) t ∙ (let z : c.args.n * plain.size K + 0 ≡ c.args.n * plain.size K = omega arith in z)) in
    subst (λ z. IsPairOf K c.args.n c.args.image.now z) (sym c.done.ensures.pair)
    (pair_done K c.args.n c.args.image.now c.loop-turn.watch.pair (subst (λ (s : ℕ). IsPairSoFar K c.args.image.now s c.loop-turn.watch.pair) e c.loop-turn.invariant.watched.pair))

pub returns-clause-small : goal.returns-clause-small
returns-clause-small c =
    subst (λ (l : Left). IsSmall c.args.image.now c.args.n l.image) (sym (returns-clause-done c)) (left_small c.args.kernel.now c.args.n c.args.image.now c.in_ok-frame.ensures.valid)
