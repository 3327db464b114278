use Rattle.std.proofs.Common.{◌∙◌, ap, arith}
use Rattle.cg_place.specs.Draws.{drawn_move}
use Rattle.cg_walk_spec.specs.Words.{word}
use Rattle.cg_anneal.proofs.Attempts.{attempt_small, stepped}
use Rattle.cg_anneal.proofs.walk.Walk.step.Goals as goal

pub rest-requires-clause-small : goal.rest-requires-clause-small
rest-requires-clause-small c =
    let l = c.requires.left in
    let few = c.requires.few in
    attempt_small c.args.self.now c.attempt.new.self c.propose-change.result c.args.pace.moves c.args.pace.k c.draw-words.result.stands c.in_ok-attempt.ensures (omega (arith, l, few)) c.requires.small

pub returns-clause-step : goal.returns-clause-step
returns-clause-step c =
    let W = c.args.self.now in
    let g = c.args.generator.now in
    let d = c.draw-words.result in
    let m = c.propose-change.ensures.value ∙ ap (λ x. drawn_move W.arch W.kernel W.ii W.early x d.unit d.time) c.draw-words.ensures.node
    ∙ ap (λ x. drawn_move W.arch W.kernel W.ii W.early (word 0 g) x d.time) c.draw-words.ensures.unit ∙ ap (λ x. drawn_move W.arch W.kernel W.ii W.early (word 0 g) (word 1 g) x) c.draw-words.ensures.time in
    stepped W c.attempt.new.self c.rest.new.self c.propose-change.result c.args.pace.moves c.args.pace.k d.stands g m c.draw-words.ensures.stands c.in_ok-attempt.ensures c.rest.ensures
