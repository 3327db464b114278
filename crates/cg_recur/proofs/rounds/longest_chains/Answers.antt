use Rattle.std.proofs.Common.{subst}
use Rattle.cg_recur.specs.Log.{IsMade}
use Rattle.cg_recur.proofs.Made as made
use Rattle.cg_recur.proofs.rounds.longest_chains.Goals as goal

pub cycle-requires-clause-good : goal.cycle-requires-clause-good
cycle-requires-clause-good c =
    let m = c.in_ok-made.made in
    made.good c.args.edges.now c.args.ii c.args.nodes c.as_slice-log.result.now c.as_slice-last.result.now m.is_deep
    (made.made_at c.args.edges.now c.args.ii c.args.nodes m.log.items c.as_slice-log.result.now m.last.items c.as_slice-last.result.now m.is_deep c.as_slice-log.ensures.value c.as_slice-last.ensures.value c.in_ok-made.ensures)

pub cycle-requires-clause-deep : goal.cycle-requires-clause-deep
cycle-requires-clause-deep c =
    let m = c.in_ok-made.made in
    made.deep c.args.edges.now c.args.ii c.args.nodes c.as_slice-log.result.now c.as_slice-last.result.now m.is_deep c.if-made.true
    (made.made_at c.args.edges.now c.args.ii c.args.nodes m.log.items c.as_slice-log.result.now m.last.items c.as_slice-last.result.now m.is_deep c.as_slice-log.ensures.value c.as_slice-last.ensures.value c.in_ok-made.ensures)

pub times-requires-clause-good : goal.times-requires-clause-good
times-requires-clause-good c =
    let m = c.in_ok-made.made in
    made.good c.args.edges.now c.args.ii c.args.nodes c.as_slice-log.result.now c.as_slice-last.result.now m.is_deep
    (made.made_at c.args.edges.now c.args.ii c.args.nodes m.log.items c.as_slice-log.result.now m.last.items c.as_slice-last.result.now m.is_deep c.as_slice-log.ensures.value c.as_slice-last.ensures.value c.in_ok-made.ensures)

pub times-requires-clause-shallow : goal.times-requires-clause-shallow
times-requires-clause-shallow c =
    let m = c.in_ok-made.made in
    made.shallow c.args.edges.now c.args.ii c.args.nodes c.as_slice-log.result.now c.as_slice-last.result.now
    (subst (IsMade c.args.edges.now c.args.ii c.args.nodes c.as_slice-log.result.now c.as_slice-last.result.now) c.if-made.false
    (made.made_at c.args.edges.now c.args.ii c.args.nodes m.log.items c.as_slice-log.result.now m.last.items c.as_slice-last.result.now m.is_deep c.as_slice-log.ensures.value c.as_slice-last.ensures.value c.in_ok-made.ensures))

pub returns : goal.returns
returns c =
    let m = c.in_ok-made.made in
    made.early c.args.edges.now c.args.ii c.args.nodes c.as_slice-log.result.now c.as_slice-last.result.now c.requires.within c.in_ok-early.early.items
    (subst (IsMade c.args.edges.now c.args.ii c.args.nodes c.as_slice-log.result.now c.as_slice-last.result.now) c.if-made.false
    (made.made_at c.args.edges.now c.args.ii c.args.nodes m.log.items c.as_slice-log.result.now m.last.items c.as_slice-last.result.now m.is_deep c.as_slice-log.ensures.value c.as_slice-last.ensures.value c.in_ok-made.ensures))
    c.in_ok-early.ensures
