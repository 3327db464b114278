use Rattle.std.proofs.Common.{arith}
use Rattle.std.specs.Prelude.{slice_index_or}
use Rattle.std.proofs.lemmas.Option.{slice_get-get_or}
use Rattle.cg_recur.specs.declared.edge.Edge.{Edge}
use Rattle.cg_recur.proofs.Pushes.{left_next, left_deep, left_shallow}
use Rattle.cg_recur.proofs.moments.relax.Goals as goal

abbrev no_edge : Edge
no_edge = record { source = 0; target = 0; latency = 0; distance = 0 }

pub returns-then-depth-nodes : goal.returns-then-depth-nodes
returns-then-depth-nodes c =
    let es = c.args.edges.now in
    let log = c.args.log.now.items in
    let last = c.args.last.now.items in
    let e = slice_index_or es c.args.e no_edge in
    let pushed = c.in_ok-push.ensures.items in (
      (left_next es c.args.ii c.args.nodes log c.push.new.self.items last c.args.e e c.index-from.result.now c.index-to.result.now c.len-at.result c.index-before.result.now c.index.result.now
          c.requires.within c.requires.good (slice_get-get_or es c.args.e no_edge c.requires.edge) c.index-from.ensures c.index-to.ensures c.index-before.ensures c.index.ensures (omega arith) pushed (omega arith)).0,
      left_deep es c.args.ii c.args.nodes log c.push.new.self.items last c.args.e e c.index-from.result.now c.index-to.result.now c.len-at.result c.index-before.result.now c.index.result.now c.if-depth-nodes.true pushed,
    )

pub returns-else-depth-nodes : goal.returns-else-depth-nodes
returns-else-depth-nodes c =
    let es = c.args.edges.now in
    let log = c.args.log.now.items in
    let last = c.args.last.now.items in
    let e = slice_index_or es c.args.e no_edge in
    let pushed = c.in_ok-push.ensures.items in (
      left_next es c.args.ii c.args.nodes log c.push.new.self.items last c.args.e e c.index-from.result.now c.index-to.result.now c.len-at.result c.index-before.result.now c.index.result.now
          c.requires.within c.requires.good (slice_get-get_or es c.args.e no_edge c.requires.edge) c.index-from.ensures c.index-to.ensures c.index-before.ensures c.index.ensures (omega arith) pushed (omega arith),
      left_shallow es c.args.ii c.args.nodes log c.push.new.self.items last c.args.e e c.index-from.result.now c.index-to.result.now c.len-at.result c.index-before.result.now c.index.result.now c.requires.within c.requires.good (slice_get-get_or es c.args.e no_edge c.requires.edge) c.index-from.ensures c.requires.shallow c.index-before.ensures c.if-depth-nodes.false pushed,
    )
