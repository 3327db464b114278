use Rattle.std.proofs.Common.{◌≡◌, ◌-◌, ◌<◌, length, sym, ◌∙◌, arith}
use Rattle.std.specs.Prelude.{slice_index}
use Rattle.cg_bound_flow.proofs.Logs.{read}
use Rattle.cg_bound_flow.proofs.Lifts.{room_more}
use Rattle.cg_bound_flow.proofs.lift.room_at.Goals as goal

pub loop-more-init : goal.loop-more-init
loop-more-init c =
    let chain = c.requires.chain in
    let p = chain.linked.places in
    let l = c.requires.place in
    let inside : c.args.place < length c.args.cut.network.incidence.now.begins.last.items = omega arith in
    let e : c.index-more.result.now ≡ slice_index c.args.cut.network.incidence.now.begins.last.items c.args.place = read c.args.cut.network.incidence.now.begins.last.items c.args.place c.index-more.result.now 0 inside c.index-more.ensures in
    record {
      positive = c.requires.some;
      most = omega arith;
      within = (let w = chain.linked.within c.args.place in omega arith);
      here = λ k q. chain.first c.args.place k (sym e ∙ q);
      rises = λ k a b d q. let h = chain.none c.args.place k d q in absurd (omega arith);
    }

pub loop-more-preserved : goal.loop-more-preserved
loop-more-preserved c =
    let chain = c.requires.chain in
    let m = c.loop-more.more in
    let t = c.loop-more-test.true in
    let w = c.loop-more.invariant.within in
    let a = chain.linked.each in
    let inside : m - 1 < length c.args.cut.network.incidence.now.begins.earlier.items = omega arith in
    let here = c.loop-more.invariant.here (m - 1) (omega arith) in
    let e : c.index-more-in-loop-more.result.now ≡ slice_index c.args.cut.network.incidence.now.begins.earlier.items (m - 1) = read c.args.cut.network.incidence.now.begins.earlier.items (m - 1) c.index-more-in-loop-more.result.now 0 inside c.index-more-in-loop-more.ensures in
    record {
      positive = c.room_over-by.ensures.positive;
      most = (let x = c.room_over-by.ensures.most in let y = c.loop-more.invariant.most in omega arith);
      within = (let x = chain.linked.before (m - 1) in omega arith);
      here = λ k q. chain.next (m - 1) k (omega arith) (sym e ∙ q) ∙ here;
      rises = room_more c.args.cut.network.links.now c.args.cut.potentials.now c.args.cut.reached.now.order.items _ c.args.place c.args.cut.count m (m - 1) c.index-more-in-loop-more.result.now c.loop-more.by c.room_over-by.result c.args.cut.network.incidence.now.begins chain w (omega arith) here e
          c.room_over-by.ensures.most c.loop-more.invariant.rises c.room_over-by.ensures.rises;
    }
