use Rattle.std.proofs.Common.{◌<◌, ℕ, length, refl, arith, rules}
use Rattle.cg_datapath.specs.Terminals.{terminals}
use Rattle.cg_datapath.specs.Outs.{delayed}
use Rattle.cg_datapath.proofs.Kept.{kept_more, right_more}
use Rattle.cg_datapath.proofs.outs.set_outs.Goals as goal

pub loop-x-preserved : goal.loop-x-preserved
loop-x-preserved c =
    let us = c.args.units.now in
    let x = c.loop-x.x in
    let W = c.loop-x.words in
    let inside : x < length us = search rules in
    let r = (terminals us x).out in
    let w = delayed us c.args.row c.args.history.now x in
    let known : r < length W = (let h = c.requires.outs x inside in let e = c.loop-x.auto.words in omega arith) in
    record {
      kept = λ f h. kept_more f c.args.words.now W r w known (h x inside) (c.loop-x.invariant.kept f h);
      right = λ f h. right_more (λ (y : ℕ). (terminals us y).out) f W x r w refl known (h x inside) (c.loop-x.invariant.right f h);
    }

pub returns-clause-right : goal.returns-clause-right
returns-clause-right c = λ f h x l. c.loop-x.invariant.right f h x (search rules)
