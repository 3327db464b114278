use Rattle.std.proofs.Common.{◌≡◌, ◌<◌, ◌+◌, ◌*◌, ℕ, List, length, Option, ap, subst, ◌∙◌, arith, rules}
use Rattle.cg_model.specs.declared.config.UnitFields.{UnitFields}
use Rattle.cg_model.specs.Work.{Work}
use Rattle.cg_model.specs.Machine.{begun, result_of}
use Rattle.cg_datapath.specs.Terminals.{terminals}
use Rattle.cg_datapath.specs.Terminals.{on_ports, works_on}
use Rattle.cg_datapath.specs.Effects.{Begins}
use Rattle.cg_datapath.proofs.EachUnit.{begins_none, begins_more, row_none, row_more}
use Rattle.cg_datapath.proofs.units.begin_units.Goals as goal

pub loop-x-init : goal.loop-x-init
loop-x-init g c = record {
  effects = begins_none c.args.image.now _ c.args.effects.now;
  history = row_none c.args.image.now c.args.effects.now.memory _ c.args.moment.row c.args.history.now;
  few = omega arith;
}

pub loop-x-preserved : goal.loop-x-preserved
loop-x-preserved g c =
    let C = g.C.Contexts.config c.args.contexts.now in
    let us = c.args.units.now in
    let x = c.loop-x.x in
    let image = c.args.image.now in
    let works : ℕ → Option Work = works_on C us c.args.n c.args.moment.slot c.args.moment.round c.args.words.now in
    let same : begun c.new-unit.result c.args.n c.args.moment.round (on_ports (terminals us x).ports c.args.words.now) ≡ works x =
    ap (λ (F : UnitFields). begun F c.args.n c.args.moment.round (on_ports (terminals us x).ports c.args.words.now)) c.new-unit.ensures in
    let one : Begins image (works x) c.loop-x.effects c.begin-result.new.effects c.begin-result.result = subst (λ (o : Option Work). Begins image o c.loop-x.effects c.begin-result.new.effects c.begin-result.result) same c.begin-result.ensures.work in
    let right : c.begin-result.result ≡ result_of image c.args.effects.now.memory (works x) = one.result_is ∙ ap (λ (m : List ℕ). result_of image m (works x)) c.loop-x.invariant.effects.memory in
    let place : 4 * x + c.args.moment.row < length c.loop-x.history = search rules in
    record {
      effects = begins_more image works x c.args.effects.now c.loop-x.effects c.begin-result.new.effects c.begin-result.result c.loop-x.invariant.effects one;
      history = row_more image c.args.effects.now.memory works c.args.moment.row x c.args.history.now c.loop-x.history c.begin-result.result c.requires.row c.loop-x.invariant.history place right;
      few = (let a = c.begin-result.ensures.few in let b = c.loop-x.invariant.few in omega arith);
    }
