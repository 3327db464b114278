use Rattle.std.proofs.Common.{◌∙◌, length, sym, ap, arith}
use Rattle.std.proofs.lemmas.List.{length-map}
use Rattle.cg_model.specs.Mapping.{positions_on}
use Rattle.cg_congestion.specs.Plain.{plain}
use Rattle.cg_congestion.specs.Table.{Table}
use Rattle.cg_congestion.proofs.Along.{length_on}
use Rattle.cg_congestion.proofs.Plain.{plain_kept}
use Rattle.cg_congestion.proofs.laws.PlainUsage.add.Goals as goal

pub invariant_of-self : goal.invariant_of-self
invariant_of-self c =
    let g = c.self.inside in
    let more = positions_on g.arch.now c.args.source c.args.start c.args.path.now in
    let long = length_on g.arch.now c.args.source c.args.start c.args.path.now in
    let few = sym (length-map g.positions.items plain) ∙ ap (λ (T : Table). length T.positions) c.self.view_is in
    let room = c.requires.room in
    plain_kept g.arch.now g.interval g.positions.items c.push_path.new.positions.items g.history.items more c.push_path.result c.self.invariant (omega (arith, long, few, room)) c.push_path.ensures.added c.push_path.ensures.unchanged
