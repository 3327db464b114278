use Rattle.std.proofs.Common.{◌≤◌, refl, sym, subst, arith}
use Rattle.std.proofs.lemmas.List.{length-map}
use Rattle.cg_model.specs.Mapping.{Position, positions_on}
use Rattle.cg_congestion.specs.Claims.{uses}
use Rattle.cg_congestion.specs.Plain.{plain, plain_table}
use Rattle.cg_congestion.specs.Table.{Table, IsMore}
use Rattle.cg_congestion.proofs.Along.{length_on}
use Rattle.cg_congestion.proofs.laws.PlainUsage.remove.Goals as goal

pub take_path-requires-clause-held : goal.take_path-requires-clause-held
take_path-requires-clause-held c =
    subst (λ (T : Table). (p : Position) → uses (positions_on T.arch c.args.source c.args.start c.args.path.now) p ≤ uses T.positions p) (sym c.self.view_is) c.requires.held

pub returns : goal.returns
returns c =
    let g = c.self.inside in
    let after = plain_table g.arch.now g.interval c.take_path.new.positions.items g.history.items in
    subst (λ (T : Table). IsMore after T (positions_on T.arch c.args.source c.args.start c.args.path.now)) c.self.view_is
    (record {
      arch = refl;
      interval = refl;
      history = refl;
      uses = c.take_path.ensures.taken;
      count =
          let a = c.take_path.ensures.count in
          let b = length-map g.positions.items plain in
          let d = length-map c.take_path.new.positions.items plain in
          let e = length_on g.arch.now c.args.source c.args.start c.args.path.now in
          omega (arith, a, b, d, e);
    })
