use Rattle.std.specs.Prelude.{codes}
use Rattle.cg_show.proofs.Panelled.{rect_at}
use Rattle.cg_show.proofs.shared.push_box.Goals as goal

pub returns : goal.returns
returns c =
    rect_at (codes "u") c.args.text.now.items c.push_rect.new.text.items 84 36 c.from-x.result c.from-y.result c.args.spot
    c.from-x.ensures c.from-y.ensures c.in_ok-push_rect.ensures
