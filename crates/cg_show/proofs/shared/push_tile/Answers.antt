use Rattle.std.proofs.Common.{◌∙◌}
use Rattle.cg_show.proofs.Panelled.{tile_is}
use Rattle.cg_show.proofs.shared.push_tile.Goals as goal

pub returns : goal.returns
returns c =
    tile_is c.args.spot c.args.height c.args.tile c.args.text.now.items c.push_rect.new.text.items c.push_words.new.text.items
    c.from-x.result c.from-y.result c.from-high.result c.as_str.result.now
    c.from-x.ensures c.from-y.ensures c.from-high.ensures (c.as_str.ensures.value ∙ c.in_ok-words.ensures.ok)
    c.in_ok-push_rect.ensures c.in_ok-push_words.ensures
