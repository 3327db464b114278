use Rattle.std.proofs.Common.{◌++◌, ◌∙◌, ap}
use Rattle.std.specs.Prelude.{codes}
use Rattle.cg_layout.specs.Svg.{words_text}
use Rattle.cg_show.proofs.panels.push_slot.Goals as goal

pub returns : goal.returns
returns c =
    c.in_ok-push_words.ensures ∙ ap (λ z. c.args.text.now.items ++ words_text (codes "h") c.args.x 6 z) (c.as_str.ensures.value ∙ c.in_ok-words.ensures.ok)
