use Rattle.std.proofs.Common.{◌≡◌, ◌++◌, ◌∙◌, ap}
use Rattle.std.specs.Prelude.{codes, decimal}
use Rattle.cg_check.specs.Legal.{config_of}
use Rattle.cg_layout.specs.Svg.{words_text}
use Rattle.cg_show.proofs.head.push_title.Goals as goal

pub returns : goal.returns
returns c =
    let m = c.args.marks.now in
    let old = c.args.text.now.items in
    let name : c.as_str-name.result.now ≡ m.arch.name = c.as_str-name.ensures ∙ c.name.ensures.name ∙ ap (λ A. A.name) c.arch.ensures.arch in
    let ii : c.ii-ii.result ≡ m.mapping.ii = c.ii-ii.ensures ∙ ap (λ z. z.ii) c.mapping.ensures.mapping in
    let stages : c.stages-stages.result ≡ (config_of m).stages = c.stages-stages.ensures ∙ ap (λ z. (config_of z).stages) c.legal.ensures.value in
    c.in_ok-push_words.ensures
    ∙ ap (λ z. old ++ words_text (codes "h") 30 28 z) (c.as_str.ensures.value ∙ c.in_ok-title.ensures.ok
    ∙ ap (λ z. z ++ (codes ": interval " ++ (decimal c.ii-ii.result ++ (codes ", stages " ++ decimal c.stages-stages.result)))) name
    ∙ ap (λ z. m.arch.name ++ (codes ": interval " ++ (decimal z ++ (codes ", stages " ++ decimal c.stages-stages.result)))) ii
    ∙ ap (λ z. m.arch.name ++ (codes ": interval " ++ (decimal m.mapping.ii ++ (codes ", stages " ++ decimal z)))) stages)
