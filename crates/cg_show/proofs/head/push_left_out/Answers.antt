use Rattle.std.proofs.Common.{◌-◌, ◌++◌, ◌∙◌, Bool, cond, [], sym, ap}
use Rattle.std.specs.Prelude.{codes, decimal}
use Rattle.std.proofs.lemmas.Bool.{lt-ltb}
use Rattle.cg_layout.specs.Svg.{words_text}
use Rattle.cg_show.proofs.head.push_left_out.Goals as goal

pub returns-in_ok-push_words : goal.returns-in_ok-push_words
returns-in_ok-push_words c =
    let old = c.args.text.now.items in
    let n = c.args.count in
    let ii = c.args.ii in
    let said = codes "slots " ++ (decimal n ++ (codes " to " ++ (decimal (ii - 1) ++ codes " are left out: there is no room for them in 16 MB"))) in
    c.in_ok-push_words.ensures
    ∙ ap (λ z. old ++ words_text (codes "o") 330 46 z) (c.as_str.ensures.value ∙ c.in_ok-words.ensures.ok)
    ∙ ap (λ (b : Bool). old ++ cond b (words_text (codes "o") 330 46 said) []) (sym (lt-ltb n ii c.if-count-ii.true))
