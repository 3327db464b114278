use Rattle.std.proofs.Common.{◌∙◌, ◌+◌, List, ℕ, length, ap, subst, sym}
use Rattle.std.proofs.lemmas.List.{length_push}
use Rattle.cg_model.specs.Turns.{val}
use Rattle.cg_simplify_facts.specs.Suits.{AreTops, Suits}
use Rattle.cg_simplify_facts.proofs.Known.{no_tops, one_more}
use Rattle.cg_simplify_facts.proofs.node_tops.tops_of.Goals as goal

pub loop-number-init : goal.loop-number-init
loop-number-init c =
    let e = c.new-tops.ensures.items in
    (ap (λ (ts : List ℕ). length ts) e, subst (AreTops c.args.kernel.now) (sym e) (no_tops c.args.kernel.now c.nodes-nodes.ensures.valid))

pub loop-number-preserved : goal.loop-number-preserved
loop-number-preserved c =
    let K = c.args.kernel.now in
    let tops = c.loop-number.tops.items in
    let n = c.loop-number.number in
    let t = c.top_at-top.result in
    let grown = c.in_ok-push.ensures.items in
    let same = c.deref.ensures.value in (
      ap (λ (ts : List ℕ). length ts) grown ∙ length_push tops t ∙ ap (λ z. z + 1) c.loop-number.invariant.0,
      subst (AreTops K) (sym grown)
          (one_more K tops n t c.loop-number.invariant.1 c.loop-number.invariant.0
          (λ image i valid suits. c.top_at-top.ensures image i valid (subst (λ (ts : List ℕ). Suits K.nodes ts (val K image)) (sym same) suits))),
    )
