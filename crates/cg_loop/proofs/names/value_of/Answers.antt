use Rattle.std.proofs.Common.{◌≡◌, ◌∙◌, Bool, true, false, ap, ap₂, sym, bytes_eq}
use Rattle.cg_loop.specs.Known.{operand_of}
use Rattle.cg_loop.proofs.Envs.{known_step}
use Rattle.cg_loop.proofs.names.value_of.Goals as goal
use Rattle.cg_loop.proofs.names.value_of.Goals.{then-eq, else-eq}

pub loop-named-preserved : goal.loop-named-preserved
loop-named-preserved c =
    let s = λ (t : Bool). known_step c.args.known.now c.loop-named.named-index c.named-item.result c.args.name.now t c.loop-named-test.true c.named-item.is in
    let q : bytes_eq c.args.name.now c.named-item.result.name.now ≡ c.eq.result = sym (c.eq.ensures ∙ ap₂ bytes_eq c.as_str.ensures c.as_str-in-loop-named.ensures) in
    elim c.if-eq.branch [
      | then-eq w ↦ ap operand_of w.value-is ∙ sym (s true (q ∙ w.if-eq.true))
      | else-eq w ↦ ap operand_of w.value-is ∙ c.loop-named.invariant ∙ sym (s false (q ∙ w.if-eq.false))
    ]
