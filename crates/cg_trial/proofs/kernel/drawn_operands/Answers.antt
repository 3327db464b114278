use Rattle.std.proofs.Common.{◌≡◌, ◌+◌, ◌-◌, ◌<◌, ◌∷◌, ◌++◌, refl, ap, ap₂, sym, ◌∙◌, arith}
use Rattle.cg_trial.specs.Drawn.{drawn_operands, after_operands}
use Rattle.cg_trial.proofs.Drawing.{one_more, go_on, all_made, all_gone}
use Rattle.cg_trial.proofs.kernel.drawn_operands.Goals as goal

pub loop-k-preserved : goal.loop-k-preserved
loop-k-preserved c =
    let l : c.loop-k._k < c.args.count = omega arith in
    record {
      operands =
          ap (λ z. z ++ drawn_operands c.args.node (c.args.count - (c.loop-k._k + 1)) c.drawn_operand.new.generator) c.in_ok-push.ensures.items
          ∙ one_more (drawn_operands c.args.node) c.loop-k.generator c.in_ok-drawn_operand.field-0 c.drawn_operand.new.generator c.loop-k.list.items
          (drawn_operands c.args.node c.args.count c.args.generator.now) c.args.count c.loop-k._k l
          (λ m. ap₂ (λ x g. x ∷ drawn_operands c.args.node m g) (sym c.in_ok-drawn_operand.ensures.operand) (sym c.in_ok-drawn_operand.ensures.rest)) c.loop-k.invariant.operands;
      rest =
          go_on after_operands c.loop-k.generator c.drawn_operand.new.generator (after_operands c.args.count c.args.generator.now) c.args.count c.loop-k._k l
          (λ m. ap (after_operands m) (sym c.in_ok-drawn_operand.ensures.rest)) c.loop-k.invariant.rest;
    }

pub returns : goal.returns
returns c =
    let l : c.args.count ≡ c.loop-k._k = omega arith in
    record {
      operands =
          all_made (drawn_operands c.args.node) c.loop-k.generator c.loop-k.list.items (drawn_operands c.args.node c.args.count c.args.generator.now) c.args.count c.loop-k._k l
          (λ z. refl) c.loop-k.invariant.operands;
      rest = all_gone after_operands c.loop-k.generator (after_operands c.args.count c.args.generator.now) c.args.count c.loop-k._k l (λ z. refl) c.loop-k.invariant.rest;
    }
