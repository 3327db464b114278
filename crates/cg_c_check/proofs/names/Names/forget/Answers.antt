use Rattle.std.proofs.Common.{◌≡◌, ◌-◌, ◌+◌, drop, length, refl, sym, ap, ◌∙◌, arith, length-drop}
use Rattle.std.proofs.lemmas.List.{drop-drop}
use Rattle.cg_c_check.proofs.names.Names.forget.Goals as goal

pub loop-self-init : goal.loop-self-init
loop-self-init c = refl

pub loop-self-smaller : goal.loop-self-smaller
loop-self-smaller c = rw c.forget_last.ensures (omega (arith, length-drop 1 c.loop-self.self))

pub loop-self-preserved : goal.loop-self-preserved
loop-self-preserved c =
    let less : 1 + (length (drop 1 c.loop-self.self) - c.args.count) ≡ length c.loop-self.self - c.args.count = omega (arith, length-drop 1 c.loop-self.self) in
    rw c.forget_last.ensures (c.loop-self.invariant ∙ sym (drop-drop (length (drop 1 c.loop-self.self) - c.args.count) 1 c.loop-self.self ∙ ap (λ n. drop n c.loop-self.self) less))

pub returns : goal.returns
returns c =
    let none : length c.loop-self.self - c.args.count ≡ 0 = omega arith in
    sym (c.loop-self.invariant ∙ ap (λ n. drop n c.loop-self.self) none)
