use Rattle.std.proofs.Common.{◌≡◌, ℕ, ◌*◌, ◌%◌, ◌^◌, ◌∙◌, sym, ap, arith, inl, inr}
use Rattle.cg_depend.proofs.Congruence.{inverse_step}
use Rattle.cg_depend.proofs.gap.inverse.Goals as goal
use Rattle.cg_depend.proofs.gap.inverse.Goals.{then-odd-known-eq1, else-odd-known-eq1}

pub loop-bit-preserved : goal.loop-bit-preserved
loop-bit-preserved c =
    let i = c.loop-bit.invariant in
    inverse_step c.args.odd c.loop-bit.known c.if-odd-known-eq1.known c.loop-bit.power c.loop-bit._bit i.0 i.1 i.2 i.3 c.requires.odd
    (elim c.if-odd-known-eq1.branch [ then-odd-known-eq1 w ↦ inl (w.if-odd-known-eq1.true, w.known-is) | else-odd-known-eq1 w ↦ inr (w.if-odd-known-eq1.false, w.known-is) ])

full : (power bit : ℕ) → power ≡ 2 ^ bit → bit ≡ 32 → power ≡ 4294967296
full power bit e f = e ∙ ap (λ z. 2 ^ z) f

pub returns-clause-small : goal.returns-clause-small
returns-clause-small c = let i = c.loop-bit.invariant in let e = full c.loop-bit.power c.loop-bit._bit i.0 (omega arith) in omega arith

pub returns-clause-inverse : goal.returns-clause-inverse
returns-clause-inverse c = let i = c.loop-bit.invariant in ap (λ z. (c.args.odd * c.loop-bit.known) % z) (sym (full c.loop-bit.power c.loop-bit._bit i.0 (omega arith))) ∙ i.3
