use Rattle.std.proofs.Common.{◌≡◌, ◌∙◌, sym, ap, arith, length}
use Rattle.std.specs.Prelude.{string_bytes, nat_eq}
use Rattle.std.specs.List.{starts_with}
use Rattle.cg_layout.proofs.Found.{first_begun, first_missed, first_met, first_missing}
use Rattle.cg_layout.proofs.tiles.prefix_of.Goals as goal

pub loop-number-init : goal.loop-number-init
loop-number-init c = first_begun (λ v prefix. starts_with nat_eq c.args.name.now (string_bytes prefix)) c.args.prefixes.now

pub returns-then-begins : goal.returns-then-begins
returns-then-begins c =
    let is = ap (λ p. starts_with nat_eq c.args.name.now (string_bytes p)) (sym c.index-prefixes-number.is) ∙ ap (starts_with nat_eq c.args.name.now) (sym c.as_str.ensures.value) in
    sym (first_met (λ v prefix. starts_with nat_eq c.args.name.now (string_bytes prefix)) c.args.prefixes.now c.loop-number.number c.index-prefixes-number.result _ c.loop-number-test.true (is ∙ sym c.begins.ensures ∙ c.if-begins.true) c.loop-number.invariant)

pub loop-number-preserved : goal.loop-number-preserved
loop-number-preserved c =
    let is = ap (λ p. starts_with nat_eq c.args.name.now (string_bytes p)) (sym c.index-prefixes-number.is) ∙ ap (starts_with nat_eq c.args.name.now) (sym c.as_str.ensures.value) in
    first_missed (λ v prefix. starts_with nat_eq c.args.name.now (string_bytes prefix)) c.args.prefixes.now c.loop-number.number c.index-prefixes-number.result _ c.loop-number-test.true (is ∙ sym c.begins.ensures ∙ c.if-begins.false) c.loop-number.invariant

pub returns : goal.returns
returns c =
    let all : c.loop-number.number ≡ length c.args.prefixes.now = omega arith in
    sym (first_missing (λ v prefix. starts_with nat_eq c.args.name.now (string_bytes prefix)) c.args.prefixes.now c.loop-number.number _ all c.loop-number.invariant)
