use Rattle.std.proofs.Common.{sym, subst}
use Rattle.std.specs.Option.{IfSome}
use Rattle.cg_word.specs.declared.op.Op.{Op}
use Rattle.cg_simplify_facts.specs.Facts.{IsConstant}
use Rattle.cg_simplify_facts.proofs.Values.{equal_lts, equal_sub, equal_xor}
use Rattle.cg_simplify_facts.proofs.constants.compared.Goals as goal

pub returns-then-facts : goal.returns-then-facts
returns-then-facts c = subst (λ (op : Op). IsConstant op c.args.facts 0) (sym c.in-Sub.is) (λ x y z f. equal_sub x y z (f.equal c.if-facts.true) f.second.small)

pub returns-then-facts-2 : goal.returns-then-facts-2
returns-then-facts-2 c = subst (λ (op : Op). IsConstant op c.args.facts 0) (sym c.in-Xor.is) (λ x y z f. equal_xor x y z (f.equal c.if-facts-2.true))

pub returns-then-facts-3 : goal.returns-then-facts-3
returns-then-facts-3 c = subst (λ (op : Op). IsConstant op c.args.facts 0) (sym c.in-Lts.is) (λ x y z f. equal_lts x y z (f.equal c.if-facts-3.true))

pub returns-in-Eq : goal.returns-in-Eq
returns-in-Eq c = subst (λ (op : Op). IfSome c.of_eq.result (IsConstant op c.args.facts)) (sym c.in-Eq.is) c.of_eq.ensures

pub returns-in-Ne : goal.returns-in-Ne
returns-in-Ne c = subst (λ (op : Op). IfSome c.of_ne.result (IsConstant op c.args.facts)) (sym c.in-Ne.is) c.of_ne.ensures

pub returns-in-Ltu : goal.returns-in-Ltu
returns-in-Ltu c = subst (λ (op : Op). IfSome c.of_ltu.result (IsConstant op c.args.facts)) (sym c.in-Ltu.is) c.of_ltu.ensures
