use Rattle.std.proofs.Common.{ap, sym, ◌∙◌}
use Rattle.cg_word.specs.Word.{apply_of}
use Rattle.cg_word.specs.declared.op.Op.TheVariants as ops
use Rattle.std.proofs.Common.{nat_lt}
use Rattle.cg_c_values.proofs.Comparing.{tested_is}
use Rattle.cg_c_values.proofs.values.Values.tested.Goals as goal

pub returns-in-Some-default-eq0-clause-tests : goal.returns-in-Some-default-eq0-clause-tests
returns-in-Some-default-eq0-clause-tests c x E f =
    let t = c.in-Some-default-eq0 in
    tested_is (E t.tested) ∙ ap (λ z. nat_lt 0 (apply_of ops.Ne (E t.tested) z 0)) (sym t.field-0-1-test) ∙ ap (nat_lt 0) (sym (t.ensures.means.is x E f))
