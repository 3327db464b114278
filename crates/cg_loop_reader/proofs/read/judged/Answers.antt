use Rattle.std.proofs.Common.{◌≡◌, None, sym, ap, ◌∙◌, subst}
use Rattle.std.specs.Prelude.{map}
use Rattle.cg_loop_syntax.specs.Uses.{fault_of}
use Rattle.cg_loop_syntax.specs.Well.{IsWell}
use Rattle.cg_loop_reader.specs.Used.{use_of}
use Rattle.cg_loop_reader.specs.Left.{noted}
use Rattle.cg_loop_reader.proofs.Answered.{parts_well}
use Rattle.cg_loop_reader.proofs.read.judged.Goals as goal

pub invariant_of-result : goal.invariant_of-result
invariant_of-result c =
    let none : fault_of (noted c.args.reader.now) ≡ None = ap (λ us. fault_of (map use_of us)) (sym c.deref.ensures.value) ∙ c.in_ok-judge.ensures.ok in
    let well = parts_well c.args.parts c.args.bytes.now (noted c.args.reader.now) c.requires none in
    record { well = subst (λ ds. IsWell ds c.new-stmts.result) (sym c.new-decls.ensures) (subst (IsWell c.args.parts.decls.items) (sym c.new-stmts.ensures) well) }
