use Rattle.std.proofs.Common.{◌∙◌, sym, subst}
use Rattle.cg_model.specs.Array.{Arch, IsArch}
use Rattle.cg_levelize.specs.Topological.{IsTopological}
use Rattle.cg_validate.specs.Answer.{late}
use Rattle.cg_validate.proofs.Answered.{no_loop, valid_by}
use Rattle.cg_validate.proofs.validation.ordered.Goals as goal

pub returns-in-Some-clause-answer : goal.returns-in-Some-clause-answer
returns-in-Some-clause-answer c = λ _.
    let P : Arch → Type 0 = λ A. IsTopological A.resources c.args.order in
    late c.requires.early (no_loop c.args.parts.now c.args.order (subst P c.requires.flat c.requires.order)) (sym c.in_ok-fault.ensures ∙ c.in-Some.is)

pub keep-requires-clause-valid : goal.keep-requires-clause-valid
keep-requires-clause-valid c =
    let P : Arch → Type 0 = λ A. IsTopological A.resources c.args.order in
    subst IsArch (sym c.requires.flat) (valid_by c.args.parts.now c.args.order c.requires.early (sym c.in_ok-fault.ensures ∙ c.in_default.is) (subst P c.requires.flat c.requires.order))

pub returns-clause-answer : goal.returns-clause-answer
returns-clause-answer c =
    let P : Arch → Type 0 = λ A. IsTopological A.resources c.args.order in
    record {
      early = c.requires.early;
      no_loop = no_loop c.args.parts.now c.args.order (subst P c.requires.flat c.requires.order);
      late = sym c.in_ok-fault.ensures ∙ c.in_default.is;
      is = c.in_ok-keep.ensures ∙ c.requires.flat;
    }
