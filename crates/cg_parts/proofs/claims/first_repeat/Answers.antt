use Rattle.std.proofs.Common.{◌≡◌, ℕ, List, Option, IfOk, subst}
use mathlib.Core.Path.{fun_ext}
use Rattle.cg_model.specs.First.{first_from}
use Rattle.cg_parts.specs.Rules.{repeats_by}
use Rattle.cg_parts.proofs.claims.first_repeat.Goals as goal

pub returns : goal.returns
returns c =
    let P : (List ℕ → Option ℕ) → Type 0 = λ f. IfOk c.first_repeat_by.result (λ found. found ≡ first_from (repeats_by f) 0 c.args.elements.now) in
    subst P (fun_ext c.in_ok-claimers.ensures.found) c.first_repeat_by.ensures
