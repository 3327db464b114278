use Rattle.std.proofs.Common.{rules, ◌≡◌, arith}
use Rattle.std.specs.Bool.{Decides}
use Rattle.std.proofs.lemmas.Slice.Eq.{slice_eq-Decides}
use Rattle.std.proofs.lemmas.Grind.{common_steps}
use Rattle.cg_run_rows.proofs.alike.are_same_args.Goals as goal

pub returns : goal.returns
returns c =
    let same : Decides c.eq.result (c.args.a.now ≡ c.args.b.now) = slice_eq-Decides (λ a b. search rules) c.args.a.now c.args.b.now c.eq.result c.eq.ensures in
    grind (arith, common_steps, same)
