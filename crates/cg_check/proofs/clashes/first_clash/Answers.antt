use Rattle.std.proofs.Common.{◌*◌, length, replicate, ◌∙◌, ap}
use Rattle.cg_model.specs.Mapping.{positions}
use Rattle.cg_check.specs.declared.stop.Cell.TheVariants.{Free}
use Rattle.cg_check.specs.Claims.{claims, clash_in}
use Rattle.cg_check.proofs.Tables.{violated_in_table}
use Rattle.cg_check.proofs.clashes.first_clash.Goals as goal

pub returns : goal.returns
returns c =
    let A = c.args.arch.now in
    let K = c.args.kernel.now in
    let M = c.args.mapping.now in
    let all = claims c.args.sharing M.ii (replicate (length A.resources * M.ii) Free) (positions A K M) in
    c.clash_in.ensures
    ∙ ap (λ t. clash_in t c.ii.result (length c.resources-resources.result.now)) (c.deref.ensures.value ∙ c.in_ok-table.ensures.value)
    ∙ ap (λ ii. clash_in all ii (length c.resources-resources.result.now)) c.ii.ensures
    ∙ ap (λ n. clash_in all M.ii n) (ap length c.resources-resources.ensures.resources)
    ∙ violated_in_table c.args.sharing A K M c.requires
