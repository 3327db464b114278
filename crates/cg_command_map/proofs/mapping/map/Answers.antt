use Rattle.std.proofs.Common.{◌≡◌, true, subst, sym}
use Rattle.cg_effects.specs.Outcome.{file_of, outcome_of}
use Rattle.cg_cause.proofs.Allowed.{ends_weaker, stopped}
use Rattle.cg_inputs.specs.Sources.{Pair}
use Rattle.cg_command_map.specs.Searches.{IsWithin, is_above, above_contexts, outputs_of}
use Rattle.cg_command_map.proofs.Over.{asked, arch_refused, kernel_refused, pair_given}
use Rattle.cg_command_map.specs.Map.{IsMap, IsWalk}
use Rattle.cg_command_map.proofs.mapping.map.Goals as goal

pub returns-in_err-arch : goal.returns-in_err-arch
returns-in_err-arch g c =
    let call = c.args.call.now in
    let s = call.request in
    let arch = file_of call.arch.now in
    let kernel = file_of call.kernel.now in
    let outs = outputs_of call in
    stopped (IsMap s arch kernel outs) c.in_err-arch.field-0.0 _ c.from_residual.ensures.1
    (arch_refused (IsWalk s outs) s arch kernel c.requires _ c.in_err-arch.ensures.refused)

pub returns-in_err-kernel : goal.returns-in_err-kernel
returns-in_err-kernel g c =
    let call = c.args.call.now in
    let s = call.request in
    let arch = file_of call.arch.now in
    let kernel = file_of call.kernel.now in
    let outs = outputs_of call in
    stopped (IsMap s arch kernel outs) c.in_err-kernel.field-0.0 _ c.from_residual-in_err-kernel.ensures.1
    (kernel_refused (IsWalk s outs) s arch kernel c.requires c.in_ok-arch.arch c.in_ok-arch.ensures.given _ c.in_err-kernel.ensures.refused)

pub returns-in_err-check_asked : goal.returns-in_err-check_asked
returns-in_err-check_asked g c =
    let call = c.args.call.now in
    let s = call.request in
    let arch = file_of call.arch.now in
    let kernel = file_of call.kernel.now in
    let outs = outputs_of call in
    let A = c.in_ok-arch.arch in
    let p : Pair = record { arch = A; kernel = c.in_ok-kernel.kernel } in
    stopped (IsMap s arch kernel outs) c.in_err-check_asked.field-0.0 _ c.from_residual-in_err-check_asked.ensures.1
    (ends_weaker (λ o. (is_above s.ii A ≡ true) × (o ≡ above_contexts arch.name A)) (IsMap s arch kernel outs) _
    (λ o h. pair_given (IsWalk s outs) s arch kernel c.requires A c.in_ok-arch.ensures.given c.in_ok-kernel.kernel c.in_ok-kernel.ensures.given o (subst (λ b. IsWithin (IsWalk s outs) arch.name p b o) (sym h.0) h.1))
    c.in_err-check_asked.ensures.above)

pub map_answer-requires-clause-within : goal.map_answer-requires-clause-within
map_answer-requires-clause-within g c = asked c.args.call.now.request c.in_ok-arch.arch c.requires c.in_ok-check_asked.ensures.within

pub returns : goal.returns
returns g c =
    let call = c.args.call.now in
    let s = call.request in
    let arch = file_of call.arch.now in
    let kernel = file_of call.kernel.now in
    let outs = outputs_of call in
    let A = c.in_ok-arch.arch in
    let p : Pair = record { arch = A; kernel = c.in_ok-kernel.kernel } in
    let o = outcome_of c.in_ok-answered.field-0 in
    pair_given (IsWalk s outs) s arch kernel c.requires A c.in_ok-arch.ensures.given c.in_ok-kernel.kernel c.in_ok-kernel.ensures.given o
    (subst (λ b. IsWithin (IsWalk s outs) arch.name p b o) (sym c.in_ok-check_asked.ensures.within) c.in_ok-answered.ensures)
