use Rattle.std.proofs.Common.{◌+◌, max, get_or, ap, ◌∙◌, arith}
use Rattle.std.specs.Prelude.{unwrap_or}
use Rattle.std.proofs.lemmas.List.Elements.{Contains-get_or}
use Rattle.cg_bound_all.specs.declared.bounds.Bound.{Bound}
use Rattle.cg_bound_all.specs.Why.{IsBound}
use Rattle.cg_bound_all.proofs.Scans.{begins, begin_next, above_all}
use Rattle.cg_bound_all.proofs.least.first_unknown.Goals as goal

pub loop-bound-init : goal.loop-bound-init
loop-bound-init c = begins c.args.arch.now c.args.kernel.now c.args.tables.now c.args.bounds.now

pub loop-bound-preserved : goal.loop-bound-preserved
loop-bound-preserved c =
    let A = c.args.arch.now in
    let K = c.args.kernel.now in
    let f = c.args.tables.now in
    let k = c.loop-bound.bound-index in
    let bound = c.bound-item.result in
    let here = c.bound-item.is in
    let right : IsBound A K f (get_or c.args.bounds.now k bound) = c.requires (get_or c.args.bounds.now k bound) (Contains-get_or c.args.bounds.now k bound c.loop-bound-test.true) in
    let same = c.unwrap_or.ensures ∙ ap (λ z. unwrap_or bound.least (z + 1)) c.contexts-end.ensures.contexts ∙ ap (λ (z : Bound). unwrap_or z.least (A.contexts + 1)) here in
    begin_next A K f c.args.bounds.now k bound c.loop-bound.first c.later-first.result c.loop-bound-test.true right
    (c.later-first.ensures ∙ ap (max c.loop-bound.first) same) (omega arith) c.loop-bound.invariant

pub returns : goal.returns
returns c =
    record {
      begin = c.loop-bound.invariant.begin;
      above = above_all c.args.arch.now c.args.kernel.now c.args.tables.now c.args.bounds.now c.loop-bound.bound-index c.loop-bound.first c.loop-bound-test.false c.loop-bound.invariant;
    }
