use Rattle.std.proofs.Common.{sym, ◌∙◌}
use Rattle.cg_check.proofs.Judged.{keeps_all, keeps_lower, breaks, breaks_at, legal_from, rules_of}
use Rattle.cg_check.proofs.Places.{keeps_at}
use Rattle.cg_check.proofs.checker.check.Goals as goal

pub new-requires : goal.new-requires
new-requires c =
    let A = c.args.arch.now in
    let K = c.args.kernel.now in
    let M = c.args.mapping in
    let arch = c.units-valid_arch.ensures.valid in
    let kernel = c.nodes-valid_kernel.ensures.valid in
    legal_from A K M arch kernel c.requires.shape (keeps_all A K M arch kernel c.requires.shape (sym (c.in_ok-rule.ensures) ∙ c.in-None.is))

pub returns-in-Some-clause-legality : goal.returns-in-Some-clause-legality
returns-in-Some-clause-legality c =
    let A = c.args.arch.now in
    let K = c.args.kernel.now in
    let M = c.args.mapping in
    λ legal.
    breaks A K M c.units-valid_arch.ensures.valid c.nodes-valid_kernel.ensures.valid c.requires.shape c.in-Some.field-0.rule c.in-Some.field-0.place (sym (c.in_ok-rule.ensures) ∙ c.in-Some.is)
    (rules_of A K M legal c.in-Some.field-0.rule)

pub returns-in-Some-clause-rules : goal.returns-in-Some-clause-rules
returns-in-Some-clause-rules c =
    let A = c.args.arch.now in
    let K = c.args.kernel.now in
    let M = c.args.mapping in
    let arch = c.units-valid_arch.ensures.valid in
    let kernel = c.nodes-valid_kernel.ensures.valid in
    let found = sym (c.in_ok-rule.ensures) ∙ c.in-Some.is in
    let v = c.in-Some.field-0 in
    (keeps_lower A K M arch kernel c.requires.shape v.rule v.place found, breaks A K M arch kernel c.requires.shape v.rule v.place found)

pub returns-in-None-clause-rules : goal.returns-in-None-clause-rules
returns-in-None-clause-rules c =
    keeps_all c.args.arch.now c.args.kernel.now c.args.mapping c.units-valid_arch.ensures.valid c.nodes-valid_kernel.ensures.valid c.requires.shape (sym (c.in_ok-rule.ensures) ∙ c.in-None.is)

pub returns-in-Some-clause-place : goal.returns-in-Some-clause-place
returns-in-Some-clause-place c =
    let v = c.in-Some.field-0 in
    breaks_at c.args.arch.now c.args.kernel.now c.args.mapping c.units-valid_arch.ensures.valid c.nodes-valid_kernel.ensures.valid c.requires.shape v.rule v.place (sym (c.in_ok-rule.ensures) ∙ c.in-Some.is)

pub returns-in-None-clause-place : goal.returns-in-None-clause-place
returns-in-None-clause-place c rule p inside =
    let A = c.args.arch.now in
    let K = c.args.kernel.now in
    let M = c.args.mapping in
    keeps_at rule A K M p (keeps_all A K M c.units-valid_arch.ensures.valid c.nodes-valid_kernel.ensures.valid c.requires.shape (sym (c.in_ok-rule.ensures) ∙ c.in-None.is) rule) inside
