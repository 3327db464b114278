use Rattle.std.proofs.Common.{sym, subst}
use Rattle.std.proofs.lemmas.Result.{on_ok_weaker}
use Rattle.std.specs.List.{Contains}
use Rattle.cg_c_check.specs.Written.{expr_of, exprs_of}
use Rattle.cg_c_meaning.specs.Typed.{AreApart, inputs, inputs_of}
use Rattle.cg_c_turn.specs.Draft.{draft_of}
use Rattle.cg_c_turn.specs.Pieces.{Addresses, AreTranslated}
use Rattle.cg_c_turn.proofs.AssignElement.{element_assigned}
use Rattle.cg_c_turn.proofs.Growing.{apart_first, apart_second}
use Rattle.cg_c_turn.proofs.draft.Draft.assign_element.Goals as goal

pub exprs-requires-clause-apart : goal.exprs-requires-clause-apart
exprs-requires-clause-apart c =
    subst (λ z. AreApart (inputs_of (exprs_of z))) (sym c.deref.ensures.value) (apart_first (inputs_of (exprs_of c.args.element.now.indices.items)) (inputs (expr_of c.args.value.now)) c.requires.apart)

pub address-requires-clause-within : goal.address-requires-clause-within
address-requires-clause-within c v there = c.in_ok-indices.ensures.1.within v (subst (λ z. Contains z v) c.deref-2.ensures.value there)

pub expr-requires-clause-apart : goal.expr-requires-clause-apart
expr-requires-clause-apart c = apart_second (inputs_of (exprs_of c.args.element.now.indices.items)) (inputs (expr_of c.args.value.now)) c.requires.apart

pub returns : goal.returns
returns c =
    let a = draft_of c.args.self.now in
    let b = draft_of c.exprs.new.self in
    let d = draft_of c.address.new.self in
    let x = c.args.element.now in
    let u = c.in_ok-indices.ensures in
    let indices = subst (λ z. AreTranslated a b u.0 (exprs_of z) c.in_ok-indices.indices.items) c.deref.ensures.value u.1 in
    let address = subst (λ z. Addresses b d x.array z c.in_ok-address.address) c.deref-2.ensures.value c.in_ok-address.ensures in
    on_ok_weaker c.store.result
    (λ h. element_assigned a b d (draft_of c.expr.new.self) (draft_of c.changed_element.new.self) (draft_of c.store.new.self) u.0 c.in_ok-new.ensures.0 c.in_ok-word.ensures.0 h.0 x.array x.place c.in_ok-address.address c.in_ok-new.new c.in_ok-word.word c.in_ok-indices.indices.items (exprs_of x.indices.items) (expr_of c.args.value.now) c.args.change.op c.args.change.target c.args.change.value c.requires.indices c.requires.typed c.requires.apart c.requires.read indices address c.in_ok-new.ensures.1 c.in_ok-word.ensures.1 h.1)
    c.store.ensures
