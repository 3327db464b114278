use Rattle.std.proofs.Common.{◌≡◌, ◌<◌, false, length, sym, ap, subst, ◌∙◌, arith}
use Rattle.cg_model.specs.declared.config.ArgFields.{ArgFields}
use Rattle.cg_model.specs.declared.config.UnitFields.{UnitFields}
use Rattle.cg_model.specs.Array.{Arch, port, unit}
use Rattle.cg_model.specs.Config.{arg, fields}
use Rattle.cg_model.specs.Canonical.{arity_of}
use Rattle.cg_origins.proofs.Operands.{has_port, arg_read, operand_linked}
use Rattle.cg_origins.proofs.tasks.operand_of.Goals as goal

pub port_of-port-requires-clause-place : goal.port_of-port-requires-clause-place
port_of-port-requires-clause-place g c =
    let A = c.args.slot.now.arch.now in
    let C = g.C.Contexts.config c.args.slot.now.contexts.now in
    let slot = c.args.slot.now.number in
    let x = c.args.unit in
    let p = c.args.place in
    let below : p < arity_of (fields C x slot).op = subst (λ (f : UnitFields). p < arity_of f.op) c.requires.fields c.requires.place in
    subst (λ (B : Arch). p < length (unit B x).ports) (sym c.arch.ensures.arch)
    (has_port A C slot x p c.requires.canonical c.requires.slot c.requires.unit c.arch.ensures.valid below)

pub returns-clause-operand : goal.returns-clause-operand
returns-clause-operand g c =
    let A = c.args.slot.now.arch.now in
    let C = g.C.Contexts.config c.args.slot.now.contexts.now in
    let slot = c.args.slot.now.number in
    let x = c.args.unit in
    let p = c.args.place in
    let r = c.port_of-port.result in
    let below : p < arity_of (fields C x slot).op = subst (λ (f : UnitFields). p < arity_of f.op) c.requires.fields c.requires.place in
    let has = has_port A C slot x p c.requires.canonical c.requires.slot c.requires.unit c.arch.ensures.valid below in
    let read = arg_read A C slot x p c.requires.canonical c.requires.slot c.requires.unit c.args.fields.now c.requires.fields c.requires.place _ in
    let free : (arg (fields C x slot) p).fixed ≡ false = sym (ap (λ (z : ArgFields). z.fixed) read) ∙ c.if-arg.false in
    let count = ap (λ (z : ArgFields). z.count) read in
    let is : r ≡ port A x p = c.port_of-port.ensures.port ∙ ap (λ (B : Arch). port B x p) c.arch.ensures.arch in
    operand_linked A C slot x p _ c.noted_source.new.progress.rows r c.in_ok-source.source free (omega arith) has is c.in_ok-source.ensures.from c.in_ok-source.ensures.readable c.in_ok-source.ensures.near
