use Rattle.std.proofs.Common.{◌≡◌, ◌+◌, ◌*◌, sym, ap, ◌∙◌, arith}
use Rattle.cg_model.specs.Canonical.{stage_right, port_right, immediate_right}
use Rattle.cg_bits.specs.Parts.{joined}
use Rattle.cg_bits.specs.Format.{args_at}
use Rattle.cg_bits.specs.Faults.{first, unless, arg_breaches}
use Rattle.cg_bits.proofs.First.{first_unless, first_left}
use Rattle.cg_bits.proofs.None.{unless_none}
use Rattle.cg_bits.proofs.Breaches.{skip}
use Rattle.cg_bits.proofs.rules.unit_breach.Goals as goal

pub returns-then-not-stage_right : goal.returns-then-not-stage_right
returns-then-not-stage_right c =
    sym (first_left (unless (stage_right c.args.fields.now) _) _ _ (first_unless _ _ (sym c.stage_right.ensures ∙ c.if-not-stage_right.true)))

pub returns-then-not-port_right : goal.returns-then-not-port_right
returns-then-not-port_right c =
    sym (skip (unless (stage_right c.args.fields.now) _) _ _ (unless_none _ _ (sym c.stage_right.ensures ∙ c.if-not-stage_right.false))
    (first_left (unless (port_right c.args.fields.now) _) _ _ (first_unless _ _ (sym c.port_right.ensures ∙ c.if-not-port_right.true))))

pub returns-then-not-immediate_right : goal.returns-then-not-immediate_right
returns-then-not-immediate_right c =
    sym (skip (unless (stage_right c.args.fields.now) _) _ _ (unless_none _ _ (sym c.stage_right.ensures ∙ c.if-not-stage_right.false))
    (skip (unless (port_right c.args.fields.now) _) _ _ (unless_none _ _ (sym c.port_right.ensures ∙ c.if-not-port_right.false))
    (first_left (unless (immediate_right c.args.fields.now) _) _ _ (first_unless _ _ (sym c.immediate_right.ensures ∙ c.if-not-immediate_right.true)))))

pub returns : goal.returns
returns c =
    let f = c.args.fields.now in
    let at = c.args.at + c.args.format.op_bits + 52 in
    let place : at ≡ c.args.at + args_at c.args.format = omega arith in
    sym (skip (unless (stage_right f) (c.args.at + c.args.format.op_bits)) _ _ (unless_none _ _ (sym c.stage_right.ensures ∙ c.if-not-stage_right.false))
    (skip (unless (port_right f) (c.args.at + c.args.format.op_bits + 16)) _ _ (unless_none _ _ (sym c.port_right.ensures ∙ c.if-not-port_right.false))
    (skip (unless (immediate_right f) (c.args.at + c.args.format.op_bits + 20)) _ _ (unless_none _ _ (sym c.immediate_right.ensures ∙ c.if-not-immediate_right.false))
    (sym (c.args_breach.ensures ∙ ap (λ z. first (joined (λ p. arg_breaches f p (z + p * 132)) c.args.ports)) place)))))
