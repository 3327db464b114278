use Rattle.std.proofs.Common.{◌∙◌, ◌∷◌, ◌+◌, [], ap, sym, drop, ◌++◌, append_assoc, append-nil}
use Rattle.cg_parts.specs.Parts.{port_names}
use Rattle.cg_parts.proofs.Lists.{no_more_names, one_more_name}
use Rattle.cg_parts.proofs.claims.add_port_names.Goals as goal

pub returns-in-None : goal.returns-in-None
returns-in-None c =
    sym (append-nil c.loop-port.names.items)
    ∙ ap (λ rest. c.loop-port.names.items ++ rest) (sym (no_more_names c.args.unit.now c.loop-port.port c.args.ports.now c.loop-port-test.true (sym c.in_ok-name.ensures ∙ c.in-None.is)))
    ∙ c.loop-port.invariant

pub loop-port-preserved : goal.loop-port-preserved
loop-port-preserved c =
    ap (λ names. names ++ port_names c.args.unit.now (c.loop-port.port + 1) (drop (c.loop-port.port + 1) c.args.ports.now)) c.in_ok-push-in-Some.ensures.items
    ∙ append_assoc c.loop-port.names.items (c.in-Some.name ∷ []) (port_names c.args.unit.now (c.loop-port.port + 1) (drop (c.loop-port.port + 1) c.args.ports.now))
    ∙ ap (λ rest. c.loop-port.names.items ++ rest) (sym (one_more_name c.args.unit.now c.loop-port.port c.args.ports.now c.in-Some.name c.loop-port-test.true (sym c.in_ok-name.ensures ∙ c.in-Some.is)))
    ∙ c.loop-port.invariant
