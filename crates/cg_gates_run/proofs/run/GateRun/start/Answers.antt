use Rattle.std.proofs.Common.{◌≡◌, ◌+◌, length, replicate, ap, sym, subst, ◌∙◌, arith, rules}
use Rattle.cg_model.specs.Array.{Arch}
use Rattle.cg_netlist.specs.Netlist.{NetGraph}
use Rattle.cg_datapath.specs.Course.{IsStart}
use Rattle.cg_datapath.specs.declared.fault.SimFault.TheVariants.{TooManyTurns, ImageTooLarge}
use Rattle.cg_datapath.proofs.Carried.{carried}
use Rattle.cg_gates.specs.Tables.{AreTerminals}
use Rattle.cg_gates_run.proofs.Running.{are_short, first_running}
use Rattle.cg_gates_run.proofs.run.GateRun.start.Goals as goal

pub new-requires-clause-latencies : goal.new-requires-clause-latencies
new-requires-clause-latencies g c =
    let G = c.args.gates.now in
    let are = subst (AreTerminals G.arch G.netlist) (sym c.in_ok-terminals.ensures.copy) c.units.ensures in
    are_short G.arch G.netlist c.in_ok-terminals.terminals.items c.arch.ensures.valid are

pub invariant_of-result : goal.invariant_of-result
invariant_of-result g c =
    let G = c.args.gates.now in
    let C = g.C.Contexts.config c.args.contexts.now in
    let us = c.in_ok-terminals.terminals.items in
    let k = c.in-Ok.course in
    let m = length c.nets-nets.result.now in
    let many : m ≡ length G.netlist.nets = ap length c.nets-nets.ensures.nets ∙ ap (λ (X : NetGraph). length X.nets) c.netlist.ensures.netlist in
    let begun : IsStart G.arch C c.args.n c.args.image.now us k = subst (λ (X : Arch). IsStart X C c.args.n c.args.image.now us k) c.arch.ensures.arch c.in-Ok.ensures.ok in
    let are : AreTerminals G.arch G.netlist us = subst (AreTerminals G.arch G.netlist) (sym c.in_ok-terminals.ensures.copy) c.units.ensures in
    let words_zero : c.in_ok-words.words.items ≡ replicate (m + 1) 0 = search rules in
    let before_zero : c.in_ok-before.before.items ≡ replicate (m + 1) 0 = search rules in
    first_running G.arch G.netlist C c.args.n c.args.image.now us c.in_ok-words.words.items c.in_ok-before.before.items k m many words_zero before_zero begun
    c.arch.ensures.valid c.netlist.ensures.valid c.netlist.ensures.accepted c.requires.canonical are c.in_ok-terminals.ensures.three

pub returns-in-Err-clause-few : goal.returns-in-Err-clause-few
returns-in-Err-clause-few g c = λ t e.
    let many = (carried _ c.in-Err.fault (TooManyTurns t) _ (c.in-Err.ensures.many t)).0 e in
    let above = many.1 in
    let few = c.requires.turns in
    omega arith

pub returns-in-Err-clause-small : goal.returns-in-Err-clause-small
returns-in-Err-clause-small g c = λ w e.
    let large = (carried _ c.in-Err.fault (ImageTooLarge w) _ (c.in-Err.ensures.large w)).0 e in
    let same = large.0 in
    let above = large.2 in
    let memory = ap (λ (X : Arch). X.memory) c.arch.ensures.arch in
    let fits = c.requires.fits in
    omega arith
