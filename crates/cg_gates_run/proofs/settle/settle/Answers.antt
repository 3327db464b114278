use Rattle.std.proofs.Common.{◌≡◌, ◌<◌, ◌+◌, ◌%◌, ℕ, length, sym, ap, ◌∙◌, subst, rules}
use Rattle.cg_model.specs.Config.{Config}
use Rattle.cg_datapath.specs.Course.{Keeps, AreOutsRight}
use Rattle.cg_gates.specs.Shape.{is_context, is_preselect, is_register, is_mux}
use Rattle.cg_gates.specs.Gates.{nets_in}
use Rattle.cg_gates_run.specs.Settle.{AreSelectsRight, AreRight}
use Rattle.cg_gates_run.proofs.Settled.{by_number, selectable, readable, give_contexts, give_preselects, give_outs, give_registers, AreBelow, give_muxes, settled, zeros_before}
use Rattle.cg_gates_run.proofs.settle.settle.Goals as goal

pub give_selects-requires : goal.give_selects-requires
give_selects-requires g c =
    let G = c.args.gates.now in
    let C = g.C.Contexts.config c.args.contexts.now in
    let k = c.args.course.now in
    let fit = c.requires.fitted in
    let slot : c.slot-slot.result < C.ii = subst (λ (Z : Config). c.slot-slot.result < Z.ii) fit.config c.slot-slot.ensures.within in
    selectable G.arch G.netlist C k fit is_context c.contexts.result.now c.slot-slot.result _ c.contexts.ensures slot c.requires.words.long

pub give_selects-requires-2 : goal.give_selects-requires-2
give_selects-requires-2 g c =
    let G = c.args.gates.now in
    let C = g.C.Contexts.config c.args.contexts.now in
    let k = c.args.course.now in
    let fit = c.requires.fitted in
    let long : length c.give_selects.new.words ≡ length G.netlist.nets + 1 = c.give_selects.auto.words ∙ c.requires.words.long in
    selectable G.arch G.netlist C k fit is_preselect c.preselects.result.now _ _ c.preselects.ensures (search (rules, sym fit.config)) long

pub settle_registers-requires-clause-readable : goal.settle_registers-requires-clause-readable
settle_registers-requires-clause-readable g c =
    let G = c.args.gates.now in
    let C = g.C.Contexts.config c.args.contexts.now in
    let long : length c.give_outs.new.words ≡ length G.netlist.nets + 1 = c.give_outs.auto.words ∙ c.give_selects-2.auto.words ∙ c.give_selects.auto.words ∙ c.requires.words.long in
    readable G.arch G.netlist C c.args.course.now c.requires.fitted is_register c.registers.result.now _ c.registers.ensures long

pub settle_muxes-requires : goal.settle_muxes-requires
settle_muxes-requires g c =
    let G = c.args.gates.now in
    let C = g.C.Contexts.config c.args.contexts.now in
    let long : length c.settle_registers.new.words ≡ length G.netlist.nets + 1 = c.settle_registers.auto.words ∙ c.give_outs.auto.words ∙ c.give_selects-2.auto.words ∙ c.give_selects.auto.words ∙ c.requires.words.long in
    record { readable = readable G.arch G.netlist C c.args.course.now c.requires.fitted is_mux c.muxes.result.now _ c.muxes.ensures.all long }

pub returns : goal.returns
returns g c = λ past pre.
    let G = c.args.gates.now in
    let A = G.arch in
    let N = G.netlist in
    let C = g.C.Contexts.config c.args.contexts.now in
    let k = c.args.course.now in
    let fit = c.requires.fitted in
    let f : ℕ → ℕ = by_number N (nets_in A N C k.done past) in
    let cs = c.contexts.result.now in
    let ps = c.preselects.result.now in
    let rs = c.registers.result.now in
    let ms = c.muxes.result.now in
    let w0 = c.args.words.now in
    let w1 = c.give_selects.new.words in
    let w2 = c.give_selects-2.new.words in
    let w3 = c.give_outs.new.words in
    let w4 = c.settle_registers.new.words in
    let w5 = c.settle_muxes.new.words in
    let now_slot = c.slot-slot.ensures.slot ∙ ap (λ (Z : Config). k.done % Z.ii) fit.config in
    let next_slot = c.next_slot-next_slot.ensures.slot ∙ ap (λ (Z : Config). (k.done + 1) % Z.ii) fit.config in
    let from_contexts = give_contexts A N C k fit past cs c.slot-slot.result c.contexts.ensures now_slot in
    let from_preselects = give_preselects A N C k fit past ps c.next_slot-next_slot.result c.preselects.ensures next_slot in
    let from_outs = give_outs A N C k fit past c.args.before.now pre in
    let from_registers = give_registers A N C k fit past c.args.before.now pre rs c.registers.ensures in
    let kept1 : Keeps f w0 w1 = c.give_selects.ensures.kept f from_contexts in
    let kept2 : Keeps f w1 w2 = c.give_selects-2.ensures.kept f from_preselects in
    let kept3 : Keeps f w2 w3 = c.give_outs.ensures.kept f from_outs in
    let kept4 : Keeps f w3 w4 = c.settle_registers.ensures.kept f from_registers in
    let contexts : AreSelectsRight cs (length cs) w1 f = c.give_selects.ensures.right f from_contexts in
    let preselects : AreSelectsRight ps (length ps) w2 f = c.give_selects-2.ensures.right f from_preselects in
    let outs : AreOutsRight k.terminals w3 f = c.give_outs.ensures.right f from_outs in
    let registers : AreRight rs (length rs.entries.items) w4 f = c.settle_registers.ensures.right f from_registers in
    let zeros = zeros_before A N C k fit past w0 c.requires.words in
    let below : AreBelow A N C k fit past cs ps rs w4 =
    record {
      contexts = λ j l. kept4 _ (kept3 _ (kept2 _ (contexts j l)));
      preselects = λ j l. kept4 _ (kept3 _ (preselects j l));
      outs = λ x l. kept4 _ (outs x l);
      registers = registers;
      zeros = λ i l z. kept4 _ (kept3 _ (kept2 _ (kept1 _ (zeros i l z))));
    } in
    let from_muxes = give_muxes A N C k fit past cs ps rs ms c.contexts.ensures c.preselects.ensures c.registers.ensures c.muxes.ensures.all c.muxes.ensures.rising w4 below in
    let kept5 : Keeps f w4 w5 = c.settle_muxes.ensures.kept f from_muxes in
    let muxes : AreRight ms (length ms.entries.items) w5 f = c.settle_muxes.ensures.right f from_muxes in
    let last : AreBelow A N C k fit past cs ps rs w5 =
    record {
      contexts = λ j l. kept5 _ (below.contexts j l);
      preselects = λ j l. kept5 _ (below.preselects j l);
      outs = λ x l. kept5 _ (below.outs x l);
      registers = λ j l. kept5 _ (below.registers j l);
      zeros = λ i l z. kept5 _ (below.zeros i l z);
    } in
    let long : length w5 ≡ length w0 = c.settle_muxes.auto.words ∙ c.settle_registers.auto.words ∙ c.give_outs.auto.words ∙ c.give_selects-2.auto.words ∙ c.give_selects.auto.words in
    let kept : Keeps f w0 w5 = λ i e. kept5 i (kept4 i (kept3 i (kept2 i (kept1 i e)))) in
    settled A N C k fit past cs ps rs ms c.contexts.ensures c.preselects.ensures c.registers.ensures c.muxes.ensures.all c.muxes.ensures.rising w0 w5 c.requires.words long kept last muxes
