use Rattle.std.proofs.Common.{◌≡◌, ap, ◌∙◌, arith}
use Rattle.cg_model.specs.Work.{Left}
use Rattle.cg_cause.proofs.Allowed.{allows_weaker}
use Rattle.cg_gates.specs.Gates.{gates_left}
use Rattle.cg_gates_run.specs.Run.{Run, state, all_cycles}
use Rattle.cg_command_run.specs.Run.{left_outcome}
use Rattle.cg_command_run.specs.Netlist.{gates_ran}
use Rattle.cg_command_run.proofs.running_gates.gates_ran.Goals as goal

pub returns : goal.returns
returns c =
    let r : Run = c.args.run in
    let cycles_is : c.left-cycles.result ≡ all_cycles r = (let l = c.left-cycles.ensures.left in let z = c.requires in omega arith) in
    let outside_is : c.outside-outside.result ≡ (gates_left r.arch r.netlist r.config r.n r.image).outside = c.outside-outside.ensures ∙ ap (λ (x : Run). (state x).outside) c.finish.ensures in
    let image_is : c.into_image-image.result ≡ (gates_left r.arch r.netlist r.config r.n r.image).image = c.into_image-image.ensures.image ∙ ap (λ (x : Run). (gates_left x.arch x.netlist x.config x.n x.image).image) c.finish.ensures in
    let made : Left = record { image = c.into_image-image.result; outside = c.outside-outside.result } in
    let same : made ≡ gates_left r.arch r.netlist r.config r.n r.image =
    ap (λ i. record { image = i; outside = c.outside-outside.result }) image_is ∙ ap (λ z. record { image = (gates_left r.arch r.netlist r.config r.n r.image).image; outside = z }) outside_is in
    allows_weaker (λ o. o ≡ left_outcome c.left-cycles.result made c.args.out.now) (λ o. o ≡ gates_ran r.n r.arch r.netlist r.config r.image c.args.out.now) c.left_outcome.result
    (λ o e. e ∙ ap (λ k. left_outcome k made c.args.out.now) cycles_is ∙ ap (λ l. left_outcome (all_cycles r) l c.args.out.now) same)
    c.left_outcome.ensures
