use Rattle.std.proofs.Common.{◌∙◌, ap}
use Rattle.cg_model.specs.declared.kernel.Operand.TheVariants.{Edge}
use Rattle.cg_hub.specs.Hub.{registers_before}
use Rattle.cg_hub.specs.Scheduled.{Scheduled}
use Rattle.cg_hub.proofs.Made.{source_there, arg_there, wanted_later, register_there}
use Rattle.cg_hub.proofs.schedule.Schedule.path.Goals as goal
use Rattle.cg_model.proofs.Mappings.{operand_within}

pub unit-to-requires : goal.unit-to-requires
unit-to-requires c = operand_within c.args.self.now.kernel c.args.node c.args.arg (Edge c.args.source c.args.distance c.requires.0) c.requires.1

pub unit-from-requires : goal.unit-from-requires
unit-from-requires c = source_there c.args.self.now c.unit-to.ensures.valid c.args.node c.args.arg c.args.source c.args.distance c.requires.0 c.requires.1

pub overflow_sub-end : goal.overflow_sub-end
overflow_sub-end c =
    wanted_later c.args.self.now c.unit-to.ensures.valid c.args.node c.args.arg c.args.source c.args.distance c.requires.0 c.requires.1
    c.self.inside.ii c.start.result c.start-2.result c.unit-from.result.now c.start.ensures c.start-2.ensures c.unit-from.ensures.unit (ap (λ (z : Scheduled). z.ii) c.self.view_is)

pub bounds-as_slice-arg : goal.bounds-as_slice-arg
bounds-as_slice-arg c =
    arg_there c.args.self.now c.unit-to.ensures.valid c.args.node c.args.arg c.args.source c.args.distance c.requires.0 c.requires.1
    c.unit-to.result.now c.as_slice.result.now c.unit-to.ensures.unit c.as_slice.ensures

pub way-requires-clause-within : goal.way-requires-clause-within
way-requires-clause-within c =
    register_there c.args.self.now c.unit-to.ensures.valid c.args.node c.args.arg c.args.source c.args.distance c.requires.0 c.requires.1
    c.self.inside.ii c.start.result c.start-2.result c.unit-from.result.now c.start.ensures c.start-2.ensures c.unit-from.ensures.unit (ap (λ (z : Scheduled). z.ii) c.self.view_is)
    c.registers_before.result c.hub.result.now
    (c.registers_before.ensures ∙ ap (λ (z : Scheduled). registers_before z.kernel c.args.source) c.self.view_is)
    (c.hub.ensures.hub ∙ ap (λ (z : Scheduled). z.arch.hub) c.self.view_is)
