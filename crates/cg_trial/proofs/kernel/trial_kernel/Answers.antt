use Rattle.std.proofs.Common.{sym, subst, ◌∙◌}
use Rattle.cg_model.specs.Kernel.{IsKernel}
use Rattle.cg_trial.proofs.Sound.{trial_sound, kernel_made}
use Rattle.cg_trial.proofs.kernel.trial_kernel.Goals as goal

pub new-requires : goal.new-requires
new-requires c =
    subst IsKernel
    (sym (kernel_made c.args.seed c.generator-generator.result c.first_nodes.new.generator c.in_ok-nodes.nodes.items c.add_drawn_nodes.new.nodes.items c.add_last_nodes.new.nodes.items c.in_ok-order.order.items
    c.generator-generator.ensures c.in_ok-nodes.ensures.nodes c.in_ok-nodes.ensures.rest c.in_ok-add_drawn_nodes.ensures c.in_ok-add_last_nodes.ensures c.in_ok-order.ensures))
    (trial_sound c.args.seed)

pub returns : goal.returns
returns c =
    c.new.ensures
    ∙ kernel_made c.args.seed c.generator-generator.result c.first_nodes.new.generator c.in_ok-nodes.nodes.items c.add_drawn_nodes.new.nodes.items c.add_last_nodes.new.nodes.items c.in_ok-order.order.items
    c.generator-generator.ensures c.in_ok-nodes.ensures.nodes c.in_ok-nodes.ensures.rest c.in_ok-add_drawn_nodes.ensures c.in_ok-add_last_nodes.ensures c.in_ok-order.ensures
