use Rattle.std.proofs.Common.{ap, ◌∙◌, option_map}
use Rattle.cg_depend.specs.Gathered.{pair_in}
use Rattle.cg_depend.proofs.Answered.{no_source, no_target}
use Rattle.cg_depend.proofs.addresses.gap_between.Goals as goal

pub returns-in_default : goal.returns-in_default
returns-in_default c = λ K a source target e. no_target K a c.args.least (target ∙ ap (option_map pair_in) c.in_default.is-1) e

pub returns-in_default-2 : goal.returns-in_default-2
returns-in_default-2 c = λ K a source target e. no_source K a c.args.least (source ∙ ap (option_map pair_in) c.in_default.is-0) e
