use Rattle.std.proofs.Common.{sym, ◌∙◌, arith}
use Rattle.cg_depend.specs.Gathered.{pair_in}
use Rattle.cg_depend.proofs.Answered.{two_strides, one_stride, less}
use Rattle.cg_depend.proofs.addresses.address_gap.Goals as goal

pub returns-then-word : goal.returns-then-word
returns-then-word c = λ K a source target e. two_strides K a (pair_in c.args.from.now) (pair_in c.args.to.now) c.args.least source target (λ same. c.if-word.true (c.word.ensures ∙ same ∙ sym c.word-2.ensures)) e

pub returns : goal.returns
returns c = λ K a source target e. one_stride K a (pair_in c.args.from.now) (pair_in c.args.to.now) _ c.args.least c.gap.result source target (sym c.word.ensures ∙ c.if-word.false ∙ c.word-2.ensures) (less c.args.from.now.base c.args.to.now.base (omega arith)) e c.gap.ensures
