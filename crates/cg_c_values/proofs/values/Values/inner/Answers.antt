use Rattle.std.proofs.Common.{rules, ap, sym, ◌∙◌}
use denote.Enum.Bare.{same_true}
use Rattle.std.proofs.lemmas.Bool.{not-false}
use Rattle.cg_word.specs.contracts.op.Op.{the_type}
use Rattle.cg_c_values.specs.Values.{Two}
use Rattle.cg_c_values.proofs.Known.{number_means}
use Rattle.cg_c_values.proofs.values.Values.inner.Goals as goal

pub returns-clause-means : goal.returns-clause-means
returns-clause-means c =
    let same = same_true the_type (search rules) c.in-Two.own c.args.op (not-false _ (sym c.ne.ensures ∙ c.if-ne.false)) in
    number_means c.args.self.now.values.keys c.args.v c.args.op c.in-Two.first c.in-Two.second c.in_ok-word.word c.requires
    (sym c.value.ensures.value ∙ c.in-Two.is ∙ ap (λ o. Two o c.in-Two.first c.in-Two.second) same) c.in_ok-word.ensures.means
