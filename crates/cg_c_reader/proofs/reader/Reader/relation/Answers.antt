use Rattle.std.proofs.Common.{refl, sym, ◌∙◌}
use Rattle.cg_c_syntax.specs.Symbols.{Relation}
use Rattle.cg_c_reader.proofs.Single.{if_true, if_false}
use Rattle.cg_c_reader.proofs.Leading.{takes, read}
use Rattle.cg_c_reader.proofs.Composed.{fails_stops}
use Rattle.cg_c_reader.proofs.reader.Reader.relation.Goals as goal

pub returns-then-next_is-clause-ok : goal.returns-then-next_is-clause-ok
returns-then-next_is-clause-ok c = read (takes {s = Relation} _ refl (if_true _ _ (sym c.next_is.ensures ∙ c.if-next_is.true)) c.take.ensures.taken)

pub returns-then-next_is-2-clause-ok : goal.returns-then-next_is-2-clause-ok
returns-then-next_is-2-clause-ok c = read (takes {s = Relation} _ refl (if_false _ _ (sym c.next_is.ensures ∙ c.if-next_is.false) ∙ if_true _ _ (sym c.next_is-2.ensures ∙ c.if-next_is-2.true)) c.take-then-next_is-2.ensures.taken)

pub returns-clause-misses : goal.returns-clause-misses
returns-clause-misses c = fails_stops _ refl (if_false _ _ (sym c.next_is.ensures ∙ c.if-next_is.false) ∙ if_false _ _ (sym c.next_is-2.ensures ∙ c.if-next_is-2.false))
