use Rattle.std.proofs.Common.{refl, sym, ◌∙◌}
use Rattle.cg_c_syntax.specs.Symbols.{CounterType}
use Rattle.cg_c_reader.proofs.Single.{if_true, if_false}
use Rattle.cg_c_reader.proofs.Leading.{takes, read}
use Rattle.cg_c_reader.proofs.Composed.{fails_stops}
use Rattle.cg_c_reader.proofs.reader.Reader.counter_type.Goals as goal

pub returns-then-is_counter_type-clause-ok : goal.returns-then-is_counter_type-clause-ok
returns-then-is_counter_type-clause-ok c = read (takes {s = CounterType} _ refl (if_true _ _ (sym c.is_counter_type.ensures ∙ c.if-is_counter_type.true)) c.take.ensures.taken)

pub returns-else-is_counter_type-clause-misses : goal.returns-else-is_counter_type-clause-misses
returns-else-is_counter_type-clause-misses c = fails_stops _ refl (if_false _ _ (sym c.is_counter_type.ensures ∙ c.if-is_counter_type.false))
