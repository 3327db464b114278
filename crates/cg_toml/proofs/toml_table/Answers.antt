use Rattle.std.proofs.Common.{◌≡◌, true, false, sym, ap, ◌∙◌, Some}
use Rattle.toml.proofs.Views.{view-Table}
use Rattle.cg_toml.proofs.Reading.{table_of-read, table_of-refused}
use Rattle.cg_toml.proofs.toml_table.Goals as goal

pub returns-in-Ok-clause-ok : goal.returns-in-Ok-clause-ok
returns-in-Ok-clause-ok c = table_of-read _ _ c.in-Ok.ensures.ok.0 c.in-Ok.ensures.ok.1 ∙ ap Some (sym (view-Table c.in-Ok.table))

pub returns-else-is_memory-clause-not_toml : goal.returns-else-is_memory-clause-not_toml
returns-else-is_memory-clause-not_toml c = λ _. table_of-refused _ (c.in-Err.ensures.refused (λ memory. let bad : false ≡ true = c.if-is_memory.ensures.1 memory in cc))
