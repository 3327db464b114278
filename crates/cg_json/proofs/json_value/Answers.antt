use Rattle.std.proofs.Common.{◌≡◌, true, false}
use Rattle.cg_json.proofs.Reading.{value_of-read, value_of-refused}
use Rattle.cg_json.proofs.json_value.Goals as goal

pub returns-in-Ok-clause-ok : goal.returns-in-Ok-clause-ok
returns-in-Ok-clause-ok c = value_of-read _ _ c.in-Ok.ensures.ok.0 c.in-Ok.ensures.ok.1

pub returns-else-is_memory-clause-not_json : goal.returns-else-is_memory-clause-not_json
returns-else-is_memory-clause-not_json c = λ _. value_of-refused _ (c.in-Err.ensures.err (λ memory. let bad : false ≡ true = c.if-is_memory.ensures.1 memory in cc))
