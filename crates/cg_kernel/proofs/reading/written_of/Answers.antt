use Rattle.serde_json.specs.View.{view}
use Rattle.cg_kernel.proofs.Ranges.{read-all_words}
use Rattle.cg_kernel.proofs.reading.written_of.Goals as goal

pub returns-clause-words : goal.returns-clause-words
returns-clause-words c = read-all_words (view c.args.value.now) _ c.whole_of.ensures
