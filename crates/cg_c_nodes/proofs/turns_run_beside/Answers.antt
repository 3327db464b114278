use Rattle.cg_c_nodes.proofs.EffectsLoads.{memories_of, memories_words}
use Rattle.cg_c_nodes.proofs.EffectsRun.{effects_run}
use Rattle.cg_c_nodes.proofs.WordsRun.{words_run}
use Rattle.cg_c_nodes.proofs.turns_run_beside.Goals as goal

pub returns : goal.returns
returns c = λ d count P accesses image formed placed listed good words.
    effects_run d count P accesses image formed placed listed good
    (words_run d count P image (memories_of d P image) formed placed good words (memories_words d P image good words))
