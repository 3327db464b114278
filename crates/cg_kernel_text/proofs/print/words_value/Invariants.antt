use Rattle.std.proofs.Common.{◌≡◌, map, take}
use Rattle.serde_json.specs.View.{view}
use Rattle.cg_kernel_text.specs.Printed.{word_data}
use Rattle.cg_kernel_text.proofs.print.words_value.Given as goal

abbrev pub invariant-loop-word : goal.invariant-loop-word
invariant-loop-word l = map view l.list.items ≡ map word_data (take l.word-index l.words)
