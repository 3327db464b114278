use Rattle.std.proofs.Common.{◌≡◌, ◌++◌}
use Rattle.std.specs.Prelude.{string_bytes}
use Rattle.cg_list_laws.specs.Below.{lists_below}
use Rattle.cg_image_text.specs.Printed.{row_word}
use Rattle.cg_image_text.proofs.print.push_row_words.Given as goal

abbrev pub invariant-loop-k : goal.invariant-loop-k
invariant-loop-k l = string_bytes l.text ≡ string_bytes l.fn.text ++ lists_below (row_word l.words l.row) l.k
