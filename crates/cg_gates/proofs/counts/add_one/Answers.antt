use Rattle.std.proofs.Common.{◌+◌, Some, cond, string_bytes, ap, ◌∙◌, bytes_eq}
use Rattle.std.proofs.lemmas.Map.Text.{hash_map_updates_text}
use Rattle.cg_reading.specs.Numbers.{found_in}
use Rattle.cg_gates.proofs.Counting.{one_more}
use Rattle.cg_gates.proofs.counts.add_one.Goals as goal

pub returns : goal.returns
returns c = λ other.
    one_more c.args.counts.now c.insert.new.self c.args.name.now other c.count_in-count.result c.count_in-count.ensures
    (hash_map_updates_text (string_bytes c.in_ok-to_string.field-0) c.args.counts.now c.insert.new.self _ c.in_ok-insert.ensures.updates other
    ∙ ap (λ key. cond (bytes_eq key other) (Some (c.count_in-count.result + 1)) (found_in c.args.counts.now other)) c.in_ok-to_string.ensures.ok)
