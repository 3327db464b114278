use Rattle.std.proofs.Common.{Some, cond, string_bytes, ap, sym, ◌∙◌, bytes_eq}
use Rattle.std.specs.Option.{is_some}
use Rattle.std.proofs.lemmas.Slice.Eq.{bytes_eq-Decides}
use Rattle.std.proofs.lemmas.Map.Text.{hash_map_updates_text}
use Rattle.cg_model.proofs.Positions.{kept_first, added_first}
use Rattle.cg_reading.specs.Numbers.{found_in}
use Rattle.cg_reading.proofs.numbers.add_first.Goals as goal

pub returns : goal.returns
returns c = λ other. added_first _ _ (bytes_eq c.args.name.now other) _
    (hash_map_updates_text (string_bytes c.in_ok-to_string.field-0) c.args.numbers.now c.insert.new.self _ c.in_ok-insert.ensures.updates other
    ∙ ap (λ key. cond (bytes_eq key other) (Some c.args.number) (found_in c.args.numbers.now other)) c.in_ok-to_string.ensures.ok)
    (λ same. ap (λ key. is_some (found_in c.args.numbers.now key)) (sym ((bytes_eq-Decides c.args.name.now other).0 same)) ∙ ap is_some (sym c.number_in.ensures) ∙ sym c.is_some.ensures ∙ c.if-is_some.false)

pub returns-then-is_some : goal.returns-then-is_some
returns-then-is_some c = λ other. kept_first _ (bytes_eq c.args.name.now other) _
    (λ same. ap (λ key. is_some (found_in c.args.numbers.now key)) (sym ((bytes_eq-Decides c.args.name.now other).0 same)) ∙ ap is_some (sym c.number_in.ensures) ∙ sym c.is_some.ensures ∙ c.if-is_some.true)
