use Rattle.std.proofs.Common.{◌≡◌, ℕ, ◌-◌, List, map, length, take, drop, ap, ◌∙◌, arith, length-drop}
use Rattle.std.specs.List.{range_with_len}
use Rattle.std.proofs.lemmas.List.{take_all}
use Rattle.cg_model.specs.declared.config.UnitFields.{UnitFields}
use Rattle.cg_model.specs.Config.{Config}
use Rattle.cg_flat.specs.Slots.{select_bits}
use Rattle.cg_bits.specs.Numbers.{number_at, bits_of_bytes}
use Rattle.cg_bits.specs.Reading.{config_in, select_place, ii_in, stages_in}
use Rattle.cg_bits.specs.Checks.{fields_there}
use Rattle.cg_bits.proofs.reading_all.tables.Goals as goal

body_is : (bytes : List ℕ) → take (length bytes - 40) (drop 40 bytes) ≡ drop 40 bytes
body_is bytes = take_all (length bytes - 40) (drop 40 bytes) (omega (arith, length-drop 40 bytes))

pub returns : goal.returns
unfolding config_in
returns c =
    let F = c.args.format in
    let A = c.args.arch.now in
    let bytes = c.args.bytes.now in
    let body = take (length bytes - 40) (drop 40 bytes) in
    let selects = λ (b : List ℕ) (n : ℕ). map (λ slot. map (λ r. number_at (bits_of_bytes b) (select_place F A r slot) (select_bits A r)) (range_with_len 0 (length A.resources))) (range_with_len 0 n) in
    let units = λ (b : List ℕ) (n : ℕ). map (λ slot. map (fields_there F A (bits_of_bytes b) slot) (range_with_len 0 (length A.units))) (range_with_len 0 n) in
    let s : c.in_ok-selects.selects.items ≡ selects (drop 40 bytes) (ii_in bytes) = c.in_ok-selects.ensures ∙ ap (λ b. selects b c.ii_in-ii.result) (body_is bytes) ∙ ap (selects (drop 40 bytes)) c.ii_in-ii.ensures.value in
    let u : c.in_ok-units.units.items ≡ units (drop 40 bytes) (ii_in bytes) = c.in_ok-units.ensures ∙ ap (λ b. units b c.ii_in-ii.result) (body_is bytes) ∙ ap (units (drop 40 bytes)) c.ii_in-ii.ensures.value in
    c.from_rows.ensures
    ∙ ap (λ (z : ℕ). let k : Config = record { ii = z; stages = c.stages_in.result; selects = c.in_ok-selects.selects.items; units = c.in_ok-units.units.items } in k) c.ii_in-ii.ensures.value
    ∙ ap (λ (z : ℕ). let k : Config = record { ii = ii_in bytes; stages = z; selects = c.in_ok-selects.selects.items; units = c.in_ok-units.units.items } in k) c.stages_in.ensures
    ∙ ap (λ (z : List (List ℕ)). let k : Config = record { ii = ii_in bytes; stages = stages_in bytes; selects = z; units = c.in_ok-units.units.items } in k) s
    ∙ ap (λ (z : List (List UnitFields)). let k : Config = record { ii = ii_in bytes; stages = stages_in bytes; selects = selects (drop 40 bytes) (ii_in bytes); units = z } in k) u
