-- A canonical configuration is told by its interval, its selects and its fields.
use Rattle.std.proofs.Common.{◌≡◌, ℕ, ◌+◌, ◌<◌, List, [], length, get_or, sym, ap, ◌∙◌, arith, ext_get_or}
use Rattle.std.specs.Prelude.{slice_index_or}
use Rattle.cg_model.specs.declared.config.UnitFields.{UnitFields}
use Rattle.cg_model.specs.Array.{Arch}
use Rattle.cg_model.specs.Config.{Config, select, fields, off}
use Rattle.cg_model.specs.Canonical.{IsCanonical, greatest_of, last_stage, stage_of}
use Rattle.cg_model.proofs.Canonical.{greatest_same}

-- tables of the same sizes with the same entries
tables_same : {X : Type 0} (d : X) (m n : ℕ) (S T : List (List X)) → length S ≡ m → length T ≡ m →
    ((i : ℕ) → i < m → length (slice_index_or S i []) ≡ n) → ((i : ℕ) → i < m → length (slice_index_or T i []) ≡ n) →
    ((i j : ℕ) → i < m → j < n → slice_index_or (slice_index_or S i []) j d ≡ slice_index_or (slice_index_or T i []) j d) → S ≡ T
tables_same d m n S T ls lt rs rt h =
    ext_get_or [] S T (ls ∙ sym lt)
    (λ i l. let in_s : i < m = omega arith in
    ext_get_or d (get_or S i []) (get_or T i []) (rs i in_s ∙ sym (rt i in_s)) (λ j k. let e = rs i in_s in h i j in_s (omega arith)))

config_by : (C D : Config) → C.ii ≡ D.ii → C.stages ≡ D.stages → C.selects ≡ D.selects → C.units ≡ D.units → C ≡ D
config_by C D a b c d =
    let ii : ℕ → Config = λ z. record { ii = z; stages = C.stages; selects = C.selects; units = C.units } in
    let stages : ℕ → Config = λ z. record { ii = D.ii; stages = z; selects = C.selects; units = C.units } in
    let selects : List (List ℕ) → Config = λ z. record { ii = D.ii; stages = D.stages; selects = z; units = C.units } in
    let units : List (List UnitFields) → Config = λ z. record { ii = D.ii; stages = D.stages; selects = D.selects; units = z } in
    ap ii a ∙ ap stages b ∙ ap selects c ∙ ap units d

pub same_config : (A : Arch) (C D : Config) → IsCanonical A C → IsCanonical A D → C.ii ≡ D.ii →
    ((r slot : ℕ) → r < length A.resources → slot < C.ii → select C r slot ≡ select D r slot) →
    ((x slot : ℕ) → x < length A.units → slot < C.ii → fields C x slot ≡ fields D x slot) → C ≡ D
same_config A C D c d e selects units =
    let last : last_stage A C ≡ last_stage A D =
    greatest_same (λ slot. greatest_of (λ x. stage_of (fields C x slot)) (length A.units)) (λ slot. greatest_of (λ x. stage_of (fields D x slot)) (length A.units)) C.ii
    (λ slot in_time. greatest_same (λ x. stage_of (fields C x slot)) (λ x. stage_of (fields D x slot)) (length A.units) (λ x lt. ap (λ (f : UnitFields). stage_of f) (units x slot lt in_time)))
    ∙ ap (greatest_of (λ slot. greatest_of (λ x. stage_of (fields D x slot)) (length A.units))) e in
    config_by C D e (c.stages ∙ ap (λ z. 1 + z) last ∙ sym d.stages)
    (tables_same 0 C.ii (length A.resources) C.selects D.selects c.slots.0 (d.slots.0 ∙ sym e) (λ i lt. (c.rows i lt).0) (λ i lt. (d.rows i (omega arith)).0) (λ i j in_time lt. selects j i lt in_time))
    (tables_same off C.ii (length A.units) C.units D.units c.slots.1 (d.slots.1 ∙ sym e) (λ i lt. (c.rows i lt).1) (λ i lt. (d.rows i (omega arith)).1) (λ i j in_time lt. units j i lt in_time))
