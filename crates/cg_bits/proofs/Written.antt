-- What the writer of a slot needs, and what it leaves.
use Rattle.std.proofs.Common.{◌≡◌, ℕ, ◌<◌, ◌++◌, List, [], length, ap, ◌∙◌, append_assoc, arith}
use Rattle.cg_model.specs.Array.{Arch, IsArch, unit}
use Rattle.cg_model.specs.Config.{Config, fields}
use Rattle.cg_model.specs.Canonical.{IsCanonical}
use Rattle.cg_bits.specs.Format.{cgb2, ports}
use Rattle.cg_bits.specs.Ranges.{HasRanges}
use Rattle.cg_bits.proofs.Room.{room_of}
use Rattle.cg_bits.proofs.Codes.{code_known}
use Rattle.cg_config.proofs.Canonical.{stage_fits}
use Rattle.cg_bits.proofs.Units.{count_four}

-- the fields of a canonical configuration have room in their bits
pub unit_fits : (A : Arch) (C : Config) (x slot : ℕ) → IsArch A → IsCanonical A C → x < length A.units → slot < C.ii → HasRanges cgb2 (ports A x) (fields C x slot)
unit_fits A C x slot valid right lt in_time =
    let are = right.fielded x slot lt in_time in
    let f = fields C x slot in
    let few = (room_of A valid).few x lt in
    let last = stage_fits (unit A x).ops f are in
    let known = code_known f.op in
    record {
      few = few;
      width = omega arith;
      code = omega arith;
      stage = omega arith;
      port = are.ports;
      counts = λ p small. let four = count_four (unit A x).ops f p are (omega arith) in omega arith;
    }

regroup : (m i s d b : List ℕ) → ((((([] ++ m) ++ i) ++ s) ++ d) ++ b) ≡ (m ++ (i ++ (s ++ d))) ++ b
regroup m i s d b = simp append_assoc

-- one part behind the other
pub whole_is : (t0 t1 t2 t3 t4 t5 m i s d b : List ℕ) → t0 ≡ [] → t1 ≡ t0 ++ m → t2 ≡ t1 ++ i → t3 ≡ t2 ++ s → t4 ≡ t3 ++ d → t5 ≡ t4 ++ b → t5 ≡ (m ++ (i ++ (s ++ d))) ++ b
whole_is t0 t1 t2 t3 t4 t5 m i s d b e0 e1 e2 e3 e4 e5 =
    e5 ∙ ap (λ z. z ++ b) (e4 ∙ ap (λ z. z ++ d) (e3 ∙ ap (λ z. z ++ s) (e2 ∙ ap (λ z. z ++ i) (e1 ∙ ap (λ z. z ++ m) e0)))) ∙ regroup m i s d b
