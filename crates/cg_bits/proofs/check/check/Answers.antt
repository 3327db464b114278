use Rattle.std.proofs.Common.{◌≡◌, ℕ, ◌-◌, ◌*◌, ◌<◌, ◌≤◌, ◌^◌, List, length, take, drop, ap, sym, subst, ◌∙◌, arith, length-drop}
use Rattle.std.proofs.lemmas.Result.{err_from_is_err_and}
use Rattle.std.proofs.Math.Nat.{mul-le-mul_left}
use Rattle.std.proofs.lemmas.List.{take_all}
use Rattle.cg_arch.specs.Kept.{digest_of}
use Rattle.cg_bits.specs.Numbers.{bits_of_bytes}
use Rattle.cg_bits.specs.Format.{slot_len}
use Rattle.cg_bits.specs.Reading.{ii_in, stages_in, body_bits}
use Rattle.cg_bits.specs.Faults.{first}
use Rattle.cg_bits.specs.Checks.{Checks, start_faults, field_faults, end_faults}
use Rattle.cg_bits.proofs.Breaches.{skip}
use Rattle.cg_bits.proofs.Linked.{faults_are}
use Rattle.cg_bits.proofs.Started.{checks_then, started}
use Rattle.cg_bits.proofs.check.check.Goals as goal
use Rattle.cg_bits.proofs.First.{first_left}

-- what is left of bytes from byte 40 on
body_is : (bytes : List ℕ) → take (length bytes - 40) (drop 40 bytes) ≡ drop 40 bytes
body_is bytes = take_all (length bytes - 40) (drop 40 bytes) (omega (arith, length-drop 40 bytes))

few_bits : (i l : ℕ) → i < 65536 → l < 2 ^ 32 → i * l < 2 ^ 48
few_bits i l a b = let h : l ≤ 2 ^ 32 = omega arith in let k = mul-le-mul_left i h in omega arith

pub returns-in_err-check_start-clause-faults : goal.returns-in_err-check_start-clause-faults
returns-in_err-check_start-clause-faults c =
    let F = c.args.format in
    let A = c.args.arch.now in
    let bytes = c.args.bytes.now in
    let p = err_from_is_err_and c.from_residual.result c.from_residual.ensures.1 in
    rw (p.1, p.2) (ap first (faults_are F c.requires A (digest_of A) bytes) ∙ first_left (start_faults F A (digest_of A) bytes) _ _ c.in_err-check_start.ensures)

pub invariant_of-slots : goal.invariant_of-slots
invariant_of-slots c =
    let F = c.args.format in
    let A = c.args.arch.now in
    let bytes = c.args.bytes.now in
    let s = started F A (digest_of A) bytes c.in_ok-check_start.ensures in
    let whole = s.whole in
    let same : c.ii_in-ii.result * c.slot_len-len.result ≡ ii_in bytes * slot_len F A = ap (λ z. z * c.slot_len-len.result) c.ii_in-ii.ensures.value ∙ ap (λ z. ii_in bytes * z) c.slot_len-len.ensures.value in
    record {
      fit = record {
        known = c.requires;
        len_is = c.slot_len-len.ensures.value;
        whole = rw (body_is bytes) (omega (arith, length-drop 40 bytes));
        few = few_bits c.ii_in-ii.result c.slot_len-len.result c.ii_in-ii.ensures.small c.slot_len-len.ensures.small;
      };
    }

pub returns-in_err-check_fields-clause-faults : goal.returns-in_err-check_fields-clause-faults
returns-in_err-check_fields-clause-faults c =
    let F = c.args.format in
    let A = c.args.arch.now in
    let bytes = c.args.bytes.now in
    let p = err_from_is_err_and c.from_residual-in_err-check_fields.result c.from_residual-in_err-check_fields.ensures.1 in
    let part : field_faults F A (bits_of_bytes (take (length bytes - 40) (drop 40 bytes))) c.ii_in-ii.result c.stages_in.result ≡ field_faults F A (body_bits bytes) (ii_in bytes) (stages_in bytes) =
    ap (λ z. field_faults F A (bits_of_bytes z) c.ii_in-ii.result c.stages_in.result) (body_is bytes) ∙ ap (λ z. field_faults F A (body_bits bytes) z c.stages_in.result) c.ii_in-ii.ensures.value
    ∙ ap (field_faults F A (body_bits bytes) (ii_in bytes)) c.stages_in.ensures in
    rw (p.1, p.2) (ap first (faults_are F c.requires A (digest_of A) bytes)
    ∙ skip (start_faults F A (digest_of A) bytes) _ _ c.in_ok-check_start.ensures (first_left (field_faults F A (body_bits bytes) (ii_in bytes) (stages_in bytes)) _ _ (sym (ap first part) ∙ c.in_err-check_fields.ensures)))

pub returns-clause-faults : goal.returns-clause-faults
returns-clause-faults c =
    let F = c.args.format in
    let A = c.args.arch.now in
    let bytes = c.args.bytes.now in
    let part : field_faults F A (bits_of_bytes (take (length bytes - 40) (drop 40 bytes))) c.ii_in-ii.result c.stages_in.result ≡ field_faults F A (body_bits bytes) (ii_in bytes) (stages_in bytes) =
    ap (λ z. field_faults F A (bits_of_bytes z) c.ii_in-ii.result c.stages_in.result) (body_is bytes) ∙ ap (λ z. field_faults F A (body_bits bytes) z c.stages_in.result) c.ii_in-ii.ensures.value
    ∙ ap (field_faults F A (body_bits bytes) (ii_in bytes)) c.stages_in.ensures in
    let rest : end_faults F A (take (length bytes - 40) (drop 40 bytes)) c.ii_in-ii.result (length bytes) ≡ end_faults F A (drop 40 bytes) (ii_in bytes) (length bytes) =
    ap (λ z. end_faults F A z c.ii_in-ii.result (length bytes)) (body_is bytes) ∙ ap (λ z. end_faults F A (drop 40 bytes) z (length bytes)) c.ii_in-ii.ensures.value in
    subst (Checks c.check_end.result) (sym (faults_are F c.requires A (digest_of A) bytes))
    (checks_then c.check_end.result (start_faults F A (digest_of A) bytes) _ c.in_ok-check_start.ensures
    (checks_then c.check_end.result (field_faults F A (body_bits bytes) (ii_in bytes) (stages_in bytes)) _ (sym part ∙ c.in_ok-check_fields.ensures) (subst (Checks c.check_end.result) rest c.check_end.ensures)))
