use Rattle.std.proofs.Common.{◌≡◌, ◌+◌, ◌*◌, ◌/◌, ◌++◌, leb, ltb, length, ap, sym, ◌∙◌, arith}
use Rattle.std.proofs.lemmas.Bool.{le-leb, lt-leb, le-ltb}
use Rattle.cg_arch.specs.Kept.{digest_of}
use Rattle.cg_bits.specs.declared.fault.BitsFault.TheVariants.{Truncated}
use Rattle.cg_bits.specs.Reading.{ii_in}
use Rattle.cg_bits.specs.Faults as Faults
use Rattle.cg_bits.proofs.None.{unless_none, both_none}
use Rattle.cg_bits.proofs.Breaches.{skip}
use Rattle.cg_bits.proofs.Linked.{size_is}
use Rattle.cg_bits.proofs.Started.{after_long, after_none}
use Rattle.cg_bits.proofs.header.check_start.Goals as goal

pub returns-then-bytes-size : goal.returns-then-bytes-size
returns-then-bytes-size c =
    let F = c.args.format in
    let A = c.args.arch.now in
    let bytes = c.args.bytes.now in
    let D = Faults.other_digest F A (digest_of A) bytes in
    let H = Faults.bad_header F A (digest_of A) bytes in
    let size : c.size.result ≡ Faults.size F A (digest_of A) bytes =
    c.size.ensures ∙ ap (λ z. 40 + (z * c.args.len + 7) / 8) c.ii_in.ensures.value ∙ ap (λ z. 40 + (ii_in bytes * z + 7) / 8) c.requires.len ∙ sym (size_is F c.requires.known A (digest_of A) bytes) in
    skip _ _ _ (unless_none _ _ (sym c.begins.ensures ∙ c.if-not-begins.false))
    (after_long (ltb (length bytes) 40) (leb (Faults.size F A (digest_of A) bytes) (length bytes)) (Truncated (length bytes)) (D ++ H) (le-ltb (length bytes) 40 c.if-bytes-lt-HEADER.false) (c.in_ok-check_header.ensures) (lt-leb _ _ (omega arith)))

pub returns : goal.returns
returns c =
    let F = c.args.format in
    let A = c.args.arch.now in
    let bytes = c.args.bytes.now in
    let D = Faults.other_digest F A (digest_of A) bytes in
    let H = Faults.bad_header F A (digest_of A) bytes in
    let size : c.size.result ≡ Faults.size F A (digest_of A) bytes =
    c.size.ensures ∙ ap (λ z. 40 + (z * c.args.len + 7) / 8) c.ii_in.ensures.value ∙ ap (λ z. 40 + (ii_in bytes * z + 7) / 8) c.requires.len ∙ sym (size_is F c.requires.known A (digest_of A) bytes) in
    both_none _ _ (unless_none _ _ (sym c.begins.ensures ∙ c.if-not-begins.false))
    (after_none (ltb (length bytes) 40) (leb (Faults.size F A (digest_of A) bytes) (length bytes)) (Truncated (length bytes)) (D ++ H) (le-ltb (length bytes) 40 c.if-bytes-lt-HEADER.false) (c.in_ok-check_header.ensures) (le-leb _ _ (omega arith)))
