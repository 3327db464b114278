use Rattle.std.proofs.Common.{◌++◌, subst, ap, ◌∙◌, arith}
use Rattle.std.specs.Int.{w16, to_be_bytes}
use Rattle.cg_arch.specs.Kept.{digest_of}
use Rattle.cg_bits.specs.Format.{cgb2}
use Rattle.cg_bits.specs.Spelling.{magic}
use Rattle.cg_bits.specs.Ranges.{IsBytes}
use Rattle.cg_bits.proofs.Room.{room_of}
use Rattle.cg_bits.proofs.Codes.{code_known}
use Rattle.cg_bits.proofs.Bytes.{last_stage_fits}
use Rattle.cg_bits.proofs.Written.{whole_is}
use Rattle.cg_bits.proofs.Answered.{is_cgb2, same_bytes}
use Rattle.cg_bits.proofs.writing.write_bits.Goals as goal

pub overflow_cast-ii : goal.overflow_cast-ii
overflow_cast-ii c =
    let A = c.args.arch.now in
    let most = (room_of A c.valid_digest-digest.ensures.valid).contexts in
    let few = c.requires.contexts in
    let is = c.ii.ensures in
    omega arith

pub overflow_cast-stages : goal.overflow_cast-stages
overflow_cast-stages c =
    let A = c.args.arch.now in
    let last = last_stage_fits cgb2 is_cgb2 A (room_of A c.valid_digest-digest.ensures.valid) (digest_of A) c.valid_digest-digest.ensures.sized c.args.config.now c.requires in
    let is = c.requires.stages in
    let given = c.stages.ensures in
    omega arith

pub returns-clause-bits : goal.returns-clause-bits
returns-clause-bits c =
    let A = c.args.arch.now in
    let C = c.args.config.now in
    let padded = c.in_ok-body.ensures in
    record {
      canonical = c.requires;
      spelled = record {
        body = c.in_ok-body.body.items;
        padding = padded.0;
        short = padded.1;
        bits = padded.2;
        whole = whole_is c.new-bytes.result.items c.extend_from_slice.new.self.items c.extend_from_slice-2.new.self.items c.extend_from_slice-3.new.self.items c.extend_from_slice-4.new.self.items c.extend_from_slice-5.new.self.items
            (magic cgb2) (to_be_bytes w16 C.ii) (to_be_bytes w16 C.stages) (digest_of A) c.in_ok-body.body.items c.new-bytes.ensures.items
            c.in_ok-extend_from_slice.ensures.items
            (c.in_ok-extend_from_slice-2.ensures.items ∙ ap (λ z. c.extend_from_slice.new.self.items ++ z) (c.to_be_bytes.ensures ∙ ap (to_be_bytes w16) c.ii.ensures))
            (c.in_ok-extend_from_slice-3.ensures.items ∙ ap (λ z. c.extend_from_slice-2.new.self.items ++ z) (c.to_be_bytes-2.ensures ∙ ap (to_be_bytes w16) c.stages.ensures))
            (c.in_ok-extend_from_slice-4.ensures.items ∙ ap (λ z. c.extend_from_slice-3.new.self.items ++ z) c.valid_digest-digest.ensures.digest)
            (c.in_ok-extend_from_slice-5.ensures.items ∙ ap (λ z. c.extend_from_slice-4.new.self.items ++ z) c.deref.ensures.value);
        known = λ x slot lt in_time. code_known _;
      };
    }

pub returns-clause-only : goal.returns-clause-only
returns-clause-only c =
    let A = c.args.arch.now in
    let fits = subst IsBytes c.deref-2.ensures.value c.are_bytes.ensures in
    λ bytes fit bits. same_bytes A c.args.config.now bytes _ c.valid_digest-digest.ensures.valid c.valid_digest-digest.ensures.sized fit fits bits (returns-clause-bits c)
