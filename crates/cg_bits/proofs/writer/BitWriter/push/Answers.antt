use Rattle.std.proofs.Common.{◌≡◌, ◌+◌, ◌*◌, ◌-◌, ◌%◌, ◌<◌, ◌^◌, ◌++◌, bit_or, refl, sym, ap, subst, ◌∙◌, arith, append_assoc}
use Rattle.std.proofs.lemmas.Nat.{one_shl, mod_below, pow_pos}
use Rattle.cg_bits.specs.Numbers.{bits_of, bits_of_bytes}
use Rattle.cg_bits.proofs.Numbers.{bits_of-split}
use Rattle.cg_bits.proofs.Bitwise.{put_is, put_below, byte_below, put_step}
use Rattle.cg_bits.proofs.writer.BitWriter.push.Goals as goal

pub loop-count-init : goal.loop-count-init
loop-count-init c =
    let bytes = c.self.inside.bytes.items in
    let count = c.self.inside.count in
    let pending = c.self.inside.pending in
    let width = c.args.width in
    let n = c.args.number in
    let put : bit_or (pending * 2 ^ width % 2 ^ 64) c.from.result ≡ pending * 2 ^ width + n =
    ap (λ z. bit_or (pending * 2 ^ width % 2 ^ 64) z) c.from.ensures ∙ put_is count pending width n c.self.invariant.0 c.self.invariant.1 c.requires.narrow c.requires.fits in
    record {
      few = omega arith;
      fits = subst (λ z. z < 2 ^ (count + width)) (sym put) (put_below count pending width n c.self.invariant.1 c.requires.fits);
      same_count = refl;
      same_pending = refl;
      kept = ap (λ z. bits_of_bytes bytes ++ bits_of (count + width) z) put ∙ ap (λ z. bits_of_bytes bytes ++ z) (bits_of-split count width pending n c.requires.fits)
          ∙ sym (append_assoc (bits_of_bytes bytes) (bits_of count pending) (bits_of width n));
    }

pub overflow_cast-pending-in-loop-count : goal.overflow_cast-pending-in-loop-count
overflow_cast-pending-in-loop-count c = let small = byte_below c.loop-count.count c.loop-count.pending c.loop-count-test.true c.loop-count.invariant.fits in omega arith

pub loop-count-preserved : goal.loop-count-preserved
loop-count-preserved c =
    let bytes = c.loop-count.self-inside.bytes.items in
    let count = c.loop-count.count in
    let pending = c.loop-count.pending in
    let few = c.loop-count.invariant.few in
    let mask : 1 * 2 ^ (count - 8) % 2 ^ 64 ≡ 2 ^ (count - 8) = one_shl (count - 8) 64 (omega arith) in
    record {
      few = omega arith;
      fits = subst (λ z. pending % z < 2 ^ (count - 8)) (sym mask) (mod_below pending (2 ^ (count - 8)) (pow_pos (count - 8)));
      same_count = c.loop-count.invariant.same_count;
      same_pending = c.loop-count.invariant.same_pending;
      kept = ap (λ z. bits_of_bytes c.push.new.self.items ++ bits_of (count - 8) (pending % z)) mask
          ∙ ap (λ z. bits_of_bytes z ++ bits_of (count - 8) (pending % 2 ^ (count - 8))) c.in_ok-push.ensures.items ∙ put_step bytes count pending c.loop-count-test.true ∙ c.loop-count.invariant.kept;
    }
