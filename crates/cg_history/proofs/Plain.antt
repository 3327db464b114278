-- What a plain operation does: it gives its value, and leaves all else as it is.
use Rattle.std.proofs.Common.{◌≡◌, ℕ, true, List, [], ◌++◌, length, Some, refl, sym, ap, ◌∙◌, arith, append-nil}
use Rattle.std.specs.Prelude.{slice_index}
use Rattle.std.proofs.lemmas.Bool.{true≢false}
use Rattle.cg_word.specs.Word.{apply_of}
use Rattle.cg_word.specs.declared.op.Op.{Op}
use Rattle.cg_word.specs.declared.op.Op.TheVariants.{Iter, Input, Load, Store, Output, LoadIf, StoreIf, OutputIf}
use Rattle.cg_model.specs.Work.{Image, value, value_by, stored, sent, missed}
use Rattle.cg_pad.proofs.Args.{on}
use Rattle.cg_datapath.specs.Reserved.{stream}
use Rattle.cg_datapath.specs.Effects.{applied, Begins}
use Rattle.cg_datapath.specs.declared.effects.Effects.{Effects}
use Rattle.cg_history.specs.Plain.{is_plain}

plain_value : (image : Image) (memory : List ℕ) (op : Op) (port turn : ℕ) (args : List ℕ) → is_plain op ≡ true →
    value image memory (on op port turn args) ≡ apply_of op (slice_index args 0) (slice_index args 1) (slice_index args 2)
unfolding value_by
plain_value image memory Iter port turn args e = absurd (true≢false (sym e))
plain_value image memory Input port turn args e = absurd (true≢false (sym e))
plain_value image memory Load port turn args e = absurd (true≢false (sym e))
plain_value image memory LoadIf port turn args e = absurd (true≢false (sym e))
plain_value image memory _ port turn args e = refl

plain_stored : (memory : List ℕ) (op : Op) (port turn : ℕ) (args : List ℕ) → is_plain op ≡ true → stored memory (on op port turn args) ≡ memory
unfolding stored
plain_stored memory Store port turn args e = absurd (true≢false (sym e))
plain_stored memory StoreIf port turn args e = absurd (true≢false (sym e))
plain_stored memory _ port turn args e = refl

plain_sent : (at : ℕ) (op : Op) (port turn : ℕ) (args : List ℕ) → is_plain op ≡ true → sent at (on op port turn args) ≡ []
unfolding sent
plain_sent at Output port turn args e = absurd (true≢false (sym e))
plain_sent at OutputIf port turn args e = absurd (true≢false (sym e))
plain_sent at _ port turn args e = refl

plain_missed : (size : ℕ) (op : Op) (port turn : ℕ) (args : List ℕ) → is_plain op ≡ true → missed size (on op port turn args) ≡ 0
unfolding missed
plain_missed size Load port turn args e = absurd (true≢false (sym e))
plain_missed size Store port turn args e = absurd (true≢false (sym e))
plain_missed size LoadIf port turn args e = absurd (true≢false (sym e))
plain_missed size StoreIf port turn args e = absurd (true≢false (sym e))
plain_missed size _ port turn args e = refl

pub plain_begins : (image : Image) (op : Op) (port turn : ℕ) (args : List ℕ) (e : Effects) (x : ℕ) → is_plain op ≡ true →
    x ≡ apply_of op (slice_index args 0) (slice_index args 1) (slice_index args 2) → Begins image (Some (on op port turn args)) e e x
plain_begins image op port turn args e x plain is =
    record {
      result_is = is ∙ sym (plain_value image e.memory op port turn args plain);
      memory = refl;
      pending = λ m. sym (plain_stored (applied m e.pending.items) op port turn args plain);
      pending_few = omega arith;
      pending_room = omega arith;
      streams_long = refl;
      streams = λ p. sym (ap (λ (ws : List ℕ). (stream e.streams.items p).words ++ ws) (plain_sent p op port turn args plain) ∙ append-nil (stream e.streams.items p).words);
      room = λ p. omega arith;
      outside = (let none = plain_missed (length e.memory) op port turn args plain in omega arith);
    }
