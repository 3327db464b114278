-- What `verilog` answers.
use Rattle.std.proofs.Common.{◌≡◌, [], ◌∷◌, refl, sym, ◌∙◌, ap, subst, inl}
use Rattle.cg_model.specs.Array.{Arch}
use Rattle.cg_files.specs.Held.{Holds, Appends}
use Rattle.cg_effects.specs.declared.outcome.Status.TheVariants.{Done}
use Rattle.cg_effects.specs.Outcome.{Name, File, Outcome, names_of}
use Rattle.cg_effects.specs.Ends.{Moment, Completed, Wrote}
use Rattle.cg_tiles.specs.Answer.{AreValidBytes}
use Rattle.cg_netlist.specs.Netlist.{netlist_of}
use Rattle.cg_netlist.proofs.Whole.{is_graph}
use Rattle.cg_inputs.specs.Readings.{ReadsArch}
use Rattle.cg_inputs.proofs.Arrays.{valid_array}
use Rattle.cg_inputs.proofs.Sound.{IsSound, plain, IsNamed}
use Rattle.cg_inputs.proofs.Answered.{sound_answer, named_answer, same_answer, done_answer, some_answer, left_answer, not_done}
use Rattle.cg_inputs.proofs.Both.{only}
use Rattle.cg_inputs.proofs.Readings.{arch_reading}
use Rattle.cg_inputs.proofs.Wholes.{whole, one_write}
use Rattle.cg_command_files.specs.Verilog.{IsVerilog, IsNetlisted, IsNetlisting, netlisted, verilog_text}

module _ (file : File) (out : Name) where
  pub same_verilog : (a b : Outcome) → IsVerilog file out a → IsVerilog file out b → a.status ≡ b.status
  same_verilog a b p q = same_answer (ReadsArch file) (IsNetlisting out) (arch_reading file) (λ A a b x y. ap (λ z. z.status) (x ∙ sym y)) a b p q

  pub sound_verilog : (o : Outcome) → IsVerilog file out o → IsSound plain o
  sound_verilog o p = sound_answer (ReadsArch file) (IsNetlisting out) (arch_reading file) plain refl (λ A o e. subst (IsSound plain) (sym e) (record { own = refl; quiet = λ h. cc })) o p

  pub named_verilog : (o : Outcome) → IsVerilog file out o → IsNamed (out ∷ []) o
  named_verilog o p = named_answer (ReadsArch file) (IsNetlisting out) (arch_reading file) (out ∷ []) (λ A o e. inl (ap (λ x. names_of x.writes) e)) o p

  pub accepted_verilog : (A : Arch) (o : Outcome) → AreValidBytes file.bytes A → IsVerilog file out o → o.status ≡ Done
  accepted_verilog A o a p = ap (λ x. x.status) (done_answer (ReadsArch file) (IsNetlisting out) (arch_reading file) A (only (ReadsArch file) (arch_reading file) A a) o p)

  pub some_verilog : (o : Outcome) × IsVerilog file out o
  some_verilog = some_answer (ReadsArch file) (IsNetlisting out) (arch_reading file) (λ A is. (netlisted A out, refl))

pub netlisted_left : (file out : Name) (f : File) (o : Outcome) (before after : Moment) → Holds before.held file f.bytes → IsVerilog f out o → o.status ≡ Done → Completed o before after Done → IsNetlisted file out before after
netlisted_left file out f o before after held p done c =
    left_answer (ReadsArch f) (IsNetlisting out) (arch_reading f) (IsNetlisted file out before after) o
    (λ A is e. record {
      bytes = f.bytes;
      held = held;
      arch = A;
      given = is;
      valid = is_graph A (valid_array f.bytes A is);
      written = one_write before.held after.held out (verilog_text (netlist_of A)) (subst (λ fs. Wrote before.held fs after.held) (ap (λ x. x.writes) e) c.held);
      put = subst (λ report. Appends before.taken report after.taken) (ap (λ x. x.report) e) (whole o.status o.report before after done c.put);
    })
    p (not_done o done)
