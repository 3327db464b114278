-- The fields of a unit that are read without a complaint keep the rules, and fields that keep them bring no complaint.
use Rattle.std.proofs.Common.{◌≡◌, ℕ, ◌+◌, ◌*◌, ◌^◌, ◌<◌, ◌≤◌, Bool, true, cond, ltb, List, [], length, refl, sym, ap, subst, ◌∙◌, arith, ⊎_elim}
use Rattle.std.specs.Prelude.{slice_index}
use Rattle.std.proofs.lemmas.Bool.{cases_lt, lt-ltb, le-ltb}
use Rattle.std.proofs.lemmas.List.{get_or-replicate}
use Rattle.std.proofs.lemmas.List.FromFn.{get_or-map-range_with_len}
use Rattle.cg_word.specs.declared.op.Op.{Op}
use Rattle.cg_model.specs.declared.config.UnitFields.{UnitFields}
use Rattle.cg_model.specs.Config.{no_arg, arg}
use Rattle.cg_bits.specs.Numbers.{number_at}
use Rattle.cg_bits.specs.Ranges.{IsFormat}
use Rattle.cg_bits.specs.declared.format.Format.{Format}
use Rattle.cg_bits.specs.Format.{arg_len, args_at}
use Rattle.cg_bits.specs.Reading.{arg_in, unit_in}
use Rattle.cg_model.specs.Canonical.{AreFields, mode_right, count_right, word_right, stage_right, port_right, immediate_right, offered}
use Rattle.cg_bits.specs.Faults.{unless, arg_breaches, unit_breaches}
use Rattle.cg_bits.proofs.None.{none_both, both_none, none_unless, unless_none, none_joined, joined_none}
use Rattle.cg_model.proofs.Canonical.{zero_mode, zero_count, zero_word}
use Rattle.cg_bits.proofs.Fields.{number_at_below}

module _ (F : Format) (is : IsFormat F) (n : ℕ) (few : n ≤ 3) (bits : List Bool) (at : ℕ) (room : at + (args_at F + n * arg_len) ≤ length bits) where
  abbrev f : UnitFields
  f = unit_in F n bits at

  abbrev place : ℕ → ℕ
  place p = at + args_at F + p * arg_len

  arg_is : (p : ℕ) → p < 3 → arg f p ≡ cond (ltb p n) (arg_in bits (place p)) no_arg
  unfolding unit_in
  arg_is p lt = get_or-map-range_with_len (λ q. cond (ltb q n) (arg_in bits (place q)) no_arg) 0 3 p p no_arg lt (omega arith)

  arg_read : (p : ℕ) → p < n → arg f p ≡ arg_in bits (place p)
  arg_read p lt = arg_is p (omega arith) ∙ ap (λ b. cond b (arg_in bits (place p)) no_arg) (lt-ltb p n lt)

  arg_zero : (p : ℕ) → p < 3 → n ≤ p → arg f p ≡ no_arg
  arg_zero p lt le = arg_is p lt ∙ ap (λ b. cond b (arg_in bits (place p)) no_arg) (le-ltb p n le)

  read_word : (p k : ℕ) → p < n → k < 4 → slice_index (arg_in bits (place p)).init k < 2 ^ 32
  unfolding arg_in
  read_word p k lt l =
      subst (λ z. z < 2 ^ 32) (sym (get_or-map-range_with_len (λ j. number_at bits (place p + 4 + j * 32) 32) 0 4 k k 0 l (omega arith)))
      (number_at_below bits (place p + 4 + k * 32) 32 (omega arith))

  read_four : (p : ℕ) → length (arg_in bits (place p)).init ≡ 4
  unfolding arg_in
  read_four p = refl

  pub unit_keeps : (ops : List Op) (from : ℕ) → offered ops f.op ≡ true → unit_breaches F n f from ≡ [] → AreFields ops f
  unfolding unit_in
  unit_keeps ops from offer e =
      let b1 = none_both (unless (stage_right f) (from + F.op_bits)) _ e in
      let b2 = none_both (unless (port_right f) (from + F.op_bits + 16)) _ b1.1 in
      let b3 = none_both (unless (immediate_right f) (from + F.op_bits + 20)) _ b2.1 in
      let at_arg : ℕ → ℕ = λ p. from + args_at F + p * arg_len in
      let each : (p : ℕ) → p < n → arg_breaches f p (at_arg p) ≡ [] = none_joined (λ p. arg_breaches f p (at_arg p)) n b3.1 in
      let mode : (p : ℕ) → p < n → mode_right f p ≡ true = λ p lt. none_unless _ _ (none_both (unless (mode_right f p) (at_arg p)) _ (each p lt)).0 in
      let count : (p : ℕ) → p < n → count_right f p ≡ true =
      λ p lt. none_unless _ _ (none_both (unless (count_right f p) (at_arg p + 1)) _ (none_both (unless (mode_right f p) (at_arg p)) _ (each p lt)).1).0 in
      let word : (p k : ℕ) → p < n → k < 4 → word_right f p k ≡ true =
      λ p k lt l. none_unless _ _ (none_joined (λ j. unless (word_right f p j) (at_arg p + 4 + j * 32)) 4
      (none_both (unless (count_right f p) (at_arg p + 1)) _ (none_both (unless (mode_right f p) (at_arg p)) _ (each p lt)).1).1 k l) in
      record {
        args = refl;
        inits = λ p lt. ⊎_elim (λ l. ap (λ a. length a.init) (arg_read p l) ∙ read_four p) (λ l. ap (λ a. length a.init) (arg_zero p lt l)) (cases_lt p n);
        ports = number_at_below bits (at + F.op_bits + 16) 4 (omega arith);
        immediates = number_at_below bits (at + F.op_bits + 20) 32 (omega arith);
        init_words = λ p k lt kl. ⊎_elim (λ l. subst (λ a. slice_index a.init k < 2 ^ 32) (sym (arg_read p l)) (read_word p k l kl))
            (λ l. subst (λ a. slice_index a.init k < 2 ^ 32) (sym (arg_zero p lt l)) (subst (λ z. z < 2 ^ 32) (sym (get_or-replicate 4 k 0 0 kl)) (omega arith))) (cases_lt p n);
        offer = offer;
        stage = none_unless _ _ b1.0;
        port = none_unless _ _ b2.0;
        immediate = none_unless _ _ b3.0;
        mode = λ p lt. ⊎_elim (λ l. mode p l) (λ l. zero_mode f p (arg_zero p lt l)) (cases_lt p n);
        count = λ p lt. ⊎_elim (λ l. count p l) (λ l. zero_count f p (arg_zero p lt l)) (cases_lt p n);
        word = λ p k lt kl. ⊎_elim (λ l. word p k l kl) (λ l. zero_word f p k kl (arg_zero p lt l)) (cases_lt p n);
      }

-- and fields that keep the rules bring no complaint
pub kept_unit : (F : Format) (ops : List Op) (n : ℕ) (f : UnitFields) (from : ℕ) → n ≤ 3 → AreFields ops f → unit_breaches F n f from ≡ []
kept_unit F ops n f from few are =
    both_none _ _ (unless_none (stage_right f) _ are.stage)
    (both_none _ _ (unless_none (port_right f) _ are.port)
    (both_none _ _ (unless_none (immediate_right f) _ are.immediate)
    (joined_none (λ p. arg_breaches f p (from + args_at F + p * arg_len)) n (λ p lt.
    both_none _ _ (unless_none (mode_right f p) _ (are.mode p (omega arith)))
    (both_none _ _ (unless_none (count_right f p) _ (are.count p (omega arith)))
    (joined_none (λ k. unless (word_right f p k) (from + args_at F + p * arg_len + 4 + k * 32)) 4 (λ k l. unless_none (word_right f p k) _ (are.word p k (omega arith) l))))))))
