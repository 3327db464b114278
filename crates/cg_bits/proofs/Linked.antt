-- The checks of the code are the parts of the list of faults.
use Rattle.std.proofs.Common.{◌≡◌, ℕ, zero, suc, ◌+◌, ◌*◌, ◌/◌, ◌<◌, ◌&&◌, ◌||◌, not, leb, eqb, Bool, true, false, List, ◌++◌, length, map, drop, refl, sym, ap, ◌∙◌, append_assoc, arith}
use Rattle.cg_model.specs.declared.config.UnitFields.{UnitFields}
use Rattle.cg_model.specs.Array.{Arch, resource, unit}
use Rattle.cg_model.specs.Config.{Config, fields}
use Rattle.cg_model.specs.Canonical.{offered, gives_output, any_below, clash, port_free, stage_of, greatest_of, last_stage}
use Rattle.cg_bits.specs.declared.format.Format.{Format}
use Rattle.cg_bits.specs.declared.fault.BitsFault.TheVariants.{BadSelect, BadOp, NotOffered, NotCanonical, BadPadding, Trailing, RepeatedPort}
use Rattle.cg_bits.specs.declared.checking.UnitCheck.TheVariants.{Code, Offer, Fields}
use Rattle.cg_bits.specs.Ranges.{IsFormat}
use Rattle.cg_bits.specs.Parts.{joined}
use Rattle.cg_bits.specs.Format.{ports, slot_len}
use Rattle.cg_bits.specs.Reading.{select_place, unit_place, ii_in, stages_in, body_bits, config_at, config_in}
use Rattle.cg_bits.specs.Faults as Faults
use Rattle.cg_bits.specs.Faults.{unless, unit_breaches}
use Rattle.cg_bits.specs.Checks.{fields_there, select_faults, slot_faults, slot_stage, padding_faults, port_at, repeated_faults, used_before, uses, gives_to, field_faults, end_faults, start_faults}
use Rattle.cg_bits.proofs.Slots.{select_read, fields_read}
use Rattle.cg_bits.proofs.Outputs.{joined_same}
use Rattle.cg_model.proofs.Bools.{and_false}
use Rattle.cg_model.proofs.Canonical.{greatest_same}

pub any_same : (f g : ℕ → Bool) (n : ℕ) → ((i : ℕ) → i < n → f i ≡ g i) → any_below f n ≡ any_below g n
unfolding any_below
any_same f g zero h = refl
any_same f g (suc n) h = ap (λ z. z || f n) (any_same f g n (λ i lt. h i (omega arith))) ∙ ap (λ z. any_below g n || z) (h n (omega arith))

any_false : (f : ℕ → Bool) (n : ℕ) → ((i : ℕ) → f i ≡ false) → any_below f n ≡ false
unfolding any_below
any_false f zero h = refl
any_false f (suc n) h = ap (λ z. z || f n) (any_false f n h) ∙ h n

-- a field gives no output, or clashes with those that give output to its port
clash_in : (b : Bool) (g : UnitFields) (f : ℕ → UnitFields) (n : ℕ) → b ≡ gives_output g.op → any_below (λ y. clash (f y) g) n ≡ (b && uses f n g.port)
clash_in true g f n e = any_same (λ y. clash (f y) g) (λ y. gives_to (f y) g.port) n (λ i lt. ap (λ z. gives_output (f i).op && (z && eqb (f i).port g.port)) (sym e))
clash_in false g f n e = any_false (λ y. clash (f y) g) n (λ i. ap (λ z. gives_output (f i).op && (z && eqb (f i).port g.port)) (sym e) ∙ and_false (gives_output (f i).op))

clash_slots : (b : Bool) (g : UnitFields) (f : ℕ → ℕ → UnitFields) (n m : ℕ) → b ≡ gives_output g.op → any_below (λ s. any_below (λ y. clash (f s y) g) n) m ≡ (b && any_below (λ s. uses (f s) n g.port) m)
clash_slots true g f n m e = any_same (λ s. any_below (λ y. clash (f s y) g) n) (λ s. uses (f s) n g.port) m (λ s lt. clash_in true g (f s) n e)
clash_slots false g f n m e = any_false (λ s. any_below (λ y. clash (f s y) g) n) m (λ s. clash_in false g (f s) n e)

and_or : (b c d : Bool) → ((b && c) || (b && d)) ≡ (b && (c || d))
and_or true c d = refl
and_or false c d = refl

module _ (F : Format) (is : IsFormat F) (A : Arch) (digest bytes : List ℕ) where
  abbrev bits : List Bool
  bits = body_bits bytes

  abbrev ii : ℕ
  ii = ii_in bytes

  abbrev C : Config
  C = config_at F A bytes

  abbrev there : ℕ → ℕ → UnitFields
  there = fields_there F A bits

  read_is : (x slot : ℕ) → x < length A.units → slot < ii → fields C x slot ≡ there slot x
  read_is x slot lt in_time = fields_read F is A bits ii (stages_in bytes) x slot lt in_time

  ii_is : C.ii ≡ ii
  unfolding config_in
  ii_is = refl

  stages_are : C.stages ≡ stages_in bytes
  unfolding config_in
  stages_are = refl

  pub selects_are : Faults.bad_selects F A digest bytes ≡ joined (select_faults F A bits) ii
  unfolding config_in
  selects_are =
      joined_same _ _ ii (λ slot in_time. joined_same _ _ (length A.resources) (λ r lt.
      ap (λ n. unless (leb n (length (resource A r).drivers)) (320 + select_place F A r slot)) (select_read F is A bits ii (stages_in bytes) r slot lt in_time)))

  pub codes_are : Faults.bad_codes F A digest bytes ≡ joined (slot_faults F A bits Code) ii
  unfolding config_in
  codes_are = refl

  pub offers_are : Faults.not_offered F A digest bytes ≡ joined (slot_faults F A bits Offer) ii
  unfolding config_in
  offers_are =
      joined_same _ _ ii (λ slot in_time. joined_same _ _ (length A.units) (λ x lt.
      ap (λ (f : UnitFields). unless (offered (unit A x).ops f.op) (320 + unit_place F A x slot)) (read_is x slot lt in_time)))

  last_is : last_stage A C ≡ greatest_of (slot_stage F A bits) ii
  unfolding config_in
  last_is =
      greatest_same _ _ ii (λ slot in_time. greatest_same _ _ (length A.units) (λ x lt. ap (λ (f : UnitFields). stage_of f) (read_is x slot lt in_time)))

  pub breaches_are : Faults.breaches F A digest bytes ≡ unless (eqb (stages_in bytes) (1 + greatest_of (slot_stage F A bits) ii)) 48 ++ joined (slot_faults F A bits Fields) ii
  unfolding config_in
  breaches_are =
      ap (λ z. unless (eqb (stages_in bytes) (1 + z)) 48 ++ Faults.each_unit F A digest bytes (λ x slot. unit_breaches F (ports A x) (fields C x slot) (Faults.at_unit F A digest bytes x slot))) last_is
      ∙ ap (λ z. unless (eqb (stages_in bytes) (1 + greatest_of (slot_stage F A bits) ii)) 48 ++ z)
      (joined_same _ _ ii (λ slot in_time. joined_same _ _ (length A.units) (λ x lt.
      ap (λ (f : UnitFields). unit_breaches F (ports A x) f (320 + unit_place F A x slot)) (read_is x slot lt in_time))))

  pub padding_is : Faults.set_padding F A digest bytes ≡ padding_faults F A (drop 40 bytes) ii
  unfolding config_in
  padding_is = ap (joined _) (omega arith)

  free_is : (x slot : ℕ) → x < length A.units → slot < ii →
      port_free A C x slot ≡ not (gives_output (there slot x).op && (used_before F A bits slot (there slot x).port || uses (there slot) x (there slot x).port))
  free_is x slot lt in_time =
      let g = there slot x in
      let n = length A.units in
      let before : any_below (λ s. any_below (λ y. clash (fields C y s) (fields C x slot)) n) slot ≡ (gives_output g.op && used_before F A bits slot g.port) =
      any_same _ (λ s. any_below (λ y. clash (there s y) g) n) slot (λ s l. any_same _ (λ y. clash (there s y) g) n (λ y k.
      ap (λ (f : UnitFields). clash f (fields C x slot)) (read_is y s k (omega arith)) ∙ ap (λ (f : UnitFields). clash (there s y) f) (read_is x slot lt in_time)))
      ∙ clash_slots (gives_output g.op) g there n slot refl in
      let within : any_below (λ y. clash (fields C y slot) (fields C x slot)) x ≡ (gives_output g.op && uses (there slot) x g.port) =
      any_same _ (λ y. clash (there slot y) g) x (λ y k. ap (λ (f : UnitFields). clash f (fields C x slot)) (read_is y slot (omega arith) in_time) ∙ ap (λ (f : UnitFields). clash (there slot y) f) (read_is x slot lt in_time))
      ∙ clash_in (gives_output g.op) g (there slot) x refl in
      ap (λ z. not (z || any_below (λ y. clash (fields C y slot) (fields C x slot)) x)) before ∙ ap (λ z. not ((gives_output g.op && used_before F A bits slot g.port) || z)) within
      ∙ ap not (and_or (gives_output g.op) (used_before F A bits slot g.port) (uses (there slot) x g.port))

  pub ports_are : Faults.repeated_ports F A digest bytes ≡ repeated_faults F A bits ii
  unfolding config_in
  ports_are =
      joined_same _ _ ii (λ slot in_time. joined_same _ _ (length A.units) (λ x lt.
      let at : 320 + unit_place F A x slot + F.op_bits + 16 ≡ port_at F A bits slot x = omega arith in
      ap (λ z. unless (port_free A C x slot) z) at ∙ ap (λ z. unless z (port_at F A bits slot x)) (free_is x slot lt in_time)))

  pub size_is : Faults.size F A digest bytes ≡ 40 + (ii * slot_len F A + 7) / 8
  unfolding config_in
  size_is = refl

  -- the list of faults, in three parts
  pub faults_are : Faults.faults F A digest bytes ≡ start_faults F A digest bytes ++ (field_faults F A bits ii (stages_in bytes) ++ end_faults F A (drop 40 bytes) ii (length bytes))
  unfolding config_in
  faults_are =
      let W = Faults.wrong_magic F A digest bytes in
      let T = Faults.too_short F A digest bytes in
      let D = Faults.other_digest F A digest bytes in
      let H = Faults.bad_header F A digest bytes in
      let fields_part = field_faults F A bits ii (stages_in bytes) in
      let end_part = end_faults F A (drop 40 bytes) ii (length bytes) in
      let rest : map BadSelect (Faults.bad_selects F A digest bytes) ++ (map BadOp (Faults.bad_codes F A digest bytes) ++ (map NotOffered (Faults.not_offered F A digest bytes)
      ++ (map NotCanonical (Faults.breaches F A digest bytes) ++ (map BadPadding (Faults.set_padding F A digest bytes) ++ (map Trailing (Faults.trailing F A digest bytes) ++ map RepeatedPort (Faults.repeated_ports F A digest bytes)))))) ≡ fields_part ++ end_part =
      rw (selects_are, codes_are, offers_are, breaches_are, padding_is, ports_are) (simp append_assoc) in
      ap (λ z. W ++ (T ++ (D ++ (H ++ z)))) rest ∙ simp append_assoc
