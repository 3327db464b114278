-- The faults of bytes, by number and then by place. The first one is reported.
use Rattle.std.specs.Prelude.{ℕ, ◌+◌, ◌*◌, ◌/◌, ◌-◌, nat_lt, nat_le, eqb, Bool, false, not, ◌||◌, if◌then◌else◌, List, [], ◌∷◌, ◌++◌, length, map, take, drop, Option, Some, None, slice_index_or, bytes_eq, nat_eq}
use Rattle.std.specs.List.{starts_with}
use Rattle.cg_model.specs.declared.config.UnitFields.{UnitFields}
use Rattle.cg_model.specs.Array.{Arch, resource, unit}
use Rattle.cg_model.specs.Config.{Config, select, fields}
use Rattle.cg_model.specs.Canonical.{offered, stage_right, port_right, immediate_right, mode_right, count_right, word_right, last_stage, port_free}
use Rattle.cg_bits.specs.declared.fault.BitsFault.{BitsFault}
use Rattle.cg_bits.specs.declared.fault.BitsFault.TheVariants.{Magic, Truncated, ArchMismatch, BadHeader, BadSelect, BadOp, NotOffered, NotCanonical, BadPadding, Trailing, RepeatedPort}
use Rattle.cg_bits.specs.declared.format.Format.{Format}
use Rattle.cg_bits.specs.Numbers.{number_at}
use Rattle.cg_bits.specs.Parts.{joined}
use Rattle.cg_bits.specs.Format.{ports, arg_len, args_at, slot_len}
use Rattle.cg_bits.specs.Spelling.{magic}
use Rattle.cg_bits.specs.Reading.{select_place, unit_place, config_at, body_bits}

-- the first item of a list
abbrev pub first : {X : Type 0} → List X → Option X
first [] = None
first (x ∷ xs) = Some x

-- a list of one fault, unless the test holds
abbrev pub unless : {X : Type 0} → Bool → X → List X
unless right x = if right then [] else x ∷ []

-- ---- the fields of a unit against the rules of canonical configurations, by the place of the field

-- the mode bit, count and words of argument p, which begins at a place
abbrev pub arg_breaches : UnitFields → ℕ → ℕ → List ℕ
arg_breaches f p at =
    unless (mode_right f p) at ++ (unless (count_right f p) (at + 1) ++ joined (λ k. unless (word_right f p k) (at + 4 + k * 32)) 4)

-- the stage, port, immediate and arguments of a unit with n ports, which begins at a place
abbrev pub unit_breaches : Format → ℕ → UnitFields → ℕ → List ℕ
unit_breaches F n f at =
    unless (stage_right f) (at + F.op_bits)
    ++ (unless (port_right f) (at + F.op_bits + 16)
    ++ (unless (immediate_right f) (at + F.op_bits + 20) ++ joined (λ p. arg_breaches f p (at + args_at F + p * arg_len)) n))

module _ (F : Format) (A : Arch) (digest : List ℕ) (bytes : List ℕ) where
  -- the configuration that the bytes would encode
  abbrev pub read : Config
  read = config_at F A bytes

  -- the number of bytes of the header and the slots
  abbrev pub size : ℕ
  size = 40 + (read.ii * slot_len F A + 7) / 8

  -- the items for each resource in each slot, concatenated
  abbrev pub each_resource : (ℕ → ℕ → List ℕ) → List ℕ
  each_resource says = joined (λ slot. joined (λ r. says r slot) (length A.resources)) read.ii

  -- the items for each unit in each slot, concatenated
  abbrev pub each_unit : (ℕ → ℕ → List ℕ) → List ℕ
  each_unit says = joined (λ slot. joined (λ x. says x slot) (length A.units)) read.ii

  -- the first bit of a unit's fields, counted from the first bit of the bytes
  abbrev pub at_unit : ℕ → ℕ → ℕ
  at_unit x slot = 320 + unit_place F A x slot

  -- B1: the first four bytes, or all where there are fewer, aren't a prefix of the magic
  abbrev pub wrong_magic : List BitsFault
  wrong_magic = unless (starts_with nat_eq (magic F) (take 4 bytes)) Magic

  -- B3: the digest is another one
  abbrev pub other_digest : List BitsFault
  other_digest = unless (bytes_eq (take 32 (drop 8 bytes)) digest) (ArchMismatch (take 32 (drop 8 bytes)) digest)

  -- B4: the interval is 0 or above the contexts, or stages is 0
  abbrev pub bad_header : List BitsFault
  bad_header =
      unless (not (eqb read.ii 0 || (nat_lt A.contexts read.ii || eqb read.stages 0))) (BadHeader read.ii read.stages)

  -- B2: the header isn't complete; or, where neither B3 nor B4 applies, the slots aren't
  abbrev pub too_short : List BitsFault
  too_short =
      if nat_lt (length bytes) 40 then Truncated (length bytes) ∷ []
      else if eqb (length (other_digest ++ bad_header)) 0 then unless (nat_le size (length bytes)) (Truncated (length bytes))
      else []

  -- B5: a select above the number of drivers
  abbrev pub bad_selects : List ℕ
  bad_selects =
      each_resource (λ r slot. unless (nat_le (select read r slot) (length (resource A r).drivers)) (320 + select_place F A r slot))

  -- B6: an operation code above the greatest
  abbrev pub bad_codes : List ℕ
  bad_codes =
      each_unit (λ x slot. unless (nat_le (number_at (body_bits bytes) (unit_place F A x slot) F.op_bits) F.greatest) (at_unit x slot))

  -- B7: an operation that the unit doesn't offer
  abbrev pub not_offered : List ℕ
  not_offered = each_unit (λ x slot. unless (offered (unit A x).ops (fields read x slot).op) (at_unit x slot))

  -- B8: the header's stages, and then the fields of each unit
  abbrev pub breaches : List ℕ
  breaches =
      unless (eqb read.stages (1 + last_stage A read)) 48
      ++ each_unit (λ x slot. unit_breaches F (ports A x) (fields read x slot) (at_unit x slot))

  -- B9: a bit of the last byte after the slots is 1
  abbrev pub set_padding : List ℕ
  set_padding =
      joined (λ i. unless (not (slice_index_or (body_bits bytes) (read.ii * slot_len F A + i) false)) (320 + (read.ii * slot_len F A + i)))
      ((size - 40) * 8 - read.ii * slot_len F A)

  -- B10: bytes after the padding
  abbrev pub trailing : List ℕ
  trailing = unless (nat_le (length bytes) size) size

  -- B11: a field before it gives output to the same port
  abbrev pub repeated_ports : List ℕ
  repeated_ports = each_unit (λ x slot. unless (port_free A read x slot) (at_unit x slot + F.op_bits + 16))

  -- all faults, B1 to B11, each at its places in order
  abbrev pub faults : List BitsFault
  faults =
      wrong_magic
      ++ (too_short ++ (other_digest ++ (bad_header
      ++ (map BadSelect bad_selects ++ (map BadOp bad_codes ++ (map NotOffered not_offered
      ++ (map NotCanonical breaches ++ (map BadPadding set_padding ++ (map Trailing trailing ++ map RepeatedPort repeated_ports)))))))))
