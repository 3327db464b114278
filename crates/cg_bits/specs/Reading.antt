-- The fields at each place of the bits, and the configuration of all of them. Where the bits end early, missing bits
-- count as an empty list.
use Rattle.std.specs.Prelude.{ℕ, ◌+◌, ◌*◌, nat_lt, eqb, if◌then◌else◌, Bool, List, length, map, take, drop}
use Rattle.std.specs.List.{range_with_len}
use Rattle.std.specs.Int.{w16, from_be_bytes}
use Rattle.cg_model.specs.declared.config.ArgFields.{ArgFields}
use Rattle.cg_model.specs.declared.config.UnitFields.{UnitFields}
use Rattle.cg_model.specs.Array.{Arch}
use Rattle.cg_model.specs.Config.{Config, no_arg}
use Rattle.cg_flat.specs.Slots.{select_bits, select_at}
use Rattle.cg_bits.specs.declared.format.Format.{Format}
use Rattle.cg_bits.specs.Numbers.{number_at, bits_of_bytes}
use Rattle.cg_bits.specs.Format.{op_of, ports, arg_len, args_at, unit_at, slot_len}

-- the argument at a place
unfoldable pub arg_in : List Bool → ℕ → ArgFields
arg_in bits at =
    record {
      fixed = eqb (number_at bits at 1) 1;
      count = number_at bits (at + 1) 3;
      init = map (λ k. number_at bits (at + 4 + k * 32) 32) (range_with_len 0 4);
    }

-- the fields of a unit with n ports at a place
unfoldable pub unit_in : Format → ℕ → List Bool → ℕ → UnitFields
unit_in F n bits at =
    record {
      op = op_of F (number_at bits at F.op_bits);
      stage = number_at bits (at + F.op_bits) 16;
      port = number_at bits (at + F.op_bits + 16) 4;
      immediate = number_at bits (at + F.op_bits + 20) 32;
      args = map (λ p. if nat_lt p n then arg_in bits (at + args_at F + p * arg_len) else no_arg) (range_with_len 0 3);
    }

-- the interval in the header
abbrev pub ii_in : List ℕ → ℕ
ii_in bytes = from_be_bytes w16 (take 2 (drop 4 bytes))

-- the stages in the header
abbrev pub stages_in : List ℕ → ℕ
stages_in bytes = from_be_bytes w16 (take 2 (drop 6 bytes))

-- the bits after the header
abbrev pub body_bits : List ℕ → List Bool
body_bits bytes = bits_of_bytes (drop 40 bytes)

module _ (F : Format) (A : Arch) where
  -- where a select lies in the slots' bits
  abbrev pub select_place : ℕ → ℕ → ℕ
  select_place r slot = slot * slot_len F A + select_at A r

  -- where the fields of a unit lie
  abbrev pub unit_place : ℕ → ℕ → ℕ
  unit_place x slot = slot * slot_len F A + unit_at F A x

  -- the configuration of the slots' bits, with that interval and those stages
  unfoldable pub config_in : List Bool → ℕ → ℕ → Config
  config_in bits ii stages =
      record {
        ii = ii;
        stages = stages;
        selects = map (λ slot. map (λ r. number_at bits (select_place r slot) (select_bits A r)) (range_with_len 0 (length A.resources))) (range_with_len 0 ii);
        units = map (λ slot. map (λ x. unit_in F (ports A x) bits (unit_place x slot)) (range_with_len 0 (length A.units))) (range_with_len 0 ii);
      }

  -- the configuration that bytes would encode
  abbrev pub config_at : List ℕ → Config
  config_at bytes = config_in (body_bits bytes) (ii_in bytes) (stages_in bytes)
