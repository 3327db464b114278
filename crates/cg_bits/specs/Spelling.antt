-- The bits of a configuration, and the bytes that encode it.
use Rattle.std.specs.Prelude.{◌≡◌, ℕ, ◌<◌, ◌≤◌, Bool, false, List, [], ◌∷◌, ◌++◌, length, replicate, slice_index}
use Rattle.std.specs.Int.{w16, to_be_bytes}
use Rattle.cg_model.specs.declared.config.ArgFields.{ArgFields}
use Rattle.cg_model.specs.declared.config.UnitFields.{UnitFields}
use Rattle.cg_model.specs.Array.{Arch}
use Rattle.cg_model.specs.Config.{Config, arg, select, fields}
use Rattle.cg_model.specs.Canonical.{IsCanonical}
use Rattle.cg_flat.specs.Slots.{select_bits}
use Rattle.cg_arch.specs.Kept.{digest_of}
use Rattle.cg_bits.specs.declared.format.Format.{Format}
use Rattle.cg_bits.specs.Numbers.{digit, bits_of, bits_of_bytes}
use Rattle.cg_bits.specs.Parts.{joined}
use Rattle.cg_bits.specs.Format.{cgb1, cgb2, code_of, ports}

-- the bits of an argument: its mode bit, its count and its four words
abbrev pub arg_bits : ArgFields → List Bool
arg_bits a = bits_of 1 (digit a.fixed) ++ (bits_of 3 a.count ++ joined (λ k. bits_of 32 (slice_index a.init k)) 4)

-- the bits of a unit with n ports: operation, stage, port, immediate, and an argument for each port
unfoldable pub unit_bits : Format → ℕ → UnitFields → List Bool
unit_bits F n f =
    bits_of F.op_bits (code_of f.op)
    ++ (bits_of 16 f.stage ++ (bits_of 4 f.port ++ (bits_of 32 f.immediate ++ joined (λ p. arg_bits (arg f p)) n)))

-- the bits of a slot: the select of each resource, and then the fields of each unit. A resource without drivers has a
-- select of 0 bits
unfoldable pub slot_bits : Format → Arch → Config → ℕ → List Bool
slot_bits F A C slot =
    joined (λ r. bits_of (select_bits A r) (select C r slot)) (length A.resources)
    ++ joined (λ x. unit_bits F (ports A x) (fields C x slot)) (length A.units)

-- the bits of all slots in order
abbrev pub slots : Format → Arch → Config → List Bool
slots F A C = joined (slot_bits F A C) C.ii

-- the first four bytes: `CGB` and the format's sign
abbrev pub magic : Format → List ℕ
magic F = 67 ∷ 71 ∷ 66 ∷ F.sign ∷ []

-- the first 40 bytes: the magic, the interval, the stages and the architecture's digest
abbrev pub header : Format → List ℕ → Config → List ℕ
header F digest C = magic F ++ (to_be_bytes w16 C.ii ++ (to_be_bytes w16 C.stages ++ digest))

-- the header, followed by the whole bytes that begin with the slots' bits in order and end with fewer than eight zero
-- bits; each operation is one of the format
pub record Spells (F : Format) (A : Arch) (digest : List ℕ) (C : Config) (bytes : List ℕ) : Type 0 where
  pub body : List ℕ
  pub padding : ℕ
  pub short : padding < 8
  pub bits : bits_of_bytes body ≡ slots F A C ++ replicate padding false
  pub whole : bytes ≡ header F digest C ++ body
  pub known : (x slot : ℕ) → x < length A.units → slot < C.ii → code_of (fields C x slot).op ≤ F.greatest

-- the bytes are a bitstream of that configuration: it is canonical for the architecture, and they encode it in `CGB2`
pub record AreBits (A : Arch) (C : Config) (bytes : List ℕ) : Type 0 where
  pub canonical : IsCanonical A C
  pub spelled : Spells cgb2 A (digest_of A) C bytes

-- the bytes are a bitstream of that configuration in the first format: it is canonical, and they encode it in `CGB1`
pub record AreFirstBits (A : Arch) (C : Config) (bytes : List ℕ) : Type 0 where
  pub canonical : IsCanonical A C
  pub spelled : Spells cgb1 A (digest_of A) C bytes
