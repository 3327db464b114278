-- The known properties of the bytes that a view reads.
use Rattle.std.specs.Prelude.{◌≡◌, ℕ, ◌+◌, ◌*◌, ◌/◌, ◌<◌, ◌≤◌, ◌^◌, List, length}
use Rattle.cg_word.specs.Word.{all_ops}
use Rattle.cg_model.specs.Array.{Arch, IsArch}
use Rattle.cg_model.specs.Canonical.{IsCanonical, AreFields, arity_of}
use Rattle.cg_flat.specs.Slots.{select_bits}
use Rattle.cg_bits.specs.Numbers.{bits_of_bytes}
use Rattle.cg_bits.specs.Format.{cgb2, ports, arg_len, args_at, unit_at, slot_len}
use Rattle.cg_bits.specs.Reading.{ii_in, unit_in}
use Rattle.cg_bits.specs.Answers.{config_of}

-- they hold the header and all slots of a configuration that is canonical for the architecture
pub record HoldBits (A : Arch) (bytes : List ℕ) : Type 0 where
  pub valid : IsArch A
  pub header : 40 ≤ length bytes
  pub whole : 40 + (ii_in bytes * slot_len cgb2 A + 7) / 8 ≤ length bytes
  pub canonical : IsCanonical A (config_of A bytes)

-- the length of a slot is `bits` bits
pub record IsHeld (A : Arch) (bytes : List ℕ) (bits : ℕ) : Type 0 where
  pub held : HoldBits A bytes
  pub slot : bits ≡ slot_len cgb2 A
  pub short : bits < 2 ^ 32

-- the body holds a unit of n ports at a place, and its fields keep the rules of canonical configurations
pub record HoldsUnit (body : List ℕ) (at n : ℕ) : Type 0 where
  pub inside : at + (args_at cgb2 + n * arg_len) ≤ 8 * length body
  pub small : at < 2 ^ 50
  pub few : n ≤ 3
  pub fields : AreFields all_ops (unit_in cgb2 n (bits_of_bytes body) at)
  pub arity : arity_of (unit_in cgb2 n (bits_of_bytes body) at).op ≤ n

-- the body holds a slot at a place
pub record HoldsSlot (A : Arch) (body : List ℕ) (at : ℕ) : Type 0 where
  pub inside : at + slot_len cgb2 A ≤ 8 * length body
  pub small : at < 2 ^ 48
  pub narrow : (r : ℕ) → r < length A.resources → select_bits A r ≤ 32
  pub units : (x : ℕ) → x < length A.units → HoldsUnit body (at + unit_at cgb2 A x) (ports A x)
