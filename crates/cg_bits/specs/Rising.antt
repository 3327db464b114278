-- The bits at fault are listed in ascending order, fault by fault, so that the first is the least.
use Rattle.std.specs.Prelude.{ℕ, ◌<◌, List, length, slice_index}
use Rattle.cg_model.specs.Array.{Arch}
use Rattle.cg_arch.specs.Kept.{digest_of}
use Rattle.cg_bits.specs.Format.{cgb2}
use Rattle.cg_bits.specs.Faults.{bad_selects, bad_codes, not_offered, breaches, set_padding, repeated_ports}

-- each number is less than every number after it
abbrev pub Rises : List ℕ → Type 0
Rises xs = (i j : ℕ) → i < j → j < length xs → slice_index xs i < slice_index xs j

-- for each fault whose place is a bit, B5 to B9 and B11, these bits are in ascending order
pub record PlacesRise (A : Arch) (bytes : List ℕ) : Type 0 where
  pub selects : Rises (bad_selects cgb2 A (digest_of A) bytes)
  pub codes : Rises (bad_codes cgb2 A (digest_of A) bytes)
  pub offers : Rises (not_offered cgb2 A (digest_of A) bytes)
  pub fields : Rises (breaches cgb2 A (digest_of A) bytes)
  pub padding : Rises (set_padding cgb2 A (digest_of A) bytes)
  pub ports : Rises (repeated_ports cgb2 A (digest_of A) bytes)
