-- The numbers of a description are words of 32 bits.
use Rattle.std.specs.Prelude.{◌≡◌, ℕ, ◌<◌, List, Bool, Some, slice_get, slice_index}
use Rattle.cg_word.specs.Word.{words}
use Rattle.cg_kernel.specs.Written.{WrittenArg, WrittenNode, WrittenKernel}
use Rattle.cg_kernel.specs.declared.written.WrittenArg.TheVariants.{Number, Source}

-- the number of an argument, or its initial words, are words
pub record HasWords (a : WrittenArg) : Type 0 where
  pub number : (c : ℕ) → a ≡ Number c → c < words
  pub init : (from : List ℕ) (d k : ℕ) (init : List ℕ) (other : Bool) → a ≡ Source from d init other → slice_index init k < words

-- the numbers of all arguments are words
pub record HasAllWords (w : WrittenKernel) : Type 0 where
  pub at : (v p : ℕ) (n : WrittenNode) (a : WrittenArg) → slice_get w.nodes v ≡ Some n → slice_get n.args p ≡ Some a → HasWords a
