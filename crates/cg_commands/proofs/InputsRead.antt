-- What is held of input files that were read.
use Rattle.std.proofs.Common.{List, ◌∷◌, All}
use Rattle.std.proofs.lemmas.List.Elements.{All-head, All-tail}
use Rattle.cg_files.specs.Held.{Held, Holds}
use Rattle.cg_effects.specs.Outcome.{File}
use Rattle.cg_effects.specs.Reads.{IsRead, HoldsBytes}

module _ (held : Held) where
  pub first : (f : File) (fs : List File) → All (IsRead held) (f ∷ fs) → Holds held f.name f.bytes
  first f fs all = (All-head (IsRead held) f fs all).0

  pub second : (f g : File) (fs : List File) → All (IsRead held) (f ∷ g ∷ fs) → Holds held g.name g.bytes
  second f g fs all = first g fs (All-tail (IsRead held) f (g ∷ fs) all)

  pub third : (f g h : File) (fs : List File) → All (IsRead held) (f ∷ g ∷ h ∷ fs) → Holds held h.name h.bytes
  third f g h fs all = second g h fs (All-tail (IsRead held) f (g ∷ h ∷ fs) all)

  pub fourth : (f g h k : File) (fs : List File) → All (IsRead held) (f ∷ g ∷ h ∷ k ∷ fs) → Holds held k.name k.bytes
  fourth f g h k fs all = third g h k fs (All-tail (IsRead held) f (g ∷ h ∷ k ∷ fs) all)

pub first_bytes : (f : File) (fs : List File) → All HoldsBytes (f ∷ fs) → HoldsBytes f
first_bytes f fs all = All-head HoldsBytes f fs all

pub second_bytes : (f g : File) (fs : List File) → All HoldsBytes (f ∷ g ∷ fs) → HoldsBytes g
second_bytes f g fs all = first_bytes g fs (All-tail HoldsBytes f (g ∷ fs) all)
