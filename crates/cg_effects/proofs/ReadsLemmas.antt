-- Files that are read in order.
use Rattle.std.proofs.Common.{◌≡◌, ◌≤◌, ℕ, List, [], ◌∷◌, ◌++◌, sym, ◌∙◌, ap, ◌⊎◌, inl, inr, arith}
use Rattle.std.proofs.lemmas.List.{map-append}
use Rattle.std.proofs.lemmas.List.Elements.{All-push}
use Rattle.cg_files.specs.Causes.{Rose}
use Rattle.cg_files.specs.Held.{Held, IsMissing, IsLonger}
use Rattle.cg_effects.specs.Outcome.{Name, File, Outcome}
use Rattle.cg_effects.specs.Reads.{IsRead, AreRead, StopsAt, read_limit, read_fault_of, too_long_of}

-- one more that was read
pub read_one : (held : Held) (names more : List Name) (files : List File) (last : File) → AreRead held names files
    → IsRead held last → more ≡ names ++ last.name ∷ [] → AreRead held more (files ++ last ∷ [])
read_one held names more files last read read_last more_are = record {
  names_are = map-append (λ file. file.name) files (last ∷ []) ∙ ap (λ ns. ns ++ last.name ∷ []) read.names_are ∙ sym more_are;
  each = All-push (IsRead held) files last read.each read_last;
}

-- the next name ended it
pub stopped : (held : Held) (rose : Type 0) (all so_far rest : List Name) (name passed : Name) (files : List File) (outcome : Outcome)
    → passed ≡ name → all ≡ so_far ++ name ∷ rest → AreRead held so_far files
    → ((outcome ≡ read_fault_of passed) × (rose ⊎ IsMissing held passed)) ⊎ ((outcome ≡ too_long_of passed) × IsLonger held passed read_limit)
    → StopsAt held rose all outcome
stopped held rose all so_far rest name passed files outcome name_is all_are read cause = record {
  files = files;
  name = name;
  rest = rest;
  names_are = rw read.names_are all_are;
  each = read.each;
  cause = rw (← name_is) cause;
}

-- a fault of the last read is one of the whole
pub caused : (first before after : ℕ) (held now : Held) (name : Name) → (Rose before after ⊎ IsMissing now name) → first ≤ before → now ≡ held
    → Rose first after ⊎ IsMissing held name
caused first before after held now name (inl rose) below same = inl (omega arith)
caused first before after held now name (inr missing) below same = inr (rw same at missing)
