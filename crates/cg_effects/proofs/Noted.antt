-- Names that are noted, one after the other.
use Rattle.std.proofs.Common.{◌≡◌, ℕ, ◌+◌, ◌<◌, List, [], ◌∷◌, ◌++◌, map, take, get_or, length, Some, None, refl, sym, ◌∙◌, ap, append_assoc, string_bytes, Err, ◌≤◌}
use Rattle.std.specs.Prelude.{IsErrOf}
use Rattle.std.proofs.lemmas.List.{append-nil, take-map, take_all}
use Rattle.cg_files.specs.declared.fail.StoreFail.{StoreFail}
use Rattle.cg_files.specs.declared.fail.StoreFail.TheVariants.{Failed, TooLong, Memory}
use Rattle.cg_files.specs.Asked.{Names, Notes, NotesAll, NotesPart}
use Rattle.cg_effects.specs.declared.outcome.File.{File as FileValue}
use Rattle.cg_effects.specs.Outcome.{file_of, names_of}
use Rattle.cg_effects.proofs.Writes.{map_more}

-- no name was noted yet
pub none_noted : (old : Names) → NotesAll old [] old
none_noted (Some old) = sym (append-nil old)
none_noted None = tt

-- one more name
one_more : (old now new : Names) (names : List (List ℕ)) (name : List ℕ) → NotesAll old names now → Notes now name new → NotesAll old (names ++ name ∷ []) new
one_more (Some old) (Some now) (Some new) names name before last = last ∙ ap (λ xs. xs ++ name ∷ []) before ∙ append_assoc old names (name ∷ [])
one_more (Some old) (Some now) None names name before last = absurd last
one_more (Some old) None new names name before last = absurd before
one_more None (Some now) new names name before last = absurd before
one_more None None (Some new) names name before last = absurd last
one_more None None None names name before last = tt

-- one more of these names, as it was handed over
pub noted_more : {A : Type 0} (f : A → List ℕ) (xs : List A) (i : ℕ) (x : A) (passed : List ℕ) (old now new : Names) → i < length xs → x ≡ get_or xs i x
    → passed ≡ f x → NotesAll old (map f (take i xs)) now → Notes now passed new → NotesAll old (map f (take (i + 1) xs)) new
noted_more f xs i x passed old now new inside is passed_is before last =
    rw (map_more f xs i x inside is) (one_more old now new (map f (take i xs)) (f x) before (rw passed_is at last))

-- the first of these names
pub noted_part : {A : Type 0} (f : A → List ℕ) (xs : List A) (i : ℕ) (old new : Names) → NotesAll old (map f (take i xs)) new → NotesPart old (map f xs) new
noted_part f xs i (Some old) (Some new) noted = (i, noted ∙ ap (λ names. old ++ names) (sym (take-map f i xs)))
noted_part f xs i (Some old) None noted = absurd noted
noted_part f xs i None (Some new) noted = absurd noted
noted_part f xs i None None noted = tt

-- all of these names
pub noted_all : {A : Type 0} (f : A → List ℕ) (xs : List A) (i : ℕ) (old new : Names) → length xs ≤ i → NotesAll old (map f (take i xs)) new → NotesAll old (map f xs) new
noted_all f xs i old new past noted = let all : take i xs ≡ xs = take_all i xs past in rw all at noted

-- the first of these names, with one more that was noted
pub noted_next : {A : Type 0} (f : A → List ℕ) (xs : List A) (i : ℕ) (x : A) (passed : List ℕ) (old now new : Names) → i < length xs → x ≡ get_or xs i x
    → passed ≡ f x → NotesAll old (map f (take i xs)) now → Notes now passed new → NotesPart old (map f xs) new
noted_next f xs i x passed old now new inside is passed_is before last =
    noted_part f xs (i + 1) old new (noted_more f xs i x passed old now new inside is passed_is before last)

-- where memory ran out, or where it didn't
pub by_cause : (P : Type 0) (fail : StoreFail) → ((IsErrOf {T = Unit {0}} (Err fail) Memory → ⊥) → P) → (IsErrOf {T = Unit {0}} (Err fail) Memory → P) → P
by_cause P Failed other wanting = other (λ is. cc)
by_cause P (TooLong got) other wanting = other (λ is. cc)
by_cause P Memory other wanting = wanting refl

-- the names of the files that a program's files stand for
pub names_in : (files : List FileValue) → map (λ file. string_bytes file.name) files ≡ names_of (map file_of files)
names_in [] = refl
names_in (file ∷ files) = ap (λ names. string_bytes file.name ∷ names) (names_in files)
