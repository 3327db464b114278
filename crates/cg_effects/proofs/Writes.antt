-- Writes, one after the other.
use Rattle.std.proofs.Common.{◌≡◌, ℕ, suc, ◌+◌, ◌<◌, Bool, true, false, cond, List, [], ◌∷◌, ◌++◌, map, take, drop, get_or, length, Option, Some, None, is_some, refl, sym, ◌∙◌, ap, add-one, if◌then◌else◌, bytes_eq}
use Rattle.std.proofs.lemmas.Slice.Eq.{bytes_eq-Decides}
use Rattle.std.proofs.lemmas.List.{take_more, map-append, take-append-drop}
use Rattle.std.proofs.Math.Seq.{drop-cons}
use Rattle.cg_files.specs.Held.{Held, Holds, OthersStay}
use Rattle.cg_effects.specs.Outcome.{Name, Bytes, File}
use Rattle.cg_effects.specs.Ends.{written, Wrote, WroteBut}

-- the last write is the one that is seen
pub written-last : (old : Name → Option Bytes) (files : List File) (last : File) (name : Name)
    → written old (files ++ last ∷ []) name ≡ (if bytes_eq name last.name then Some last.bytes else written old files name)
written-last old [] last name = refl
written-last old (file ∷ files) last name =
    written-last (λ other. if bytes_eq other file.name then Some file.bytes else old other) files last name

-- what equals one value where a test holds, and another where it doesn't
picked : {X : Type 0} (test : Bool) (x y z : X) → (test ≡ true → z ≡ x) → (test ≡ false → z ≡ y) → z ≡ cond test x y
picked true x y z if_true if_false = if_true refl
picked false x y z if_true if_false = if_false refl

-- after one more write, each name holds what all the writes leave under it
seen_last : (old now new : Name → Option Bytes) (files : List File) (last : File)
    → ((name : Name) → now name ≡ written old files name) → new last.name ≡ Some last.bytes
    → ((name : Name) → (name ≡ last.name → ⊥) → new name ≡ now name)
    → (name : Name) → new name ≡ written old (files ++ last ∷ []) name
seen_last old now new files last wrote holds others name =
    rw written-last (picked (bytes_eq name last.name) (Some last.bytes) (written old files name) (new name)
    (λ equal. ap new ((bytes_eq-Decides name last.name).0 equal) ∙ holds)
    (λ unequal. let differs : name ≡ last.name → ⊥ = λ same. let equal : bytes_eq name last.name ≡ true = (bytes_eq-Decides name last.name).1 same in cc in
    others name differs ∙ wrote name))

-- one more write that was made
made : (before now after : Held) (files : List File) (last : File) → Wrote before files now → Holds after last.name last.bytes
    → OthersStay now after last.name → is_some after ≡ is_some now → Wrote before (files ++ last ∷ []) after
made (Some old) (Some now) (Some new) files last wrote holds others tells = seen_last old now new files last wrote holds others
made (Some old) (Some now) None files last wrote holds others tells = cc
made (Some old) None after files last wrote holds others tells = absurd wrote
made None (Some now) after files last wrote holds others tells = absurd wrote
made None None (Some new) files last wrote holds others tells = cc
made None None None files last wrote holds others tells = tt

-- the same, with name and bytes as they were handed over
pub wrote_one : (before now after : Held) (files : List File) (last : File) (name bytes : List ℕ) → name ≡ last.name → bytes ≡ last.bytes
    → Wrote before files now → Holds after name bytes → OthersStay now after name → is_some after ≡ is_some now
    → Wrote before (files ++ last ∷ []) after
wrote_one before now after files last name bytes name_is bytes_are wrote holds others tells =
    made before now after files last wrote (rw (← name_is, ← bytes_are) holds) (rw (← name_is) others) tells

-- one more write that failed
failed : (before now after : Held) (files : List File) (name : Name) → Wrote before files now
    → OthersStay now after name → is_some after ≡ is_some now → WroteBut name before files after
failed (Some old) (Some now) (Some new) files name wrote others tells = λ other differs. others other differs ∙ wrote other
failed (Some old) (Some now) None files name wrote others tells = cc
failed (Some old) None after files name wrote others tells = absurd wrote
failed None (Some now) after files name wrote others tells = absurd wrote
failed None None (Some new) files name wrote others tells = cc
failed None None None files name wrote others tells = tt

-- the same, with the name as it was handed over
pub wrote_but : (before now after : Held) (files : List File) (name passed : Name) → passed ≡ name → Wrote before files now
    → OthersStay now after passed → is_some after ≡ is_some now → WroteBut name before files after
wrote_but before now after files name passed name_is wrote others tells =
    failed before now after files name wrote (rw (← name_is) others) tells

-- one more element
pub map_more : {A B : Type 0} (f : A → B) (xs : List A) (i : ℕ) (x : A) → i < length xs → x ≡ get_or xs i x
    → map f (take (i + 1) xs) ≡ map f (take i xs) ++ f x ∷ []
map_more f xs i x inside is = ap (map f) (take_more xs i x inside) ∙ map-append f (take i xs) (get_or xs i x ∷ []) ∙ ap (λ y. map f (take i xs) ++ f y ∷ []) (sym is)

-- the elements before a place, and those from it on
pub map_parts : {A B : Type 0} (f : A → B) (xs : List A) (i : ℕ)
    → map f xs ≡ map f (take i xs) ++ map f (drop i xs)
map_parts f xs i = ap (map f) (sym (take-append-drop i xs)) ∙ map-append f (take i xs) (drop i xs)

-- the elements before a place, the one at it, and those after it
pub map_split : {A B : Type 0} (f : A → B) (xs : List A) (i : ℕ) (x : A) → i < length xs → x ≡ get_or xs i x
    → map f xs ≡ map f (take i xs) ++ f x ∷ map f (drop (i + 1) xs)
map_split f xs i x inside is = map_parts f xs i ∙ ap (λ ys. map f (take i xs) ++ map f ys) (drop_one i xs x inside is)
  where
    drop_one : {A : Type 0} (i : ℕ) (xs : List A) (x : A) → i < length xs → x ≡ get_or xs i x → drop i xs ≡ x ∷ drop (i + 1) xs
    drop_one i xs x inside is = rw add-one (drop-cons xs i x inside ∙ ap (λ y. y ∷ drop (suc i) xs) (sym is))
