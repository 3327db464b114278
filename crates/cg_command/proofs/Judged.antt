-- What the words say is what the texts of `clap`'s rows say, judged.
use Rattle.std.proofs.Common.{◌≡◌, suc, ℕ, List, [], ◌∷◌, ◌++◌, length, nat_le, Bool, true, false, ◌&&◌, cond, Option, Some, None, String, Global, string_bytes, map, codes, option_map, option_and_then, ap, ap₂, subst, sym, refl, ◌∙◌}
use Rattle.std.specs.List.{list_all, AllByRecursion}
use Rattle.std.specs.Str.{bytes_eq}
use Rattle.std.proofs.lemmas.Slice.Eq.{bytes_eq-Decides}
use Rattle.std.proofs.lemmas.Option.{same_Some}
use Rattle.clap.specs.Lexer.{long_of, short_of}
use Rattle.clap.specs.Words.{Kinds, Row, HasKind, kind_of, fault_of, matches_of}
use Rattle.clap.specs.declared.error.Error.{Error}
use Rattle.clap.specs.declared.error.kind.ErrorKind.TheVariants as kind
use Rattle.cg_command.specs.Words.{Text, Part, plain, named, flag, Given, Arguments, options, flags, is_file, plain_words, values_of, times_of, given_values, given_by, flag_given, flags_by, are_given_once, arguments_by, arguments_of}
use Rattle.cg_command.specs.Matches.{row_texts, row_times, has_file, judged, arguments_in_rows, words_app}
use Rattle.cg_command.proofs.Uses.{before, is_dashes, ids, known, flag_said, option_said, word_said, value_said, uses}
use Rattle.cg_command.proofs.Parts.{are_files, checked, Checked, parts-uses, left_true}
use Rattle.cg_command.proofs.Walk.{known-true, same-text, texts_for, texts-made, made, run, run-none, unless, taken, strings-refuse, refused-unless}

-- ---- the names that are read are those of options and of flags

abbrev IsOption : Text → Type 0
IsOption name = known options name ≡ Some name

abbrev IsFlag : Text → Type 0
IsFlag name = known flags name ≡ Some name

abbrev AllNamed : List Part → Type 0
AllNamed [] = Unit {0}
AllNamed (plain word ∷ parts) = AllNamed parts
AllNamed (named name value ∷ parts) = IsOption name × AllNamed parts
AllNamed (flag name ∷ parts) = IsFlag name × AllNamed parts

abbrev Names : Option (List Part) → Type 0
Names None = Unit {0}
Names (Some parts) = AllNamed parts

abbrev Waits : Option Text → Type 0
Waits None = Unit {0}
Waits (Some name) = IsOption name

names-plain : (word : Text) (read : Option (List Part)) → Names read → Names (before (plain word) read)
names-plain word None h = tt
names-plain word (Some parts) h = h

names-named : (name value : Text) (read : Option (List Part)) → IsOption name → Names read → Names (before (named name value) read)
names-named name value None is h = tt
names-named name value (Some parts) is h = (is, h)

names-of-flag : (name : Text) (read : Option (List Part)) → IsFlag name → Names read → Names (before (flag name) read)
names-of-flag name None is h = tt
names-of-flag name (Some parts) is h = (is, h)

known-self : (ps : List Text) (name o : Text) → known ps name ≡ Some o → known ps o ≡ Some o
known-self ps name o found = ap (known ps) ((bytes_eq-Decides o name).0 (known-true ps name o found)) ∙ found

names-flag : (words : List Text) (found value : Option Text) → ((f : Text) → found ≡ Some f → IsFlag f) → Names (uses ids false None words) → Names (flag_said found value (uses ids false None words))
names-flag words None value is more = tt
names-flag words (Some f) (Some value) is more = tt
names-flag words (Some f) None is more = names-of-flag f (uses ids false None words) (is f refl) more

names-option : (words : List Text) (found other value : Option Text) → ((o : Text) → found ≡ Some o → IsOption o) → ((f : Text) → other ≡ Some f → IsFlag f)
    → Names (uses ids false None words) → ((name : Text) → IsOption name → Names (uses ids false (Some name) words))
    → Names (option_said found other value (uses ids false None words) (λ o. uses ids false (Some o) words))
names-option words None other value is flag_is more waiting = names-flag words other value flag_is more
names-option words (Some o) other (Some value) is flag_is more waiting = names-named o value (uses ids false None words) (is o refl) more
names-option words (Some o) other None is flag_is more waiting = waiting o (is o refl)

names-word : (word : Text) (words : List Text) (d : Bool) (long : Option (Text × Option Text)) (short : Option Text)
    → Names (uses ids true None words) → Names (uses ids false None words) → ((name : Text) → IsOption name → Names (uses ids false (Some name) words))
    → Names (cond d (uses ids true None words) (word_said ids long short word (uses ids false None words) (λ o. uses ids false (Some o) words)))
names-word word words true long short ended more waiting = ended
names-word word words false (Some p) short ended more waiting = names-option words (known options p.0) (known flags p.0) p.1 (λ o is. known-self options p.0 o is) (λ f is. known-self flags p.0 f is) more waiting
names-word word words false None (Some f) ended more waiting = tt
names-word word words false None None ended more waiting = names-plain word (uses ids false None words) more

names-value : (name word : Text) (words : List Text) (d : Bool) (long : Option (Text × Option Text)) (short : Option Text) → IsOption name
    → Names (uses ids false None words) → Names (cond d None (value_said name long short word (uses ids false None words)))
names-value name word words true long short is more = tt
names-value name word words false (Some p) short is more = tt
names-value name word words false None (Some f) is more = tt
names-value name word words false None None is more = names-named name word (uses ids false None words) is more

names-ended : (words : List Text) → Names (uses ids true None words)
names-ended [] = tt
names-ended (word ∷ words) = names-plain word (uses ids true None words) (names-ended words)

names-uses : (waiting : Option Text) (words : List Text) → Waits waiting → Names (uses ids false waiting words)
names-uses None [] is = tt
names-uses (Some name) [] is = tt
names-uses (Some name) (word ∷ words) is = names-value name word words (is_dashes word) (long_of word) (short_of word) is (names-uses None words tt)
names-uses None (word ∷ words) is =
    names-word word words (is_dashes word) (long_of word) (short_of word) (names-ended words) (names-uses None words tt) (λ name known_one. names-uses (Some name) words known_one)

-- ---- the texts of the parts

-- a name of one list isn't what the list doesn't have
apart-from : (ps : List Text) (id name : Text) → known ps id ≡ None → known ps name ≡ Some name → bytes_eq name id ≡ false
apart-from ps id name none is = by (bytes_eq name id) (λ same. sym none ∙ ap (known ps) (sym ((bytes_eq-Decides name id).0 same)) ∙ is)
  where
    by : (b : Bool) → (b ≡ true → None ≡ Some name) → b ≡ false
    by true h = let bad : None ≡ Some name = h refl in cc
    by false h = refl

texts-words : (parts : List Part) → AllNamed parts → texts_for (codes "words") parts ≡ plain_words parts
texts-words [] all = refl
texts-words (plain word ∷ parts) all = ap (λ ts. word ∷ ts) (texts-words parts all)
texts-words (named name value ∷ parts) all =
    ap (λ b. cond b (value ∷ texts_for (codes "words") parts) (texts_for (codes "words") parts)) (apart-from options (codes "words") name refl all.0) ∙ texts-words parts all.1
texts-words (flag name ∷ parts) all =
    ap (λ b. cond b (codes "true" ∷ texts_for (codes "words") parts) (texts_for (codes "words") parts)) (apart-from flags (codes "words") name refl all.0) ∙ texts-words parts all.1

texts-values : (id : Text) → bytes_eq (codes "words") id ≡ false → known flags id ≡ None → (parts : List Part) → AllNamed parts → texts_for id parts ≡ values_of id parts
texts-values id other none [] all = refl
texts-values id other none (plain word ∷ parts) all = ap (λ b. cond b (word ∷ texts_for id parts) (texts_for id parts)) other ∙ texts-values id other none parts all
texts-values id other none (named name value ∷ parts) all = ap (λ ts. cond (bytes_eq name id) (value ∷ ts) ts) (texts-values id other none parts all.1)
texts-values id other none (flag name ∷ parts) all =
    ap (λ b. cond b (codes "true" ∷ texts_for id parts) (texts_for id parts)) (apart-from flags id name none all.0) ∙ texts-values id other none parts all.1

texts-times : (id : Text) → bytes_eq (codes "words") id ≡ false → known options id ≡ None → (parts : List Part) → AllNamed parts → length (texts_for id parts) ≡ times_of id parts
texts-times id other none [] all = refl
texts-times id other none (plain word ∷ parts) all = ap (λ b. length (cond b (word ∷ texts_for id parts) (texts_for id parts))) other ∙ texts-times id other none parts all
texts-times id other none (named name value ∷ parts) all =
    ap (λ b. length (cond b (value ∷ texts_for id parts) (texts_for id parts))) (apart-from options id name none all.0) ∙ texts-times id other none parts all.1
texts-times id other none (flag name ∷ parts) all = by (bytes_eq name id) (texts-times id other none parts all.1)
  where
    by : (b : Bool) → length (texts_for id parts) ≡ times_of id parts → length (cond b (codes "true" ∷ texts_for id parts) (texts_for id parts)) ≡ cond b (suc (times_of id parts)) (times_of id parts)
    by true e = ap suc e
    by false e = e

-- ---- where each text could name a file

right_true : (a b : Bool) → (a && b) ≡ true → b ≡ true
right_true true b is = is
right_true false b is = cc

both_true : (a b : Bool) → a ≡ true → b ≡ true → (a && b) ≡ true
both_true a b e f = ap (λ x. x && b) e ∙ f

files-words : (parts : List Part) → are_files parts ≡ true → list_all is_file (plain_words parts) ≡ true
files-words [] is = refl
files-words (plain word ∷ parts) is = both_true _ _ (left_true _ _ is) (files-words parts (right_true (is_file word) (are_files parts) is))
files-words (named name value ∷ parts) is = files-words parts (right_true (is_file value) (are_files parts) is)
files-words (flag name ∷ parts) is = files-words parts is

files-values : (id : Text) (parts : List Part) → are_files parts ≡ true → list_all is_file (values_of id parts) ≡ true
files-values id [] is = refl
files-values id (plain word ∷ parts) is = files-values id parts (right_true (is_file word) (are_files parts) is)
files-values id (named name value ∷ parts) is =
    by (bytes_eq name id) (left_true (is_file value) (are_files parts) is) (files-values id parts (right_true (is_file value) (are_files parts) is))
  where
    by : (b : Bool) → is_file value ≡ true → list_all is_file (values_of id parts) ≡ true → list_all is_file (cond b (value ∷ values_of id parts) (values_of id parts)) ≡ true
    by true e f = both_true _ _ e f
    by false e f = f
files-values id (flag name ∷ parts) is = files-values id parts is

all-files : (parts : List Part) → AllNamed parts → list_all is_file (plain_words parts) ≡ true
    → ((name : Text) → IsOption name → list_all is_file (values_of name parts) ≡ true) → are_files parts ≡ true
all-files [] all words values = refl
all-files (plain word ∷ parts) all words values = both_true _ _ (left_true _ _ words) (all-files parts all (right_true (is_file word) (list_all is_file (plain_words parts)) words) values)
all-files (named name value ∷ parts) all words values =
    both_true _ _ first (all-files parts all.1 words (λ o is. later (bytes_eq name o) o (values o is)))
  where
    first : is_file value ≡ true
    first = left_true _ _ (sym (ap (λ b. list_all is_file (cond b (value ∷ values_of name parts) (values_of name parts))) (same-text name)) ∙ values name all.0)

    later : (b : Bool) (o : Text) → list_all is_file (cond b (value ∷ values_of o parts) (values_of o parts)) ≡ true → list_all is_file (values_of o parts) ≡ true
    later true o h = right_true (is_file value) (list_all is_file (values_of o parts)) h
    later false o h = h
all-files (flag name ∷ parts) all words values = all-files parts all.1 words values

every : (P : Text → Type 0) (os : List Text) → AllByRecursion P os → (name o : Text) → known os name ≡ Some o → P o
every P [] all name o is = cc
every P (p ∷ os) all name o is = by (bytes_eq p name) (every P os all.1 name o) is
  where
    by : (b : Bool) → (known os name ≡ Some o → P o) → cond b (Some p) (known os name) ≡ Some o → P o
    by true more s = subst P (same_Some p o s) all.0
    by false more s = more s

-- ---- all that is said

files-append : {T : Type 0} (p : T → Bool) (xs ys : List T) → list_all p (xs ++ ys) ≡ (list_all p xs && list_all p ys)
files-append p [] ys = refl
files-append p (x ∷ xs) ys = by (p x) (files-append p xs ys)
  where
    by : (b : Bool) → list_all p (xs ++ ys) ≡ (list_all p xs && list_all p ys) → (b && list_all p (xs ++ ys)) ≡ ((b && list_all p xs) && list_all p ys)
    by true h = h
    by false h = refl

given-values : (name : Text) (values : List Text) → list_all has_file (given_values name values) ≡ list_all is_file values
given-values name [] = refl
given-values name (value ∷ values) = ap (λ b. is_file value && b) (given-values name values)

given-files : (f : Text → List Text) (names : List Text) → list_all has_file (given_by f names) ≡ list_all (λ name. list_all is_file (f name)) names
given-files f [] = refl
given-files f (name ∷ names) =
    files-append has_file (given_values name (f name)) (given_by f names)
    ∙ ap (λ b. b && list_all has_file (given_by f names)) (given-values name (f name))
    ∙ ap (λ b. list_all is_file (f name) && b) (given-files f names)

given-same : (f g : Text → List Text) (names : List Text) → AllByRecursion (λ name. f name ≡ g name) names → given_by f names ≡ given_by g names
given-same f g [] all = refl
given-same f g (name ∷ names) all =
    ap (λ values. given_values name values ++ given_by f names) all.0
    ∙ ap (λ rest. given_values name (g name) ++ rest) (given-same f g names all.1)

all-true : (p : Text → Bool) (names : List Text) → ((name : Text) → p name ≡ true) → list_all p names ≡ true
all-true p [] h = refl
all-true p (name ∷ names) h = both_true _ _ (h name) (all-true p names h)

each-true : (p : Text → Bool) (names : List Text) → list_all p names ≡ true → AllByRecursion (λ name. p name ≡ true) names
each-true p [] h = tt
each-true p (name ∷ names) h = (left_true _ _ h, each-true p names (right_true (p name) (list_all p names) h))

abbrev once : List Part → Bool
once parts = are_given_once (λ name. times_of name parts)

-- the arguments of the parts, where no flag is given twice
abbrev said_by : List Part → Arguments
said_by parts = record {
  words = plain_words parts;
  options = given_by (λ name. values_of name parts) options;
  flags = flags_by (λ name. times_of name parts) flags;
}

abbrev judged_parts : List Part → Option Arguments
judged_parts parts = judged (plain_words parts) (given_by (λ name. values_of name parts) options) (flags_by (λ name. times_of name parts) flags)

judged-parts : (parts : List Part) → AllNamed parts → judged_parts parts ≡ option_map said_by (checked parts)
judged-parts parts all = by (are_files parts) refl
  where
    said : Arguments
    said = said_by parts

    by : (b : Bool) → are_files parts ≡ b → judged_parts parts ≡ option_map said_by (cond b (Some parts) None)
    by true e =
        let values = given-files (λ name. values_of name parts) options ∙ all-true (λ name. list_all is_file (values_of name parts)) options (λ name. files-values name parts e) in
        ap (λ b. cond b (Some said) None) (both_true (list_all is_file (plain_words parts)) (list_all has_file (given_by (λ name. values_of name parts) options)) (files-words parts e) values)
    by false e = unsaid (list_all is_file (plain_words parts)) (list_all has_file (given_by (λ name. values_of name parts) options)) refl refl
      where
        unsaid : (x y : Bool) → list_all is_file (plain_words parts) ≡ x → list_all has_file (given_by (λ name. values_of name parts) options) ≡ y → cond (x && y) (Some said) None ≡ None
        unsaid false y words values = refl
        unsaid true false words values = refl
        unsaid true true words values =
            let P : Text → Type 0 = λ name. list_all is_file (values_of name parts) ≡ true in
            let each : AllByRecursion P options = each-true (λ name. list_all is_file (values_of name parts)) options (sym (given-files (λ name. values_of name parts) options) ∙ values) in
            let bad : false ≡ true = sym e ∙ all-files parts all words (λ name is. every P options each name name is) in cc

judged-once : (parts : List Part) → AllNamed parts → cond (once parts) (judged_parts parts) None ≡ option_and_then arguments_by (checked parts)
judged-once parts all = ap (λ (o : Option Arguments). cond (once parts) o None) (judged-parts parts all) ∙ by (are_files parts)
  where
    nothing : (b : Bool) → cond b None None ≡ (let n : Option Arguments = None in n)
    nothing true = refl
    nothing false = refl

    by : (c : Bool) → cond (once parts) (option_map said_by (cond c (Some parts) None)) None ≡ option_and_then arguments_by (cond c (Some parts) None)
    by true = refl
    by false = nothing (once parts)

abbrev cond_once : ℕ → ℕ → Option Arguments → Option Arguments
cond_once copies share said = cond (nat_le copies 1 && (nat_le share 1 && true)) said None

rows-parts : (parts : List Part) → AllNamed parts → arguments_in_rows (made [] parts) ≡ option_and_then arguments_by (checked parts)
unfolding arguments_in_rows
rows-parts parts all =
    let rows = made [] parts in
    let words_are : row_texts (codes "words") rows ≡ plain_words parts = texts-made (codes "words") parts ∙ texts-words parts all in
    let values_are : (id : Text) → bytes_eq (codes "words") id ≡ false → known flags id ≡ None → row_texts id rows ≡ values_of id parts = λ id other none. texts-made id parts ∙ texts-values id other none parts all in
    let times_are : (id : Text) → bytes_eq (codes "words") id ≡ false → known options id ≡ None → row_times id rows ≡ times_of id parts = λ id other none. ap length (texts-made id parts) ∙ texts-times id other none parts all in
    let given : List Given = given_by (λ name. row_texts name rows) options in
    ap₂ (λ (a b : ℕ). cond_once a b (judged (row_texts (codes "words") rows) given (flag_given (codes "copies") a ++ (flag_given (codes "share") b ++ [])))) (times_are (codes "copies") refl refl) (times_are (codes "share") refl refl)
    ∙ ap (λ ts. cond (once parts) (judged ts given (flags_by (λ name. times_of name parts) flags)) None) words_are
    ∙ ap (λ (gs : List Given). cond (once parts) (judged (plain_words parts) gs (flags_by (λ name. times_of name parts) flags)) None) (given-same (λ name. row_texts name rows) (λ name. values_of name parts) options
    (values_are (codes "ii") refl refl, (values_are (codes "seed") refl refl, (values_are (codes "moves") refl refl, (values_are (codes "mapping") refl refl, (values_are (codes "netlist") refl refl, tt))))))
    ∙ judged-once parts all

abbrev in_rows : Option (List Part) → Option Arguments
in_rows read = option_and_then (λ parts. arguments_in_rows (made [] parts)) read

arguments-uses : (words : List Text) → arguments_of words ≡ in_rows (uses ids false None words)
unfolding arguments_of
arguments-uses words = ap (option_and_then arguments_by) (parts-uses None words) ∙ by (uses ids false None words) (names-uses None words tt)
  where
    by : (read : Option (List Part)) → Names read → option_and_then arguments_by (Checked read) ≡ in_rows read
    by None h = refl
    by (Some parts) h = sym (rows-parts parts h)

-- what is said where `clap` takes the words
pub arguments-rows : (vs : List (String Global)) (rows : List Row) → fault_of words_app (map string_bytes vs) ≡ [] → rows ≡ matches_of words_app (map string_bytes vs)
    → arguments_of (map string_bytes vs) ≡ arguments_in_rows rows
unfolding words_app
arguments-rows vs rows none is =
    let words = map string_bytes vs in
    arguments-uses words
    ∙ by (uses ids false None words) (ap (λ (ks : Kinds). unless ks (Some (matches_of words_app words))) (sym none) ∙ taken ids words refl (strings-refuse ids vs))
  where
    by : (read : Option (List Part)) → Some (matches_of words_app (map string_bytes vs)) ≡ option_and_then (λ more. run [] more) read → in_rows read ≡ arguments_in_rows rows
    by None h = cc
    by (Some parts) h = ap arguments_in_rows (sym (is ∙ same_Some _ _ (h ∙ run-none parts)))

-- nothing is said where `clap` refuses the words
pub arguments-refused : (vs : List (String Global)) (e : Error) → HasKind (fault_of words_app (map string_bytes vs)) e → (kind_of e ≡ kind.OutOfMemory → ⊥) → arguments_of (map string_bytes vs) ≡ None
unfolding words_app
arguments-refused vs e has other =
    let words = map string_bytes vs in
    arguments-uses words
    ∙ by (uses ids false None words) (sym (taken ids words refl (strings-refuse ids vs)) ∙ refused-unless (fault_of words_app words) (matches_of words_app words) e has other)
  where
    by : (read : Option (List Part)) → option_and_then (λ more. run [] more) read ≡ None → in_rows read ≡ None
    by None h = refl
    by (Some parts) h = let bad : Some (made [] parts) ≡ None = sym (run-none parts) ∙ h in cc
