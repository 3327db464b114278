-- The parts of the words are what `clap` reads, where each text could name a file.
use Rattle.std.proofs.Common.{◌≡◌, ℕ, List, [], ◌∷◌, Bool, true, false, not, ◌&&◌, cond, Option, Some, None, ◌==◌, option_map, option_and_then, ap, sym, refl, ◌∙◌}
use Rattle.std.specs.List.{list_all}
use Rattle.std.specs.Str.{bytes_eq}
use Rattle.clap.specs.Lexer.{strip_byte, long_of, long_of_rest, short_of, short_of_rest}
use Rattle.cg_command.specs.Words.{Text, Part, plain, named, flag, is_allowed, and_then, option_named, flag_named, is_option, name_in, value_in, flag_parts, option_parts, plain_parts, parts_of, is_file}
use Rattle.cg_command.proofs.Uses.{before, is_dashes, ids, flag_said, option_said, word_said, value_said, uses}

abbrev pub are_files : List Part → Bool
are_files parts = list_all is_allowed parts

-- the parts, where each text could name a file
abbrev pub checked : List Part → Option (List Part)
checked parts = cond (are_files parts) (Some parts) None

abbrev pub Checked : Option (List Part) → Option (List Part)
Checked read = option_and_then checked read

none_before : (part : Part) (b : Bool) → cond b (option_map (λ parts. part ∷ parts) None) None ≡ before part None
none_before part true = refl
none_before part false = refl

checked-before : (part : Part) (read : Option (List Part)) → Checked (before part read) ≡ and_then part (Checked read)
checked-before part None = sym (none_before part (is_allowed part))
checked-before part (Some parts) = by (is_allowed part) (are_files parts)
  where
    by : (b c : Bool) → cond (b && c) (Some (part ∷ parts)) None ≡ cond b (option_map (λ more. part ∷ more) (cond c (Some parts) None)) None
    by true true = refl
    by true false = refl
    by false c = refl

plain-uses : (words : List Text) → plain_parts words ≡ Checked (uses ids true None words)
plain-uses [] = refl
plain-uses (word ∷ words) = ap (and_then (plain word)) (plain-uses words) ∙ sym (checked-before (plain word) (uses ids true None words))

-- ---- a word that begins with `-`

-- a part whose text begins with `-` is refused
refused-part : (part : Part) (rest : Option (List Part)) → is_allowed part ≡ false → and_then part rest ≡ None
refused-part part rest is = ap (λ b. cond b (option_map (λ parts. part ∷ parts) rest) None) is

not_file : (b : ℕ) → (b == 45) ≡ true → not (b == 45) ≡ false
not_file b is = ap not is

pub left_true : (a b : Bool) → (a && b) ≡ true → a ≡ true
left_true true b is = refl
left_true false b is = cc

dashes-refused : (word : Text) → is_dashes word ≡ true → is_file word ≡ false
dashes-refused [] is = refl
dashes-refused (b ∷ bs) is = not_file b (left_true (b == 45) _ is)

some_if : {X Y : Type 0} (b : Bool) (x : X) (f : X → Option Y) (y : Y) → option_and_then f (cond b (Some x) None) ≡ Some y → b ≡ true
some_if true x f y is = refl
some_if false x f y is = cc

long-refused : (word : Text) (p : Text × Option Text) → long_of word ≡ Some p → is_file word ≡ false
long-refused [] p is = refl
long-refused (b ∷ bs) p is = not_file b (by (b == 45) is)
  where
    by : (d : Bool) → option_and_then long_of_rest (option_and_then (strip_byte 45) (cond d (Some bs) None)) ≡ Some p → d ≡ true
    by true s = refl
    by false s = cc

short-refused : (word : Text) (f : Text) → short_of word ≡ Some f → is_file word ≡ false
short-refused [] f is = refl
short-refused (b ∷ bs) f is = not_file b (some_if (b == 45) bs short_of_rest f is)

-- ---- `--name` and `--name=value`

long-is : (word : Text) → is_dashes word ≡ false → long_of word ≡ cond (is_option word) (Some (name_in word, value_in word)) None
long-is [] other = refl
long-is (b ∷ []) other = by (b == 45)
  where
    by : (d : Bool) → option_and_then long_of_rest (option_and_then (strip_byte 45) (cond d (Some []) None)) ≡ cond (d && false) (Some (name_in (b ∷ []), value_in (b ∷ []))) None
    by true = refl
    by false = refl
long-is (b ∷ c ∷ bs) other = by (b == 45) other
  where
    behind : (e : Bool) (rest : Text) → (e && bytes_eq rest []) ≡ false
        → option_and_then long_of_rest (cond e (Some rest) None) ≡ cond (e && true) (Some (name_in (b ∷ c ∷ rest), value_in (b ∷ c ∷ rest))) None
    behind true [] n = cc
    behind true (x ∷ xs) n = refl
    behind false rest n = refl

    by : (d : Bool) → (d && ((c == 45) && bytes_eq bs [])) ≡ false
        → option_and_then long_of_rest (option_and_then (strip_byte 45) (cond d (Some (c ∷ bs)) None)) ≡ cond (d && ((c == 45) && true)) (Some (name_in (b ∷ c ∷ bs), value_in (b ∷ c ∷ bs))) None
    by true n = behind (c == 45) bs n
    by false n = refl

-- ---- a word where options may stand

value-word : (name word : Text) (words : List Text) (d : Bool) (long : Option (Text × Option Text)) (flags : Option Text) → (d ≡ true → is_file word ≡ false)
    → ((p : Text × Option Text) → long ≡ Some p → is_file word ≡ false) → ((f : Text) → flags ≡ Some f → is_file word ≡ false)
    → parts_of None words ≡ Checked (uses ids false None words)
    → and_then (named name word) (parts_of None words) ≡ Checked (cond d None (value_said name long flags word (uses ids false None words)))
value-word name word words true long flags h i j more = refused-part (named name word) _ (h refl)
value-word name word words false (Some p) flags h i j more = refused-part (named name word) _ (i p refl)
value-word name word words false None (Some f) h i j more = refused-part (named name word) _ (j f refl)
value-word name word words false None None h i j more = ap (and_then (named name word)) more ∙ sym (checked-before (named name word) (uses ids false None words))

plain-word : (word : Text) (words : List Text) (flags : Option Text) → ((f : Text) → flags ≡ Some f → is_file word ≡ false)
    → parts_of None words ≡ Checked (uses ids false None words)
    → and_then (plain word) (parts_of None words) ≡ Checked (word_said ids None flags word (uses ids false None words) (λ o. uses ids false (Some o) words))
plain-word word words (Some f) j more = refused-part (plain word) _ (j f refl)
plain-word word words None j more = ap (and_then (plain word)) more ∙ sym (checked-before (plain word) (uses ids false None words))

flag-word : (words : List Text) (found value : Option Text) → parts_of None words ≡ Checked (uses ids false None words)
    → flag_parts found value (parts_of None words) ≡ Checked (flag_said found value (uses ids false None words))
flag-word words None value more = refl
flag-word words (Some name) (Some value) more = refl
flag-word words (Some name) None more = ap (and_then (flag name)) more ∙ sym (checked-before (flag name) (uses ids false None words))

option-word : (words : List Text) (found other value : Option Text) → parts_of None words ≡ Checked (uses ids false None words)
    → ((name : Text) → parts_of (Some name) words ≡ Checked (uses ids false (Some name) words))
    → option_parts found other value (parts_of None words) (λ name. parts_of (Some name) words)
    ≡ Checked (option_said found other value (uses ids false None words) (λ o. uses ids false (Some o) words))
option-word words None other value more waiting = flag-word words other value more
option-word words (Some name) other (Some value) more waiting = ap (and_then (named name value)) more ∙ sym (checked-before (named name value) (uses ids false None words))
option-word words (Some name) other None more waiting = waiting name

abbrev word_parts : Text → List Text → Bool → Option (List Part)
word_parts word words s =
    cond s (option_parts (option_named (name_in word)) (flag_named (name_in word)) (value_in word) (parts_of None words) (λ name. parts_of (Some name) words)) (and_then (plain word) (parts_of None words))

any-word : (word : Text) (words : List Text) (d : Bool) → is_dashes word ≡ d → parts_of None words ≡ Checked (uses ids false None words)
    → ((name : Text) → parts_of (Some name) words ≡ Checked (uses ids false (Some name) words))
    → cond d (plain_parts words) (word_parts word words (is_option word))
    ≡ Checked (cond d (uses ids true None words) (word_said ids (long_of word) (short_of word) word (uses ids false None words) (λ o. uses ids false (Some o) words)))
any-word word words true e more waiting = plain-uses words
any-word word words false e more waiting =
    by (is_option word)
    ∙ sym (ap (λ (long : Option (Text × Option Text)). Checked (word_said ids long (short_of word) word (uses ids false None words) (λ o. uses ids false (Some o) words))) (long-is word e))
  where
    by : (s : Bool) → word_parts word words s
        ≡ Checked (word_said ids (cond s (Some (name_in word, value_in word)) None) (short_of word) word (uses ids false None words) (λ o. uses ids false (Some o) words))
    by true = option-word words (option_named (name_in word)) (flag_named (name_in word)) (value_in word) more waiting
    by false = plain-word word words (short_of word) (short-refused word) more

pub parts-uses : (waiting : Option Text) (words : List Text) → parts_of waiting words ≡ Checked (uses ids false waiting words)
parts-uses None [] = refl
parts-uses (Some name) [] = refl
parts-uses (Some name) (word ∷ words) =
    value-word name word words (is_dashes word) (long_of word) (short_of word) (dashes-refused word) (long-refused word) (short-refused word) (parts-uses None words)
parts-uses None (word ∷ words) = any-word word words (is_dashes word) refl (parts-uses None words) (λ name. parts-uses (Some name) words)
