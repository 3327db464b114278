-- The walk of `clap` over the words reads them so.
use Rattle.std.proofs.Common.{◌≡◌, ℕ, List, [], ◌∷◌, ◌++◌, Bool, true, false, not, ◌&&◌, ◌||◌, cond, Option, Some, None, is_some, String, Global, string_bytes, inl, inr, append-nil, append_assoc, if◌then◌else◌, nat_lt, ◌<◌, ◌==◌, arith, length, slice_get, get_or, IsUtf8, drop, find, map, fold, codes, option_map, option_and_then, unwrap_or, ap, ap₂, sym, refl, ◌∙◌}
use Rattle.std.specs.Option.{option_map_or}
use Rattle.std.specs.List.{list_any}
use Rattle.clap.specs.Takes.{is_given}
use Rattle.std.specs.List.{AllByRecursion}
use Rattle.std.specs.Str.{bytes_eq, chars}
use Rattle.std.specs.Char.{encode_utf8}
use Rattle.std.proofs.lemmas.Option.{same_Some, option_and_then_some, cond_some}
use Rattle.std.proofs.lemmas.Bool.Decides.{nat_tests}
use Rattle.std.proofs.lemmas.Str.{encodes-chars, IsUtf8-string_bytes, IsUtf8-drop, IsCharBoundary-after_ascii}
use lib.Utf8.{encodes}
use Rattle.std.proofs.lemmas.Slice.Eq.{bytes_eq-Decides}
use Rattle.clap.specs.Lexer.{long_of, short_of, short_of_rest}
use Rattle.clap.specs.Words.{raw_values, matched_of, rows_of, HasKind, kind_of, App, Kinds, Row, Rule, Text, built, fault_of, matches_of}
use Rattle.clap.specs.Kinds.{check_kinds, or_else}
use Rattle.clap.specs.declared.builder.value_parser.Reading.{Reading}
use Rattle.clap.specs.declared.parser.matches.ValueSource.TheVariants.{CommandLine}
use Rattle.clap.specs.declared.parser.matches.Found.{Found}
use Rattle.clap.proofs.WalkLemmas.{raw_values-rows}
use Rattle.clap.specs.declared.error.Error.{Error}
use Rattle.clap.specs.declared.error.kind.ErrorKind.{ErrorKind}
use Rattle.clap.specs.declared.error.kind.ErrorKind.TheVariants as kind
use Rattle.clap.specs.Simple.{Shape, new_shape, entered, names_of, filled, filled_from, with_index}
use Rattle.clap.specs.Walk.{Held, reading_by, stronger, with_values, nothing_held, rows_after, walk, has_row, with_default, after_flag, long_met, next, option_word, Step, Waiting, idle, option, positional, Walk, after_step, arg_by_id, arg_by_long, arg_by_short, long_or_other, short_or_plain, settled, trailing, used, used_by_id, pushed, is_pending, walked, long_word, short_word, plain_word}
use Rattle.clap.specs.Faults.{bundle_fault, bundle_step_fault, flags_fault, short_fault, built_fault, check_fault, entered_fault, level_fault, defaults_fault, given_default_fault, flag_word_fault, long_fault, settle_fault, step_fault, turn_fault, use_fault, walk_fault}
use Rattle.cg_command.specs.Words.{Part, plain, named, flag}
use Rattle.cg_command.specs.Matches.{words_rule, named_rule, flag_rule, asked_app, row_texts}
use Rattle.cg_command.proofs.Uses.{Ids, before, is_dashes, known, option_said, word_said, value_said, uses}
use Rattle.cg_model.proofs.Bools.{or_true, and_false}

abbrev pub words' : Rule
words' = with_index 1 (filled words_rule)

abbrev pub named' : Text → Rule
named' o = filled (named_rule o)

abbrev pub flag' : Text → Rule
flag' f = filled (flag_rule f)

-- the rules after the positional's
abbrev after_words : List Text → List Text → List Rule
after_words os fs = map named' os ++ map flag' fs

abbrev rules : Ids → List Rule
rules os = words' ∷ after_words os.options os.flags

abbrev shape : Ids → Shape
shape os = record (new_shape (codes "cgra")) { rules = rules os; no_binary_name = true; disable_help_flag = true; disable_help_subcommand = true; is_built = true }

filled-flags : (fs : List Text) → filled_from 2 (map flag_rule fs) ≡ map flag' fs
filled-flags [] = refl
filled-flags (f ∷ fs) = ap (λ rs. flag' f ∷ rs) (filled-flags fs)

filled-named : (os fs : List Text) → filled_from 2 (map named_rule os ++ map flag_rule fs) ≡ after_words os fs
filled-named [] fs = filled-flags fs
filled-named (o ∷ os) fs = ap (λ rs. named' o ∷ rs) (filled-named os fs)

built-asked : (os : Ids) → built (asked_app os.options os.flags) ≡ (let a : App = record { top = shape os; subs = [] } in a)
built-asked os = ap (λ rs. let a : App = record { top = record (shape os) { rules = words' ∷ rs }; subs = [] } in a) (filled-named os.options os.flags)

-- the rule of the option, or that of the flag
abbrev rule_said : Option Text → Option Text → Option Rule
rule_said (Some o) other = Some (named' o)
rule_said None other = option_map flag' other

find-flag : (fs : List Text) (name : Text) → arg_by_long (map flag' fs) name ≡ option_map flag' (known fs name)
find-flag [] name = refl
find-flag (f ∷ fs) name = by (bytes_eq f name) (find-flag fs name)
  where
    by : (b : Bool) → arg_by_long (map flag' fs) name ≡ option_map flag' (known fs name) → cond (b || false) (Some (flag' f)) (arg_by_long (map flag' fs) name) ≡ option_map flag' (cond b (Some f) (known fs name))
    by true e = refl
    by false e = e

find-long : (os : Ids) (name : Text) → arg_by_long (rules os) name ≡ rule_said (known os.options name) (known os.flags name)
find-long os name = go os.options
  where
    go : (ps : List Text) → arg_by_long (after_words ps os.flags) name ≡ rule_said (known ps name) (known os.flags name)
    go [] = find-flag os.flags name
    go (p ∷ ps) = by (bytes_eq p name) (go ps)
      where
        by : (b : Bool) → arg_by_long (after_words ps os.flags) name ≡ rule_said (known ps name) (known os.flags name)
            → cond (b || false) (Some (named' p)) (arg_by_long (after_words ps os.flags) name) ≡ rule_said (cond b (Some p) (known ps name)) (known os.flags name)
        by true e = refl
        by false e = e

find-short : (os : Ids) (x : ℕ) → arg_by_short (rules os) x ≡ None
find-short os x = go os.options
  where
    go_flags : (fs : List Text) → arg_by_short (map flag' fs) x ≡ None
    go_flags [] = refl
    go_flags (f ∷ fs) = go_flags fs

    go : (ps : List Text) → arg_by_short (after_words ps os.flags) x ≡ None
    go [] = go_flags os.flags
    go (p ∷ ps) = go ps

-- ---- the walk, a word at a time

abbrev held : List Row → Option (Text × List Text) → Held
held rows pending = record { rows = rows; pending = pending; skip = 0 }

abbrev at : Held → Waiting → Bool → Walk
at h waiting ended = record { held = h; waiting = waiting; position = 1; is_trailing = ended; stopped = None }

abbrev pub unless : {X : Type 0} → Kinds → Option X → Option X
unless [] o = o
unless (k ∷ ks) o = None

-- the rows at the end, where nothing is refused
abbrev rest : Shape → Walk → List Text → Option (List Row)
rest s w [] = unless (settle_fault s.rules false w.held) (Some (settled s.rules w.held).rows)
rest s w (word ∷ words) = unless (turn_fault s [] w word) (rest s (walked s.rules [] w word) words)

abbrev flag_at : Ids → Held → Option (Text × Option Text) → Option Text → Kinds
flag_at os h (Some p) flags = long_fault (rules os) false (arg_by_long (rules os) p.0) p.1 h
flag_at os h None flags = option_map_or (λ f. bundle_fault (rules os) false f h) flags []

abbrev other_at : Ids → Waiting → Held → Option (Text × Option Text) → Option Text → Text → Held × Step
other_at os waiting h (Some p) flags word = long_word (rules os) waiting word p.0 p.1 h
other_at os waiting h None (Some f) word = short_word (rules os) waiting word f h
other_at os waiting h None None word = plain_word (rules os) waiting word h

abbrev met_at : Ids → Waiting → Held → Bool → Option (Text × Option Text) → Option Text → Text → Held × Step
met_at os waiting h dashes long flags word = cond dashes (h, trailing 1) (other_at os waiting h long flags word)

abbrev fault_at : Ids → Waiting → Held → Bool → Option (Text × Option Text) → Option Text → Text → Kinds
fault_at os waiting h dashes long flags word =
    or_else (cond dashes [] (flag_at os h long flags)) (step_fault (shape os) 1 (met_at os waiting h dashes long flags word).0 (met_at os waiting h dashes long flags word).1)

flag-is : (os : Ids) (h : Held) (word : Text) (long : Option (Text × Option Text)) → flag_word_fault (rules os) false long word h ≡ flag_at os h long (short_of word)
flag-is os h word (Some p) = refl
flag-is os h word None = refl

plain-is : (os : Ids) (waiting : Waiting) (h : Held) (word : Text) (flags : Option Text) → short_or_plain (rules os) waiting word flags h ≡ other_at os waiting h None flags word
plain-is os waiting h word (Some f) = refl
plain-is os waiting h word None = refl

other-is : (os : Ids) (waiting : Waiting) (h : Held) (word : Text) (long : Option (Text × Option Text)) → long_or_other (rules os) waiting word long h ≡ other_at os waiting h long (short_of word) word
other-is os waiting h word (Some p) = refl
other-is os waiting h word None = plain-is os waiting h word (short_of word)

met-is : (os : Ids) (waiting : Waiting) (h : Held) (word : Text)
    → cond (is_dashes word) (h, trailing 1) (long_or_other (rules os) waiting word (long_of word) h) ≡ met_at os waiting h (is_dashes word) (long_of word) (short_of word) word
met-is os waiting h word = ap (λ (m : Held × Step). cond (is_dashes word) (h, trailing 1) m) (other-is os waiting h word (long_of word))

fault-is : (os : Ids) (waiting : Waiting) (h : Held) (word : Text)
    → or_else (cond (is_dashes word) [] (flag_word_fault (rules os) false (long_of word) word h)) (let m = cond (is_dashes word) (h, trailing 1) (long_or_other (rules os) waiting word (long_of word) h) in step_fault (shape os) 1 m.0 m.1)
    ≡ fault_at os waiting h (is_dashes word) (long_of word) (short_of word) word
fault-is os waiting h word =
    ap₂ (λ (f : Kinds) (m : Held × Step). or_else (cond (is_dashes word) [] f) (step_fault (shape os) 1 m.0 m.1)) (flag-is os h word (long_of word)) (met-is os waiting h word)

turn-is : (os : Ids) (waiting : Waiting) (h : Held) (word : Text) → turn_fault (shape os) [] (at h waiting false) word ≡ fault_at os waiting h (is_dashes word) (long_of word) (short_of word) word
turn-is os idle h word = fault-is os idle h word
turn-is os (option o) h word = fault-is os (option o) h word
turn-is os positional h word = fault-is os positional h word

walked-is : (os : Ids) (waiting : Waiting) (h : Held) (word : Text) → walked (rules os) [] (at h waiting false) word
    ≡ (let met = met_at os waiting h (is_dashes word) (long_of word) (short_of word) word in after_step (rules os) word (at h waiting false) met.0 met.1)
unfolding walked
walked-is os idle h word = ap (λ (m : Held × Step). after_step (rules os) word (at h idle false) m.0 m.1) (met-is os idle h word)
walked-is os (option o) h word = ap (λ (m : Held × Step). after_step (rules os) word (at h (option o) false) m.0 m.1) (met-is os (option o) h word)
walked-is os positional h word = ap (λ (m : Held × Step). after_step (rules os) word (at h positional false) m.0 m.1) (met-is os positional h word)

-- ---- uses

abbrev pub run : List Row → List Part → Option (List Row)
run rows [] = Some rows
run rows (plain v ∷ us) = unless (use_fault false words' (v ∷ []) rows) (run (used words' (v ∷ []) rows) us)
run rows (named o v ∷ us) = unless (use_fault false (named' o) (v ∷ []) rows) (run (used (named' o) (v ∷ []) rows) us)
run rows (flag f ∷ us) = unless (use_fault false (flag' f) [] rows) (run (used (flag' f) [] rows) us)

-- a use that the walk has read and not yet made
abbrev pending_of : List Part → Option (Text × List Text)
pending_of [] = None
pending_of (plain v ∷ us) = Some (codes "words", v ∷ [])
pending_of (named o v ∷ us) = Some (o, v ∷ [])
pending_of (flag f ∷ us) = None

abbrev Known : Ids → Text → Type 0
Known os o = (known os.options o ≡ Some o) × (bytes_eq (codes "words") o ≡ false)

abbrev IsPending : Ids → List Part → Type 0
IsPending os [] = Unit {0}
IsPending os (plain v ∷ []) = Unit {0}
IsPending os (named o v ∷ []) = Known os o
IsPending os (flag f ∷ []) = ⊥
IsPending os (u ∷ v ∷ us) = ⊥

find-id : (os : Ids) (o : Text) → Known os o → arg_by_id (rules os) o ≡ Some (named' o)
find-id os o k = ap (λ b. cond b (Some words') (arg_by_id (after_words os.options os.flags) o)) k.1 ∙ go os.options k.0
  where
    go : (ps : List Text) → known ps o ≡ Some o → arg_by_id (after_words ps os.flags) o ≡ Some (named' o)
    go [] is = cc
    go (p ∷ ps) is = by (bytes_eq p o) is (go ps)
      where
        by : (b : Bool) → cond b (Some p) (known ps o) ≡ Some o → (known ps o ≡ Some o → arg_by_id (after_words ps os.flags) o ≡ Some (named' o))
            → cond b (Some (named' p)) (arg_by_id (after_words ps os.flags) o) ≡ Some (named' o)
        by true e more = ap (option_map named') e
        by false e more = more e

settle-run : (os : Ids) (rows : List Row) (p us : List Part) → IsPending os p
    → unless (settle_fault (rules os) false (held rows (pending_of p))) (run (settled (rules os) (held rows (pending_of p))).rows us) ≡ run rows (p ++ us)
settle-run os rows [] us k = refl
settle-run os rows (plain v ∷ []) us k = refl
settle-run os rows (named o v ∷ []) us k =
    ap (λ x. unless (option_map_or (λ a. use_fault false a (v ∷ []) rows) x []) (run (used_by_id x (v ∷ []) rows) us)) (find-id os o k)
settle-run os rows (flag f ∷ []) us k = absurd k
settle-run os rows (u ∷ v ∷ us') us k = absurd k

-- ---- each word

unless_none : {X : Type 0} (ks : Kinds) → unless {X = X} ks None ≡ None
unless_none [] = refl
unless_none (k ∷ ks) = refl

unless_or : {X : Type 0} (a b : Kinds) (o : Option X) → unless (or_else a b) o ≡ unless a (unless b o)
unless_or [] b o = refl
unless_or (k ∷ ks) b o = refl

or_nil : (a : Kinds) → or_else a [] ≡ a
or_nil [] = refl
or_nil (k ∷ ks) = refl

abbrev Gives : List Row → List Part → Option (List Part) → Option (List Row)
Gives rows p us = option_and_then (λ more. run rows (p ++ more)) us

abbrev Ended : Ids → List Text → Type 0
Ended os ws = (rows : List Row) (p : List Part) (waiting : Waiting) → IsPending os p
    → rest (shape os) (at (held rows (pending_of p)) waiting true) ws ≡ Gives rows p (uses os true None ws)

abbrev Idle : Ids → List Text → Type 0
Idle os ws = (rows : List Row) (p : List Part) → IsPending os p
    → rest (shape os) (at (held rows (pending_of p)) idle false) ws ≡ Gives rows p (uses os false None ws)

abbrev Placed : Ids → List Text → Type 0
Placed os ws = (rows : List Row) (p : List Part) → IsPending os p
    → rest (shape os) (at (held rows (pending_of p)) positional false) ws ≡ Gives rows p (uses os false None ws)

abbrev Valued : Ids → List Text → Type 0
Valued os ws = (rows : List Row) (o : Text) → Known os o
    → rest (shape os) (at (held rows (Some (o, []))) (option o) false) ws ≡ Gives rows [] (uses os false (Some o) ws)

-- the use, after what is pending
then-use : (os : Ids) (rows : List Row) (p : List Part) (v : Text) (us : Option (List Part)) → IsPending os p
    → unless (settle_fault (rules os) false (held rows (pending_of p))) (Gives (settled (rules os) (held rows (pending_of p))).rows (plain v ∷ []) us) ≡ Gives rows p (before (plain v) us)
then-use os rows p v None k = unless_none _
then-use os rows p v (Some us) k = settle-run os rows p (plain v ∷ us) k

then-named : (os : Ids) (rows : List Row) (p : List Part) (o v : Text) (us : Option (List Part)) → IsPending os p
    → unless (settle_fault (rules os) false (held rows (pending_of p))) (Gives (settled (rules os) (held rows (pending_of p))).rows (named o v ∷ []) us) ≡ Gives rows p (before (named o v) us)
then-named os rows p o v None k = unless_none _
then-named os rows p o v (Some us) k = settle-run os rows p (named o v ∷ us) k

then-flag : (os : Ids) (rows : List Row) (p : List Part) (f : Text) (us : Option (List Part)) → IsPending os p
    → unless (settle_fault (rules os) false (held rows (pending_of p))) (Gives (settled (rules os) (held rows (pending_of p))).rows (flag f ∷ []) us) ≡ Gives rows p (before (flag f) us)
then-flag os rows p f None k = unless_none _
then-flag os rows p f (Some us) k = settle-run os rows p (flag f ∷ us) k

then-wait : (os : Ids) (rows : List Row) (p : List Part) (us : Option (List Part)) → IsPending os p
    → unless (settle_fault (rules os) false (held rows (pending_of p))) (Gives (settled (rules os) (held rows (pending_of p))).rows [] us) ≡ Gives rows p us
then-wait os rows p None k = unless_none _
then-wait os rows p (Some us) k = settle-run os rows p us k

-- a word that goes to the positional
placed-word : (os : Ids) (rows : List Row) (p : List Part) (word : Text) (ws : List Text) (ended : Bool) (x : Bool) (us : Option (List Part)) → IsPending os p
    → rest (shape os) (at (held (settled (rules os) (held rows (pending_of p))).rows (pending_of (plain word ∷ []))) positional ended) ws ≡ Gives (settled (rules os) (held rows (pending_of p))).rows (plain word ∷ []) us
    → unless (cond (x && false) [] (settle_fault (rules os) false (held rows (pending_of p)))) (rest (shape os) (at (pushed (codes "words") word (cond (x && false) (held rows (pending_of p)) (settled (rules os) (held rows (pending_of p))))) positional ended) ws)
    ≡ Gives rows p (before (plain word) us)
placed-word os rows p word ws ended x us k more =
    let h = held rows (pending_of p) in
    let sf = settle_fault (rules os) false h in
    ap (λ (b : Bool). unless (cond b [] sf) (rest (shape os) (at (pushed (codes "words") word (cond b h (settled (rules os) h))) positional ended) ws)) (and_false x)
    ∙ ap (unless sf) more ∙ then-use os rows p word us k

ended-word : (os : Ids) (word : Text) (ws : List Text) → Ended os ws → Ended os (word ∷ ws)
unfolding walked
ended-word os word ws more rows p waiting k =
    placed-word os rows p word ws true (is_pending words' (pending_of p)) (uses os true None ws) k (more _ (plain word ∷ []) positional tt)

ended-none : (os : Ids) → Ended os []
ended-none os rows p waiting k = settle-run os rows p [] k

-- a word `--name`, where `found` is the option of that name
abbrev named_at : Ids → Waiting → Held → Option Rule → Option Text → Text → List Text → Option (List Row)
named_at os waiting h a v word ws =
    let met = after_flag (rules os) waiting word (long_met (rules os) a v h).0 (long_met (rules os) a v h).1 in
    unless (or_else (long_fault (rules os) false a v h) (step_fault (shape os) 1 met.0 met.1)) (rest (shape os) (after_step (rules os) word (at h waiting false) met.0 met.1) ws)

in_turn : (uf : Kinds) (us : Option (List Part)) (f : List Part → Option (List Row)) → unless uf (option_and_then f us) ≡ option_and_then (λ more. unless uf (f more)) us
in_turn uf None f = unless_none uf
in_turn uf (Some us) f = refl

named-word : (os : Ids) (waiting : Waiting) (rows : List Row) (p : List Part) (word : Text) (ws : List Text) (o other : Option Text) (v : Option Text)
    → ((q : Text) → o ≡ Some q → Known os q) → IsPending os p → Idle os ws → Valued os ws
    → named_at os waiting (held rows (pending_of p)) (rule_said o other) v word ws
    ≡ Gives rows p (option_said o other v (uses os false None ws) (λ q. uses os false (Some q) ws))
named-word os waiting rows p word ws None None v known_as k idle_rest valued_rest = refl
named-word os waiting rows p word ws None (Some f) (Some v) known_as k idle_rest valued_rest = refl
named-word os waiting rows p word ws None (Some f) None known_as k idle_rest valued_rest =
    let h = held rows (pending_of p) in
    let sf = settle_fault (rules os) false h in
    let sr = (settled (rules os) h).rows in
    let uf = use_fault false (flag' f) [] sr in
    let us = uses os false None ws in
    let end = rest (shape os) (at (held (used (flag' f) [] sr) None) idle false) ws in
    ap (λ (ks : Kinds). unless ks end) (or_nil (or_else sf uf)) ∙ unless_or sf uf end
    ∙ ap (λ (r : Option (List Row)). unless sf (unless uf r)) (idle_rest (used (flag' f) [] sr) [] tt)
    ∙ ap (unless sf) (in_turn uf us (λ more. run (used (flag' f) [] sr) more))
    ∙ then-flag os rows p f us k
named-word os waiting rows p word ws (Some o) other (Some v) known_as k idle_rest valued_rest =
    let h = held rows (pending_of p) in
    let sf = settle_fault (rules os) false h in
    let sr = (settled (rules os) h).rows in
    let uf = use_fault false (named' o) (v ∷ []) sr in
    let us = uses os false None ws in
    let end = rest (shape os) (at (held (used (named' o) (v ∷ []) sr) None) idle false) ws in
    ap (λ (ks : Kinds). unless ks end) (or_nil (or_else sf uf)) ∙ unless_or sf uf end
    ∙ ap (λ (r : Option (List Row)). unless sf (unless uf r)) (idle_rest (used (named' o) (v ∷ []) sr) [] tt)
    ∙ ap (unless sf) (in_turn uf us (λ more. run (used (named' o) (v ∷ []) sr) more))
    ∙ then-named os rows p o v us k
named-word os waiting rows p word ws (Some o) other None known_as k idle_rest valued_rest =
    let h = held rows (pending_of p) in
    let sf = settle_fault (rules os) false h in
    let sr = (settled (rules os) h).rows in
    let end = rest (shape os) (at (held sr (Some (o, []))) (option o) false) ws in
    ap (λ (ks : Kinds). unless ks end) (or_nil sf)
    ∙ ap (unless sf) (valued_rest sr o (known_as o refl))
    ∙ then-wait os rows p (uses os false (Some o) ws) k

-- each word of the text has characters where it has bytes
abbrev pub Refuses : Ids → Text → Type 0
Refuses os word = (rows : List Row) (pending : Option (Text × List Text)) (f : Text) → short_of word ≡ Some f
    → (k : ErrorKind) × (bundle_fault (rules os) false f (held rows pending) ≡ k ∷ [])

abbrev step_to : Ids → Waiting → Held → Bool → Option (Text × Option Text) → Option Text → Text → List Text → Option (List Row)
step_to os waiting h dashes long flags word ws =
    let met = met_at os waiting h dashes long flags word in
    unless (fault_at os waiting h dashes long flags word) (rest (shape os) (after_step (rules os) word (at h waiting false) met.0 met.1) ws)

step-is : (os : Ids) (waiting : Waiting) (h : Held) (word : Text) (ws : List Text)
    → rest (shape os) (at h waiting false) (word ∷ ws) ≡ step_to os waiting h (is_dashes word) (long_of word) (short_of word) word ws
step-is os waiting h word ws = ap₂ (λ (ks : Kinds) (w : Walk). unless ks (rest (shape os) w ws)) (turn-is os waiting h word) (walked-is os waiting h word)

abbrev said : Ids → Bool → Option (Text × Option Text) → Option Text → Text → List Text → Option (List Part)
said os dashes long flags word ws = cond dashes (uses os true None ws) (word_said os long flags word (uses os false None ws) (λ o. uses os false (Some o) ws))

-- where the flags of the word are refused
refused-word : (os : Ids) (h : Held) (f : Text) (k : ErrorKind) (later : Kinds) (end : Option (List Row)) → bundle_fault (rules os) false f h ≡ k ∷ []
    → unless (or_else (bundle_fault (rules os) false f h) later) end ≡ None
refused-word os h f k later end e = ap (λ (ks : Kinds). unless (or_else ks later) end) e

pub known-true : (ps : List Text) (name o : Text) → known ps name ≡ Some o → bytes_eq o name ≡ true
known-true [] name o h = cc
known-true (p ∷ ps) name o h = by (bytes_eq p name) refl h (known-true ps name o)
  where
    by : (b : Bool) → bytes_eq p name ≡ b → cond b (Some p) (known ps name) ≡ Some o → (known ps name ≡ Some o → bytes_eq o name ≡ true) → bytes_eq o name ≡ true
    by true e s more = ap (λ q. bytes_eq q name) (sym (same_Some p o s)) ∙ e
    by false e s more = more s

known-as : (os : Ids) (name o : Text) → known os.options (codes "words") ≡ None → known os.options name ≡ Some o → Known os o
known-as os name o apart found =
    let same : o ≡ name = (bytes_eq-Decides o name).0 (known-true os.options name o found) in
    let own : known os.options o ≡ Some o = ap (known os.options) same ∙ found in
    (own, other (bytes_eq (codes "words") o) (λ e. let words : codes "words" ≡ o = (bytes_eq-Decides (codes "words") o).0 e in let bad : None ≡ Some o = sym apart ∙ ap (known os.options) words ∙ own in cc))
  where
    other : (b : Bool) → (b ≡ true → ⊥) → b ≡ false
    other true h = absurd (h refl)
    other false h = refl

idle-word : (os : Ids) (rows : List Row) (p : List Part) (word : Text) (ws : List Text) → known os.options (codes "words") ≡ None → IsPending os p → Ended os ws → Idle os ws → Placed os ws → Valued os ws
    → (dashes : Bool) (long : Option (Text × Option Text)) (flags : Option Text) → ((f : Text) → flags ≡ Some f → (k : ErrorKind) × (bundle_fault (rules os) false f (held rows (pending_of p)) ≡ k ∷ []))
    → step_to os idle (held rows (pending_of p)) dashes long flags word ws ≡ Gives rows p (said os dashes long flags word ws)
idle-word os rows p word ws apart k e i pl v true long flags refuses = e rows p idle k
idle-word os rows p word ws apart k e i pl v false (Some (name, said_value)) flags refuses =
    ap (λ (a : Option Rule). named_at os idle (held rows (pending_of p)) a said_value word ws) (find-long os name)
    ∙ named-word os idle rows p word ws (known os.options name) (known os.flags name) said_value (λ q found. known-as os name q apart found) k i v
idle-word os rows p word ws apart k e i pl v false None (Some f) refuses = refused-word os _ f (refuses f refl).0 _ _ (refuses f refl).1
idle-word os rows p word ws apart k e i pl v false None None refuses =
    placed-word os rows p word ws false (is_pending words' (pending_of p)) (uses os false None ws) k (pl _ (plain word ∷ []) tt)

placed-step : (os : Ids) (rows : List Row) (p : List Part) (word : Text) (ws : List Text) → known os.options (codes "words") ≡ None → IsPending os p → Ended os ws → Idle os ws → Placed os ws → Valued os ws
    → (dashes : Bool) (long : Option (Text × Option Text)) (flags : Option Text) → ((f : Text) → flags ≡ Some f → (k : ErrorKind) × (bundle_fault (rules os) false f (held rows (pending_of p)) ≡ k ∷ []))
    → step_to os positional (held rows (pending_of p)) dashes long flags word ws ≡ Gives rows p (said os dashes long flags word ws)
placed-step os rows p word ws apart k e i pl v true long flags refuses = e rows p positional k
placed-step os rows p word ws apart k e i pl v false (Some (name, said_value)) flags refuses =
    ap (λ (a : Option Rule). named_at os positional (held rows (pending_of p)) a said_value word ws) (find-long os name)
    ∙ named-word os positional rows p word ws (known os.options name) (known os.flags name) said_value (λ q found. known-as os name q apart found) k i v
placed-step os rows p word ws apart k e i pl v false None (Some f) refuses = refused-word os _ f (refuses f refl).0 _ _ (refuses f refl).1
placed-step os rows p word ws apart k e i pl v false None None refuses =
    placed-word os rows p word ws false (is_pending words' (pending_of p)) (uses os false None ws) k (pl _ (plain word ∷ []) tt)

-- ---- an option that waits for its value

unready : (os : Ids) (rows : List Row) (o : Text) → Known os o → settle_fault (rules os) false (held rows (Some (o, []))) ≡ kind.InvalidValue ∷ []
unready os rows o k = ap (λ x. option_map_or (λ a. use_fault false a [] rows) x []) (find-id os o k)

abbrev Stuck : Ids → List Text → Type 0
Stuck os ws = (rows : List Row) (o : Text) (waiting : Waiting) → Known os o → rest (shape os) (at (held rows (Some (o, []))) waiting true) ws ≡ None

stuck-none : (os : Ids) → Stuck os []
stuck-none os rows o waiting k = ap (λ (ks : Kinds). unless ks (Some (settled (rules os) (held rows (Some (o, [])))).rows)) (unready os rows o k)

stuck-word : (os : Ids) (word : Text) (ws : List Text) → Stuck os (word ∷ ws)
unfolding walked
stuck-word os word ws rows o waiting k =
    let h = held rows (Some (o, [])) in
    let sf = settle_fault (rules os) false h in
    let x = is_pending words' (Some (o, [])) in
    ap (λ (b : Bool). unless (cond b [] sf) (rest (shape os) (at (pushed (codes "words") word (cond b h (settled (rules os) h))) positional true) ws)) (and_false x)
    ∙ ap (λ (ks : Kinds). unless ks (rest (shape os) (at (pushed (codes "words") word (settled (rules os) h)) positional true) ws)) (unready os rows o k)

pub same-text : (o : Text) → bytes_eq o o ≡ true
same-text o = (bytes_eq-Decides o o).1 refl

-- a flag while an option waits
waiting-flag : (os : Ids) (rows : List Row) (o : Text) (word : Text) (ws : List Text) (found other : Option Text) (v : Option Text) → Known os o
    → named_at os (option o) (held rows (Some (o, []))) (rule_said found other) v word ws ≡ None
waiting-flag os rows o word ws None None v k = refl
waiting-flag os rows o word ws None (Some f) (Some v) k = refl
waiting-flag os rows o word ws None (Some f) None k =
    let h = held rows (Some (o, [])) in
    let uf = use_fault false (flag' f) [] (settled (rules os) h).rows in
    let end = rest (shape os) (at (held (used (flag' f) [] (settled (rules os) h).rows) None) idle false) ws in
    ap (λ (ks : Kinds). unless (or_else (or_else ks uf) []) end) (unready os rows o k)
waiting-flag os rows o word ws (Some q) other (Some v) k =
    let h = held rows (Some (o, [])) in
    let uf = use_fault false (named' q) (v ∷ []) (settled (rules os) h).rows in
    let end = rest (shape os) (at (held (used (named' q) (v ∷ []) (settled (rules os) h).rows) None) idle false) ws in
    ap (λ (ks : Kinds). unless (or_else (or_else ks uf) []) end) (unready os rows o k)
waiting-flag os rows o word ws (Some q) other None k =
    let h = held rows (Some (o, [])) in
    let end = rest (shape os) (at (held (settled (rules os) h).rows (Some (q, []))) (option q) false) ws in
    ap (λ (ks : Kinds). unless (or_else ks []) end) (unready os rows o k)

valued-step : (os : Ids) (rows : List Row) (o : Text) (word : Text) (ws : List Text) → Known os o → Stuck os ws → Idle os ws
    → (dashes : Bool) (long : Option (Text × Option Text)) (flags : Option Text) → ((f : Text) → flags ≡ Some f → (k : ErrorKind) × (bundle_fault (rules os) false f (held rows (Some (o, []))) ≡ k ∷ []))
    → step_to os (option o) (held rows (Some (o, []))) dashes long flags word ws ≡ Gives rows [] (cond dashes None (value_said o long flags word (uses os false None ws)))
valued-step os rows o word ws k stuck i true long flags refuses = stuck rows o (option o) k
valued-step os rows o word ws k stuck i false (Some (name, v)) flags refuses =
    ap (λ (a : Option Rule). named_at os (option o) (held rows (Some (o, []))) a v word ws) (find-long os name) ∙ waiting-flag os rows o word ws (known os.options name) (known os.flags name) v k
valued-step os rows o word ws k stuck i false None (Some f) refuses = refused-word os _ f (refuses f refl).0 _ _ (refuses f refl).1
valued-step os rows o word ws k stuck i false None None refuses =
    let h = held rows (Some (o, [])) in
    ap (λ (a : Option Rule). rest (shape os) (after_step (rules os) word (at h (option o) false) (option_word a o word h).0 (next (option_word a o word h).1)) ws) (find-id os o k)
    ∙ ap (λ (b : Bool). rest (shape os) (at (held rows (Some (o, word ∷ []))) (cond (nat_lt (cond b 1 0) 1) (option o) idle) false) ws) (same-text o)
    ∙ i rows (named o word ∷ []) k
    ∙ in_front (uses os false None ws)
  where
    in_front : (us : Option (List Part)) → Gives rows (named o word ∷ []) us ≡ Gives rows [] (before (named o word) us)
    in_front None = refl
    in_front (Some us) = refl

-- ---- all the words

record Walks (os : Ids) (ws : List Text) : Type 0 where
  ended : Ended os ws
  idle : Idle os ws
  placed : Placed os ws
  valued : Valued os ws
  stuck : Stuck os ws

unfoldable pub AllRefuse : Ids → List Text → Type 0
AllRefuse os [] = Unit {0}
AllRefuse os (word ∷ ws) = Refuses os word × AllRefuse os ws

walks : (os : Ids) (ws : List Text) → known os.options (codes "words") ≡ None → AllRefuse os ws → Walks os ws
unfolding AllRefuse
walks os [] apart all = record {
  ended = ended-none os;
  idle = λ rows p k. settle-run os rows p [] k;
  placed = λ rows p k. settle-run os rows p [] k;
  valued = λ rows o k. ap (λ (ks : Kinds). unless ks (Some (settled (rules os) (held rows (Some (o, [])))).rows)) (unready os rows o k);
  stuck = stuck-none os;
}
walks os (word ∷ ws) apart all =
    let more = walks os ws apart all.1 in
    record {
      ended = ended-word os word ws more.ended;
      idle = λ rows p k. step-is os idle (held rows (pending_of p)) word ws ∙ idle-word os rows p word ws apart k more.ended more.idle more.placed more.valued (is_dashes word) (long_of word) (short_of word) (all.0 rows (pending_of p));
      placed = λ rows p k. step-is os positional (held rows (pending_of p)) word ws ∙ placed-step os rows p word ws apart k more.ended more.idle more.placed more.valued (is_dashes word) (long_of word) (short_of word) (all.0 rows (pending_of p));
      valued = λ rows o k. step-is os (option o) (held rows (Some (o, []))) word ws ∙ valued-step os rows o word ws k more.stuck more.idle (is_dashes word) (long_of word) (short_of word) (all.0 rows (Some (o, [])));
      stuck = stuck-word os word ws;
    }

-- ---- the whole parse

or_else_assoc : (a b c : Kinds) → or_else (or_else a b) c ≡ or_else a (or_else b c)
or_else_assoc [] b c = refl
or_else_assoc (k ∷ ks) b c = refl

abbrev end_of : Shape → Walk → List Text → Held
end_of s w ws = (fold (walked s.rules []) w ws).held

abbrev answer_of : Shape → Walk → List Text → Option (List Row)
answer_of s w ws = unless (or_else (walk_fault s [] w ws) (settle_fault s.rules false (end_of s w ws))) (Some (settled s.rules (end_of s w ws)).rows)

rest-is : (s : Shape) (w : Walk) (ws : List Text) → answer_of s w ws ≡ rest s w ws
unfolding walk_fault
rest-is s w [] = refl
rest-is s w (word ∷ ws) =
    let w' = walked s.rules [] w word in
    let sf = settle_fault s.rules false (end_of s w' ws) in
    let o : Option (List Row) = Some (settled s.rules (end_of s w' ws)).rows in
    ap (λ (ks : Kinds). unless ks o) (or_else_assoc (turn_fault s [] w word) (walk_fault s [] w' ws) sf)
    ∙ unless_or (turn_fault s [] w word) (or_else (walk_fault s [] w' ws) sf) o
    ∙ ap (unless (turn_fault s [] w word)) (rest-is s w' ws)

cond_same : {X : Type 0} (b : Bool) (x : X) → cond b x x ≡ x
cond_same true x = refl
cond_same false x = refl

finished-flags : (fs : List Text) (rows : List Row) → fold with_default rows (map flag' fs) ≡ rows
finished-flags [] rows = refl
finished-flags (f ∷ fs) rows = ap (λ rs. fold with_default rs (map flag' fs)) (cond_same (has_row f rows) rows) ∙ finished-flags fs rows

finished-is : (os fs : List Text) (rows : List Row) → fold with_default rows (after_words os fs) ≡ rows
finished-is [] fs rows = finished-flags fs rows
finished-is (o ∷ os) fs rows = ap (λ rs. fold with_default rs (after_words os fs)) (cond_same (has_row o rows) rows) ∙ finished-is os fs rows

defaults-flags : (fs : List Text) (rows : List Row) → defaults_fault rows (map flag' fs) ≡ []
unfolding defaults_fault
defaults-flags [] rows = refl
defaults-flags (f ∷ fs) rows =
    ap₂ (λ (b : Bool) (rs : List Row). or_else (cond b [] (given_default_fault (flag' f) [])) (defaults_fault rs (map flag' fs))) (or_true (has_row f rows)) (cond_same (has_row f rows) rows)
    ∙ defaults-flags fs rows

defaults-none : (os fs : List Text) (rows : List Row) → defaults_fault rows (after_words os fs) ≡ []
unfolding defaults_fault
defaults-none [] fs rows = defaults-flags fs rows
defaults-none (o ∷ os) fs rows =
    ap₂ (λ (b : Bool) (rs : List Row). or_else (cond b [] (given_default_fault (named' o) [])) (defaults_fault rs (after_words os fs))) (or_true (has_row o rows)) (cond_same (has_row o rows) rows)
    ∙ defaults-none os fs rows

abbrev is_wanted : List Row → Rule → Bool
is_wanted rows a = a.required && not (is_given a.id rows)

no-flag-required : (fs : List Text) (rows : List Row) → list_any (is_wanted rows) (map flag' fs) ≡ false
no-flag-required [] rows = refl
no-flag-required (f ∷ fs) rows = no-flag-required fs rows

none-required : (os fs : List Text) (rows : List Row) → list_any (is_wanted rows) (after_words os fs) ≡ false
none-required [] fs rows = no-flag-required fs rows
none-required (o ∷ os) fs rows = none-required os fs rows

defaults-rules : (os : Ids) (rows : List Row) → defaults_fault rows (rules os) ≡ []
unfolding defaults_fault
defaults-rules os rows =
    ap₂ (λ (b : Bool) (rs : List Row). or_else (cond b [] (given_default_fault words' [])) (defaults_fault rs (after_words os.options os.flags))) (or_true (has_row (codes "words") rows)) (cond_same (has_row (codes "words") rows) rows)
    ∙ defaults-none os.options os.flags rows

finished-rules : (os : Ids) (rows : List Row) → fold with_default rows (rules os) ≡ rows
finished-rules os rows = ap (λ rs. fold with_default rs (after_words os.options os.flags)) (cond_same (has_row (codes "words") rows) rows) ∙ finished-is os.options os.flags rows

level-is : (os : Ids) (ws : List Text) (below : Kinds) (entered_one : Bool) → below ≡ [] → entered_one ≡ false
    → unless (level_fault (shape os) [] nothing_held ws entered_one below) (Some (rows_after (rules os) [] ws)) ≡ answer_of (shape os) (at (held [] None) idle false) ws
level-is os ws below entered_one nothing_below not_entered =
    let end = end_of (shape os) (at (held [] None) idle false) ws in
    let wf = walk_fault (shape os) [] (at (held [] None) idle false) ws in
    let sf = settle_fault (rules os) false end in
    let sr = (settled (rules os) end).rows in
    let no_check : check_fault (shape os) (fold with_default sr (rules os)) false ≡ [] = ap (λ (b : Bool). check_kinds false false b) (none-required os.options os.flags (fold with_default sr (rules os))) in
    ap₂ (λ (ks : Kinds) (b : Bool). unless (level_fault (shape os) [] nothing_held ws b ks) (Some (fold with_default sr (rules os)))) nothing_below not_entered
    ∙ ap₂ (λ (d : Kinds) (c : Kinds). unless (or_else wf (or_else sf (or_else d c))) (Some (fold with_default sr (rules os)))) (defaults-rules os sr) no_check
    ∙ ap₂ (λ (s : Kinds) (rs : List Row). unless (or_else wf s) (Some rs)) (or_nil sf) (finished-rules os sr)

abbrev app' : Ids → App
app' os = record { top = shape os; subs = [] }

none-entered : (os : Ids) (stop : Option (Text × List Text)) → is_some (entered (app' os) stop) ≡ false
none-entered os None = refl
none-entered os (Some p) = refl

no-fault-below : (os : Ids) (stop : Option (Text × List Text)) → entered_fault (app' os) stop ≡ []
no-fault-below os None = refl
no-fault-below os (Some p) = refl

-- clap takes the words exactly where they say something, and its rows are those of the uses
pub taken : (os : Ids) (words : List Text) → known os.options (codes "words") ≡ None → AllRefuse os words
    → unless (fault_of (asked_app os.options os.flags) words) (Some (matches_of (asked_app os.options os.flags) words)) ≡ option_and_then (λ us. run [] us) (uses os false None words)
taken os words apart all =
    let ws = words in
    let stop = (walk (rules os) [] nothing_held ws).stopped in
    ap (λ (a : App). unless (built_fault a nothing_held ws) (Some (rows_after a.top.rules (names_of a) ws))) (built-asked os)
    ∙ level-is os ws (entered_fault (app' os) stop) (is_some (entered (app' os) stop)) (no-fault-below os stop) (none-entered os stop)
    ∙ rest-is (shape os) (at (held [] None) idle false) ws
    ∙ (walks os ws apart all).idle [] [] tt

-- ---- text has characters

head-char : (cs : List ℕ) (x : ℕ) (xs : List ℕ) → encodes cs ≡ x ∷ xs → (y : ℕ) × (slice_get cs 0 ≡ Some y)
head-char [] x xs h = cc
head-char (y ∷ cs) x xs h = (y, refl)

refuses-flags : (os : Ids) (rows : List Row) (pending : Option (Text × List Text)) (x : ℕ) (xs : Text) → IsUtf8 (x ∷ xs)
    → bundle_fault (rules os) false (x ∷ xs) (held rows pending) ≡ kind.UnknownArgument ∷ []
unfolding flags_fault
refuses-flags os rows pending x xs utf8 =
    let h = held rows pending in
    let more = flags_fault (rules os) false (length xs) in
    let first = head-char (chars (x ∷ xs)) x xs (encodes-chars (x ∷ xs) utf8) in
    let left = drop (length (encode_utf8 first.0)) (x ∷ xs) in
    ap (λ (o : Option ℕ). bundle_step_fault (rules os) false o (x ∷ xs) 0 h more) first.1
    ∙ ap (λ (a : Option Rule). short_fault (rules os) false a left h (more left 0)) (find-short os first.0)

flags-of : (b x : ℕ) (xs f : Text) → short_of (b ∷ x ∷ xs) ≡ Some f → ((b == 45) ≡ true) × (f ≡ x ∷ xs)
flags-of b x xs f h =
    option_and_then_some short_of_rest (cond (b == 45) (Some (x ∷ xs)) None) f h
    (λ r is fine. let p = cond_some (b == 45) (x ∷ xs) r is in (p.0, by (x == 45) (ap short_of_rest p.1 ∙ fine)))
  where
    by : (e : Bool) → cond e None (Some (x ∷ xs)) ≡ Some f → f ≡ x ∷ xs
    by true s = cc
    by false s = sym (same_Some (x ∷ xs) f s)

no-flags : (b : ℕ) (f : Text) → short_of (b ∷ []) ≡ Some f → ⊥
no-flags b f h = by (b == 45) h
  where
    by : (d : Bool) → option_and_then short_of_rest (cond d (Some []) None) ≡ Some f → ⊥
    by true s = cc
    by false s = cc

hyphen-ascii : (b : ℕ) → (b == 45) ≡ true → b < 128
hyphen-ascii b e = grind (arith, nat_tests)

refuses : (os : Ids) (word : Text) → IsUtf8 word → Refuses os word
refuses os [] utf8 rows pending f is = let bad : None ≡ Some f = is in absurd cc
refuses os (b ∷ []) utf8 rows pending f is = absurd (no-flags b f is)
refuses os (b ∷ x ∷ xs) utf8 rows pending f is =
    let parts = flags-of b x xs f is in
    let small : get_or (b ∷ x ∷ xs) 0 0 < 128 = hyphen-ascii b parts.0 in
    let within : 0 < length (b ∷ x ∷ xs) = omega arith in
    let tail : IsUtf8 (x ∷ xs) = IsUtf8-drop (b ∷ x ∷ xs) 1 utf8 (IsCharBoundary-after_ascii (b ∷ x ∷ xs) 0 utf8 within small) in
    (kind.UnknownArgument, ap (λ (g : Text). bundle_fault (rules os) false g (held rows pending)) parts.1 ∙ refuses-flags os rows pending x xs tail)

pub all-refuse : (os : Ids) (ws : List Text) → AllByRecursion IsUtf8 ws → AllRefuse os ws
unfolding AllRefuse
all-refuse os [] all = tt
all-refuse os (word ∷ ws) all = (refuses os word all.0, all-refuse os ws all.1)

-- ---- the rows are those of the uses

abbrev values_at : Option Row → List Text
values_at found = unwrap_or (option_map (λ (r : Row). r.values) found) []

apart : (t id q : Text) → bytes_eq t id ≡ false → bytes_eq t q ≡ true → bytes_eq id q ≡ false
apart t id q e f = not_true (bytes_eq id q) (λ g.
    let same : t ≡ q = (bytes_eq-Decides t q).0 f in let other : id ≡ q = (bytes_eq-Decides id q).0 g in
    let yes : bytes_eq t id ≡ true = (bytes_eq-Decides t id).1 (same ∙ sym other) in let bad : false ≡ true = sym e ∙ yes in cc)
  where
    not_true : (b : Bool) → (b ≡ true → ⊥) → b ≡ false
    not_true true h = absurd (h refl)
    not_true false h = refl

abbrev with_more : Row → Text → Row
with_more r v = record r { values = r.values ++ v ∷ []; source = Some (stronger r.source CommandLine) }

more-at : (id q v : Text) (how : Reading) (rows : List Row) → row_texts q (with_values id how CommandLine (v ∷ []) rows) ≡ row_texts q rows ++ cond (bytes_eq id q) (v ∷ []) []
more-at id q v how [] = by (bytes_eq id q)
  where
    by : (b : Bool) → values_at (cond b (Some (record { id = id; values = v ∷ []; count = None; source = Some CommandLine; reading = how })) None) ≡ [] ++ cond b (v ∷ []) []
    by true = refl
    by false = refl
more-at id q v how (r ∷ rs) = by (bytes_eq r.id id) (bytes_eq r.id q) refl refl (more-at id q v how rs)
  where
    by : (b c : Bool) → bytes_eq r.id id ≡ b → bytes_eq r.id q ≡ c
        → row_texts q (with_values id how CommandLine (v ∷ []) rs) ≡ row_texts q rs ++ cond (bytes_eq id q) (v ∷ []) []
        → values_at (find (λ (x : Row). bytes_eq x.id q) (cond b (with_more r v ∷ rs) (r ∷ with_values id how CommandLine (v ∷ []) rs)))
        ≡ values_at (cond c (Some r) (find (λ (x : Row). bytes_eq x.id q) rs)) ++ cond (bytes_eq id q) (v ∷ []) []
    by true true e f more =
        let d : bytes_eq id q ≡ true = ap (λ t. bytes_eq t q) (sym ((bytes_eq-Decides r.id id).0 e)) ∙ f in
        ap (λ (x : Bool). values_at (cond x (Some (with_more r v)) (find (λ (x : Row). bytes_eq x.id q) rs))) f ∙ sym (ap (λ (x : Bool). r.values ++ cond x (v ∷ []) []) d)
    by true false e f more =
        let d : bytes_eq id q ≡ false = ap (λ t. bytes_eq t q) (sym ((bytes_eq-Decides r.id id).0 e)) ∙ f in
        ap (λ (x : Bool). values_at (cond x (Some (with_more r v)) (find (λ (x : Row). bytes_eq x.id q) rs))) f
        ∙ sym (ap (λ (x : Bool). values_at (find (λ (x : Row). bytes_eq x.id q) rs) ++ cond x (v ∷ []) []) d ∙ append-nil _)
    by false true e f more =
        ap (λ (x : Bool). values_at (cond x (Some r) (find (λ (x : Row). bytes_eq x.id q) (with_values id how CommandLine (v ∷ []) rs)))) f
        ∙ sym (ap (λ (x : Bool). r.values ++ cond x (v ∷ []) []) (apart r.id id q e f) ∙ append-nil _)
    by false false e f more =
        ap (λ (x : Bool). values_at (cond x (Some r) (find (λ (x : Row). bytes_eq x.id q) (with_values id how CommandLine (v ∷ []) rs)))) f ∙ more

-- what the uses make of the rows
abbrev pub made : List Row → List Part → List Row
made rows [] = rows
made rows (plain v ∷ us) = made (used words' (v ∷ []) rows) us
made rows (named o v ∷ us) = made (used (named' o) (v ∷ []) rows) us
made rows (flag f ∷ us) = made (used (flag' f) [] rows) us

run-made : (rows : List Row) (us : List Part) → run rows us ≡ Some (made rows us)
run-made rows [] = refl
run-made rows (plain v ∷ us) = run-made (used words' (v ∷ []) rows) us
run-made rows (named o v ∷ us) = run-made (used (named' o) (v ∷ []) rows) us
run-made rows (flag f ∷ us) = run-made (used (flag' f) [] rows) us

first-text : (b : Bool) (v : Text) (more : List Text) → cond b (v ∷ []) [] ++ more ≡ cond b (v ∷ more) more
first-text true v more = refl
first-text false v more = refl

abbrev pub id_of : Part → Text
id_of (plain word) = codes "words"
id_of (named o word) = o
id_of (flag f) = f

-- the word, the value, or what a flag's use is noted as
abbrev pub text_of : Part → Text
text_of (plain word) = word
text_of (named o word) = word
text_of (flag f) = codes "true"

-- the texts that were said for an id, in order
abbrev pub texts_for : Text → List Part → List Text
texts_for id [] = []
texts_for id (first ∷ more) = if bytes_eq (id_of first) id then text_of first ∷ texts_for id more else texts_for id more

pub made-texts : (q : Text) (rows : List Row) (us : List Part) → row_texts q (made rows us) ≡ row_texts q rows ++ texts_for q us
made-texts q rows [] = sym (append-nil _)
made-texts q rows (plain v ∷ us) =
    made-texts q (used words' (v ∷ []) rows) us ∙ ap (λ ts. ts ++ texts_for q us) (more-at (codes "words") q v (reading_by words') rows)
    ∙ append_assoc (row_texts q rows) (cond (bytes_eq (codes "words") q) (v ∷ []) []) (texts_for q us) ∙ ap (λ ts. row_texts q rows ++ ts) (first-text (bytes_eq (codes "words") q) v (texts_for q us))
made-texts q rows (named o v ∷ us) =
    made-texts q (used (named' o) (v ∷ []) rows) us ∙ ap (λ ts. ts ++ texts_for q us) (more-at o q v (reading_by (named' o)) rows)
    ∙ append_assoc (row_texts q rows) (cond (bytes_eq o q) (v ∷ []) []) (texts_for q us) ∙ ap (λ ts. row_texts q rows ++ ts) (first-text (bytes_eq o q) v (texts_for q us))
made-texts q rows (flag f ∷ us) =
    made-texts q (used (flag' f) [] rows) us ∙ ap (λ ts. ts ++ texts_for q us) (more-at f q (codes "true") (reading_by (flag' f)) rows)
    ∙ append_assoc (row_texts q rows) (cond (bytes_eq f q) (codes "true" ∷ []) []) (texts_for q us) ∙ ap (λ ts. row_texts q rows ++ ts) (first-text (bytes_eq f q) (codes "true") (texts_for q us))

-- the parts that were made of no rows
pub run-none : (us : List Part) → run [] us ≡ Some (made [] us)
run-none us = run-made [] us

pub texts-made : (q : Text) (us : List Part) → row_texts q (made [] us) ≡ texts_for q us
texts-made q us = made-texts q [] us

all-utf8 : (vs : List (String Global)) → AllByRecursion IsUtf8 (map string_bytes vs)
all-utf8 [] = tt
all-utf8 (v ∷ vs) = (IsUtf8-string_bytes v, all-utf8 vs)

pub strings-refuse : (os : Ids) (vs : List (String Global)) → AllRefuse os (map string_bytes vs)
strings-refuse os vs = all-refuse os (map string_bytes vs) (all-utf8 vs)

-- where the command is refused, for another cause than memory
pub refused-unless : {X : Type 0} (ks : Kinds) (x : X) (e : Error) → HasKind ks e → (kind_of e ≡ kind.OutOfMemory → ⊥) → unless ks (Some x) ≡ None
refused-unless [] x e (inl memory) other = absurd (other memory)
refused-unless [] x e (inr among) other = absurd among
refused-unless (k ∷ ks) x e has other = refl

-- what `get_strs` gives is the texts of the rows
pub texts-raw : (f : Found) (id : Text) (r : Option (List Text)) → r ≡ option_map raw_values (matched_of f id) → unwrap_or r [] ≡ row_texts id (rows_of f)
texts-raw f id r is = ap (λ (o : Option (List Text)). unwrap_or o []) (is ∙ raw_values-rows f id)
