-- What a text spells is an image of words, which a file can hold.
use Rattle.std.proofs.Common.{◌≡◌, ℕ, zero, suc, ◌+◌, ◌-◌, ◌%◌, ◌^◌, ◌<◌, ◌≤◌, Bool, true, false, cond, List, [], ◌∷◌, ◌++◌, length, nat_lt, nat_le, Option, Some, None, Result, Ok, Err, refl, ◌∙◌, ap, subst, arith, length-append}
use Rattle.std.specs.Prelude.{bytes_eq, codes, slice_index_or, take, drop}
use Rattle.std.specs.List.{prefix_len}
use Rattle.std.specs.Str.Parse.{digits_value}
use Rattle.std.proofs.lemmas.Bool.{ltb-true, ltb-false}
use Rattle.std.proofs.lemmas.Nat.{mod_below}
use Rattle.std.proofs.lemmas.List.{length-set, length-replicate}
use Rattle.std.proofs.lemmas.List.Elements.{All-cons, All-append, All-set, All-replicate}
use Rattle.cg_word.specs.Word.{words}
use Rattle.cg_model.specs.Limits.{most_memory, most_stream, port_count}
use Rattle.cg_model.specs.Work.{Image}
use Rattle.cg_image_text.specs.declared.fault.Misread.{Misread}
use Rattle.cg_image_text.specs.declared.fault.Misread.TheVariants.{Unknown, Large}
use Rattle.cg_image_text.specs.declared.fault.TextFault.{TextFault}
use Rattle.cg_image_text.specs.declared.fault.TextFault.TheVariants.{TooLarge}
use Rattle.cg_image_text.specs.declared.place.Place.{Place}
use Rattle.cg_image_text.specs.declared.run.Run.{Run}
use Rattle.cg_image_text.specs.declared.sections.Section.{Section}
use Rattle.cg_image_text.specs.declared.sections.Section.TheVariants.{Memory, Stream}
use Rattle.cg_image_text.specs.Fields.{Field, fields_of}
use Rattle.cg_image_text.specs.Numbers.{begins, is_numeral, numeral, negated, number, and_then}
use Rattle.cg_image_text.specs.Places.{place_behind}
use Rattle.cg_image_text.specs.Runs.{words_from, run_words, single, span, repeat, is_in_first, run_by, run_of}
use Rattle.cg_image_text.specs.Sections.{Reading, begun, section_words, with_words, most_words, add_to, add_run, add_words, port_of, to_stream, read_plain, read_by, read_field, read_fields, ended, answer_of}
use Rattle.cg_command_files.proofs.Stored.{AreWords, IsStream, IsStored, no_words, no_stream, stream_at}

-- ---- numbers

-- what a reading gives, where it gives something
abbrev Gives : {A F : Type 0} → (A → Type 0) → Result A F → Type 0
Gives P (Ok x) = P x
Gives P (Err e) = Unit {0}

abbrev IsWord : ℕ → Type 0
IsWord w = w < words

both : {A B F : Type 0} (P : A → Type 0) (Q : B → Type 0) (r : Result A F) (f : A → Result B F) → Gives P r → ((x : A) → P x → Gives Q (f x)) → Gives Q (and_then r f)
both P Q (Ok x) f h k = k x h
both P Q (Err e) f h k = tt

numeral_word : (base : ℕ) (text : List ℕ) → Gives IsWord (numeral base text)
numeral_word base text = by (is_numeral base text) (nat_lt (digits_value base text) words) refl
  where
    by : (b c : Bool) → nat_lt (digits_value base text) words ≡ c → Gives IsWord (cond b (cond c (Ok (digits_value base text)) (Err Large)) (Err Unknown))
    by true true e = ltb-true (digits_value base text) words e
    by true false e = tt
    by false c e = tt

negated_word : (n : ℕ) → Gives IsWord (negated n)
negated_word n = by (nat_le n (2 ^ 31))
  where
    by : (b : Bool) → Gives IsWord (cond b (Ok ((words - n) % words)) (Err Large))
    by true = mod_below (words - n) words (omega arith)
    by false = tt

number_word : (text : List ℕ) → Gives IsWord (number text)
unfolding number
number_word text = by (begins (codes "-") text) (begins (codes "0x") text)
  where
    by : (b c : Bool) → Gives IsWord (cond b (and_then (numeral 10 (drop 1 text)) negated) (cond c (numeral 16 (drop 2 text)) (numeral 10 text)))
    by true c = both IsWord IsWord (numeral 10 (drop 1 text)) negated (numeral_word 10 (drop 1 text)) (λ n h. negated_word n)
    by false true = numeral_word 16 (drop 2 text)
    by false false = numeral_word 10 text

-- ---- words

words_are : (word step n : ℕ) → word < words → AreWords (words_from word step n)
words_are word step zero h = no_words
words_are word step (suc n) h =
    All-cons (λ w. w < words) word (words_from ((word + step) % words) step n) h (words_are ((word + step) % words) step n (mod_below (word + step) words (omega arith)))

words_count : (word step n : ℕ) → length (words_from word step n) ≡ n
words_count word step zero = refl
words_count word step (suc n) = ap suc (words_count ((word + step) % words) step n)

-- a run that begins with a word
abbrev IsRun : Run → Type 0
IsRun run = run.first < words

single_word : (text : List ℕ) → Gives IsRun (single text)
single_word text = both IsWord IsRun (number text) _ (number_word text) (λ a h. h)

span_word : (first last : List ℕ) → Gives IsRun (span first last)
span_word first last = both IsWord IsRun (number first) _ (number_word first) (λ a h. both IsWord IsRun (number last) _ (number_word last) (λ b k. h))

repeat_word : (first count : List ℕ) → Gives IsRun (repeat first count)
repeat_word first count = both IsWord IsRun (number first) _ (number_word first) (λ a h. both IsWord IsRun (numeral 10 count) _ (numeral_word 10 count) (λ b k. h))

by_word : (text first rest : List ℕ) → Gives IsRun (run_by text first rest)
by_word text first rest = choose (begins (codes "..") rest) (begins (codes "*") rest)
  where
    choose : (b c : Bool) → Gives IsRun (cond b (span first (drop 2 rest)) (cond c (repeat first (drop 1 rest)) (single text)))
    choose true c = span_word first (drop 2 rest)
    choose false true = repeat_word first (drop 1 rest)
    choose false false = single_word text

run_word : (text : List ℕ) → Gives IsRun (run_of text)
unfolding run_of
run_word text = by_word text (take (prefix_len is_in_first text) text) (drop (prefix_len is_in_first text) text)

-- ---- sections

-- the words of a section, and more
grown_words : (old : List ℕ) (run : Run) → AreWords old → IsRun run → AreWords (old ++ run_words run)
grown_words old run h is = All-append (λ w. w < words) old (run_words run) h (words_are run.first run.step run.count is)

grown_few : (old : List ℕ) (run : Run) (most : ℕ) → nat_lt most (length old + run.count) ≡ false → length (old ++ run_words run) ≤ most
grown_few old run most e =
    let few = ltb-false most (length old + run.count) e in
    let long = length-append old (run_words run) in
    let count = words_count run.first run.step run.count in
    omega (arith, few, long, count)

with_stored : (image : Image) (section : Section) (run : Run) → IsStored image → IsRun run → nat_lt (most_words section) (length (section_words image section) + run.count) ≡ false →
    IsStored (with_words image section (section_words image section ++ run_words run))
with_stored image Memory run s is few = record {
  sixteen = s.sixteen;
  memory = grown_words image.memory run s.memory is;
  few = grown_few image.memory run most_memory few;
  streams = s.streams;
}
with_stored image (Stream port) run s is few =
    let old = slice_index_or image.streams port [] in
    let stream = stream_at image.streams s.streams port in
    record {
      sixteen = length-set image.streams port (old ++ run_words run) ∙ s.sixteen;
      memory = s.memory;
      few = s.few;
      streams = All-set IsStream image.streams port (old ++ run_words run) (grown_words old run stream.0 is, grown_few old run most_stream few) s.streams;
    }

-- what has been read so far is such an image
abbrev IsKept : Reading → Type 0
IsKept r = IsStored r.image

add_kept : (r : Reading) (section : Section) (place : Place) (run : Run) → IsKept r → IsRun run → Gives IsKept (add_to r section place run)
add_kept r section place run k is = by (nat_lt (most_words section) (length (section_words r.image section) + run.count)) refl
  where
    old : List ℕ
    old = section_words r.image section

    with_more : List ℕ → Result Reading TextFault
    with_more ws = Ok (record r { image = with_words r.image section ws })

    by : (b : Bool) → nat_lt (most_words section) (length old + run.count) ≡ b →
        Gives IsKept (and_then (cond b (Err (TooLarge place)) (Ok (old ++ run_words run))) with_more)
    by true e = tt
    by false e = with_stored r.image section run k is e

add_run_kept : (r : Reading) (section : Option Section) (place : Place) (run : Run) → IsKept r → IsRun run → Gives IsKept (add_run r section place run)
add_run_kept r None place run k is = tt
add_run_kept r (Some section) place run k is = add_kept r section place run k is

add_words_kept : (r : Reading) (place : Place) (run : Result Run Misread) → IsKept r → Gives IsRun run → Gives IsKept (add_words r place run)
add_words_kept r place (Ok run) k is = add_run_kept r r.section place run k is
add_words_kept r place (Err Unknown) k is = tt
add_words_kept r place (Err Large) k is = tt

plain_kept : (text : List ℕ) (r : Reading) (f : Field) → IsKept r → Gives IsKept (read_plain text r f)
plain_kept text r f k = by (bytes_eq f.text (codes "memory")) (bytes_eq f.text (codes "stream"))
  where
    by : (b c : Bool) → Gives IsKept (cond b (Ok (record r { section = Some Memory })) (cond c (Ok (record r { open_stream = Some f.place })) (add_words r (place_behind text f.place) (run_of f.text))))
    by true c = k
    by false true = k
    by false false = add_words_kept r (place_behind text f.place) (run_of f.text) k (run_word f.text)

stream_kept : (r : Reading) (place : Place) (port : Option ℕ) → IsKept r → Gives IsKept (to_stream r place port)
stream_kept r place (Some port) k = k
stream_kept r place None k = tt

by_kept : (text : List ℕ) (r : Reading) (f : Field) (o : Option ℕ) → IsKept r → Gives IsKept (read_by text r f o)
by_kept text r f (Some stream) k = stream_kept r (place_behind text f.place) (port_of f.text) k
by_kept text r f None k = plain_kept text r f k

field_kept : (text : List ℕ) (r : Reading) (f : Field) → IsKept r → Gives IsKept (read_field text r f)
unfolding read_field
field_kept text r f k = by_kept text r f r.open_stream k

fields_kept : (text : List ℕ) (r : Reading) (fields : List Field) → IsKept r → Gives IsKept (read_fields text r fields)
fields_kept text r [] k = k
fields_kept text r (f ∷ fields) k = both IsKept IsKept (read_field text r f) (λ s. read_fields text s fields) (field_kept text r f k) (λ s h. fields_kept text s fields h)

begun_kept : IsKept begun
begun_kept = record {
  sixteen = length-replicate {A = List ℕ} port_count [];
  memory = no_words;
  few = omega arith;
  streams = All-replicate IsStream port_count [] no_stream;
}

ended_stored : (text : List ℕ) (image : Image) (o : Option ℕ) → IsStored image → Gives IsStored (ended text image o)
ended_stored text image (Some stream) s = tt
ended_stored text image None s = s

answer_stored : (text : List ℕ) → Gives IsStored (answer_of text)
unfolding answer_of
answer_stored text = both IsKept IsStored (read_fields text begun (fields_of text)) (λ r. ended text r.image r.open_stream) (fields_kept text begun (fields_of text) begun_kept)
    (λ r k. ended_stored text r.image r.open_stream k)

pub spelled_stored : (text : List ℕ) (image : Image) → answer_of text ≡ Ok image → IsStored image
spelled_stored text image e = subst (Gives IsStored) e (answer_stored text)
