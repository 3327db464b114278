-- What is read can be stored: no section has more words than it may have.
use Rattle.std.proofs.Common.{◌≡◌, ℕ, zero, suc, ◌+◌, ◌%◌, ◌≤◌, cond, nat_lt, List, [], ◌∷◌, ◌++◌, length, length-append, replicate, set, get_or, Option, Some, None, Result, Ok, Err, codes, refl, sym, ap, subst, arith}
use Rattle.std.specs.Prelude.{IfOk, bytes_eq}
use Rattle.std.proofs.lemmas.Bool.{cond_both, ltb-false}
use Rattle.cg_word.specs.Word.{words}
use Rattle.cg_model.specs.Answers.{Gives}
use Rattle.cg_model.specs.Limits.{most_stream, port_count}
use Rattle.cg_model.specs.Work.{Image}
use Rattle.cg_pad.specs.Bytes.{IsStorable}
use Rattle.cg_image_text.specs.declared.fault.Misread.{Misread}
use Rattle.cg_image_text.specs.declared.fault.Misread.TheVariants.{Unknown, Large}
use Rattle.cg_image_text.specs.declared.fault.TextFault.{TextFault}
use Rattle.cg_image_text.specs.declared.fault.TextFault.TheVariants.{TooLarge, Memory as OutOfMemory}
use Rattle.cg_image_text.specs.declared.place.Place.{Place}
use Rattle.cg_image_text.specs.declared.run.Run.{Run}
use Rattle.cg_image_text.specs.declared.sections.Section.{Section}
use Rattle.cg_image_text.specs.declared.sections.Section.TheVariants.{Memory, Stream}
use Rattle.cg_image_text.specs.Fields.{Field, fields_of}
use Rattle.cg_image_text.specs.Numbers.{and_then}
use Rattle.cg_image_text.specs.Places.{place_behind}
use Rattle.cg_image_text.specs.Runs.{words_from, run_words, run_of}
use Rattle.cg_image_text.specs.Sections.{Reading, begun, section_words, most_words, with_words, add_to, add_run, add_words, port_of, to_stream, read_plain, read_by, read_field, read_fields, ended, answer_of}

-- what a step answers can be stored
abbrev Keeps : Result Reading TextFault → Type 0
Keeps answer = IfOk answer (λ r. IsStorable r.image)

length_words : (word step n : ℕ) → length (words_from word step n) ≡ n
length_words word step zero = refl
length_words word step (suc n) = ap suc (length_words ((word + step) % words) step n)

set_small : (streams : List (List ℕ)) (at port : ℕ) (ws : List ℕ) → ((p : ℕ) → length (get_or streams p []) ≤ most_stream) → length ws ≤ most_stream → length (get_or (set streams at ws) port []) ≤ most_stream
set_small [] at port ws all small = all port
set_small (s ∷ streams) zero zero ws all small = small
set_small (s ∷ streams) zero (suc port) ws all small = all (suc port)
set_small (s ∷ streams) (suc at) zero ws all small = all 0
set_small (s ∷ streams) (suc at) (suc port) ws all small = set_small streams at port ws (λ p. all (suc p)) small

with_small : (image : Image) (section : Section) (ws : List ℕ) → IsStorable image → length ws ≤ most_words section → IsStorable (with_words image section ws)
with_small image Memory ws h small = record { memory = small; streams = h.streams }
with_small image (Stream port) ws h small = record { memory = h.memory; streams = λ p. set_small image.streams port p ws h.streams small }

add_to_keeps : (r : Reading) (section : Section) (place : Place) (run : Run) → IsStorable r.image → Keeps (add_to r section place run)
add_to_keeps r section place run h =
    let ws = section_words r.image section in
    let answer : Result (List ℕ) TextFault → Result Reading TextFault = λ x. and_then x (λ vs. Ok (record r { image = with_words r.image section vs })) in
    cond_both (nat_lt (most_words section) (length ws + run.count)) (Err (TooLarge place)) (Ok (ws ++ run_words run)) (λ x. Keeps (answer x))
    (λ e. tt)
    (λ e. let few = ltb-false (most_words section) (length ws + run.count) e in
    with_small r.image section (ws ++ run_words run) h (omega (arith, few, length-append ws (run_words run), length_words run.first run.step run.count)))

add_run_keeps : (r : Reading) (section : Option Section) (place : Place) (run : Run) → IsStorable r.image → Keeps (add_run r section place run)
add_run_keeps r None place run h = tt
add_run_keeps r (Some section) place run h = add_to_keeps r section place run h

add_words_keeps : (r : Reading) (place : Place) (answer : Result Run Misread) → IsStorable r.image → Keeps (add_words r place answer)
add_words_keeps r place (Ok run) h = add_run_keeps r r.section place run h
add_words_keeps r place (Err Unknown) h = tt
add_words_keeps r place (Err Large) h = tt

to_stream_keeps : (r : Reading) (place : Place) (port : Option ℕ) → IsStorable r.image → Keeps (to_stream r place port)
to_stream_keeps r place (Some port) h = h
to_stream_keeps r place None h = tt

plain_keeps : (text : List ℕ) (r : Reading) (f : Field) → IsStorable r.image → Keeps (read_plain text r f)
plain_keeps text r f h =
    let further : Result Reading TextFault = cond (bytes_eq f.text (codes "stream")) (Ok (record r { open_stream = Some f.place })) (add_words r (place_behind text f.place) (run_of f.text)) in
    cond_both (bytes_eq f.text (codes "memory")) (Ok (record r { section = Some Memory })) further Keeps
    (λ e. h)
    (λ e. cond_both (bytes_eq f.text (codes "stream")) (Ok (record r { open_stream = Some f.place })) (add_words r (place_behind text f.place) (run_of f.text)) Keeps
    (λ d. h) (λ d. add_words_keeps r (place_behind text f.place) (run_of f.text) h))

by_keeps : (text : List ℕ) (r : Reading) (f : Field) (stream : Option ℕ) → IsStorable r.image → Keeps (read_by text r f stream)
by_keeps text r f (Some stream) h = to_stream_keeps r (place_behind text f.place) (port_of f.text) h
by_keeps text r f None h = plain_keeps text r f h

field_keeps : (text : List ℕ) (r : Reading) (f : Field) → IsStorable r.image → Keeps (read_field text r f)
unfolding read_field
field_keeps text r f h = by_keeps text r f r.open_stream h

then_keeps : (x : Result Reading TextFault) (f : Reading → Result Reading TextFault) → Keeps x → ((r : Reading) → IsStorable r.image → Keeps (f r)) → Keeps (and_then x f)
then_keeps (Ok r) f h on = on r h
then_keeps (Err e) f h on = tt

fields_keep : (text : List ℕ) (fields : List Field) (r : Reading) → IsStorable r.image → Keeps (read_fields text r fields)
fields_keep text [] r h = h
fields_keep text (f ∷ fields) r h = then_keeps (read_field text r f) (λ s. read_fields text s fields) (field_keeps text r f h) (λ s. fields_keep text fields s)

ended_keeps : (text : List ℕ) (image : Image) (stream : Option ℕ) → IsStorable image → IfOk (ended text image stream) IsStorable
ended_keeps text image (Some stream) h = tt
ended_keeps text image None h = h

at_end : (text : List ℕ) (x : Result Reading TextFault) → Keeps x → IfOk (and_then x (λ r. ended text r.image r.open_stream)) IsStorable
at_end text (Ok r) h = ended_keeps text r.image r.open_stream h
at_end text (Err e) h = tt

none_long : (n port : ℕ) → (let streams : List (List ℕ) = replicate n [] in length (get_or streams port []) ≤ most_stream)
none_long zero port = omega arith
none_long (suc n) zero = omega arith
none_long (suc n) (suc port) = none_long n port

begun_small : IsStorable begun.image
begun_small = record { memory = omega arith; streams = none_long port_count }

-- so can the image that a text spells
answer_storable : (text : List ℕ) → IfOk (answer_of text) IsStorable
unfolding answer_of
answer_storable text = at_end text (read_fields text begun (fields_of text)) (fields_keep text (fields_of text) begun begun_small)

given_storable : (result answer : Result Image TextFault) → Gives OutOfMemory result answer → IfOk answer IsStorable → IfOk result IsStorable
given_storable (Ok image) answer e h = subst (λ x. IfOk x IsStorable) (sym e) h
given_storable (Err fault) answer e h = tt

pub read_storable : (text : List ℕ) (result : Result Image TextFault) → Gives OutOfMemory result (answer_of text) → IfOk result IsStorable
read_storable text result gives = given_storable result (answer_of text) gives (answer_storable text)
