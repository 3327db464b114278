-- The text of an image leads from no words to that image.
use Rattle.std.proofs.Common.{◌≡◌, ℕ, zero, suc, ◌<◌, ◌≤◌, cond, List, [], ◌∷◌, ◌++◌, length, replicate, set, get_or, Option, Some, None, Ok, codes, refl, sym, ap, subst, ◌∙◌, arith}
use Rattle.std.specs.Prelude.{decimal}
use Rattle.std.specs.Str.Parse.{IsNumeral, digits_value}
use Rattle.std.proofs.lemmas.Bool.{lt-ltb}
use Rattle.std.proofs.lemmas.Fmt.{decimal_is_IsNumeral}
use Rattle.std.proofs.lemmas.List.{append-nil, set-get_or}
use Rattle.cg_model.specs.Limits.{most_memory, most_stream, port_count}
use Rattle.cg_model.specs.Work.{Image}
use Rattle.cg_pad.specs.Bytes.{IsStorable}
use Rattle.cg_list_laws.specs.Below.{lists_below}
use Rattle.cg_image_text.specs.declared.sections.Section.{Section}
use Rattle.cg_image_text.specs.declared.sections.Section.TheVariants.{Memory, Stream}
use Rattle.cg_image_text.specs.Fields.{is_solid, fields_from}
use Rattle.cg_image_text.specs.Numbers.{and_then}
use Rattle.cg_image_text.specs.Places.{place_behind}
use Rattle.cg_image_text.specs.Sections.{Reading, begun, port_by, to_stream, read_field, read_fields, ended, answer_of}
use Rattle.cg_image_text.specs.Printed.{AreWords, memory_text, stream_line, stream_text, stream_at, text_of}
use Rattle.cg_image_text.proofs.Digits.{digit_passes, digits_pass, numeral_is}
use Rattle.cg_image_text.proofs.Leading.{Leads, nothing, chain, arrives, departs, field_leads, two_lead}
use Rattle.cg_image_text.proofs.Sectioned.{state, at, rows_lead}

-- an image so far, between sections or in one
abbrev paused : Image → Option Section → Reading
paused image section = record { image = image; section = section; open_stream = None }

-- ---- lines that begin sections

read_memory : (text : List ℕ) (place : ℕ) (image : Image) (section : Option Section) → read_field text (paused image section) (record { text = codes "memory"; place = place }) ≡ Ok (state image Memory)
unfolding read_field
read_memory text place image section = refl

memory_leads : (image : Image) (section : Option Section) → Leads (paused image section) (codes "memory\n") (state image Memory)
memory_leads image section = field_leads (paused image section) (state image Memory) 109 (codes "emory") 10 refl refl refl (λ rest. refl) (λ text place. read_memory text place image section)

read_stream : (text : List ℕ) (place here : ℕ) (image : Image) (section : Option Section) (t : List ℕ) (port : ℕ) → IsNumeral 10 t → digits_value 10 t ≡ port → port < port_count
    → and_then (read_field text (paused image section) (record { text = codes "stream"; place = place })) (λ r. read_field text r (record { text = t; place = here })) ≡ Ok (state image (Stream port))
unfolding read_field
read_stream text place here image section t port h is low =
    let r : Reading = record { image = image; section = section; open_stream = Some place } in
    let p = place_behind text here in
    ap (λ x. to_stream r p (port_by x)) (numeral_is t port h is (omega arith))
    ∙ ap (λ b. to_stream r p (cond b (Some port) None)) (lt-ltb port port_count low)

line_leads : (image : Image) (section : Option Section) (t : List ℕ) (port : ℕ) → IsNumeral 10 t → digits_value 10 t ≡ port → port < port_count → Leads (paused image section) (codes "stream " ++ (t ++ codes "\n")) (state image (Stream port))
line_leads image section [] port h is low = absurd (omega (arith, h.0))
line_leads image section (d ∷ ds) port h is low =
    two_lead (paused image section) (state image (Stream port)) 115 (codes "tream") 32 d ds 10 refl refl refl (λ rest. refl)
    (digit_passes is_solid d refl h.1.0) (digits_pass is_solid ds refl h.1.1) refl (λ rest. refl)
    (λ text place here. read_stream text place here image section (d ∷ ds) port h is low)

stream_leads : (image : Image) (section : Option Section) (port : ℕ) → port < port_count → Leads (paused image section) (stream_line port) (state image (Stream port))
stream_leads image section port low = let n = decimal_is_IsNumeral port (omega arith) in line_leads image section (decimal port) port n.0 n.1 low

-- ---- streams, of which the first few have their words

filled : ℕ → List (List ℕ) → List (List ℕ)
filled n [] = []
filled zero (s ∷ streams) = [] ∷ filled zero streams
filled (suc n) (s ∷ streams) = s ∷ filled n streams

filled_none : (streams : List (List ℕ)) → filled 0 streams ≡ replicate (length streams) []
unfolding filled
filled_none [] = refl
filled_none (s ∷ streams) = ap (λ (x : List (List ℕ)). [] ∷ x) (filled_none streams)

filled_all : (streams : List (List ℕ)) → filled (length streams) streams ≡ streams
unfolding filled
filled_all [] = refl
filled_all (s ∷ streams) = ap (λ (x : List (List ℕ)). s ∷ x) (filled_all streams)

length_filled : (n : ℕ) (streams : List (List ℕ)) → length (filled n streams) ≡ length streams
unfolding filled
length_filled n [] = refl
length_filled zero (s ∷ streams) = ap suc (length_filled zero streams)
length_filled (suc n) (s ∷ streams) = ap suc (length_filled n streams)

still_none : (n : ℕ) (streams : List (List ℕ)) → get_or (filled n streams) n [] ≡ []
unfolding filled
still_none n [] = refl
still_none zero (s ∷ streams) = refl
still_none (suc n) (s ∷ streams) = still_none n streams

filled_more : (n : ℕ) (streams : List (List ℕ)) → n < length streams → set (filled n streams) n (get_or streams n []) ≡ filled (suc n) streams
unfolding filled
filled_more n [] lt = absurd (omega arith)
filled_more zero (s ∷ streams) lt = refl
filled_more (suc n) (s ∷ streams) lt = ap (λ (x : List (List ℕ)). s ∷ x) (filled_more n streams (omega arith))

unset : (n : ℕ) (streams : List (List ℕ)) → set (filled n streams) n [] ≡ filled n streams
unset n streams = ap (set (filled n streams) n) (sym (still_none n streams)) ∙ set-get_or (filled n streams) n []

abbrev pub image_of : List ℕ → List (List ℕ) → Image
image_of memory streams = record { memory = memory; streams = streams }

module _ (memory : List ℕ) (streams : List (List ℕ)) (sixteen : length streams ≡ port_count) (few : (port : ℕ) → length (get_or streams port []) ≤ most_stream) (all : (port : ℕ) → AreWords (get_or streams port [])) where
  -- the image with the words of the first streams
  abbrev part : ℕ → Image
  part n = image_of memory (filled n streams)

  abbrev with_streams : List (List ℕ) → Image
  with_streams xs = image_of memory xs

  -- a section of a stream
  step : (port : ℕ) (section : Option Section) (ws : List ℕ) → port < port_count → get_or streams port [] ≡ ws → (after : Option Section) × Leads (paused (part port) section) (stream_text port ws) (paused (part (suc port)) after)
  step port section [] low e =
      let there : port < length streams = omega arith in
      let same : filled port streams ≡ filled (suc port) streams = sym (unset port streams) ∙ ap (set (filled port streams) port) (sym e) ∙ filled_more port streams there in
      (section, arrives (nothing (paused (part port) section)) (ap (λ (x : List (List ℕ)). paused (with_streams x) section) same))
  step port section (w ∷ ws) low e =
      let there : port < length streams = omega arith in
      let has : port < length (filled port streams) = omega (arith, length_filled port streams) in
      let room : length (w ∷ ws) ≤ most_stream = subst (λ x. length x ≤ most_stream) e (few port) in
      let list_words : AreWords (w ∷ ws) = subst AreWords e (all port) in
      let rows = rows_lead (part port) (Stream port) (w ∷ ws) has room (omega arith) list_words in
      let before : state (part port) (Stream port) ≡ at (part port) (Stream port) [] = ap (λ (x : List (List ℕ)). state (with_streams x) (Stream port)) (sym (unset port streams)) in
      let same : set (filled port streams) port (w ∷ ws) ≡ filled (suc port) streams = ap (set (filled port streams) port) (sym e) ∙ filled_more port streams there in
      (Some (Stream port), chain (stream_leads (part port) section port low) (arrives (departs rows before) (ap (λ (x : List (List ℕ)). state (with_streams x) (Stream port)) same)))

  -- the sections of the first streams
  some_streams : (n : ℕ) → n ≤ port_count → (section : Option Section) → (after : Option Section) × Leads (paused (part 0) section) (lists_below (stream_at streams) n) (paused (part n) after)
  unfolding lists_below
  some_streams zero h section = (section, nothing (paused (part 0) section))
  some_streams (suc n) h section =
      let first = some_streams n (omega arith) section in
      let last = step n first.0 (get_or streams n []) (omega arith) refl in
      (last.0, chain first.1 last.1)

  -- all sections
  pub whole : length memory ≤ most_memory → AreWords memory → (after : Option Section) × Leads begun (memory_text memory ++ lists_below (stream_at streams) port_count) (paused (image_of memory streams) after)
  whole room list_words =
      let rows = rows_lead begun.image Memory memory tt room (omega arith) list_words in
      let first = chain (memory_leads begun.image None) rows in
      let none : replicate port_count [] ≡ filled 0 streams = ap (λ n. replicate n []) (sym sixteen) ∙ sym (filled_none streams) in
      let last = some_streams port_count (omega arith) (Some Memory) in
      let every : filled port_count streams ≡ streams = ap (λ n. filled n streams) (sym sixteen) ∙ filled_all streams in
      (last.0, chain (arrives first (ap (λ (x : List (List ℕ)). state (with_streams x) Memory) none)) (arrives last.1 (ap (λ (x : List (List ℕ)). paused (with_streams x) last.0) every)))

-- a text that leads to an image reads as it
answered : (text : List ℕ) (image : Image) (section : Option Section) → Leads begun text (paused image section) → answer_of text ≡ Ok image
unfolding answer_of
answered text image section lead =
    ap (λ x. and_then (read_fields text begun (fields_from 0 0 x)) (λ r. ended text r.image r.open_stream)) (sym (append-nil text))
    ∙ ap (λ x. and_then x (λ r. ended text r.image r.open_stream)) (lead.on text 0 [])

-- what is printed reads back
pub reads_back : (image : Image) → IsStorable image → length image.streams ≡ port_count → AreWords image.memory → ((port : ℕ) → AreWords (get_or image.streams port [])) → answer_of (text_of image) ≡ Ok image
unfolding text_of
reads_back image storable sixteen memory streams =
    let w = whole image.memory image.streams sixteen storable.streams streams storable.memory memory in
    answered (text_of image) image w.0 w.1
