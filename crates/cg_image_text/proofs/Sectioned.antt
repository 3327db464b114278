-- The words of a section lead to the image that has them.
use Rattle.std.proofs.Common.{◌≡◌, ℕ, zero, suc, ◌+◌, ◌*◌, ◌/◌, ◌<◌, ◌≤◌, ◌^◌, min, false, cond, List, [], ◌∷◌, ◌++◌, length, take, get_or, Some, None, Ok, Err, codes, refl, sym, ap, ◌∙◌, arith}
use Rattle.std.specs.Prelude.{bytes_eq, decimal}
use Rattle.std.specs.Str.Parse.{IsNumeral, digits_value}
use Rattle.std.proofs.lemmas.Bool.{le-ltb}
use Rattle.std.proofs.lemmas.Fmt.{decimal_is_IsNumeral}
use Rattle.std.proofs.lemmas.List.{get_or-set_same, set-set, take_more, take_all, length-take, take_min}
use Rattle.cg_word.specs.Word.{words}
use Rattle.cg_model.specs.Work.{Image}
use Rattle.cg_list_laws.specs.Below.{lists_below}
use Rattle.cg_image_text.specs.declared.sections.Section.{Section}
use Rattle.cg_image_text.specs.declared.sections.Section.TheVariants.{Memory, Stream}
use Rattle.cg_image_text.specs.declared.fault.TextFault.TheVariants.{TooLarge}
use Rattle.cg_image_text.specs.Fields.{is_solid, is_remark, remark_length}
use Rattle.cg_image_text.specs.Numbers.{and_then}
use Rattle.cg_image_text.specs.Places.{place_behind}
use Rattle.cg_image_text.specs.Runs.{run_of}
use Rattle.cg_image_text.specs.Sections.{Reading, section_words, most_words, with_words, add_words, read_field}
use Rattle.cg_image_text.specs.Printed.{AreWords, word_text, row_length, row_word, address_text, row_text, rows_text}
use Rattle.cg_image_text.proofs.Digits.{digit_passes, digits_pass, run_is, other_word}
use Rattle.cg_image_text.proofs.Leading.{Leads, nothing, chain, arrives, field_leads, comment_leads}

-- words go to the section of the image
abbrev pub state : Image → Section → Reading
state image section = record { image = image; section = Some section; open_stream = None }

-- the image has the section
abbrev pub Has : Image → Section → Type 0
Has image Memory = Unit {0}
Has image (Stream port) = port < length image.streams

-- and these words there
abbrev pub at : Image → Section → List ℕ → Reading
at image section ws = state (with_words image section ws) section

same_words : (image : Image) (section : Section) (ws : List ℕ) → Has image section → section_words (with_words image section ws) section ≡ ws
same_words image Memory ws h = refl
same_words image (Stream port) ws h = get_or-set_same image.streams port ws [] h

twice : (image : Image) (section : Section) (ws vs : List ℕ) → with_words (with_words image section ws) section vs ≡ with_words image section vs
twice image Memory ws vs = refl
twice image (Stream port) ws vs = ap (λ (x : List (List ℕ)). record image { streams = x }) (set-set image.streams port ws vs)

-- ---- a word

-- a word is read as one
read_word : (text : List ℕ) (place : ℕ) (image : Image) (section : Section) (t : List ℕ) (w : ℕ) → IsNumeral 10 t → digits_value 10 t ≡ w → w < words → length (section_words image section) + 1 ≤ most_words section
    → read_field text (state image section) (record { text = t; place = place }) ≡ Ok (state (with_words image section (section_words image section ++ w ∷ [])) section)
unfolding read_field
read_word text place image section t w h is low room =
    let r = state image section in
    let p = place_behind text place in
    let ws = section_words image section in
    ap (λ b. cond b (Ok (record r { section = Some Memory })) (cond (bytes_eq t (codes "stream")) (Ok (record r { open_stream = Some place })) (add_words r p (run_of t)))) (other_word t 109 (codes "emory") h refl)
    ∙ ap (λ b. cond b (Ok (record r { open_stream = Some place })) (add_words r p (run_of t))) (other_word t 115 (codes "tream") h refl)
    ∙ ap (add_words r p) (run_is t w h is low)
    ∙ ap (λ b. and_then (cond b (Err (TooLarge p)) (Ok (ws ++ w ∷ []))) (λ x. Ok (record r { image = with_words image section x }))) (le-ltb (most_words section) (length ws + 1) room)

-- a decimal number that is read as a step, and the blank behind it
decimal_leads : (r s : Reading) (t : List ℕ) (c : ℕ) → IsNumeral 10 t → is_solid c ≡ false → ((rest : List ℕ) → remark_length c rest ≡ 0)
    → ((text : List ℕ) (place : ℕ) → read_field text r (record { text = t; place = place }) ≡ Ok s) → Leads r (t ++ c ∷ []) s
decimal_leads r s [] c h hollow plain step = absurd (omega (arith, h.0))
decimal_leads r s (d ∷ ds) c h hollow plain step = field_leads r s d ds c (digit_passes is_solid d refl h.1.0) (digits_pass is_solid ds refl h.1.1) hollow plain step

-- the text of a word adds it
word_leads : (image : Image) (section : Section) (ws : List ℕ) (w : ℕ) → Has image section → length ws + 1 ≤ most_words section → w < words → Leads (at image section ws) (word_text w) (at image section (ws ++ w ∷ []))
word_leads image section ws w has room low =
    let base = with_words image section ws in
    let n = decimal_is_IsNumeral w (omega arith) in
    let same : section_words base section ≡ ws = same_words image section ws has in
    let fits : length (section_words base section) + 1 ≤ most_words section = omega (arith, ap length same) in
    arrives (decimal_leads (state base section) (state (with_words base section (section_words base section ++ w ∷ [])) section) (decimal w) 32 n.0 refl (λ rest. refl)
    (λ text place. read_word text place base section (decimal w) w n.0 n.1 low fits))
    (ap (λ x. state (with_words base section (x ++ w ∷ [])) section) same ∙ ap (λ (x : Image). state x section) (twice image section ws (ws ++ w ∷ [])))

-- ---- rows

module _ (image : Image) (section : Section) (list : List ℕ) (has : Has image section) (room : length list ≤ most_words section) (short : length list < 2 ^ 64) (all : AreWords list) where
  -- the first words of a row
  part_leads : (row k n : ℕ) → n ≡ 8 * row + k → n ≤ length list → Leads (at image section (take (8 * row) list)) (lists_below (row_word list row) k) (at image section (take n list))
  unfolding lists_below
  part_leads row zero n e within = let same : 8 * row ≡ n = omega arith in arrives (nothing (at image section (take (8 * row) list))) (ap (λ m. at image section (take m list)) same)
  part_leads row (suc k) n e within =
      let m = 8 * row + k in
      let lt : m < length list = omega arith in
      let next : m + 1 ≡ n = omega arith in
      let fits : length (take m list) + 1 ≤ most_words section = omega (arith, length-take m list) in
      chain (part_leads row k m refl (omega arith))
      (arrives (word_leads image section (take m list) (get_or list m 0) has fits (all m)) (ap (at image section) (sym (take_more list m 0 lt) ∙ ap (λ x. take x list) next)))

  -- an address changes nothing
  address_leads : (r : Reading) (address : ℕ) → address < 2 ^ 64 → Leads r (address_text address) r
  address_leads r address low = comment_leads r (32 ∷ decimal address) (digits_pass is_remark (decimal address) refl (decimal_is_IsNumeral address low).0.1)

  row_leads : (row : ℕ) → 8 * row ≤ length list → Leads (at image section (take (8 * row) list)) (row_text list row) (at image section (take (8 * (row + 1)) list))
  row_leads row begins =
      let k = row_length list row in
      let n = 8 * row + k in
      let within : n ≤ length list = omega arith in
      let stop : n ≡ min (8 * (row + 1)) (length list) = omega arith in
      let end : take n list ≡ take (8 * (row + 1)) list = ap (λ m. take m list) stop ∙ take_min (8 * (row + 1)) list in
      chain (part_leads row k n refl within) (arrives (address_leads (at image section (take n list)) (8 * row) (omega arith)) (ap (at image section) end))

  some_rows : (n : ℕ) → n ≤ (length list + 7) / 8 → Leads (at image section []) (lists_below (row_text list) n) (at image section (take (8 * n) list))
  unfolding lists_below
  some_rows zero h = nothing (at image section [])
  some_rows (suc n) h =
      let begins : 8 * n ≤ length list = omega arith in
      let next : 8 * (n + 1) ≡ 8 * suc n = omega arith in
      chain (some_rows n (omega arith)) (arrives (row_leads n begins) (ap (λ m. at image section (take m list)) next))

  -- all rows add all words
  pub rows_lead : Leads (at image section []) (rows_text list) (at image section list)
  rows_lead =
      let rows = (length list + 7) / 8 in
      let past : length list ≤ 8 * rows = omega arith in
      arrives (some_rows rows (omega arith)) (ap (at image section) (take_all (8 * rows) list past))
