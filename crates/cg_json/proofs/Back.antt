-- The compact text of a plain value reads back.
use Rattle.std.proofs.Common.{◌≡◌, ℕ, ◌≤◌, [], ◌∷◌, Bool, true, false, List, Some, max, suc, option_and_then, option_map, refl, sym, ap, ap₂, ◌∙◌, subst, append-nil, IsUtf8}
use Rattle.std.proofs.lemmas.Str.{IsUtf8-append, IsUtf8-nil, IsUtf8-from_ascii}
use Rattle.std.proofs.lemmas.Fmt.{IsAscii-decimal}
use Rattle.json.specs.Lex.{tokens}
use Rattle.json.specs.Print.{print, quoted}
use Rattle.json.specs.Json as json
use Rattle.json.specs.Tree as tree
use Rattle.json.proofs.Printed.Decimals.{IsNumber-decimal}
use Rattle.json.proofs.Printed.Tokens.{tokens-print}
use Rattle.json.proofs.Printed.Trees.{ArePrintable-json_tokens, value-json_tokens}
use Rattle.json.proofs.Printed.Utf8.{IsUtf8-are_ascii, IsUtf8-quoted, IsUtf8-boolean}
use Rattle.serde_json.specs.Data.{unsigned, negative, float, Data, null, boolean, number, string, array, object, Items, no_items, item, Members, no_members, member, put, depth, items_depth, members_depth}
use Rattle.serde_json.specs.Read.{of_json, of_items, of_members, read, max_depth}
use Rattle.serde_json.specs.Written.{outline, items_outline, members_outline, comma_if, compact_text, items_text, members_text}
use Rattle.serde_json.proofs.Numbers.{number_of-decimal}
use Rattle.serde_json.proofs.Texts.{print-outline}
use Rattle.cg_json.specs.Plain.{after, IsPlain, ArePlain, ArePlainAfter, ReadsBack}

after-no_members : (ms : Members) → after ms no_members ≡ ms
after-no_members no_members = refl
after-no_members (member k d ms) = ap (member k d) (after-no_members ms)

after-after : (ls : Members) (k : List ℕ) (d : Data) (ms : Members) → after (after ls (member k d no_members)) ms ≡ after ls (member k d ms)
after-after no_members k d ms = refl
after-after (member l e ls) k d ms = ap (member l e) (after-after ls k d ms)

-- ---- the outline of a value is read as the value

mutual
  value_back : (d : Data) → IsPlain d → of_json (outline d) ≡ Some d
  value_back null h = refl
  value_back (boolean b) h = refl
  value_back (number (unsigned n)) h = ap (option_map number) (number_of-decimal n h)
  value_back (number (negative z)) h = absurd h
  value_back (number (float x)) h = absurd h
  value_back (string s) h = refl
  value_back (array ds) h = ap (option_map array) (items_back ds h)
  value_back (object ms) h = ap (option_map object) (members_back no_members ms h)

  items_back : (ds : Items) → ArePlain ds → of_items (items_outline ds) ≡ Some ds
  items_back no_items h = refl
  items_back (item d ds) h =
      ap (option_and_then (λ e. option_map (item e) (of_items (items_outline ds)))) (value_back d h.0) ∙ ap (option_map (item d)) (items_back ds h.1)

  members_back : (before ms : Members) → ArePlainAfter before ms → of_members (members_outline ms) before ≡ Some (after before ms)
  members_back before no_members h = ap Some (sym (after-no_members before))
  members_back before (member k d ms) h =
      ap (option_and_then (λ e. of_members (members_outline ms) (put k e before))) (value_back d h.1)
      ∙ ap (of_members (members_outline ms)) h.2
      ∙ members_back (after before (member k d no_members)) ms h.3
      ∙ ap Some (after-after before k d ms)

-- ---- its numbers have texts, and it is as deep

mutual
  numbers : (d : Data) → IsPlain d → tree.HasNumbers (outline d)
  numbers null h = tt
  numbers (boolean b) h = tt
  numbers (number (unsigned n)) h = IsNumber-decimal n h
  numbers (number (negative z)) h = absurd h
  numbers (number (float x)) h = absurd h
  numbers (string s) h = tt
  numbers (array ds) h = items_numbers ds h
  numbers (object ms) h = members_numbers no_members ms h

  items_numbers : (ds : Items) → ArePlain ds → tree.ItemsHaveNumbers (items_outline ds)
  items_numbers no_items h = tt
  items_numbers (item d ds) h = (numbers d h.0, items_numbers ds h.1)

  members_numbers : (before ms : Members) → ArePlainAfter before ms → tree.MembersHaveNumbers (members_outline ms)
  members_numbers before no_members h = tt
  members_numbers before (member k d ms) h = (numbers d h.1, members_numbers (after before (member k d no_members)) ms h.3)

mutual
  depth-outline : (d : Data) → tree.depth (outline d) ≡ depth d
  depth-outline null = refl
  depth-outline (boolean b) = refl
  depth-outline (number n) = refl
  depth-outline (string s) = refl
  depth-outline (array ds) = ap suc (items_depth-outline ds)
  depth-outline (object ms) = ap suc (members_depth-outline ms)

  items_depth-outline : (ds : Items) → tree.items_depth (items_outline ds) ≡ items_depth ds
  items_depth-outline no_items = refl
  items_depth-outline (item d ds) = ap₂ max (depth-outline d) (items_depth-outline ds)

  members_depth-outline : (ms : Members) → tree.members_depth (members_outline ms) ≡ members_depth ms
  members_depth-outline no_members = refl
  members_depth-outline (member k d ms) = ap₂ max (depth-outline d) (members_depth-outline ms)

tokens-compact_text : (d : Data) → IsPlain d → tokens (compact_text d) ≡ tree.json_tokens (outline d)
tokens-compact_text d h = ap tokens (sym (print-outline d)) ∙ tokens-print (tree.json_tokens (outline d)) (ArePrintable-json_tokens (outline d) (numbers d h))

read-compact_text : (d : Data) → IsPlain d → depth d ≤ max_depth → read (compact_text d) ≡ Some d
read-compact_text d h shallow =
    let j = outline d in
    let same = tokens-compact_text d h ∙ sym (append-nil (tree.json_tokens j)) in
    ap (λ ts. option_and_then of_json (option_and_then (λ p. json.if_last p.0 p.1) (json.value max_depth ts))) same
    ∙ ap (λ o. option_and_then of_json (option_and_then (λ p. json.if_last p.0 p.1) o)) (value-json_tokens j max_depth [] (subst (λ n. n ≤ max_depth) (sym (depth-outline d)) shallow))
    ∙ value_back d h

-- ---- the text is UTF-8

comma : (later : Bool) → IsUtf8 (comma_if later)
comma true = IsUtf8-are_ascii (44 ∷ []) refl
comma false = IsUtf8-nil

ascii_then : (x : ℕ) (xs : List ℕ) → IsUtf8 (x ∷ []) → IsUtf8 xs → IsUtf8 (x ∷ xs)
ascii_then x xs one u = IsUtf8-append (x ∷ []) xs one u

mutual
  text_utf8 : (d : Data) → IsPlain d → IsUtf8 (compact_text d)
  text_utf8 null h = IsUtf8-are_ascii _ refl
  text_utf8 (boolean b) h = IsUtf8-boolean b
  text_utf8 (number (unsigned n)) h = IsUtf8-from_ascii _ (IsAscii-decimal n h)
  text_utf8 (number (negative z)) h = absurd h
  text_utf8 (number (float x)) h = absurd h
  text_utf8 (string s) h = IsUtf8-quoted s h
  text_utf8 (array ds) h = ascii_then 91 _ (IsUtf8-are_ascii _ refl) (items_utf8 false ds h)
  text_utf8 (object ms) h = ascii_then 123 _ (IsUtf8-are_ascii _ refl) (members_utf8 false no_members ms h)

  items_utf8 : (later : Bool) (ds : Items) → ArePlain ds → IsUtf8 (items_text later ds)
  items_utf8 later no_items h = IsUtf8-are_ascii _ refl
  items_utf8 later (item d ds) h = IsUtf8-append _ _ (comma later) (IsUtf8-append _ _ (text_utf8 d h.0) (items_utf8 true ds h.1))

  members_utf8 : (later : Bool) (before ms : Members) → ArePlainAfter before ms → IsUtf8 (members_text later ms)
  members_utf8 later before no_members h = IsUtf8-are_ascii _ refl
  members_utf8 later before (member k d ms) h =
      let rest = members_utf8 true (after before (member k d no_members)) ms h.3 in
      IsUtf8-append _ _ (comma later) (IsUtf8-append _ _ (IsUtf8-quoted k h.0) (ascii_then 58 _ (IsUtf8-are_ascii _ refl) (IsUtf8-append _ _ (text_utf8 d h.1) rest)))

pub reads_back : (d : Data) → IsPlain d → ReadsBack d
reads_back d h = record { utf8 = text_utf8 d h; back = read-compact_text d h }
