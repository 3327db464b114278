-- The lines of the report, one after another.
use Rattle.std.proofs.Common.{◌≡◌, ℕ, ◌+◌, ◌<◌, ◌≤◌, suc, List, [], ◌∷◌, ◌++◌, map, drop, get_or, length, String, Global, sym, ap, ◌∙◌, append_assoc, add-one, drop-cons}
use Rattle.std.specs.Prelude.{string_bytes}
use Rattle.std.proofs.Math.ListN.{drop_of_length-le}
use Rattle.std.proofs.lemmas.List.{append-nil}
use Rattle.cg_check.specs.Legal.{Mapped}
use Rattle.cg_show.specs.Schedule.{schedule_text}
use Rattle.cg_show.specs.Foot.{report_line, report_text, report_top, foot_text}

one_more : (i : ℕ) (lines : List (String Global)) (item : String Global) → i < length lines → item ≡ get_or lines i item → drop i lines ≡ item ∷ drop (i + 1) lines
one_more i lines item within is = rw add-one (drop-cons lines i item within ∙ ap (λ z. z ∷ drop (suc i) lines) (sym is))

-- one more line
pub reported : (old new whole line : List ℕ) (y i : ℕ) (lines : List (String Global)) (item : String Global)
    → i < length lines → item ≡ get_or lines i item → line ≡ string_bytes item
    → old ++ report_text y (map string_bytes (drop i lines)) ≡ whole → new ≡ old ++ report_line y line
    → new ++ report_text (y + 16) (map string_bytes (drop (i + 1) lines)) ≡ whole
reported old new whole line y i lines item within is said so_far here =
    ap (λ z. z ++ report_text (y + 16) (map string_bytes (drop (i + 1) lines))) (here ∙ ap (λ z. old ++ report_line y z) said)
    ∙ append_assoc old (report_line y (string_bytes item)) (report_text (y + 16) (map string_bytes (drop (i + 1) lines)))
    ∙ ap (λ z. old ++ report_text y (map string_bytes z)) (sym (one_more i lines item within is))
    ∙ so_far

-- after the last line
pub all_reported : (text whole : List ℕ) (y i : ℕ) (lines : List (String Global)) → length lines ≤ i → text ++ report_text y (map string_bytes (drop i lines)) ≡ whole → text ≡ whole
all_reported text whole y i lines last so_far =
    sym (append-nil text) ∙ ap (λ z. text ++ report_text y (map string_bytes z)) (sym (drop_of_length-le lines last)) ∙ so_far

-- the schedule and the report
pub foot_is : (m : Mapped) (lines : List (List ℕ)) (none a b : List ℕ) (top : ℕ) → none ≡ [] → top ≡ report_top m
    → a ≡ none ++ schedule_text m → b ≡ a ++ report_text top lines → b ≡ foot_text m lines
unfolding foot_text
foot_is m lines none a b top empty at schedule report =
    report ∙ ap (λ z. z ++ report_text top lines) (schedule ∙ ap (λ z. z ++ schedule_text m) empty) ∙ ap (λ z. schedule_text m ++ report_text z lines) at
