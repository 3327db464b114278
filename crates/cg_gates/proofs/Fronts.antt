-- What comes after the front of a text.
use Rattle.std.proofs.Common.{◌≡◌, ℕ, List, ◌++◌, length, take, drop, Bool, true, false, Option, Some, None, Bor, cond, refl, ap, sym, ◌∙◌}
use Rattle.std.specs.Option.{MatchOption, option_copied}
use Rattle.std.specs.Str.{bytes_eq}
use Rattle.std.specs.Str.Pattern.{FindsTextPrefix, StripsPrefix}
use Rattle.std.proofs.Math.Seq.{take-append_seam}
use Rattle.std.proofs.lemmas.List.{take-append-drop}
use Rattle.std.proofs.lemmas.Slice.Eq.{bytes_eq-Decides}

abbrev pub after : List ℕ → List ℕ → Option (List ℕ)
after front text = cond (bytes_eq (take (length front) text) front) (Some (drop (length front) text)) None

-- `strip_prefix` gives what comes after that front
pub after_front-is : (front text : List ℕ) (r : Option (Bor (List ℕ))) → MatchOption r (FindsTextPrefix front text None) (λ x. StripsPrefix (FindsTextPrefix front) text x.now) → option_copied r ≡ after front text
after_front-is front text None h = sym (lacking (bytes_eq (take (length front) text) front) refl)
  where
    lacking : (b : Bool) → bytes_eq (take (length front) text) front ≡ b → cond b (Some (drop (length front) text)) None ≡ None
    lacking true e =
        let same = (bytes_eq-Decides (take (length front) text) front).0 e in
        absurd (h (drop (length front) text) (sym (take-append-drop (length front) text) ∙ ap (λ z. z ++ drop (length front) text) same))
    lacking false e = refl
after_front-is front text (Some x) h =
    let same = ap (take (length front)) h.1.1 ∙ take-append_seam front (drop h.0 text) in
    let found = (bytes_eq-Decides (take (length front) text) front).1 same in
    ap Some (h.2 ∙ ap (λ k. drop k text) h.1.0) ∙ sym (ap (λ b. cond b (Some (drop (length front) text)) None) found)
