-- A word more of a run.
use Rattle.std.proofs.Common.{◌≡◌, ℕ, suc, ◌+◌, ◌%◌, List, [], ◌∷◌, ◌++◌, append_assoc, ap, ◌∙◌, sym}
use Rattle.cg_word.specs.Word.{words}
use Rattle.cg_image_text.specs.Runs.{words_from}

pub run_more : (old new whole : List ℕ) (word step n k : ℕ) → new ≡ old ++ word ∷ [] → n ≡ suc k → old ++ words_from word step n ≡ whole → new ++ words_from ((word + step) % words) step k ≡ whole
run_more old new whole word step n k pushed e so_far =
    ap (λ x. x ++ words_from ((word + step) % words) step k) pushed
    ∙ append_assoc old (word ∷ []) (words_from ((word + step) % words) step k)
    ∙ ap (λ m. old ++ words_from word step m) (sym e)
    ∙ so_far
