use Rattle.std.proofs.Common.{◌≡◌, ℕ, [], List, ◌++◌, length, get_or, subst, ap, ◌∙◌}
use Rattle.std.specs.Prelude.{string_bytes}
use Rattle.cg_list_laws.specs.Below.{lists_below}
use Rattle.cg_image_text.specs.Sections.{answer_of}
use Rattle.cg_image_text.specs.Printed.{AreWords, memory_text, stream_at, text_of}
use Rattle.cg_image_text.proofs.Streamed.{reads_back}
use Rattle.cg_image_text.proofs.print.print_text.Goals as goal

pub returns-clause-read_back : goal.returns-clause-read_back
unfolding text_of
returns-clause-read_back c = λ storable.
    let image = c.args.image.now in
    let memory : AreWords image.memory = subst AreWords c.memory.ensures c.in_ok-push_memory.ensures.words in
    let streams : (port : ℕ) → AreWords (get_or image.streams port []) = subst (λ (x : List (List ℕ)). (port : ℕ) → AreWords (get_or x port [])) c.streams.ensures.streams c.in_ok-push_streams.ensures.words in
    let text : string_bytes c.push_streams.new.text ≡ text_of image =
    c.in_ok-push_streams.ensures.text
    ∙ ap (λ z. z ++ lists_below (stream_at c.streams.result.now) (length c.streams.result.now))
    (c.in_ok-push_memory.ensures.text ∙ ap (λ z. z ++ memory_text c.memory.result.now) c.new-text.ensures.bytes ∙ ap memory_text c.memory.ensures)
    ∙ ap (λ (xs : List (List ℕ)). memory_text image.memory ++ lists_below (stream_at xs) (length xs)) c.streams.ensures.streams
    ∙ ap (λ n. memory_text image.memory ++ lists_below (stream_at image.streams) n) c.streams.ensures.sixteen in
    ap answer_of text ∙ reads_back image storable c.streams.ensures.sixteen memory streams
