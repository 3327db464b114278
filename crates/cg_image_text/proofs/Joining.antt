-- Parts of texts under other names, and what holds of all streams.
use Rattle.std.proofs.Common.{◌≡◌, ℕ, ◌<◌, ◌≤◌, List, [], ◌++◌, length, get_or, ap, sym, subst, ◌∙◌, ⊎_elim, arith}
use Rattle.std.proofs.lemmas.Bool.{cases_lt}
use Rattle.std.proofs.lemmas.List.{get_or_past}
use Rattle.cg_image_text.specs.Printed.{AreWords}

pub renamed : (old new part whole : List ℕ) → new ≡ old ++ part → part ≡ whole → new ≡ old ++ whole
renamed old new part whole here e = here ∙ ap (λ z. old ++ z) e

no_words : AreWords []
no_words k = omega arith

-- what holds of the streams that there are holds of all
pub all_words : (streams : List (List ℕ)) (n : ℕ) → length streams ≤ n → ((port : ℕ) → port < n → AreWords (get_or streams port [])) → (port : ℕ) → AreWords (get_or streams port [])
all_words streams n past here port =
    ⊎_elim (here port) (λ h. let far : length streams ≤ port = omega arith in subst AreWords (sym (get_or_past streams port [] far)) no_words) (cases_lt port n)
