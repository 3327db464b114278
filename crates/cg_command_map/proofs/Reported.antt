-- The report of what is left: what an interval adds to it.
use Rattle.std.proofs.Common.{◌≡◌, ℕ, ◌+◌, ◌<◌, ◌≤◌, List, ◌++◌, length, drop, get_or, sym, ap, subst, ◌∙◌, append_assoc, arith}
use Rattle.std.proofs.lemmas.List.{drop_more, drop_all, append-nil}
use Rattle.cg_effects.specs.Outcome.{Bytes}
use Rattle.cg_model.specs.Array.{Arch}
use Rattle.cg_model.specs.Kernel.{Kernel}
use Rattle.cg_model.specs.Mapping.{IsShaped}
use Rattle.cg_inputs.specs.Sources.{Pair}
use Rattle.cg_search.specs.declared.misses.Miss.{Miss}
use Rattle.cg_search.specs.Search.{AreMissedFrom}
use Rattle.cg_search.proofs.Missed.{missed_at}
use Rattle.cg_command_map.specs.Search.{interval_report, faults_report}

-- the first of the intervals that are left
next_interval : (p : Pair) (ii i : ℕ) (misses : List Miss) (m : Miss) → i < length misses
    → faults_report p (ii + i) (drop i misses) ≡ interval_report p (ii + i) (get_or misses i m) ++ faults_report p (ii + (i + 1)) (drop (i + 1) misses)
next_interval p ii i misses m few =
    let next : ii + i + 1 ≡ ii + (i + 1) = omega arith in
    ap (λ (z : List Miss). faults_report p (ii + i) z) (drop_more misses i m few)
    ∙ ap (λ j. interval_report p (ii + i) (get_or misses i m) ++ faults_report p j (drop (i + 1) misses)) next

-- one more interval
pub reported_more : (p : Pair) (ii i : ℕ) (misses : List Miss) (m : Miss) (old new whole : Bytes) → i < length misses
    → m ≡ get_or misses i m → old ++ faults_report p (ii + i) (drop i misses) ≡ whole → new ≡ old ++ interval_report p (ii + i) m
    → new ++ faults_report p (ii + (i + 1)) (drop (i + 1) misses) ≡ whole
reported_more p ii i misses m old new whole few here so_far e =
    let rest = faults_report p (ii + (i + 1)) (drop (i + 1) misses) in
    let next = next_interval p ii i misses m few ∙ ap (λ (z : Miss). interval_report p (ii + i) z ++ rest) (sym here) in
    ap (λ z. z ++ rest) e ∙ append_assoc old (interval_report p (ii + i) m) rest ∙ ap (λ z. old ++ z) (sym next) ∙ so_far

-- all of them
pub all_reported : (p : Pair) (ii i : ℕ) (misses : List Miss) (report whole : Bytes) → length misses ≤ i → report ++ faults_report p (ii + i) (drop i misses) ≡ whole → report ≡ whole
all_reported p ii i misses report whole past so_far = sym (append-nil report) ∙ ap (λ (z : List Miss). report ++ faults_report p (ii + i) z) (sym (drop_all i misses past)) ∙ so_far

-- the mapping that was missed at an interval
pub shaped_at : (A : Arch) (K : Kernel) (ii i : ℕ) (misses : List Miss) (m : Miss) → AreMissedFrom A K ii misses → i < length misses → m ≡ get_or misses i m → IsShaped K m.mapping
shaped_at A K ii i misses m are few here = subst (λ (z : Miss). IsShaped K z.mapping) (sym here) (missed_at A K ii misses i m are few).missed.shape
