-- Steps of the lists of violations.
use Rattle.std.proofs.Common.{◌≡◌, ℕ, zero, suc, ◌*◌, ◌<◌, Bool, true, List, [], ◌++◌, length, replicate, refl, sym, ap, ◌∙◌, arith}
use Rattle.std.proofs.Common.{append_assoc}
use Rattle.std.proofs.lemmas.List.{append-nil}
use Rattle.std.proofs.lemmas.Bool.{cond-true}
use Rattle.cg_list_laws.specs.Below.{lists_below}
use Rattle.cg_model.specs.Kernel.{Kernel}
use Rattle.cg_model.specs.Array.{Arch}
use Rattle.cg_model.specs.Mapping.{Mapping, positions}
use Rattle.cg_check.specs.declared.rule.Rule.{Rule}
use Rattle.cg_check.specs.declared.rule.RulePlace.{RulePlace}
use Rattle.cg_check.specs.declared.rule.RulePlace.TheVariants as at
use Rattle.cg_check.specs.declared.rule.Violation.{Violation}
use Rattle.cg_check.specs.declared.stop.Sharing.{Sharing}
use Rattle.cg_check.specs.declared.stop.Sharing.TheVariants.{Value, Way}
use Rattle.cg_check.specs.declared.stop.Cell.{Cell}
use Rattle.cg_check.specs.declared.stop.Cell.TheVariants.{Free}
use Rattle.cg_check.specs.Rules.{is_interval, same_value, same_way}
use Rattle.cg_check.specs.Claims.{alike, claims, rule_of}
use Rattle.cg_check.proofs.Tables.{told, all_claimed, begun}
use Rattle.cg_violations.specs.Violations.{violation_if, clash_violations, violations_by}
use Rattle.cg_violations.specs.Cells.{row_violations}

-- a violation that was pushed by a test that has another name
pub pushed : (old new : List Violation) (b d : Bool) (rule : Rule) (p : RulePlace) → b ≡ d → new ≡ old ++ violation_if b rule p → new ≡ old ++ violation_if d rule p
pushed old new b d rule p same e = e ∙ ap (λ z. old ++ violation_if z rule p) same

-- lists of numbers below n that are the same
pub lists_below-same : {T : Type 0} (f g : ℕ → List T) (n : ℕ) → ((k : ℕ) → k < n → f k ≡ g k) → lists_below f n ≡ lists_below g n
unfolding lists_below
lists_below-same f g zero h = refl
lists_below-same f g (suc n) h =
    ap (λ z. z ++ f n) (lists_below-same f g n (λ k l. h k (omega arith))) ∙ ap (λ z. lists_below g n ++ z) (h n (omega arith))

-- the slots are judged where the interval is one of the architecture
pub judged : (sharing : Sharing) (A : Arch) (K : Kernel) (M : Mapping) → is_interval A M ≡ true → clash_violations (alike sharing) (rule_of sharing) A K M ≡ violations_by (rule_of sharing) A K M
judged Value A K M e = sym (cond-true (is_interval A M) (clash_violations same_value (rule_of Value) A K M) [] e)
judged Way A K M e = sym (cond-true (is_interval A M) (clash_violations same_way (rule_of Way) A K M) [] e)

-- the clashes of the table of all positions are the violations
pub in_table : (sharing : Sharing) (A : Arch) (K : Kernel) (M : Mapping) (table : List Cell) → 0 < M.ii →
    table ≡ claims sharing M.ii (replicate (length A.resources * M.ii) Free) (positions A K M) →
    lists_below (row_violations table M.ii (rule_of sharing)) (length A.resources) ≡ clash_violations (alike sharing) (rule_of sharing) A K M
in_table sharing A K M table some e =
    let t = all_claimed sharing M.ii (length A.resources) [] (positions A K M) _ some (begun sharing M.ii (length A.resources)) in
    ap (λ z. lists_below (row_violations z M.ii (rule_of sharing)) (length A.resources)) e
    ∙ lists_below-same _ _ (length A.resources) (λ r lr. lists_below-same _ _ M.ii (λ s ls.
    ap (λ b. violation_if b (rule_of sharing) (at.Resource r s)) (told sharing M.ii r s (positions A K M) _ (t.cells r s lr ls))))

-- what was pushed from that table
pub from_table : (sharing : Sharing) (A : Arch) (K : Kernel) (M : Mapping) (table : List Cell) (ii n : ℕ) (rule : Rule) (old new : List Violation) → 0 < M.ii →
    table ≡ claims sharing M.ii (replicate (length A.resources * M.ii) Free) (positions A K M) → ii ≡ M.ii → rule ≡ rule_of sharing → n ≡ length A.resources →
    new ≡ old ++ lists_below (row_violations table ii rule) n → new ≡ old ++ clash_violations (alike sharing) (rule_of sharing) A K M
from_table sharing A K M table ii n rule old new some is e f g here =
    here ∙ ap (λ z. old ++ lists_below (row_violations table z rule) n) e
    ∙ ap (λ z. old ++ lists_below (row_violations table M.ii z) n) f
    ∙ ap (λ z. old ++ lists_below (row_violations table M.ii (rule_of sharing)) z) g
    ∙ ap (λ z. old ++ z) (in_table sharing A K M table some is)

-- seven lists, pushed one after another
pub gathered : (a b c d e f g z t u v w x y last : List Violation) → z ≡ [] → t ≡ z ++ a → u ≡ t ++ b → v ≡ u ++ c → w ≡ v ++ d → x ≡ w ++ e → y ≡ x ++ f → last ≡ y ++ g →
    last ≡ a ++ (b ++ (c ++ (d ++ (e ++ (f ++ (g ++ []))))))
gathered a b c d e f g z t u v w x y last begin ta ub vc wd xe yf lg =
    let all : last ≡ ((((((([] ++ a) ++ b) ++ c) ++ d) ++ e) ++ f) ++ g) = cc in
    all ∙ simp (append_assoc, append-nil)
