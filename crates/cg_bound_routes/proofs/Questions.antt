-- Questions and their answers.
use Rattle.std.proofs.Common.{◌≡◌, ℕ, ◌<◌, List, [], ◌∷◌, ◌++◌, length, get_or, sym, ap, ◌∙◌, subst, ⊎_elim, Contains}
use Rattle.std.specs.Prelude.{Option}
use Rattle.std.proofs.lemmas.List.{get_or_default}
use Rattle.std.proofs.lemmas.List.Elements.{Contains-get_or, Contains-push_cases}
use Rattle.cg_word.specs.Word.{code}
use Rattle.cg_word.proofs.Codes.{same_code}
use Rattle.cg_model.specs.Array.{Arch}
use Rattle.cg_bound_routes.specs.declared.question.Question.{Question}
use Rattle.cg_bound_routes.specs.declared.answers.Answer.{Answer}
use Rattle.cg_bound_routes.specs.Question.{IsAnswer, AreAnswers}

pub same_question : (a b : Question) → code a.from ≡ code b.from → code a.to ≡ code b.to → a.arg ≡ b.arg → a.ends ≡ b.ends → a ≡ b
same_question a b e f g h =
    let e' = same_code a.from b.from e in
    let f' = same_code a.to b.to f in
    ap (λ z. record { from = z; to = a.to; arg = a.arg; ends = a.ends }) e'
    ∙ ap (λ z. record { from = b.from; to = z; arg = a.arg; ends = a.ends }) f'
    ∙ ap (λ z. record { from = b.from; to = b.to; arg = z; ends = a.ends }) g
    ∙ ap (λ z. record { from = b.from; to = b.to; arg = b.arg; ends = z }) h

-- an answer that is kept
pub kept_answer : (A : Arch) (answers : List Answer) (place : ℕ) (a : Answer) (q : Question) → AreAnswers A answers → place < length answers → a ≡ get_or answers place a → a.question ≡ q →
    IsAnswer A q a.hops
kept_answer A answers place a q all l is same =
    let c : Contains answers a = subst (Contains answers) (sym is) (Contains-get_or answers place a l) in
    subst (λ z. IsAnswer A z a.hops) same (all a c)

-- one more
pub keep_answer : (A : Arch) (answers : List Answer) (q : Question) (hops : Option ℕ) → AreAnswers A answers → IsAnswer A q hops → AreAnswers A (answers ++ record { question = q; hops = hops } ∷ [])
keep_answer A answers q hops all is = λ a c.
    ⊎_elim {C = IsAnswer A a.question a.hops} (λ h. all a h) (λ e. subst (λ z. IsAnswer A z.question z.hops) e is) (Contains-push_cases answers (record { question = q; hops = hops }) a c)

-- a question that was found
pub found_same : (answers : List Answer) (place : ℕ) (a b : Answer) (q : Question) → place < length answers → (get_or answers place a).question ≡ q → (get_or answers place b).question ≡ q
found_same answers place a b q l e = ap (λ z. z.question) (get_or_default answers place b a l) ∙ e
