-- An operation is called by its name.
use Rattle.std.proofs.Common.{◌≡◌, ℕ, Bool, List, [], ◌∷◌, Some, refl, sym, ap, ◌∙◌}
use Rattle.std.specs.Prelude.{is_some, bytes_eq, find, ◌&&◌, ◌||◌}
use Rattle.std.specs.List.{list_any}
use Rattle.std.proofs.lemmas.Bool.{cond_both}
use Rattle.cg_word.specs.declared.op.Op.{Op}
use Rattle.cg_word.specs.Word.{all_ops, name_of}
use Rattle.cg_loop_syntax.specs.Well.{is_op_name, is_word_op}
use Rattle.cg_loop_text_spec.specs.Words.{op_called}

some_found : (test : Op → Bool) (ops : List Op) → is_some (find test ops) ≡ list_any test ops
some_found test [] = refl
some_found test (o ∷ os) =
    cond_both (test o) (Some o) (find test os) (λ z. is_some z ≡ (test o || list_any test os))
    (λ t. sym (ap (λ z. z || list_any test os) t)) (λ t. some_found test os ∙ sym (ap (λ z. z || list_any test os) t))

pub called_is : (t : List ℕ) → is_some (op_called t) ≡ is_op_name t
called_is t = some_found (λ op. is_word_op op && bytes_eq (name_of op) t) all_ops
