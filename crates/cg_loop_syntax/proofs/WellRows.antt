-- The rules of expressions, by the lists that the types hold.
use Rattle.std.proofs.Common.{◌≡◌, ℕ, suc, ◌-◌, Bool, true, false, ◌&&◌, List, [], ◌∷◌, length, refl, sym, ap, ap₂, ◌∙◌, rules, Vec, Global}
use Rattle.std.specs.Prelude.{nat_lt, eqb}
use Rattle.std.specs.List.{list_all}
use Rattle.cg_word.specs.declared.op.Op.{Op}
use Rattle.cg_word.specs.Word.{arity}
use Rattle.cg_loop_syntax.specs.declared.syntax.Atom.{Atom, Row_of-Expr, end_of-Expr, more_of-Expr, items-the_row-Expr, Apply, the_lemmas}
use Rattle.cg_loop_syntax.specs.declared.syntax.Expr.{Expr as WrittenExpr}
use Rattle.cg_loop_syntax.specs.declared.syntax.Sum.{Sum, Sum', out-Sum, outs-Sum', Row_of-Term, end_of-Term, more_of-Term, items-the_row-Term, items_shown-the_row-Term-2, Row_of-Atom, end_of-Atom, more_of-Atom, items-the_row-Atom, items_shown-the_row-Atom-1}
use Rattle.cg_loop_syntax.specs.declared.syntax.Term.{Term}
use Rattle.cg_loop_syntax.specs.Well.{is_word_op, is_adding, is_full, count, is_well_expr, is_well_sum, are_well_terms, is_well_atom, are_well_atoms, are_well_exprs, has_atom, is_well_product, is_well_term}

full_is : {m : _} (row : Row_of-Atom m) → is_full row ≡ has_atom (items-the_row-Atom m row)
full_is end_of-Atom = refl
full_is (more_of-Atom a rest) = refl

atoms_are : {m : _} (room : ℕ) (row : Row_of-Atom m) → are_well_atoms room row ≡ list_all (is_well_atom room) (items-the_row-Atom m row)
atoms_are room end_of-Atom = refl
atoms_are room (more_of-Atom a rest) = ap (λ z. is_well_atom room a && z) (atoms_are room rest)

product_is : {m : _} (room : ℕ) (row : Row_of-Atom m) → (is_full row && are_well_atoms room row) ≡ is_well_product room (items-the_row-Atom m row)
product_is room row = ap₂ (λ y z. y && z) (full_is row) (atoms_are room row)

terms_are : {m : _} (room : ℕ) (row : Row_of-Term m) → are_well_terms room row ≡ list_all (is_well_term room) (items-the_row-Term m row)
terms_are room end_of-Term = refl
terms_are room (more_of-Term op shape atoms rest) =
    ap₂ (λ y z. (is_adding op && y) && z) (product_is room atoms ∙ ap (is_well_product room) (sym (items_shown-the_row-Atom-1 shape atoms))) (terms_are room rest)

-- a sum, by its products
pub well_sum_is : (room : ℕ) (s : Sum) → is_well_sum room s ≡ (is_well_product room (out-Sum s).first.atoms.items && list_all (is_well_term room) (out-Sum s).rest.items)
well_sum_is room (Sum' shape atoms shape' rest) =
    ap₂ (λ y z. y && z)
    (product_is room atoms ∙ ap (is_well_product room) (sym (items_shown-the_row-Atom-1 shape atoms)))
    (terms_are room rest ∙ ap (list_all (is_well_term room)) (sym (items_shown-the_row-Term-2 shape' rest)))
    ∙ sym (ap (λ z. is_well_product room z.first.atoms.items && list_all (is_well_term room) z.rest.items) (outs-Sum' shape atoms shape' rest))

count_is : {m : _} (row : Row_of-Expr m) → count row ≡ length (items-the_row-Expr m row)
count_is end_of-Expr = refl
count_is (more_of-Expr e rest) = ap suc (count_is rest)

exprs_are : {m : _} (room : ℕ) (row : Row_of-Expr m) → are_well_exprs room row ≡ list_all (is_well_expr room) (items-the_row-Expr m row)
exprs_are room end_of-Expr = refl
exprs_are room (more_of-Expr e rest) = ap (λ z. is_well_expr room e && z) (exprs_are room rest)

-- an operation by its name, by its operands
pub well_apply_is : (room : ℕ) (op : Op) (v : Vec WrittenExpr Global) →
    is_well_atom room (Apply op v) ≡ ((nat_lt 0 room && (is_word_op op && eqb (length v.items) (arity op))) && list_all (is_well_expr (room - 1)) v.items)
well_apply_is room op v = search (rules, count_is, exprs_are, the_lemmas)
