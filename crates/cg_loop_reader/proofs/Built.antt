-- Sums and expressions that are built of their parts.
use Rattle.std.proofs.Common.{◌≡◌, ℕ, ◌&&◌, true, Some, None, ap, ◌∙◌, rules, Vec, Global}
use Rattle.std.specs.List.{list_all}
use Rattle.cg_word.specs.declared.op.Op.{Op}
use Rattle.cg_loop_syntax.specs.Loop as loops
use Rattle.cg_loop_syntax.specs.declared.syntax.Prod.{Prod}
use Rattle.cg_loop_syntax.specs.declared.syntax.Term.{Term}
use Rattle.cg_loop_syntax.specs.declared.syntax.Sum.{Sum, roll-Sum, out-roll-Sum}
use Rattle.cg_loop_syntax.specs.declared.syntax.Compare.{roll-Compare}
use Rattle.cg_loop_syntax.specs.declared.syntax.Expr.{roll-Expr, the_lemmas}
use Rattle.cg_loop_syntax.specs.Grouped.{expr_of, sum_of, whole_prod, terms}
use Rattle.cg_loop_syntax.specs.Well.{is_comparing, is_well_expr, is_well_sum, is_well_product, is_well_term}
use Rattle.cg_loop_syntax.proofs.Rows.{sum_is}
use Rattle.cg_loop_syntax.proofs.WellRows.{well_sum_is}

pub sum_value : (p : Prod) (v : Vec Term Global) → sum_of (roll-Sum (record { first = p; rest = v })) ≡ terms (whole_prod p) v.items
sum_value p v = sum_is _ ∙ ap (λ z. terms (whole_prod z.first) z.rest.items) (out-roll-Sum (record { first = p; rest = v }))

pub sum_well : (room : ℕ) (p : Prod) (v : Vec Term Global) → is_well_sum room (roll-Sum (record { first = p; rest = v })) ≡ (is_well_product room p.atoms.items && list_all (is_well_term room) v.items)
sum_well room p v = well_sum_is room _ ∙ ap (λ z. is_well_product room z.first.atoms.items && list_all (is_well_term room) z.rest.items) (out-roll-Sum (record { first = p; rest = v }))

pub plain_value : (s : Sum) → expr_of (roll-Expr (record { first = s; compare = None })) ≡ sum_of s
plain_value s = search (rules, the_lemmas)

pub plain_well : (room : ℕ) (s : Sum) → is_well_expr room (roll-Expr (record { first = s; compare = None })) ≡ (is_well_sum room s && true)
plain_well room s = search (rules, the_lemmas)

pub compared_value : (s : Sum) (op : Op) (r : Sum) → expr_of (roll-Expr (record { first = s; compare = Some (roll-Compare (record { op = op; second = r })) })) ≡ loops.Two op (sum_of s) (sum_of r)
compared_value s op r = search (rules, the_lemmas)

pub compared_well : (room : ℕ) (s : Sum) (op : Op) (r : Sum) → is_well_expr room (roll-Expr (record { first = s; compare = Some (roll-Compare (record { op = op; second = r })) })) ≡ (is_well_sum room s && (is_comparing op && is_well_sum room r))
compared_well room s op r = search (rules, the_lemmas)
