use Rattle.std.proofs.Common.{◌≡◌, ◌+◌, ◌%◌, ℕ, ap, sym, ◌∙◌, arith}
use Rattle.cg_history.specs.Results.{Results, result_ago, result_now}
use Rattle.cg_history.proofs.Rows.{next_first, next_later, next_inside, next_around}
use Rattle.cg_history.proofs.history.History.advance.Goals.{then-next-self, else-next-self}
use Rattle.cg_history.proofs.history.History.advance.Goals as goal

pub returns-clause-first : goal.returns-clause-first
returns-clause-first c = λ x.
    let v = c.self.inside in
    let h : Results = record { words = v.words.items; units = v.units; rows = v.rows; row = v.row } in
    let within = c.self.invariant.within in
    let row : c.if-next-self.self ≡ (v.row + 1) % v.rows =
    elim c.if-next-self.branch [
      | then-next-self w ↦ (let last : v.row + 1 ≡ v.rows = w.if-next-self.true in w.self-is ∙ sym (next_around v.row v.rows within last))
      | else-next-self w ↦ (let more = w.if-next-self.false in w.self-is ∙ sym (next_inside v.row v.rows (omega arith)))
    ] in
    ap (λ (r : ℕ). let z : Results = record h { row = r } in result_ago z x 1) row
    ∙ next_first h c.self.invariant x
    ∙ ap (λ (z : Results). result_now z x) c.self.view_is

pub returns-clause-later : goal.returns-clause-later
returns-clause-later c = λ x d l.
    let v = c.self.inside in
    let h : Results = record { words = v.words.items; units = v.units; rows = v.rows; row = v.row } in
    let within = c.self.invariant.within in
    let rows_is : v.rows ≡ c.args.self.now.rows = ap (λ (z : Results). z.rows) c.self.view_is in
    let row : c.if-next-self.self ≡ (v.row + 1) % v.rows =
    elim c.if-next-self.branch [
      | then-next-self w ↦ (let last : v.row + 1 ≡ v.rows = w.if-next-self.true in w.self-is ∙ sym (next_around v.row v.rows within last))
      | else-next-self w ↦ (let more = w.if-next-self.false in w.self-is ∙ sym (next_inside v.row v.rows (omega arith)))
    ] in
    ap (λ (r : ℕ). let z : Results = record h { row = r } in result_ago z x (d + 1)) row
    ∙ next_later h c.self.invariant x d (omega arith)
    ∙ ap (λ (z : Results). result_ago z x d) c.self.view_is
