use Rattle.std.proofs.Common.{◌≡◌, ◌<◌, ◌+◌, ◌-◌, ◌*◌, ◌%◌, ℕ, sym, ap, ◌∙◌, arith}
use Rattle.std.specs.Prelude.{slice_index}
use Rattle.std.proofs.lemmas.List.{get_or_read}
use Rattle.cg_history.specs.Results.{Results, result_ago}
use Rattle.cg_history.proofs.Rows.{back_low, back_high, back_within, place_below}
use Rattle.cg_history.proofs.history.History.ago.Goals.{then-delay-self, else-delay-self}
use Rattle.cg_history.proofs.history.History.ago.Goals as goal

pub returns : goal.returns
returns c =
    let v = c.self.inside in
    let d = c.args.delay in
    let x = c.args.unit in
    let row = c.if-delay-self.row in
    let within = c.self.invariant.within in
    let long = c.self.invariant.long in
    let small = c.requires.delay.1 in
    let some = c.requires.delay.0 in
    let rows_is : v.rows ≡ c.args.self.now.rows = ap (λ (h : Results). h.rows) c.self.view_is in
    let units_is : v.units ≡ c.args.self.now.units = ap (λ (h : Results). h.units) c.self.view_is in
    let known = c.requires.unit in
    let row_is : row ≡ (v.row + v.rows - d) % v.rows =
    elim c.if-delay-self.branch [
      | then-delay-self w ↦ w.row-is ∙ sym (back_low v.row v.rows d within w.if-delay-self.true)
      | else-delay-self w ↦ (let l = w.if-delay-self.false in w.row-is ∙ sym (back_high v.row v.rows d (omega arith) (omega arith)))
    ] in
    let below : (v.row + v.rows - d) % v.rows < v.rows = back_within v.row v.rows d within (omega arith) in
    let inside : row * v.units + x < v.rows * v.units = place_below row v.rows v.units x (omega arith) (omega arith) in
    get_or_read v.words.items (row * v.units + x) c.index.result.now (omega arith) c.index.ensures 0
    ∙ ap (λ (r : ℕ). slice_index v.words.items (r * v.units + x)) row_is
    ∙ ap (λ (h : Results). result_ago h x d) c.self.view_is
