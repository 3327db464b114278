use Rattle.std.proofs.Common.{◌<◌, ◌+◌, ◌*◌, ap, subst, sym, ◌∙◌}
use Rattle.std.specs.Prelude.{slice_set}
use Rattle.cg_history.specs.Results.{Results, KeepsRows, result_now}
use Rattle.cg_history.proofs.Rows.{set_keeps, set_now, set_others}
use Rattle.cg_history.proofs.history.History.set.Goals as goal

pub returns-clause-kept : goal.returns-clause-kept
returns-clause-kept c =
    let v = c.self.inside in
    let h : Results = record { words = v.words.items; units = v.units; rows = v.rows; row = v.row } in
    let known : c.args.unit < h.units = subst (λ (z : Results). c.args.unit < z.units) (sym c.self.view_is) c.requires in
    let new : Results = record h { words = slice_set h.words (h.row * h.units + c.args.unit) c.args.value } in
    subst (λ (z : Results). KeepsRows z new) c.self.view_is (set_keeps h c.self.invariant c.args.unit c.args.value known)

pub returns-clause-now : goal.returns-clause-now
returns-clause-now c =
    let v = c.self.inside in
    let h : Results = record { words = v.words.items; units = v.units; rows = v.rows; row = v.row } in
    let known : c.args.unit < h.units = subst (λ (z : Results). c.args.unit < z.units) (sym c.self.view_is) c.requires in
    set_now h c.self.invariant c.args.unit c.args.value known

pub returns-clause-others : goal.returns-clause-others
returns-clause-others c = λ x ne.
    let v = c.self.inside in
    let h : Results = record { words = v.words.items; units = v.units; rows = v.rows; row = v.row } in
    let known : c.args.unit < h.units = subst (λ (z : Results). c.args.unit < z.units) (sym c.self.view_is) c.requires in
    set_others h c.self.invariant c.args.unit c.args.value known x ne ∙ ap (λ (z : Results). result_now z x) c.self.view_is
