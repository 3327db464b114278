use Rattle.std.proofs.Common.{sym, ◌∙◌, rules}
use Rattle.std.proofs.lemmas.Bool.{eqb-true, eq-eqb}
use Rattle.cg_netlist.proofs.Digits.{empty_missed, last_missed, single_found, more_found, split_last}
use Rattle.cg_netlist.proofs.written.+is_written.Goals as goal

pub returns-then-length-eq0 : goal.returns-then-length-eq0
returns-then-length-eq0 n c = empty_missed c.args.base c.args.number c.args.text.now c.requires.low (search rules) c.if-length-eq0.true

pub returns-then-text-place : goal.returns-then-text-place
returns-then-text-place n c =
    last_missed c.args.base c.args.number c.args.text.now _ _ c.requires.low (search rules) (split_last c.args.text.now c.if-length-eq0.false) (λ e. c.if-text-place.true (e ∙ sym c.glyph.ensures))

pub returns-then-more-eq0 : goal.returns-then-more-eq0
returns-then-more-eq0 n c =
    single_found c.args.base c.args.number c.args.text.now _ _ c.is_empty.result (split_last c.args.text.now c.if-length-eq0.false) (c.if-text-place.false ∙ c.glyph.ensures) c.if-more-eq0.true
    (λ e. eqb-true _ 0 (sym c.is_empty.ensures ∙ e), λ e. c.is_empty.ensures ∙ eq-eqb _ 0 e)

pub returns : goal.returns
returns n c =
    more_found c.args.base c.args.number c.args.text.now _ _ c.is_written.result c.requires.low (search rules) (split_last c.args.text.now c.if-length-eq0.false) (c.if-text-place.false ∙ c.glyph.ensures)
    c.if-more-eq0.false c.is_written.ensures
