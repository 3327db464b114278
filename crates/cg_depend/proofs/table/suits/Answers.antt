use Rattle.std.proofs.Common.{◌-◌, sym, ◌∙◌}
use Rattle.std.specs.Prelude.{slice_index}
use Rattle.std.proofs.lemmas.Bool.{ne_eqb}
use Rattle.cg_depend.specs.Affine.{ago}
use Rattle.cg_depend.proofs.PairTable.{unsuited}
use Rattle.cg_depend.proofs.table.suits.Goals as goal

pub returns-then-word_at-ago : goal.returns-then-word_at-ago
returns-then-word_at-ago c =
    let p = c.args.pair in
    let d = c.args.distance in
    let init = c.args.init.now in
    let k = c.loop-turn.turn in
    sym (unsuited p d init k d c.loop-turn-test.true (ne_eqb (slice_index init k) (ago p (d - k)) (λ e. c.if-word_at-ago.true (c.word_at.ensures ∙ e ∙ sym c.ago.ensures))))
