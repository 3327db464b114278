use Rattle.std.proofs.Common.{subst, sym, Contains}
use Rattle.std.proofs.lemmas.List.Elements.{Contains-get_or}
use Rattle.cg_bound_text.proofs.lines.push_lines_above.Goals as goal

pub push_line-requires : goal.push_line-requires
push_line-requires c =
    let bounds = c.args.bounds.now in
    let bound = c.bound-item.result in
    record { short = c.requires.short bound (subst (Contains bounds) (sym c.bound-item.is) (Contains-get_or bounds c.loop-bound.bound-index bound c.loop-bound-test.true)) }
