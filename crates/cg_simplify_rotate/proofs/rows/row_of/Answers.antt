use Rattle.std.proofs.Common.{rules, ◌≡◌, ◌∙◌, refl, sym, arith}
use denote.Enum.Bare.{same_true}
use Rattle.cg_word.specs.contracts.op.Op.{the_type}
use Rattle.cg_word.specs.declared.op.Op.TheVariants.{Add, Sub}
use Rattle.cg_simplify_rotate.proofs.Laws.{alike_at, free_alike, free_of, from_difference_alike, from_sum_alike, less_sum_alike, sum_less_alike}
use Rattle.cg_simplify_rotate.proofs.rows.row_of.Goals as goal

pub returns-in-Sub-Add : goal.returns-in-Sub-Add
returns-in-Sub-Add c =
    let a : c.args.v ≡ Sub = cc in
    let b : c.args.u ≡ Add = cc in
    let d : c.args.i ≡ 0 = omega arith in
    alike_at c.args.v Sub c.args.i 0 c.args.u Add c.args.j c.args.j _ a d b refl (sum_less_alike c.args.j)

pub returns-in-Sub-Sub : goal.returns-in-Sub-Sub
returns-in-Sub-Sub c =
    let a : c.args.v ≡ Sub = cc in
    let b : c.args.u ≡ Sub = cc in
    let d : c.args.i ≡ 0 = omega arith in
    let e : c.args.j ≡ 1 = omega arith in
    alike_at c.args.v Sub c.args.i 0 c.args.u Sub c.args.j 1 _ a d b e from_difference_alike

pub returns-in-Add-Sub : goal.returns-in-Add-Sub
returns-in-Add-Sub c =
    let a : c.args.v ≡ Add = cc in
    let b : c.args.u ≡ Sub = cc in
    let d : c.args.j ≡ 0 = omega arith in
    alike_at c.args.v Add c.args.i c.args.i c.args.u Sub c.args.j 0 _ a refl b d (less_sum_alike c.args.i)

pub returns-in-Add-Sub-2 : goal.returns-in-Add-Sub-2
returns-in-Add-Sub-2 c =
    let a : c.args.v ≡ Add = cc in
    let b : c.args.u ≡ Sub = cc in
    let h = c.requires.j in
    let d : c.args.j ≡ 1 = omega arith in
    alike_at c.args.v Add c.args.i c.args.i c.args.u Sub c.args.j 1 _ a refl b d (from_sum_alike c.args.i)

pub returns-in_default : goal.returns-in_default
returns-in_default c =
    let a : c.args.u ≡ c.args.v = sym (same_true the_type (search rules) _ _ (sym c.if-eq.ensures)) in
    alike_at c.args.v c.args.v c.args.i c.args.i c.args.u c.args.v c.args.j c.args.j _ refl refl a refl
    (free_alike c.args.v (free_of c.args.v (sym c.is_free.ensures ∙ c.if-is_free.true)) c.args.i c.args.j)
