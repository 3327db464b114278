use Rattle.std.proofs.Common.{◌<◌, None, sym, subst}
use Rattle.cg_model.specs.Kernel.{Kernel, size}
use Rattle.cg_depend.specs.Depend.{Gap}
use Rattle.cg_depend.specs.Gathered.{ask}
use Rattle.cg_simplify_order.specs.Found.{HasNoNeed, Pair}
use Rattle.cg_simplify_order.proofs.Needed.{namesake_read, never_meets}
use Rattle.cg_simplify_order.proofs.rewriting.Rewriting.turns.Goals as goal

pub returns-in-None : goal.returns-in-None
returns-in-None c =
    let K = c.self.inside.given.now in
    let L = c.self.inside.rewritten.now in
    let numbers = c.self.inside.numbers.items in
    let u = c.args.u in
    let v = c.args.v in
    let has = c.self.invariant.0 in
    let lu : u < size L = subst (λ (p : Pair). u < size p.rewritten) (sym c.self.view_is) c.requires.u in
    let lv : v < size L = subst (λ (p : Pair). v < size p.rewritten) (sym c.self.view_is) c.requires.v in
    let source = namesake_read K L numbers u c.index-before.result.now c.index-before.result.now has lu c.index-before.ensures in
    let target = namesake_read K L numbers v c.index-after.result.now c.index-after.result.now has lv c.index-after.ensures in
    subst (λ (p : Pair). HasNoNeed p.given p.rewritten u v) c.self.view_is
    (never_meets K L has.valid u v c.index-before.result.now c.index-after.result.now c.in-Some.least source target c.in-Some.ensures.least
    (subst (λ (z : Kernel). Gap z (ask u v c.in-Some.least) None) c.self.invariant.1 c.in-None.ensures))
