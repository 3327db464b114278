use Rattle.std.proofs.Common.{◌+◌, ◌^◌, sym, subst, arith}
use Rattle.cg_route.specs.Layers.{Layer, IsBelow}
use Rattle.cg_route.proofs.Begins.{entered_below, more_below}
use Rattle.cg_route.proofs.search.Search.visit.Goals as goal

pub returns-clause-below : goal.returns-clause-below
returns-clause-below c = λ high old.
    let S = c.args.self.now in
    let mid : Layer = c.enter.new.here in
    let all = c.requires.all in
    let known = c.requires.known in
    let low : IsBelow high mid = subst (λ l. IsBelow high l) (sym c.enter.ensures) (entered_below S c.args.k c.args.resource high c.args.here.now (omega arith) old) in
    c.pass.ensures.below (high + 2 ^ 52) (λ s e. let z = low c.args.resource s e in omega arith) (more_below high (high + 2 ^ 52) mid (omega arith) low)
