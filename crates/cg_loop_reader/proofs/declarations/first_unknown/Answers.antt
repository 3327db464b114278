use Rattle.std.proofs.Common.{◌≡◌, ◌<◌, length, get_or, arith, ap, sym, ◌∙◌, not}
use Rattle.cg_loop_syntax.specs.Uses.{is_unknown, may}
use Rattle.cg_loop_reader.proofs.Declared.{known_more, known_is}
use Rattle.cg_loop_reader.proofs.Steps.{found, passed, name_below, no_use}
use Rattle.cg_loop_reader.proofs.declarations.first_unknown.Goals as goal

pub returns-then-not-may : goal.returns-then-not-may
returns-then-not-may c =
    let us = c.args.numbered.now.uses.items in
    let xs = c.deref-used-items.result.now in
    let same : xs ≡ us = c.deref-used-items.ensures.value in
    let i = c.loop-used.used-index in
    let u = get_or xs i no_use in
    let within : i < length us = omega arith in
    let known = c.loop-used.invariant.known in
    let below = name_below c.args.numbered.now.names us xs i no_use c.args.numbered.now.below same within in
    let within' : u.name < length c.loop-used.known.items = omega (arith, c.loop-used.invariant.length) in
    let may_be = ap (may u.role) (known_is us i u.name c.loop-used.known.items c.index.result.now within' known c.index.ensures) ∙ sym c.may.ensures ∙ c.if-not-may.true in
    found is_unknown us xs i no_use same within c.loop-used.invariant.left (ap not may_be)

pub loop-used-preserved : goal.loop-used-preserved
loop-used-preserved c =
    let us = c.args.numbered.now.uses.items in
    let xs = c.deref-used-items.result.now in
    let same : xs ≡ us = c.deref-used-items.ensures.value in
    let i = c.loop-used.used-index in
    let u = get_or xs i no_use in
    let within : i < length us = omega arith in
    let known = c.loop-used.invariant.known in
    let below = name_below c.args.numbered.now.names us xs i no_use c.args.numbered.now.below same within in
    let within' : u.name < length c.loop-used.known.items = omega (arith, c.loop-used.invariant.length) in
    let may_be = ap (may u.role) (known_is us i u.name c.loop-used.known.items c.index.result.now within' known c.index.ensures) ∙ sym c.may.ensures ∙ c.if-not-may.false in
    record {
      left = passed is_unknown us xs i no_use same within c.loop-used.invariant.left (ap not may_be);
      known = known_more us xs i no_use c.loop-used.known.items c.declare.new.known.items same within known c.declare.ensures.known;
      length = c.declare.ensures.length ∙ c.loop-used.invariant.length;
    }
