use Rattle.std.proofs.Common.{◌≡◌, ◌<◌, length, true, false, Some, sym, ap, ◌∙◌, arith}
use Rattle.std.proofs.lemmas.Option.{slice_get-get_or}
use Rattle.cg_model.specs.Array.{unit}
use Rattle.cg_word.specs.Sets.{among}
use Rattle.cg_place.specs.Placed.{offering}
use Rattle.cg_place.proofs.Offering.{passed, found, offered_some}
use Rattle.cg_hub.proofs.Found.{ops_here}
use Rattle.cg_hub.proofs.hosts.host.Goals as goal

pub returns-then-has : goal.returns-then-has
returns-then-has c =
    let A = c.args.arch.now in
    let op = c.args.op in
    let x = c.loop-x.x in
    let within : x < length A.units = omega (arith, c.loop-x-test.true, ap length c.units-units.ensures.units) in
    let here = ops_here A op c.units-units.result.now x c.index-units-x.result c.units-units.ensures.units c.loop-x-test.true c.index-units-x.is in
    let offered : among (unit A x).ops op ≡ true = sym here ∙ sym c.has.ensures ∙ c.if-has.true in
    ap Some (found A op x 0 within c.loop-x.invariant offered) ∙ sym (slice_get-get_or (offering A op) 0 0 (offered_some A op x within offered))

pub loop-x-preserved : goal.loop-x-preserved
loop-x-preserved c =
    let A = c.args.arch.now in
    let op = c.args.op in
    let x = c.loop-x.x in
    let here = ops_here A op c.units-units.result.now x c.index-units-x.result c.units-units.ensures.units c.loop-x-test.true c.index-units-x.is in
    let lacks : among (unit A x).ops op ≡ false = sym here ∙ sym c.has.ensures ∙ c.if-has.false in
    c.loop-x.invariant ∙ sym (passed A op x lacks)
