use Rattle.std.proofs.Common.{◌≡◌, ◌<◌, length, ap, ◌∙◌, arith}
use Rattle.std.proofs.lemmas.List.{length-set}
use Rattle.cg_model.specs.declared.array.Unit.{Unit}
use Rattle.cg_model.specs.Array.{unit}
use Rattle.cg_origins.proofs.Owners.{unit_is, out_known, owners_more}
use Rattle.cg_origins.proofs.indexed.owners_of.Goals as goal

pub index_mut-requires : goal.index_mut-requires
index_mut-requires c =
    let A = c.args.arch.now in
    let x = c.loop-x.x in
    let units = c.units-unit-items.ensures.units in
    let inside : x < length A.units = (let e = ap length units in omega arith) in
    let out_is = ap (λ (z : Unit). z.out) (unit_is A _ x c.unit-item.result units inside c.unit-item.is) in
    let known = out_known A c.units-unit-items.ensures.valid x inside in
    omega (arith, c.loop-x.owners.ok)

pub loop-x-preserved : goal.loop-x-preserved
loop-x-preserved c =
    let A = c.args.arch.now in
    let x = c.loop-x.x in
    let units = c.units-unit-items.ensures.units in
    let valid = c.units-unit-items.ensures.valid in
    let inside : x < length A.units = (let e = ap length units in omega arith) in
    let u = c.unit-item.result in
    let out_is : u.out ≡ (unit A x).out = ap (λ (z : Unit). z.out) (unit_is A _ x u units inside c.unit-item.is) in
    let known : u.out < length c.loop-x.owners.items = (let h = out_known A valid x inside in omega arith) in
    record {
      long = length-set c.loop-x.owners.items u.out x ∙ c.loop-x.invariant.long;
      each = owners_more A valid c.loop-x.owners.items x u.out inside known out_is c.loop-x.invariant.each;
    }
