use Rattle.std.proofs.Common.{◌≡◌, ℕ, ◌∙◌, ◌+◌, ◌<◌, cond, get_or, sym, ap, subst, arith}
use Rattle.std.proofs.lemmas.List.{take_all}
use Rattle.cg_model.specs.Array.{Arch}
use Rattle.cg_model.specs.Mapping.{Position, positions_on}
use Rattle.cg_congestion.specs.Claims.{same, uses}
use Rattle.cg_congestion.specs.Plain.{plains}
use Rattle.cg_congestion.proofs.Along.{goes_on, uses_next, held_next}
use Rattle.cg_congestion.proofs.laws.take_path.Goals as goal

pub take_one-requires : goal.take_one-requires
take_one-requires c =
    let A : Arch = c.args.arch.now in
    let i : ℕ = c.loop-resource.resource-index in
    let path = c.args.path.now in
    subst (λ (t : ℕ). 0 < uses (plains c.loop-resource.positions.items) (record { source = c.args.source; resource = get_or path i 0; time = t; from = c.loop-resource.from })) (sym c.arrives-time.ensures.time)
    (held_next A c.args.source c.args.start path i c.loop-resource.from c.loop-resource.time (plains c.loop-resource.positions.items) (plains c.args.positions.now.items) c.loop-resource-test.true
    c.loop-resource.invariant.along c.loop-resource.invariant.taken c.requires.held)

pub loop-resource-preserved : goal.loop-resource-preserved
loop-resource-preserved c =
    let A : Arch = c.args.arch.now in
    let i : ℕ = c.loop-resource.resource-index in
    let path = c.args.path.now in
    let along = c.loop-resource.invariant.along in
    record {
      taken = λ p.
          let a = c.loop-resource.invariant.taken p in
          let b = c.take_one.ensures.taken p ∙ ap (λ (t : ℕ). uses (plains c.take_one.new.positions.items) p + cond (same p (record { source = c.args.source; resource = get_or path i 0; time = t; from = c.loop-resource.from })) 1 0) c.arrives-time.ensures.time in
          let d = uses_next A c.args.source c.args.start path i c.loop-resource.from c.loop-resource.time c.loop-resource-test.true along p in
          omega (arith, a, b, d);
      count = (let a = c.loop-resource.invariant.count in let b = c.take_one.ensures.count in omega (arith, a, b));
      along = goes_on A c.args.source c.args.start path i c.loop-resource.from c.loop-resource.time c.arrives-time.result c.loop-resource-test.true c.arrives-time.ensures.time c.arrives-time.ensures.near along;
    }

pub returns-clause-taken : goal.returns-clause-taken
returns-clause-taken c =
    let path = c.args.path.now in
    subst (λ z. (p : Position) → uses (plains c.args.positions.now.items) p ≡ uses (plains c.loop-resource.positions.items) p + uses (positions_on c.args.arch.now c.args.source c.args.start z) p)
    (take_all c.loop-resource.resource-index path c.loop-resource-test.false) c.loop-resource.invariant.taken
