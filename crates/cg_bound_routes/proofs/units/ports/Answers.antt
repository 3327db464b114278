use Rattle.std.proofs.Common.{◌≡◌, ◌+◌, ◌<◌, length, sym, ap, ◌∙◌, subst, arith}
use Rattle.cg_model.specs.Array.{Arch}
use Rattle.cg_bound_routes.specs.Question.{ArePorts}
use Rattle.cg_bound_routes.proofs.Offering.{unit_read, port_found, no_port, ports_with, ports_without, ports_below}
use Rattle.cg_bound_routes.proofs.units.ports.Goals as goal
use Rattle.cg_bound_routes.proofs.units.ports.Goals.{in-Some+in_ok-push, in_default}

pub loop-place-preserved : goal.loop-place-preserved
loop-place-preserved c =
    let A : Arch = c.args.arch.now in
    let x = c.loop-place.place in
    let list = c.loop-place.ports.items in
    let e = c.units-units.ensures.units in
    let long : length c.units-units.result.now ≡ length A.units = ap length e in
    let within : x < length A.units = omega arith in
    let read = unit_read A c.units-units.result.now x c.index-units-place.result e within c.index-units-place.is in
    elim c.match-port_for.branch [
      | in-Some+in_ok-push w ↦
          let (t, at) = port_found A x c.index-units-place.result c.args.op c.args.arg w.in-Some.port c.port_for.result read c.port_for.ensures w.in-Some.is in
          subst (ArePorts A c.args.op c.args.arg (x + 1)) (sym (ap (λ z. z.items) w.ports-is ∙ w.in_ok-push.ensures.items))
          (ports_with A c.args.op c.args.arg x list c.loop-place.invariant w.in-Some.port t at)
      | in_default w ↦
          subst (λ z. ArePorts A c.args.op c.args.arg (x + 1) z.items) (sym w.ports-is)
          (ports_without A c.args.op c.args.arg x list c.loop-place.invariant
          (no_port A x c.index-units-place.result c.args.op c.args.arg c.port_for.result read c.port_for.ensures w.in_default.is))
    ]

pub returns-clause-exact : goal.returns-clause-exact
returns-clause-exact c =
    let A : Arch = c.args.arch.now in
    let long : length c.units-units.result.now ≡ length A.units = ap length c.units-units.ensures.units in
    let over : c.loop-place.place ≡ length A.units = omega arith in
    subst (λ z. ArePorts A c.args.op c.args.arg z c.loop-place.ports.items) over c.loop-place.invariant

pub returns-clause-known : goal.returns-clause-known
returns-clause-known c =
    let A : Arch = c.args.arch.now in
    let long : length c.units-units.result.now ≡ length A.units = ap length c.units-units.ensures.units in
    let over : c.loop-place.place ≡ length A.units = omega arith in
    ports_below A c.units-units.ensures.valid c.args.op c.args.arg c.loop-place.ports.items (subst (λ z. ArePorts A c.args.op c.args.arg z c.loop-place.ports.items) over c.loop-place.invariant)
