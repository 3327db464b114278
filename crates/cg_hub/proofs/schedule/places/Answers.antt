use Rattle.std.proofs.Common.{◌≡◌, ◌+◌, ◌≤◌, [], ap₂, arith}
use Rattle.std.specs.Prelude.{slice_index_or}
use Rattle.cg_model.specs.declared.mapping.Place.{Place}
use Rattle.cg_hub.specs.Hub.{hub_place}
use Rattle.cg_hub.proofs.Made.{grown}
use Rattle.cg_hub.proofs.Found as found
use Rattle.cg_hub.proofs.Times as times
use Rattle.cg_hub.proofs.schedule.places.Goals as goal

pub unreachable-requires : goal.unreachable-requires
unreachable-requires c =
    let A = c.args.arch.now in
    let K = c.args.kernel.now in
    let nodes = c.nodes-nodes.result.now in
    let v = c.loop-v.v in
    let n = c.index-nodes-v.result in
    let within = found.node_within A K nodes v n c.nodes-nodes.ensures.nodes c.loop-v-test.true c.index-nodes-v.is in
    let none = found.none_here A K nodes v n c.nodes-nodes.ensures.nodes c.loop-v-test.true c.index-nodes-v.is c.in-None.ensures in
    let some = times.offered A K c.args.ii c.requires v within in
    omega (arith, none, some)

pub bounds-units-unit : goal.bounds-units-unit
bounds-units-unit c =
    found.unit_within c.args.arch.now c.args.kernel.now c.nodes-nodes.result.now c.loop-v.v c.index-nodes-v.result c.nodes-nodes.ensures.nodes c.loop-v-test.true c.index-nodes-v.is
    c.units-units.result.now c.in-Some.unit (record { name = []; ops = []; latency = 1; ports = []; out = 0 }) c.units-units.ensures.units c.in-Some.ensures

pub bounds-units-unit-in_ok-push-in-Some : goal.bounds-units-unit-in_ok-push-in-Some
bounds-units-unit-in_ok-push-in-Some c =
    found.unit_within c.args.arch.now c.args.kernel.now c.nodes-nodes.result.now c.loop-v.v c.index-nodes-v.result c.nodes-nodes.ensures.nodes c.loop-v-test.true c.index-nodes-v.is
    c.units-units.result.now c.in-Some.unit (record { name = []; ops = []; latency = 1; ports = []; out = 0 }) c.units-units.ensures.units c.in-Some.ensures

-- the node is through before the interval is
below : (c : goal.After-index-units-unit) → c.loop-v.time + ((slice_index_or c.units-units.result.now c.in-Some.unit c.index-units-unit.result).latency + 1) ≤ c.args.ii
below c =
    let A = c.args.arch.now in
    let K = c.args.kernel.now in
    let nodes = c.nodes-nodes.result.now in
    let v = c.loop-v.v in
    let n = c.index-nodes-v.result in
    let within = found.node_within A K nodes v n c.nodes-nodes.ensures.nodes c.loop-v-test.true c.index-nodes-v.is in
    let latency =
    found.latency_here A K nodes v n c.nodes-nodes.ensures.nodes c.loop-v-test.true c.index-nodes-v.is
    c.units-units.result.now c.in-Some.unit c.index-units-unit.result c.units-units.ensures.units c.in-Some.ensures c.index-units-unit.is in
    omega (arith, latency, times.soon A K c.args.ii c.requires v within, c.loop-v.invariant.time)

pub overflow_add-time : goal.overflow_add-time
overflow_add-time c = omega (arith, below c)

pub overflow_add-time-in-Some : goal.overflow_add-time-in-Some
overflow_add-time-in-Some c = omega (arith, below c)

pub loop-v-preserved : goal.loop-v-preserved
loop-v-preserved c =
    let A = c.args.arch.now in
    let K = c.args.kernel.now in
    let nodes = c.nodes-nodes.result.now in
    let v = c.loop-v.v in
    let n = c.index-nodes-v.result in
    let host = found.host_here A K nodes v n c.nodes-nodes.ensures.nodes c.loop-v-test.true c.index-nodes-v.is c.in-Some.unit c.in-Some.ensures in
    let place : Place = record { unit = c.in-Some.unit; time = c.loop-v.time } in
    let is : place ≡ hub_place A K v = ap₂ (λ x t. record { unit = x; time = t }) host c.loop-v.invariant.time in
    record {
      places = grown (hub_place A K) c.loop-v.places.items c.push.new.self.items place v c.loop-v.invariant.places c.in_ok-push-in-Some.ensures.items is;
      time =
          found.start_more A K nodes v n c.nodes-nodes.ensures.nodes c.loop-v-test.true c.index-nodes-v.is
          c.units-units.result.now c.in-Some.unit c.index-units-unit.result c.units-units.ensures.units c.in-Some.ensures c.loop-v.time c.loop-v.invariant.time c.index-units-unit.is;
    }
