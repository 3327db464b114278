use Rattle.std.proofs.Common.{◌≡◌, ◌<◌, ◌≤◌, [], Some, length, sym, ap, ◌∙◌, subst, arith, ⊎_elim}
use Rattle.std.specs.Prelude.{slice_index_or}
use Rattle.std.proofs.lemmas.Bool.{cases_lt}
use Rattle.cg_model.specs.Kernel.{node, size}
use Rattle.cg_place.specs.Placed.{offering}
use Rattle.cg_hub.specs.Hub.{start}
use Rattle.cg_hub.proofs.Found as found
use Rattle.cg_hub.proofs.enough.serial.Goals as goal

pub returns-in_err-unit-clause-value : goal.returns-in_err-unit-clause-value
returns-in_err-unit-clause-value c =
    let A = c.args.arch.now in
    let K = c.args.kernel.now in
    let nodes = c.nodes-nodes.result.now in
    let v = c.loop-v.v in
    let n = c.index-nodes-v.result in
    let within = found.node_within A K nodes v n c.nodes-nodes.ensures.nodes c.loop-v-test.true c.index-nodes-v.is in
    let none = found.none_here A K nodes v n c.nodes-nodes.ensures.nodes c.loop-v-test.true c.index-nodes-v.is c.in_err-unit.ensures in
    c.from_residual.ensures ∙ sym (found.serial_none A K v within none)

pub returns-in_err-unit-clause-offered : goal.returns-in_err-unit-clause-offered
returns-in_err-unit-clause-offered c =
    let A = c.args.arch.now in
    let K = c.args.kernel.now in
    let nodes = c.nodes-nodes.result.now in
    let v = c.loop-v.v in
    let n = c.index-nodes-v.result in
    let within = found.node_within A K nodes v n c.nodes-nodes.ensures.nodes c.loop-v-test.true c.index-nodes-v.is in
    let none = found.none_here A K nodes v n c.nodes-nodes.ensures.nodes c.loop-v-test.true c.index-nodes-v.is c.in_err-unit.ensures in
    found.none_iff A K v c.from_residual.result c.from_residual.ensures within none

pub bounds-units-unit : goal.bounds-units-unit
bounds-units-unit c =
    found.unit_within c.args.arch.now c.args.kernel.now c.nodes-nodes.result.now c.loop-v.v c.index-nodes-v.result c.nodes-nodes.ensures.nodes c.loop-v-test.true c.index-nodes-v.is
    c.units-units.result.now c.in_ok-unit.unit (record { name = []; ops = []; latency = 1; ports = []; out = 0 }) c.units-units.ensures.units c.in_ok-unit.ensures

pub bounds-units-unit-in_ok-unit : goal.bounds-units-unit-in_ok-unit
bounds-units-unit-in_ok-unit c =
    found.unit_within c.args.arch.now c.args.kernel.now c.nodes-nodes.result.now c.loop-v.v c.index-nodes-v.result c.nodes-nodes.ensures.nodes c.loop-v-test.true c.index-nodes-v.is
    c.units-units.result.now c.in_ok-unit.unit (record { name = []; ops = []; latency = 1; ports = []; out = 0 }) c.units-units.ensures.units c.in_ok-unit.ensures

few : (c : goal.After-index-units-unit) → (slice_index_or c.units-units.result.now c.in_ok-unit.unit c.index-units-unit.result).latency ≤ 4
few c =
    found.latency_few c.args.arch.now c.args.kernel.now c.nodes-nodes.result.now c.loop-v.v c.index-nodes-v.result c.nodes-nodes.ensures.nodes c.loop-v-test.true c.index-nodes-v.is
    c.units-units.result.now c.in_ok-unit.unit c.index-units-unit.result c.units-units.ensures.units c.in_ok-unit.ensures c.units-units.ensures.valid c.index-units-unit.is

pub overflow_add-sum : goal.overflow_add-sum
overflow_add-sum c = omega (arith, few c)

pub overflow_add-sum-in-loop-v : goal.overflow_add-sum-in-loop-v
overflow_add-sum-in-loop-v c =
    let long = ap length c.nodes-nodes.ensures.nodes in
    omega (arith, few c, c.loop-v.invariant.small, c.nodes-nodes.ensures.valid.few, c.loop-v-test.true)

pub loop-v-preserved : goal.loop-v-preserved
loop-v-preserved c =
    let A = c.args.arch.now in
    let K = c.args.kernel.now in
    let nodes = c.nodes-nodes.result.now in
    let v = c.loop-v.v in
    let n = c.index-nodes-v.result in
    let some = found.some_here A K nodes v n c.nodes-nodes.ensures.nodes c.loop-v-test.true c.index-nodes-v.is c.in_ok-unit.unit c.in_ok-unit.ensures in
    record {
      sum =
          found.start_more A K nodes v n c.nodes-nodes.ensures.nodes c.loop-v-test.true c.index-nodes-v.is
          c.units-units.result.now c.in_ok-unit.unit c.index-units-unit.result c.units-units.ensures.units c.in_ok-unit.ensures c.loop-v.sum c.loop-v.invariant.sum c.index-units-unit.is;
      small = omega (arith, few c, c.loop-v.invariant.small);
      offered = λ w l.
          ⊎_elim (λ (b : w < v). c.loop-v.invariant.offered w b)
          (λ (b : v ≤ w). let e : v ≡ w = omega arith in subst (λ z. 0 < length (offering A (node K z).op)) e some)
          (cases_lt w v);
    }

pub returns-clause-value : goal.returns-clause-value
returns-clause-value c =
    let A = c.args.arch.now in
    let K = c.args.kernel.now in
    let e : c.loop-v.v ≡ size K = omega (arith, ap length c.nodes-nodes.ensures.nodes) in
    ap Some (c.loop-v.invariant.sum ∙ ap (start A K) e) ∙ sym (found.serial_some A K (λ w l. c.loop-v.invariant.offered w (omega arith)))
