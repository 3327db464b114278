use Rattle.std.proofs.Common.{subst}
use Rattle.std.proofs.Common.{List, ℕ}
use Rattle.cg_netlist_reader.specs.Looked.{IsAdded}
use Rattle.cg_netlist_reader.proofs.Looks.{next_set, next_rest}
use Rattle.cg_netlist_reader.proofs.joining.declared.Goals as goal

pub loop-net-preserved : goal.loop-net-preserved
loop-net-preserved c =
    let P : List ℕ → Type 0 = λ n. IsAdded c.loop-net.numbers c.declare.new.numbers n in
    let added : P c.net-item.result.name = subst P c.as_str.ensures c.in_ok-declare.ensures.ok in
    record {
      set = next_set c.loop-net.numbers c.declare.new.numbers c.args.nets.now c.loop-net.net-index c.net-item.result c.net-item.is c.loop-net-test.true c.loop-net.invariant.set added;
      rest = next_rest c.loop-net.numbers c.declare.new.numbers c.args.nets.now c.loop-net.net-index c.net-item.result c.net-item.is c.loop-net-test.true c.loop-net.invariant.set added c.loop-net.invariant.rest;
    }
