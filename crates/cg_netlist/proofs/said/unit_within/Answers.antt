use Rattle.std.proofs.Common.{◌<◌, arith}
use Rattle.cg_netlist.proofs.Called.{no_operations, nought, all_numbers, rest_is}
use Rattle.cg_netlist.proofs.said.unit_within.Goals as goal

pub returns-then-latency-eq0 : goal.returns-then-latency-eq0
returns-then-latency-eq0 c =
    nought c.args.numbers.now c.args.rest.now _ c.args.ports c.args.latency c.in-Some.operations c.requires.first c.requires.rest c.requires.second (rest_is c.args.rest.now) c.in-Some.ensures
    (λ some more. let none = c.if-latency-eq0.true in absurd (omega (arith, none, some)))

pub returns-then-operations-eq0 : goal.returns-then-operations-eq0
returns-then-operations-eq0 c =
    nought c.args.numbers.now c.args.rest.now _ c.args.ports c.args.latency c.in-Some.operations c.requires.first c.requires.rest c.requires.second (rest_is c.args.rest.now) c.in-Some.ensures
    (λ some more. let none = c.if-operations-eq0.true in absurd (omega (arith, none, more)))

pub returns-else-operations-eq0 : goal.returns-else-operations-eq0
returns-else-operations-eq0 c =
    let some : 0 < c.args.latency = let apart = c.if-latency-eq0.false in omega (arith, apart) in
    let more : 0 < c.in-Some.operations = let apart = c.if-operations-eq0.false in omega (arith, apart) in
    all_numbers c.args.numbers.now c.args.rest.now _ c.args.ports c.args.latency c.in-Some.operations c.requires.first c.requires.rest c.requires.second (rest_is c.args.rest.now) c.in-Some.ensures some more

pub returns-in-None : goal.returns-in-None
returns-in-None c = no_operations c.args.numbers.now c.args.rest.now _ c.requires.rest (rest_is c.args.rest.now) c.in-None.ensures
