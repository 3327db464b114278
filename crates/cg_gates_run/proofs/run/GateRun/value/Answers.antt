use Rattle.std.proofs.Common.{arith, ◌≡◌, ◌<◌, length, sym, subst, ◌∙◌}
use Rattle.std.specs.Prelude.{slice_index}
use Rattle.std.proofs.lemmas.List.{get_or_read}
use Rattle.cg_gates.specs.Gates.{gates_ago, gates_at}
use Rattle.cg_gates.specs.Accepts.{net_name}
use Rattle.cg_gates_run.specs.Run.{Run}
use Rattle.cg_gates_run.proofs.Running.{last_first, last_later}
use Rattle.cg_gates_run.proofs.run.GateRun.value.Goals as goal

pub returns-clause-before_the_first : goal.returns-clause-before_the_first
returns-clause-before_the_first g c =
    let R : Run = c.args.self.now in
    let v = c.self.inside in
    let words = v.words.items in
    let r = c.args.net in
    let within : r < length v.gates.now.netlist.nets = subst (λ (X : Run). r < length X.netlist.nets) (sym c.self.view_is) c.requires in
    let is : slice_index words r ≡ (gates_ago (gates_at R.arch R.netlist R.config R.n R.image R.done).past 1).nets (net_name R.netlist r) =
    subst (λ (X : Run). slice_index words r ≡ (gates_ago (gates_at X.arch X.netlist X.config X.n X.image X.done).past 1).nets (net_name X.netlist r)) c.self.view_is (c.self.invariant.state_is.precedes.words r within) in
    let long : r < length words = (let e = c.self.invariant.words_by_net.long in omega arith) in
    let read : c.index.result.now ≡ slice_index words r = get_or_read words r c.index.result.now long c.index.ensures 0 in
    λ e. read ∙ is ∙ last_first R.arch R.netlist R.config R.n R.image R.done (net_name R.netlist r) e

pub returns-clause-last : goal.returns-clause-last
returns-clause-last g c =
    let R : Run = c.args.self.now in
    let v = c.self.inside in
    let words = v.words.items in
    let r = c.args.net in
    let within : r < length v.gates.now.netlist.nets = subst (λ (X : Run). r < length X.netlist.nets) (sym c.self.view_is) c.requires in
    let is : slice_index words r ≡ (gates_ago (gates_at R.arch R.netlist R.config R.n R.image R.done).past 1).nets (net_name R.netlist r) =
    subst (λ (X : Run). slice_index words r ≡ (gates_ago (gates_at X.arch X.netlist X.config X.n X.image X.done).past 1).nets (net_name X.netlist r)) c.self.view_is (c.self.invariant.state_is.precedes.words r within) in
    let long : r < length words = (let e = c.self.invariant.words_by_net.long in omega arith) in
    let read : c.index.result.now ≡ slice_index words r = get_or_read words r c.index.result.now long c.index.ensures 0 in
    λ k e. read ∙ is ∙ last_later R.arch R.netlist R.config R.n R.image R.done k (net_name R.netlist r) e
