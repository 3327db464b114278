use Rattle.std.proofs.Common.{◌≡◌, ℕ, List, Vec, Global, sym, ap, subst, ◌∙◌, rules}
use Rattle.std.specs.Vec.{with_items}
use Rattle.std.proofs.lemmas.List.{with_items_is}
use Rattle.cg_datapath.specs.Course.{Course, Advances}
use Rattle.cg_gates.specs.Gates.{GateCycle, nets_in, gates_at}
use Rattle.cg_gates_run.specs.Settle.{Precedes, IsSettled}
use Rattle.cg_gates_run.specs.State.{IsRunning}
use Rattle.cg_gates_run.proofs.Running.{next_running}
use Rattle.cg_gates_run.proofs.run.GateRun.cycle.Goals as goal

pub invariant_of-self : goal.invariant_of-self
invariant_of-self g c =
    let v = c.self.inside in
    let G = v.gates.now in
    let C = g.C.Contexts.config v.contexts.now in
    let k : Course = v.course in
    let inv = c.self.invariant in
    let U = c.settle.new.words in
    let past : List GateCycle = (gates_at G.arch G.netlist C k.n k.image k.done).past in
    let words_vec : (with_items c.swap.new.x U).items ≡ U = with_items_is c.swap.new.x U (search rules) in
    let words_is : c.deref-2.result.now ≡ U = c.deref-2.ensures.value ∙ words_vec in
    let before_is : c.swap.new.y.items ≡ v.words.items = ap (λ (z : Vec ℕ Global). z.items) c.swap.ensures.y_after in
    let read_is : c.deref.result.now ≡ v.words.items = c.deref.ensures.value ∙ before_is in
    let precedes : Precedes G.arch G.netlist past k c.deref.result.now = subst (λ (z : List ℕ). Precedes G.arch G.netlist past k z) (sym read_is) inv.state_is.precedes in
    let settled : IsSettled G.netlist U (nets_in G.arch G.netlist C k.done past) = c.settle.ensures past precedes in
    let adv : Advances k U c.begin.new.self = subst (λ (z : List ℕ). Advances k z c.begin.new.self) words_is c.begin.ensures in
    let next : IsRunning G.arch G.netlist C c.begin.new.self U v.words.items = next_running G.arch G.netlist C k v.words.items v.before.items inv U settled c.begin.new.self adv in
    subst (λ (z : List ℕ). IsRunning G.arch G.netlist C c.begin.new.self z c.swap.new.y.items) (sym words_vec)
    (subst (λ (z : List ℕ). IsRunning G.arch G.netlist C c.begin.new.self U z) (sym before_is) next)
