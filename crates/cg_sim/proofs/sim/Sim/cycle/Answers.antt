use Rattle.std.proofs.Common.{◌≡◌, ◌<◌, ◌+◌, ℕ, List, length, Vec, Global, sym, ap, subst, ◌∙◌, rules}
use Rattle.std.specs.Vec.{with_items}
use Rattle.std.proofs.lemmas.List.{with_items_is}
use Rattle.cg_model.specs.Config.{Config}
use Rattle.cg_model.specs.Machine.{words_in, at_cycle}
use Rattle.cg_datapath.specs.Terminals.{terminals}
use Rattle.cg_datapath.specs.Course.{Course, Keeps, AreOutsRight, Advances}
use Rattle.cg_sim.specs.Settle.{CanSettle, IsSettled}
use Rattle.cg_sim.specs.State.{IsRunning}
use Rattle.cg_sim.proofs.Chosen.{can_settle, outs_known, ports_known, units_long}
use Rattle.cg_sim.proofs.Cycles.{outs_give, settled_by, next_running}
use Rattle.cg_sim.proofs.sim.Sim.cycle.Goals as goal

pub give_outs-requires : goal.give_outs-requires
give_outs-requires g c = λ x l.
    let v = c.self.inside in
    let k : Course = v.course in
    let inv = c.self.invariant in
    let old_is : c.deref_mut.result.now ≡ v.before.items = c.deref_mut.ensures.value ∙ ap (λ (z : Vec ℕ Global). z.items) c.swap.ensures.x_after in
    subst (λ (z : ℕ). (terminals k.terminals x).out < z) (sym (ap length old_is ∙ inv.state_is.before_long)) (outs_known k.arch k.terminals inv.terminals_are inv.valid x l)

pub settle-requires-clause-readable : goal.settle-requires-clause-readable
settle-requires-clause-readable g c =
    let v = c.self.inside in
    let k : Course = v.course in
    let inv = c.self.invariant in
    let W = c.give_outs.new.words in
    let old_is : c.deref_mut.result.now ≡ v.before.items = c.deref_mut.ensures.value ∙ ap (λ (z : Vec ℕ Global). z.items) c.swap.ensures.x_after in
    let kept : length W ≡ length c.deref_mut.result.now = search rules in
    let given_vec : (with_items c.swap.new.x W).items ≡ W = with_items_is c.swap.new.x W (search rules) in
    let long : length c.deref_mut-2.result.now ≡ length k.arch.resources + 1 = ap length (c.deref_mut-2.ensures.value ∙ given_vec) ∙ kept ∙ ap length old_is ∙ inv.state_is.before_long in
    subst (λ (z : ℕ). CanSettle (g.C.Contexts.config v.contexts.now) c.slot-slot.result v.plan z) (sym long)
    (subst (λ (Z : Config). CanSettle Z c.slot-slot.result v.plan (length k.arch.resources + 1)) (sym inv.config_is)
    (can_settle k.arch k.config inv.valid inv.canonical v.plan inv.plan_is c.slot-slot.result c.slot-slot.ensures.within))

pub begin-requires-clause-ports : goal.begin-requires-clause-ports
begin-requires-clause-ports g c = λ x q l lq.
    let v = c.self.inside in
    let k : Course = v.course in
    let inv = c.self.invariant in
    let W = c.give_outs.new.words in
    let U = c.settle.new.words in
    let old_is : c.deref_mut.result.now ≡ v.before.items = c.deref_mut.ensures.value ∙ ap (λ (z : Vec ℕ Global). z.items) c.swap.ensures.x_after in
    let kept : length W ≡ length c.deref_mut.result.now = search rules in
    let given_vec : (with_items c.swap.new.x W).items ≡ W = with_items_is c.swap.new.x W (search rules) in
    let long : length c.deref_mut-2.result.now ≡ length k.arch.resources + 1 = ap length (c.deref_mut-2.ensures.value ∙ given_vec) ∙ kept ∙ ap length old_is ∙ inv.state_is.before_long in
    let kept_more : length U ≡ length c.deref_mut-2.result.now = search rules in
    let words_vec : (with_items (with_items c.swap.new.x W) U).items ≡ U = with_items_is (with_items c.swap.new.x W) U (search rules) in
    let words_long : length c.deref-2.result.now ≡ length k.arch.resources + 1 = ap length (c.deref-2.ensures.value ∙ words_vec) ∙ kept_more ∙ long in
    let units = units_long k.arch k.terminals inv.terminals_are in
    ports_known k.arch inv.valid k.terminals inv.terminals_are c.deref-2.result.now words_long x (subst (λ (z : ℕ). x < z) units l) q lq

pub invariant_of-self : goal.invariant_of-self
invariant_of-self g c =
    let v = c.self.inside in
    let k : Course = v.course in
    let inv = c.self.invariant in
    let C0 = g.C.Contexts.config v.contexts.now in
    let W = c.give_outs.new.words in
    let U = c.settle.new.words in
    let old_is : c.deref_mut.result.now ≡ v.before.items = c.deref_mut.ensures.value ∙ ap (λ (z : Vec ℕ Global). z.items) c.swap.ensures.x_after in
    let kept : length W ≡ length c.deref_mut.result.now = search rules in
    let given_vec : (with_items c.swap.new.x W).items ≡ W = with_items_is c.swap.new.x W (search rules) in
    let given_is : c.deref_mut-2.result.now ≡ W = c.deref_mut-2.ensures.value ∙ given_vec in
    let kept_more : length U ≡ length c.deref_mut-2.result.now = search rules in
    let long : length U ≡ length k.arch.resources + 1 = kept_more ∙ ap length given_is ∙ kept ∙ ap length old_is ∙ inv.state_is.before_long in
    let words_vec : (with_items (with_items c.swap.new.x W) U).items ≡ U = with_items_is (with_items c.swap.new.x W) U (search rules) in
    let words_is : c.deref-2.result.now ≡ U = c.deref-2.ensures.value ∙ words_vec in
    let before_is : c.swap.new.y.items ≡ v.words.items = ap (λ (z : Vec ℕ Global). z.items) c.swap.ensures.y_after in
    let now = words_in k.arch k.config k.n k.image k.done (at_cycle k.arch k.config k.n k.image k.done).past in
    let give = outs_give C0 k v.plan v.words.items v.before.items inv in
    let kept_outs : Keeps now v.before.items W = subst (λ (z : List ℕ). Keeps now z W) old_is (c.give_outs.ensures.kept now give) in
    let outs : AreOutsRight k.terminals W now = c.give_outs.ensures.right now give in
    let settled : IsSettled v.plan W U now =
    settled_by C0 k v.plan v.words.items v.before.items inv W kept_outs outs C0 c.slot-slot.result c.deref.result.now c.deref_mut-2.result.now U inv.config_is c.slot-slot.ensures.slot (c.deref.ensures.value ∙ before_is) given_is c.settle.ensures in
    let adv : Advances k U c.begin.new.self = subst (λ (z : List ℕ). Advances k z c.begin.new.self) words_is c.begin.ensures in
    let next : IsRunning C0 c.begin.new.self v.plan U v.words.items = next_running C0 k v.plan v.words.items v.before.items inv W kept_outs outs U long settled c.begin.new.self adv in
    subst (λ (z : List ℕ). IsRunning C0 c.begin.new.self v.plan z c.swap.new.y.items) (sym words_vec)
    (subst (λ (z : List ℕ). IsRunning C0 c.begin.new.self v.plan U z) (sym before_is) next)
