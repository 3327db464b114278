use Rattle.std.proofs.Common.{◌≡◌, ◌∙◌, None, Some, rules, subst, sym}
use Rattle.cg_c_values.specs.declared.value.Value.{Value}
use Rattle.cg_c_values.specs.declared.value.Value.TheVariants.{Loaded}
use Rattle.cg_c_values.specs.Listed.{listed}
use Rattle.cg_c_values.specs.Values.{IsLoad, MayStand, value_at}
use Rattle.cg_c_kernel.specs.Made.{AddsNode, Computes, Made, made_of, node_in}
use Rattle.cg_c_kernel.proofs.Making.{adds_twice}
use Rattle.cg_c_kernel.proofs.Placing.{placed_node}
use Rattle.cg_c_kernel.proofs.effects.load.Goals as goal

pub returns-in_ok-m-in-Loaded-default-default-None-default : goal.returns-in_ok-m-in-Loaded-default-default-None-default
returns-in_ok-m-in-Loaded-default-default-None-default c =
    let is : Loaded c.in-Loaded-default-default-None-default.array c.in-Loaded-default-default-None-default.version None c.in-Loaded-default-default-None-default.address ≡ value_at (listed c.args.live.now.values.now) c.args.v = cc in
    let less : MayStand c.args.v (Loaded c.in-Loaded-default-default-None-default.array c.in-Loaded-default-default-None-default.version None c.in-Loaded-default-default-None-default.address) = rw c.in-Loaded-default-default-None-default.guard-is at c.in-Loaded-default-default-None-default.ensures.may_stand in
    subst
    (λ (z : Made).
    AddsNode (listed c.args.live.now.values.now) c.args.live.now.marks.items (made_of c.args.emission.now) z c.in_ok-m-in-Loaded-default-default-None-default.m
    × IsLoad (value_at (listed c.args.live.now.values.now) c.args.v) × (node_in z c.args.v ≡ Some c.in_ok-m-in-Loaded-default-default-None-default.m))
    (sym c.place.ensures)
    (placed_node _ _ _ _ _ c.args.v c.in_ok-m-in-Loaded-default-default-None-default.m c.in_ok-emit-in-Loaded-default-default-None-default.ensures.adds c.in_ok-m-in-Loaded-default-default-None-default.ensures.adds c.requires.within
    (c.in_ok-emit-in-Loaded-default-default-None-default.ensures.frame c.args.v less.1 ∙ c.has_node.ensures.none c.if-has_node.false)
    (subst (λ (z : Value). Computes (listed c.args.live.now.values.now) (made_of c.one.new.self) c.in_ok-m-in-Loaded-default-default-None-default.m z) is c.in_ok-m-in-Loaded-default-default-None-default.ensures.is)
    (subst IsLoad is tt))

pub returns-in_ok-m-in-Loaded-default-default-Some-default : goal.returns-in_ok-m-in-Loaded-default-default-Some-default
returns-in_ok-m-in-Loaded-default-default-Some-default c =
    let is : Loaded c.in-Loaded-default-default-Some-default.array c.in-Loaded-default-default-Some-default.version (Some c.in-Loaded-default-default-Some-default.guard) c.in-Loaded-default-default-Some-default.address ≡ value_at (listed c.args.live.now.values.now) c.args.v = cc in
    let less : MayStand c.args.v (Loaded c.in-Loaded-default-default-Some-default.array c.in-Loaded-default-default-Some-default.version (Some c.in-Loaded-default-default-Some-default.guard) c.in-Loaded-default-default-Some-default.address) = search rules in
    subst
    (λ (z : Made).
    AddsNode (listed c.args.live.now.values.now) c.args.live.now.marks.items (made_of c.args.emission.now) z c.in_ok-m-in-Loaded-default-default-Some-default.m
    × IsLoad (value_at (listed c.args.live.now.values.now) c.args.v) × (node_in z c.args.v ≡ Some c.in_ok-m-in-Loaded-default-default-Some-default.m))
    (sym c.place-in-Loaded-default-default-Some-default.ensures)
    (placed_node _ _ _ _ _ c.args.v c.in_ok-m-in-Loaded-default-default-Some-default.m (adds_twice _ _ _ _ _ c.in_ok-emit-in-Loaded-default-default-Some-default.ensures.adds c.in_ok-emit-in-Loaded-default-default-Some-default-2.ensures.adds) c.in_ok-m-in-Loaded-default-default-Some-default.ensures.adds c.requires.within
    (c.in_ok-emit-in-Loaded-default-default-Some-default-2.ensures.frame c.args.v less.1 ∙ c.in_ok-emit-in-Loaded-default-default-Some-default.ensures.frame c.args.v less.0 ∙ c.has_node.ensures.none c.if-has_node.false)
    (subst (λ (z : Value). Computes (listed c.args.live.now.values.now) (made_of c.two.new.self) c.in_ok-m-in-Loaded-default-default-Some-default.m z) is c.in_ok-m-in-Loaded-default-default-Some-default.ensures.is)
    (subst IsLoad is tt))
