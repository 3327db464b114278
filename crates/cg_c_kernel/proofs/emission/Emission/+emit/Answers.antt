use Rattle.std.proofs.Common.{rules}
use Rattle.std.proofs.lemmas.Result.{IfOk-weaker}
use Rattle.cg_c_kernel.specs.Made.{IsLeaf}
use Rattle.cg_c_kernel.proofs.Placing.{met_adds, placed_leaf, placed_three, placed_two, some_ready}
use Rattle.cg_c_kernel.proofs.emission.Emission.+emit.Goals as goal

pub returns-then-has_node-clause-ready : goal.returns-then-has_node-clause-ready
returns-then-has_node-clause-ready t c = some_ready _ _ _ _ c.requires.may (c.has_node.ensures.some c.if-has_node.true)

pub returns-in-Carried-clause-adds : goal.returns-in-Carried-clause-adds
returns-in-Carried-clause-adds t c =
    IfOk-weaker c.meet.result _ _
    (λ u h. met_adds _ _ _ _ c.args.v _ c.requires.stands c.requires.may c.in-Carried.ensures.value c.meet.ensures.same.0 c.meet.ensures.same.1 h) c.meet.ensures.met

pub returns-in_ok-m-in-Two-clause-adds : goal.returns-in_ok-m-in-Two-clause-adds
returns-in_ok-m-in-Two-clause-adds t c =
    rw c.place.ensures
    (placed_two _ _ _ _ _ _ c.args.v c.in_ok-m-in-Two.m _ _ _ (c.has_node.ensures.none c.if-has_node.false) c.requires.may c.in-Two.ensures.value c.in-Two.ensures.may_stand
    c.in_ok-emit-in-Two.ensures.adds c.in_ok-emit-in-Two.ensures.frame c.in_ok-emit-in-Two-2.ensures.adds c.in_ok-emit-in-Two-2.ensures.frame c.in_ok-m-in-Two.ensures.adds c.in_ok-m-in-Two.ensures.is)

pub returns-in_ok-m-in-Select-clause-adds : goal.returns-in_ok-m-in-Select-clause-adds
returns-in_ok-m-in-Select-clause-adds t c =
    rw c.place-in-Select.ensures
    (placed_three _ _ _ _ _ _ _ c.args.v c.in_ok-m-in-Select.m _ _ _ (c.has_node.ensures.none c.if-has_node.false) c.requires.may c.in-Select.ensures.value c.in-Select.ensures.may_stand
    c.in_ok-emit-in-Select.ensures.adds c.in_ok-emit-in-Select.ensures.frame c.in_ok-emit-in-Select-2.ensures.adds c.in_ok-emit-in-Select-2.ensures.frame
    c.in_ok-emit-in-Select-3.ensures.adds c.in_ok-emit-in-Select-3.ensures.frame c.in_ok-m-in-Select.ensures.adds c.in_ok-m-in-Select.ensures.is)

pub returns-in_ok-m-in_default-clause-adds : goal.returns-in_ok-m-in_default-clause-adds
returns-in_ok-m-in_default-clause-adds t c =
    let leaf : IsLeaf c.value.result = search rules in
    rw c.place-in_default.ensures
    (placed_leaf _ _ _ _ c.args.v c.in_ok-m-in_default.m c.value.result c.requires.stands (c.has_node.ensures.none c.if-has_node.false) c.requires.may c.value.ensures.value leaf
    c.in_ok-m-in_default.ensures)
