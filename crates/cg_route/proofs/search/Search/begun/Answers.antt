use Rattle.std.proofs.Common.{◌≡◌, ◌∙◌, ℕ, ◌+◌, ◌-◌, ◌*◌, ◌^◌, List, Option, arith}
use Rattle.std.specs.declared.vec.Vec.{Vec}
use Rattle.std.specs.declared.alloc.Global.{Global}
use Rattle.cg_route.specs.Layers.{Step, Way, Layer, IsBelow, ways_of, size}
use Rattle.cg_route.proofs.Begins.{more_below}
use Rattle.cg_route.proofs.Carries.{ways_long}
use Rattle.cg_route.proofs.Cases.{ok_then}
use Rattle.cg_route.proofs.search.Search.begun.Goals as goal

pub carry-requires-clause-all : goal.carry-requires-clause-all
carry-requires-clause-all c =
    let S = c.args.self.now in
    ways_long S _ c.args.later.now c.deref.result.now (c.deref.ensures.value ∙ c.in_ok-ways.ensures.ways)

pub returns-in_ok-ways-clause-within : goal.returns-in_ok-ways-clause-within
returns-in_ok-ways-clause-within c =
    let S = c.args.self.now in
    let k = c.args.k in
    let later : Layer = c.args.later.now in
    let high = k * (size S + 1) * 2 ^ 52 in
    let s = c.self.inside.end - (k - 1) in
    let ways : List (Option Way) = c.deref.result.now in
    let is : ways ≡ ways_of S s later = c.deref.ensures.value ∙ c.in_ok-ways.ensures.ways in
    ok_then (λ (here : Vec (Option Step) Global). (later : Layer) (high : ℕ) → ways ≡ ways_of S s later → IsBelow high later → IsBelow (high + 2 ^ 52) here.items)
    (λ (here : Vec (Option Step) Global). IsBelow ((k * (size S + 1) + 1) * 2 ^ 52) here.items) c.carry.result
    (λ here h. more_below (high + 2 ^ 52) ((k * (size S + 1) + 1) * 2 ^ 52) here.items (omega arith) (h later high is c.requires.within)) c.carry.ensures.below
