-- Mappings that one rule refuses, each with the positions that break it.
use Rattle.std.proofs.Common.{◌≡◌, ℕ, ◌<◌, ◌≤◌, true, false, List, [], ◌∷◌, Option, Some, None, Contains, refl, arith}
use Rattle.cg_model.specs.declared.mapping.Place.{Place}
use Rattle.cg_model.specs.declared.mapping.Route.{Route}
use Rattle.cg_model.specs.Mapping.{Mapping, IsLegal, positions}
use Rattle.cg_model.proofs.Rows.{sum, swap, odd_inside}
use Rattle.cg_word.specs.declared.op.Op.TheVariants.{Iter, Add, And, Output}
use Rattle.cg_word.proofs.Marks.{among_it}
use Rattle.cg_overlap.proofs.Tests.{every, has, all_below}
use Rattle.cg_overlap.proofs.LegalTest.{goes, rules, brought_of}
use Rattle.cg_overlap.proofs.Rows.{t1, late, held_long, t2, double, doubled_by, apart, pair, swap_on_pair}

-- ---- a value held in a register for longer than the interval

-- the register holds it at times 2, 3, 4 and 5
held_long_positions : positions t1 late held_long ≡
    record { source = 0; resource = 3; time = 1; from = None }
    ∷ record { source = 0; resource = 0; time = 2; from = Some 3 }
    ∷ record { source = 0; resource = 0; time = 3; from = Some 0 }
    ∷ record { source = 0; resource = 0; time = 4; from = Some 0 }
    ∷ record { source = 0; resource = 0; time = 5; from = Some 0 }
    ∷ record { source = 0; resource = 1; time = 5; from = Some 0 }
    ∷ []
unfolding positions
held_long_positions = refl

-- L1 to L5 hold, L6 does not; L7 fails too, since the value comes from the out at first and from the register then
held_long_breaks_L6 : rules t1 late held_long ≡ true ∷ true ∷ true ∷ true ∷ true ∷ false ∷ false ∷ []
unfolding every has all_below goes positions
held_long_breaks_L6 = refl

-- in slot 0 the register would have the value at times 2 and 4
at_time_2 : Contains (positions t1 late held_long) (record { source = 0; resource = 0; time = 2; from = Some 3 })
unfolding positions
at_time_2 = (1, omega arith, refl)

at_time_4 : Contains (positions t1 late held_long) (record { source = 0; resource = 0; time = 4; from = Some 0 })
unfolding positions
at_time_4 = (3, omega arith, refl)

pub register_held_too_long : IsLegal t1 late held_long → ⊥
register_held_too_long legal = let z : ◌≡◌ {A = ℕ} 2 4 = (legal.alone _ _ at_time_2 at_time_4 refl refl).1 in omega arith

-- ---- one value over one wire by two ways

two_ways_break_L7 : rules t2 double (doubled_by 1) ≡ true ∷ true ∷ true ∷ true ∷ true ∷ true ∷ false ∷ []
unfolding every has all_below goes positions
two_ways_break_L7 = refl

-- in slot 1 the third wire would be driven by the first and by the second
by_the_first : Contains (positions t2 double (doubled_by 1)) (record { source = 0; resource = 2; time = 1; from = Some 0 })
unfolding positions
by_the_first = (2, omega arith, refl)

by_the_second : Contains (positions t2 double (doubled_by 1)) (record { source = 0; resource = 2; time = 1; from = Some 1 })
unfolding positions
by_the_second = (6, omega arith, refl)

pub two_ways_over_one_wire : IsLegal t2 double (doubled_by 1) → ⊥
two_ways_over_one_wire legal = let z : ◌≡◌ {A = Option ℕ} (Some 0) (Some 1) = legal.one_way _ _ by_the_first by_the_second refl refl in cc

-- ---- the other rules, each on a mapping that breaks it alone

-- the running sum on t1, at that interval and with these places and routes
abbrev summing : ℕ → List Place → List Route → Mapping
summing ii places routes = record { ii = ii; places = places; routes = routes }

abbrev at : ℕ → ℕ → Place
at x t = record { unit = x; time = t }

abbrev sum_places : List Place
sum_places = at 0 0 ∷ at 0 1 ∷ at 0 2 ∷ []

-- the route of the sum to itself, by that path
abbrev sum_routes : List ℕ → List Route
sum_routes path =
    record { node = 1; arg = 0; path = path } ∷ record { node = 1; arg = 1; path = 3 ∷ 2 ∷ [] } ∷ record { node = 2; arg = 0; path = 3 ∷ 1 ∷ [] } ∷ []

-- t1 has four contexts; the register would have to hold the sum for four cycles
interval_of_5 : IsLegal t1 sum (summing 5 sum_places (sum_routes (3 ∷ 0 ∷ 0 ∷ 0 ∷ 0 ∷ 1 ∷ []))) → ⊥
interval_of_5 legal = let z : 5 ≤ 4 = legal.contexts in omega arith

interval_of_5_breaks_L1 : rules t1 sum (summing 5 sum_places (sum_routes (3 ∷ 0 ∷ 0 ∷ 0 ∷ 0 ∷ 1 ∷ []))) ≡ false ∷ true ∷ true ∷ true ∷ true ∷ true ∷ true ∷ []
unfolding every has all_below goes positions
interval_of_5_breaks_L1 = refl

-- t1 offers no and
operation_not_offered : IsLegal t1 odd_inside (summing 4 (at 0 0 ∷ at 0 1 ∷ at 0 2 ∷ at 0 3 ∷ []) []) → ⊥
unfolding has
operation_not_offered legal = let z : false ≡ true = among_it (Iter ∷ Add ∷ Output ∷ []) And (legal.offered 1 (omega arith)) in cc

unit_that_there_is_not : IsLegal t1 sum (summing 3 (at 0 0 ∷ at 1 1 ∷ at 0 2 ∷ []) []) → ⊥
unit_that_there_is_not legal = let z : 1 < 1 = legal.units 1 (omega arith) in omega arith

time_of_65535 : IsLegal t1 apart (summing 4 (at 0 0 ∷ at 0 65535 ∷ []) []) → ⊥
time_of_65535 legal = let z : 65535 ≤ 65534 = legal.soon 1 (omega arith) in omega arith

time_of_65535_breaks_L2 : rules t1 apart (summing 4 (at 0 0 ∷ at 0 65535 ∷ []) []) ≡ true ∷ false ∷ true ∷ true ∷ true ∷ true ∷ true ∷ []
unfolding every has all_below goes positions
time_of_65535_breaks_L2 = refl

-- times 0 and 4 are one slot at interval 4
two_nodes_in_one_slot : IsLegal t1 apart (summing 4 (at 0 0 ∷ at 0 4 ∷ []) []) → ⊥
two_nodes_in_one_slot legal = let z : ◌≡◌ {A = ℕ} 0 1 = legal.apart 0 1 (omega arith) (omega arith) refl refl in omega arith

two_nodes_in_one_slot_break_L3 : rules t1 apart (summing 4 (at 0 0 ∷ at 0 4 ∷ []) []) ≡ true ∷ true ∷ false ∷ true ∷ true ∷ true ∷ true ∷ []
unfolding every has all_below goes positions
two_nodes_in_one_slot_break_L3 = refl

-- load and store in one cycle, on the two units of `pair`: the store has to be a cycle later
store_in_the_cycle_of_its_load : IsLegal pair swap swap_on_pair → ⊥
store_in_the_cycle_of_its_load legal = let z : 2 ≤ 1 = legal.ordered 0 0 2 0 refl in omega arith

store_in_the_cycle_of_its_load_breaks_L4 : rules pair swap swap_on_pair ≡ true ∷ true ∷ true ∷ false ∷ true ∷ true ∷ true ∷ []
unfolding every has all_below goes positions
store_in_the_cycle_of_its_load_breaks_L4 = refl

-- L5, of the route of the sum to itself: it begins on the register in place of the out
begins_elsewhere : rules t1 sum (summing 3 sum_places (sum_routes (0 ∷ 0 ∷ 0 ∷ 1 ∷ []))) ≡ true ∷ true ∷ true ∷ true ∷ false ∷ true ∷ true ∷ []
unfolding every has all_below goes positions
begins_elsewhere = refl

-- the register doesn't drive the out
takes_no_link : rules t1 sum (summing 3 sum_places (sum_routes (3 ∷ 0 ∷ 0 ∷ 3 ∷ 1 ∷ []))) ≡ true ∷ true ∷ true ∷ true ∷ false ∷ false ∷ false ∷ []
unfolding every has all_below goes positions
takes_no_link = refl

-- it stays in the register for one cycle in place of two
comes_too_early : rules t1 sum (summing 3 sum_places (sum_routes (3 ∷ 0 ∷ 1 ∷ []))) ≡ true ∷ true ∷ true ∷ true ∷ false ∷ true ∷ true ∷ []
unfolding every has all_below goes positions
comes_too_early = refl

route_that_comes_too_early : IsLegal t1 sum (summing 3 sum_places (sum_routes (3 ∷ 0 ∷ 1 ∷ []))) → ⊥
unfolding every has all_below goes positions
route_that_comes_too_early legal = let z : false ≡ true = brought_of t1 sum (summing 3 sum_places (sum_routes (3 ∷ 0 ∷ 1 ∷ []))) legal in cc

route_to_the_other_port : IsLegal t1 sum (summing 3 sum_places (sum_routes (3 ∷ 0 ∷ 0 ∷ 2 ∷ []))) → ⊥
unfolding every has all_below goes positions
route_to_the_other_port legal = let z : false ≡ true = brought_of t1 sum (summing 3 sum_places (sum_routes (3 ∷ 0 ∷ 0 ∷ 2 ∷ []))) legal in cc
