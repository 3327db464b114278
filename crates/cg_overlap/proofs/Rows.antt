-- Worked rows of the array. Each expected value is computed by hand; the kernels' own rows are those of the model.
use Rattle.std.proofs.Common.{◌≡◌, ℕ, false, [], ◌∷◌, map, Some, refl}
use Rattle.std.specs.Prelude.{codes}
use Rattle.std.specs.List.{range_with_len}
use Rattle.cg_word.specs.declared.op.Op.TheVariants.{Iter, Add, Mul, And, Load, Store, Output, LoadIf, StoreIf, OutputIf}
use Rattle.cg_word.specs.Word.{apply_of}
use Rattle.cg_model.specs.Work.{Work, value_by, stored, sent, missed}
use Rattle.cg_model.specs.declared.kernel.Operand.TheVariants.{Const as Constant, Edge}
use Rattle.cg_model.specs.Kernel.{Kernel}
use Rattle.cg_model.specs.declared.array.Kind.TheVariants.{Wire, Register, Port, Out}
use Rattle.cg_model.specs.Array.{Arch, owner}
use Rattle.cg_model.specs.Mapping.{Mapping, positions}
use Rattle.cg_model.specs.declared.config.ArgFields.{ArgFields}
use Rattle.cg_model.specs.Config.{no_arg}
use Rattle.cg_model.specs.Configured.{configuration_of}
use Rattle.cg_model.specs.Machine.{word, machine_left, cycles, at_cycle, word_by, memory_by, sent_by_units, missed_by_units}
use Rattle.cg_model.proofs.Rows.{empty, holding, four_words, leaving, sum, astray, swap, swap_unordered, odd, odd_inside}

-- ---- the running sum on one tile: a register, and a unit with two ports

abbrev pub t1 : Arch
t1 = record {
  name = codes "t1";
  contexts = 4;
  memory = 16;
  resources =
      record { name = codes "r0c0_r"; kind = Register; drivers = 3 ∷ 0 ∷ [] }
      ∷ record { name = codes "r0c0_u_a"; kind = Port; drivers = 3 ∷ 0 ∷ [] }
      ∷ record { name = codes "r0c0_u_b"; kind = Port; drivers = 3 ∷ 0 ∷ [] }
      ∷ record { name = codes "r0c0_u_o"; kind = Out; drivers = [] }
      ∷ [];
  units = record { name = codes "r0c0_u"; ops = Iter ∷ Add ∷ Output ∷ []; latency = 1; ports = 1 ∷ 2 ∷ []; out = 3 } ∷ [];
  hub = [];
}

abbrev pub sum_on_t1 : Mapping
sum_on_t1 = record {
  ii = 3;
  places = record { unit = 0; time = 0 } ∷ record { unit = 0; time = 1 } ∷ record { unit = 0; time = 2 } ∷ [];
  routes =
      record { node = 1; arg = 0; path = 3 ∷ 0 ∷ 0 ∷ 1 ∷ [] }
      ∷ record { node = 1; arg = 1; path = 3 ∷ 2 ∷ [] }
      ∷ record { node = 2; arg = 0; path = 3 ∷ 1 ∷ [] }
      ∷ [];
}

-- by slot: the register, the two ports, the out
running_sum_selects : (configuration_of t1 sum sum_on_t1).selects ≡ (1 ∷ 0 ∷ 0 ∷ 0 ∷ []) ∷ (2 ∷ 2 ∷ 1 ∷ 0 ∷ []) ∷ (0 ∷ 1 ∷ 0 ∷ 0 ∷ []) ∷ []
unfolding configuration_of positions
running_sum_selects = refl

-- an argument with one initial word, 0
abbrev one_word : ArgFields
one_word = record { fixed = false; count = 1; init = 0 ∷ 0 ∷ 0 ∷ 0 ∷ [] }

running_sum_fields : (configuration_of t1 sum sum_on_t1).units ≡
    (record { op = Some Iter; stage = 0; port = 0; immediate = 0; args = no_arg ∷ no_arg ∷ no_arg ∷ [] } ∷ [])
    ∷ (record { op = Some Add; stage = 0; port = 0; immediate = 0; args = one_word ∷ no_arg ∷ no_arg ∷ [] } ∷ [])
    ∷ (record { op = Some Output; stage = 0; port = 0; immediate = 0; args = no_arg ∷ no_arg ∷ no_arg ∷ [] } ∷ [])
    ∷ []
unfolding configuration_of positions
running_sum_fields = refl

running_sum_has_one_stage : (configuration_of t1 sum sum_on_t1).stages ≡ 1
unfolding configuration_of
running_sum_has_one_stage = refl

running_sum_takes_15_cycles : cycles (configuration_of t1 sum sum_on_t1) 5 ≡ 15
unfolding configuration_of
running_sum_takes_15_cycles = refl

running_sum_of_the_array : machine_left t1 (configuration_of t1 sum sum_on_t1) 5 empty ≡ leaving [] (0 ∷ 1 ∷ 3 ∷ 6 ∷ 10 ∷ []) [] 0
unfolding configuration_of positions at_cycle word_by memory_by sent_by_units missed_by_units owner value_by stored sent missed apply_of
running_sum_of_the_array = refl

-- the words on the out, the register and the two ports in the first nine cycles, three of them a turn
running_sum_words : map (λ c. map (λ r. word t1 (configuration_of t1 sum sum_on_t1) 5 empty r c) (3 ∷ 0 ∷ 1 ∷ 2 ∷ [])) (range_with_len 0 9) ≡
    (0 ∷ 0 ∷ 0 ∷ 0 ∷ [])
    ∷ (0 ∷ 0 ∷ 0 ∷ 0 ∷ [])
    ∷ (0 ∷ 0 ∷ 0 ∷ 0 ∷ [])
    ∷ (0 ∷ 0 ∷ 0 ∷ 0 ∷ [])
    ∷ (1 ∷ 0 ∷ 0 ∷ 1 ∷ [])
    ∷ (1 ∷ 0 ∷ 1 ∷ 0 ∷ [])
    ∷ (0 ∷ 1 ∷ 0 ∷ 0 ∷ [])
    ∷ (2 ∷ 1 ∷ 1 ∷ 2 ∷ [])
    ∷ (3 ∷ 0 ∷ 3 ∷ 0 ∷ [])
    ∷ []
unfolding configuration_of positions at_cycle word_by memory_by sent_by_units missed_by_units owner value_by stored sent missed apply_of
running_sum_words = refl

-- the output a round later: the register goes on holding the sum for it, and two turns overlap
abbrev pub sum_in_two_stages : Mapping
sum_in_two_stages = record {
  ii = 3;
  places = record { unit = 0; time = 0 } ∷ record { unit = 0; time = 1 } ∷ record { unit = 0; time = 5 } ∷ [];
  routes =
      record { node = 1; arg = 0; path = 3 ∷ 0 ∷ 0 ∷ 1 ∷ [] }
      ∷ record { node = 1; arg = 1; path = 3 ∷ 2 ∷ [] }
      ∷ record { node = 2; arg = 0; path = 3 ∷ 0 ∷ 0 ∷ 0 ∷ 1 ∷ [] }
      ∷ [];
}

two_stages_take_18_cycles : cycles (configuration_of t1 sum sum_in_two_stages) 5 ≡ 18
unfolding configuration_of
two_stages_take_18_cycles = refl

two_stages_give_the_turns : machine_left t1 (configuration_of t1 sum sum_in_two_stages) 5 empty ≡ leaving [] (0 ∷ 1 ∷ 3 ∷ 6 ∷ 10 ∷ []) [] 0
unfolding configuration_of positions at_cycle word_by memory_by sent_by_units missed_by_units owner value_by stored sent missed apply_of
two_stages_give_the_turns = refl

-- ---- a unit of latency 2, at interval 3

abbrev pub t3 : Arch
t3 = record {
  name = codes "t3";
  contexts = 8;
  memory = 0;
  resources =
      record { name = codes "r0c0_p_a"; kind = Port; drivers = 2 ∷ 5 ∷ [] }
      ∷ record { name = codes "r0c0_p_b"; kind = Port; drivers = 2 ∷ 5 ∷ [] }
      ∷ record { name = codes "r0c0_p_o"; kind = Out; drivers = [] }
      ∷ record { name = codes "r0c0_q_a"; kind = Port; drivers = 2 ∷ 5 ∷ [] }
      ∷ record { name = codes "r0c0_q_b"; kind = Port; drivers = 2 ∷ 5 ∷ [] }
      ∷ record { name = codes "r0c0_q_o"; kind = Out; drivers = [] }
      ∷ [];
  units =
      record { name = codes "r0c0_p"; ops = Add ∷ []; latency = 1; ports = 0 ∷ 1 ∷ []; out = 2 }
      ∷ record { name = codes "r0c0_q"; ops = Mul ∷ []; latency = 2; ports = 3 ∷ 4 ∷ []; out = 5 }
      ∷ [];
  hub = [];
}

-- a recurrence of latency 3 over one turn
abbrev pub growing : Kernel
growing = record {
  nodes =
      record { name = codes "a"; op = Add; port = 0; operands = Edge 1 1 (1 ∷ []) ∷ Constant 1 ∷ [] }
      ∷ record { name = codes "x"; op = Mul; port = 0; operands = Edge 0 0 [] ∷ Constant 3 ∷ [] }
      ∷ [];
  order = [];
}

abbrev pub growing_on_t3 : Mapping
growing_on_t3 = record {
  ii = 3;
  places = record { unit = 0; time = 0 } ∷ record { unit = 1; time = 1 } ∷ [];
  routes = record { node = 0; arg = 0; path = 5 ∷ 0 ∷ [] } ∷ record { node = 1; arg = 0; path = 2 ∷ 3 ∷ [] } ∷ [];
}

-- the out of the multiplier in the first ten cycles: each product two cycles after it was begun
products_after_two_cycles : map (word t3 (configuration_of t3 growing growing_on_t3) 3 empty 5) (range_with_len 0 10) ≡ 0 ∷ 0 ∷ 0 ∷ 6 ∷ 0 ∷ 0 ∷ 21 ∷ 0 ∷ 0 ∷ 66 ∷ []
unfolding configuration_of positions at_cycle word_by memory_by sent_by_units missed_by_units owner value_by stored sent missed apply_of
products_after_two_cycles = refl

-- ---- a value held in a register, on t1 at interval 2

-- the turn's number of one turn ago, 7 before the first
abbrev pub late : Kernel
late = record {
  nodes =
      record { name = codes "i"; op = Iter; port = 0; operands = [] }
      ∷ record { name = codes "o"; op = Output; port = 0; operands = Edge 0 1 (7 ∷ []) ∷ [] }
      ∷ [];
  order = [];
}

-- held for four cycles, and so two turns at once
abbrev pub held_long : Mapping
held_long = record {
  ii = 2;
  places = record { unit = 0; time = 0 } ∷ record { unit = 0; time = 3 } ∷ [];
  routes = record { node = 1; arg = 0; path = 3 ∷ 0 ∷ 0 ∷ 0 ∷ 0 ∷ 1 ∷ [] } ∷ [];
}

-- held for two cycles
abbrev pub held_shortly : Mapping
held_shortly = record {
  ii = 2;
  places = record { unit = 0; time = 0 } ∷ record { unit = 0; time = 1 } ∷ [];
  routes = record { node = 1; arg = 0; path = 3 ∷ 0 ∷ 0 ∷ 1 ∷ [] } ∷ [];
}

held_shortly_takes_6_cycles : cycles (configuration_of t1 late held_shortly) 3 ≡ 6
unfolding configuration_of
held_shortly_takes_6_cycles = refl

held_shortly_gives_the_turns : machine_left t1 (configuration_of t1 late held_shortly) 3 empty ≡ leaving [] (7 ∷ 0 ∷ 1 ∷ []) [] 0
unfolding configuration_of positions at_cycle word_by memory_by sent_by_units missed_by_units owner value_by stored sent missed apply_of
held_shortly_gives_the_turns = refl

-- ---- two routes of one value over one wire, at interval 2

-- two wires from the out into a third, which drives both ports
abbrev pub t2 : Arch
t2 = record {
  name = codes "t2";
  contexts = 2;
  memory = 0;
  resources =
      record { name = codes "r0c0_w1"; kind = Wire; drivers = 5 ∷ [] }
      ∷ record { name = codes "r0c0_w2"; kind = Wire; drivers = 5 ∷ [] }
      ∷ record { name = codes "r0c0_w3"; kind = Wire; drivers = 0 ∷ 1 ∷ [] }
      ∷ record { name = codes "r0c0_u_a"; kind = Port; drivers = 2 ∷ [] }
      ∷ record { name = codes "r0c0_u_b"; kind = Port; drivers = 2 ∷ [] }
      ∷ record { name = codes "r0c0_u_o"; kind = Out; drivers = [] }
      ∷ [];
  units = record { name = codes "r0c0_u"; ops = Iter ∷ Add ∷ []; latency = 1; ports = 3 ∷ 4 ∷ []; out = 5 } ∷ [];
  hub = [];
}

-- the turn's number, doubled
abbrev pub double : Kernel
double = record {
  nodes =
      record { name = codes "i"; op = Iter; port = 0; operands = [] }
      ∷ record { name = codes "s"; op = Add; port = 0; operands = Edge 0 0 [] ∷ Edge 0 0 [] ∷ [] }
      ∷ [];
  order = [];
}

-- the second operand by that wire
abbrev pub doubled_by : ℕ → Mapping
doubled_by w = record {
  ii = 2;
  places = record { unit = 0; time = 0 } ∷ record { unit = 0; time = 1 } ∷ [];
  routes = record { node = 1; arg = 0; path = 5 ∷ 0 ∷ 2 ∷ 3 ∷ [] } ∷ record { node = 1; arg = 1; path = 5 ∷ w ∷ 2 ∷ 4 ∷ [] } ∷ [];
}

-- ---- four stages, on t1 at interval 2

abbrev pub apart : Kernel
apart = record {
  nodes =
      record { name = codes "a"; op = Output; port = 0; operands = Constant 5 ∷ [] }
      ∷ record { name = codes "b"; op = Output; port = 1; operands = Constant 6 ∷ [] }
      ∷ [];
  order = [];
}

abbrev pub apart_on_t1 : Mapping
apart_on_t1 = record {
  ii = 2;
  places = record { unit = 0; time = 0 } ∷ record { unit = 0; time = 7 } ∷ [];
  routes = [];
}

four_stages : (configuration_of t1 apart apart_on_t1).stages ≡ 4
unfolding configuration_of
four_stages = refl

-- by the number of turns
four_stages_take_cycles : map (cycles (configuration_of t1 apart apart_on_t1)) (0 ∷ 1 ∷ 2 ∷ []) ≡ 0 ∷ 8 ∷ 10 ∷ []
unfolding configuration_of
four_stages_take_cycles = refl

four_stages_for_one_turn : machine_left t1 (configuration_of t1 apart apart_on_t1) 1 empty ≡ leaving [] (5 ∷ []) (6 ∷ []) 0
unfolding configuration_of positions at_cycle word_by memory_by sent_by_units missed_by_units owner value_by stored sent missed apply_of
four_stages_for_one_turn = refl

four_stages_for_two_turns : machine_left t1 (configuration_of t1 apart apart_on_t1) 2 empty ≡ leaving [] (5 ∷ 5 ∷ []) (6 ∷ 6 ∷ []) 0
unfolding configuration_of positions at_cycle word_by memory_by sent_by_units missed_by_units owner value_by stored sent missed apply_of
four_stages_for_two_turns = refl

-- ---- accesses, on one tile with a hub of two registers, at interval 8

abbrev pub t4 : Arch
t4 = record {
  name = codes "t4";
  contexts = 8;
  memory = 4;
  resources =
      record { name = codes "r0c0_h0"; kind = Register; drivers = 4 ∷ 0 ∷ 1 ∷ [] }
      ∷ record { name = codes "r0c0_h1"; kind = Register; drivers = 4 ∷ 0 ∷ 1 ∷ [] }
      ∷ record { name = codes "r0c0_u_a"; kind = Port; drivers = 4 ∷ 0 ∷ 1 ∷ [] }
      ∷ record { name = codes "r0c0_u_b"; kind = Port; drivers = 4 ∷ 0 ∷ 1 ∷ [] }
      ∷ record { name = codes "r0c0_u_o"; kind = Out; drivers = [] }
      ∷ [];
  units = record { name = codes "r0c0_u"; ops = Iter ∷ Load ∷ Store ∷ Output ∷ []; latency = 1; ports = 2 ∷ 3 ∷ []; out = 4 } ∷ [];
  hub = 0 ∷ 1 ∷ [];
}

abbrev pub swap_on_t4 : Mapping
swap_on_t4 = record {
  ii = 8;
  places = record { unit = 0; time = 0 } ∷ record { unit = 0; time = 2 } ∷ record { unit = 0; time = 4 } ∷ record { unit = 0; time = 6 } ∷ [];
  routes = record { node = 2; arg = 1; path = 4 ∷ 1 ∷ 3 ∷ [] } ∷ record { node = 3; arg = 0; path = 4 ∷ 0 ∷ 0 ∷ 0 ∷ 0 ∷ 0 ∷ 2 ∷ [] } ∷ [];
}

swap_takes_16_cycles : cycles (configuration_of t4 swap swap_on_t4) 2 ≡ 16
unfolding configuration_of
swap_takes_16_cycles = refl

swap_of_the_array : machine_left t4 (configuration_of t4 swap swap_on_t4) 2 (holding 9) ≡ leaving (1 ∷ []) (9 ∷ 0 ∷ []) [] 0
unfolding configuration_of positions at_cycle word_by memory_by sent_by_units missed_by_units owner value_by stored sent missed apply_of
swap_of_the_array = refl

abbrev pub astray_on_t4 : Mapping
astray_on_t4 = record {
  ii = 8;
  places = record { unit = 0; time = 0 } ∷ record { unit = 0; time = 1 } ∷ record { unit = 0; time = 2 } ∷ record { unit = 0; time = 3 } ∷ record { unit = 0; time = 4 } ∷ [];
  routes =
      record { node = 2; arg = 1; path = 4 ∷ 0 ∷ 3 ∷ [] }
      ∷ record { node = 3; arg = 0; path = 4 ∷ 0 ∷ 0 ∷ 2 ∷ [] }
      ∷ record { node = 4; arg = 0; path = 4 ∷ 1 ∷ 1 ∷ 2 ∷ [] }
      ∷ [];
}

accesses_of_the_array_outside : machine_left t4 (configuration_of t4 astray astray_on_t4) 1 four_words ≡ leaving (1 ∷ 2 ∷ 3 ∷ 4 ∷ []) (4 ∷ []) (0 ∷ []) 2
unfolding configuration_of positions at_cycle word_by memory_by sent_by_units missed_by_units owner value_by stored sent missed apply_of
accesses_of_the_array_outside = refl

-- ---- a load and a store in one cycle, on two units at interval 2

-- the storing unit stands first
abbrev pub pair : Arch
pair = record {
  name = codes "pair";
  contexts = 2;
  memory = 1;
  resources =
      record { name = codes "q_a"; kind = Port; drivers = 2 ∷ [] }
      ∷ record { name = codes "q_b"; kind = Port; drivers = 2 ∷ [] }
      ∷ record { name = codes "q_o"; kind = Out; drivers = [] }
      ∷ record { name = codes "p_a"; kind = Port; drivers = 4 ∷ [] }
      ∷ record { name = codes "p_o"; kind = Out; drivers = [] }
      ∷ [];
  units =
      record { name = codes "q"; ops = Iter ∷ Store ∷ []; latency = 1; ports = 0 ∷ 1 ∷ []; out = 2 }
      ∷ record { name = codes "p"; ops = Load ∷ Output ∷ []; latency = 1; ports = 3 ∷ []; out = 4 }
      ∷ [];
  hub = [];
}

-- load and store both at time 1
abbrev pub swap_on_pair : Mapping
swap_on_pair = record {
  ii = 2;
  places = record { unit = 1; time = 1 } ∷ record { unit = 0; time = 0 } ∷ record { unit = 0; time = 1 } ∷ record { unit = 1; time = 2 } ∷ [];
  routes = record { node = 2; arg = 1; path = 2 ∷ 1 ∷ [] } ∷ record { node = 3; arg = 0; path = 4 ∷ 3 ∷ [] } ∷ [];
}

load_reads_before_the_stores_of_its_cycle : machine_left pair (configuration_of pair swap_unordered swap_on_pair) 3 (holding 9) ≡ leaving (2 ∷ []) (9 ∷ 0 ∷ 1 ∷ []) [] 0
unfolding configuration_of positions at_cycle word_by memory_by sent_by_units missed_by_units owner value_by stored sent missed apply_of
load_reads_before_the_stores_of_its_cycle = refl

-- a unit that stores that word at 0
abbrev storing : ℕ → Work
storing w = record { op = Store; port = 0; turn = 0; args = 0 ∷ w ∷ [] }

stores_of_one_cycle_in_unit_order : memory_by (λ x. Some (storing x)) (9 ∷ []) 3 ≡ 2 ∷ []
unfolding memory_by stored
stores_of_one_cycle_in_unit_order = refl

-- ---- guarded operations, on one tile with a hub of two registers and a unit of three ports, at interval 8

abbrev pub t4g : Arch
t4g = record {
  name = codes "t4g";
  contexts = 8;
  memory = 4;
  resources =
      record { name = codes "r0c0_h0"; kind = Register; drivers = 5 ∷ 0 ∷ 1 ∷ [] }
      ∷ record { name = codes "r0c0_h1"; kind = Register; drivers = 5 ∷ 0 ∷ 1 ∷ [] }
      ∷ record { name = codes "r0c0_u_a"; kind = Port; drivers = 5 ∷ 0 ∷ 1 ∷ [] }
      ∷ record { name = codes "r0c0_u_b"; kind = Port; drivers = 5 ∷ 0 ∷ 1 ∷ [] }
      ∷ record { name = codes "r0c0_u_c"; kind = Port; drivers = 5 ∷ 0 ∷ 1 ∷ [] }
      ∷ record { name = codes "r0c0_u_o"; kind = Out; drivers = [] }
      ∷ [];
  units = record { name = codes "r0c0_u"; ops = Iter ∷ And ∷ StoreIf ∷ OutputIf ∷ []; latency = 1; ports = 2 ∷ 3 ∷ 4 ∷ []; out = 5 } ∷ [];
  hub = 0 ∷ 1 ∷ [];
}

abbrev pub odd_on_t4g : Mapping
odd_on_t4g = record {
  ii = 8;
  places = record { unit = 0; time = 0 } ∷ record { unit = 0; time = 2 } ∷ record { unit = 0; time = 4 } ∷ record { unit = 0; time = 6 } ∷ [];
  routes =
      record { node = 1; arg = 0; path = 5 ∷ 0 ∷ 2 ∷ [] }
      ∷ record { node = 2; arg = 0; path = 5 ∷ 1 ∷ 2 ∷ [] }
      ∷ record { node = 2; arg = 2; path = 5 ∷ 0 ∷ 0 ∷ 0 ∷ 4 ∷ [] }
      ∷ record { node = 3; arg = 0; path = 5 ∷ 1 ∷ 1 ∷ 1 ∷ 2 ∷ [] }
      ∷ record { node = 3; arg = 1; path = 5 ∷ 0 ∷ 0 ∷ 0 ∷ 0 ∷ 0 ∷ 3 ∷ [] }
      ∷ [];
}

guarded_takes_40_cycles : cycles (configuration_of t4g odd_inside odd_on_t4g) 5 ≡ 40
unfolding configuration_of
guarded_takes_40_cycles = refl

guarded_of_the_array : machine_left t4g (configuration_of t4g odd_inside odd_on_t4g) 5 (holding 7) ≡ leaving (3 ∷ []) (1 ∷ 3 ∷ []) [] 0
unfolding configuration_of positions at_cycle word_by memory_by sent_by_units missed_by_units owner value_by stored sent missed apply_of
guarded_of_the_array = refl

-- the same tile with loadif
abbrev pub t4l : Arch
t4l = record {
  name = codes "t4l";
  contexts = 8;
  memory = 4;
  resources = t4g.resources;
  units = record { name = codes "r0c0_u"; ops = Iter ∷ And ∷ LoadIf ∷ StoreIf ∷ OutputIf ∷ []; latency = 1; ports = 2 ∷ 3 ∷ 4 ∷ []; out = 5 } ∷ [];
  hub = t4g.hub;
}

abbrev pub odd_on_t4l : Mapping
odd_on_t4l = record {
  ii = 8;
  places = record { unit = 0; time = 0 } ∷ record { unit = 0; time = 1 } ∷ record { unit = 0; time = 2 } ∷ record { unit = 0; time = 3 } ∷ record { unit = 0; time = 4 } ∷ [];
  routes =
      record { node = 1; arg = 0; path = 5 ∷ 2 ∷ [] }
      ∷ record { node = 2; arg = 0; path = 5 ∷ 2 ∷ [] }
      ∷ record { node = 3; arg = 0; path = 5 ∷ 1 ∷ 2 ∷ [] }
      ∷ record { node = 3; arg = 2; path = 5 ∷ 0 ∷ 0 ∷ 4 ∷ [] }
      ∷ record { node = 4; arg = 0; path = 5 ∷ 1 ∷ 1 ∷ 2 ∷ [] }
      ∷ record { node = 4; arg = 1; path = 5 ∷ 0 ∷ 0 ∷ 0 ∷ 3 ∷ [] }
      ∷ [];
}

-- in three of the five turns the load doesn't act, and counts nothing
idle_access_of_the_array_counts_nothing : machine_left t4l (configuration_of t4l odd odd_on_t4l) 5 (holding 7) ≡ leaving (3 ∷ []) (1 ∷ 3 ∷ []) [] 2
unfolding configuration_of positions at_cycle word_by memory_by sent_by_units missed_by_units owner value_by stored sent missed apply_of
idle_access_of_the_array_counts_nothing = refl
