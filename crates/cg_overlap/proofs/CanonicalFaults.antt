-- Configurations that aren't canonical, each for one rule.
use Rattle.std.proofs.Common.{◌≡◌, ℕ, ◌<◌, ◌≤◌, true, false, [], ◌∷◌, Some, arith}
use Rattle.cg_word.specs.declared.op.Op.TheVariants.{Iter, Add, Mul, Output}
use Rattle.cg_model.specs.declared.config.ArgFields.{ArgFields}
use Rattle.cg_model.specs.declared.config.UnitFields.{UnitFields}
use Rattle.cg_model.specs.Config.{Config, no_arg, off}
use Rattle.cg_model.specs.Canonical.{IsCanonical, any_below, greatest_of, fixed_below}
use Rattle.cg_overlap.proofs.Rows.{t1}

-- one slot of t1, in which its unit has these fields
abbrev saying : ℕ → UnitFields → Config
saying stages f = record { ii = 1; stages = stages; selects = (0 ∷ 0 ∷ 0 ∷ 0 ∷ []) ∷ []; units = (f ∷ []) ∷ [] }

-- an addition on these arguments
abbrev adding : ℕ → ArgFields → ArgFields → ArgFields → UnitFields
adding immediate a b c = record { op = Some Add; stage = 0; port = 0; immediate = immediate; args = a ∷ b ∷ c ∷ [] }

abbrev fixed : ArgFields
fixed = record { fixed = true; count = 0; init = 0 ∷ 0 ∷ 0 ∷ 0 ∷ [] }

-- an argument with that count and that first word
abbrev counted : ℕ → ℕ → ArgFields
counted count w = record { fixed = false; count = count; init = w ∷ 0 ∷ 0 ∷ 0 ∷ [] }

-- ---- under an off unit

stage_under_an_off_unit : IsCanonical t1 (saying 1 (record off { stage = 1 })) → ⊥
stage_under_an_off_unit h = let z : false ≡ true = (h.fielded 0 0 (omega arith) (omega arith)).stage in cc

port_under_an_off_unit : IsCanonical t1 (saying 1 (record off { port = 1 })) → ⊥
port_under_an_off_unit h = let z : false ≡ true = (h.fielded 0 0 (omega arith) (omega arith)).port in cc

immediate_under_an_off_unit : IsCanonical t1 (saying 1 (record off { immediate = 1 })) → ⊥
immediate_under_an_off_unit h = let z : false ≡ true = (h.fielded 0 0 (omega arith) (omega arith)).immediate in cc

mode_bit_under_an_off_unit : IsCanonical t1 (saying 1 (record off { args = fixed ∷ no_arg ∷ no_arg ∷ [] })) → ⊥
unfolding fixed_below
mode_bit_under_an_off_unit h = let z : false ≡ true = (h.fielded 0 0 (omega arith) (omega arith)).mode 0 (omega arith) in cc

count_under_an_off_unit : IsCanonical t1 (saying 1 (record off { args = counted 1 0 ∷ no_arg ∷ no_arg ∷ [] })) → ⊥
count_under_an_off_unit h = let z : false ≡ true = (h.fielded 0 0 (omega arith) (omega arith)).count 0 (omega arith) in cc

word_under_an_off_unit : IsCanonical t1 (saying 1 (record off { args = counted 0 5 ∷ no_arg ∷ no_arg ∷ [] })) → ⊥
word_under_an_off_unit h = let z : false ≡ true = (h.fielded 0 0 (omega arith) (omega arith)).word 0 0 (omega arith) (omega arith) in cc

-- ---- arguments

third_argument_of_an_add : IsCanonical t1 (saying 1 (adding 0 no_arg no_arg (counted 1 0))) → ⊥
third_argument_of_an_add h = let z : false ≡ true = (h.fielded 0 0 (omega arith) (omega arith)).count 2 (omega arith) in cc

two_mode_bits : IsCanonical t1 (saying 1 (adding 5 fixed fixed no_arg)) → ⊥
unfolding fixed_below
two_mode_bits h = let z : false ≡ true = (h.fielded 0 0 (omega arith) (omega arith)).mode 1 (omega arith) in cc

count_of_a_fixed_argument : IsCanonical t1 (saying 1 (adding 5 (record fixed { count = 1 }) no_arg no_arg)) → ⊥
count_of_a_fixed_argument h = let z : false ≡ true = (h.fielded 0 0 (omega arith) (omega arith)).count 0 (omega arith) in cc

word_of_a_fixed_argument : IsCanonical t1 (saying 1 (adding 5 (record fixed { init = 7 ∷ 0 ∷ 0 ∷ 0 ∷ [] }) no_arg no_arg)) → ⊥
word_of_a_fixed_argument h = let z : false ≡ true = (h.fielded 0 0 (omega arith) (omega arith)).word 0 0 (omega arith) (omega arith) in cc

immediate_without_a_mode_bit : IsCanonical t1 (saying 1 (adding 5 no_arg no_arg no_arg)) → ⊥
immediate_without_a_mode_bit h = let z : false ≡ true = (h.fielded 0 0 (omega arith) (omega arith)).immediate in cc

count_of_5 : IsCanonical t1 (saying 1 (adding 0 (counted 5 0) no_arg no_arg)) → ⊥
count_of_5 h = let z : false ≡ true = (h.fielded 0 0 (omega arith) (omega arith)).count 0 (omega arith) in cc

word_from_the_count_on : IsCanonical t1 (saying 1 (adding 0 (counted 0 7) no_arg no_arg)) → ⊥
word_from_the_count_on h = let z : false ≡ true = (h.fielded 0 0 (omega arith) (omega arith)).word 0 0 (omega arith) (omega arith) in cc

word_of_33_bits : IsCanonical t1 (saying 1 (adding 0 (counted 1 4294967296) no_arg no_arg)) → ⊥
word_of_33_bits h = let z : 4294967296 < 4294967296 = (h.fielded 0 0 (omega arith) (omega arith)).init_words 0 0 (omega arith) (omega arith) in omega arith

-- ---- the other fields

port_of_an_add : IsCanonical t1 (saying 1 (record (adding 0 no_arg no_arg no_arg) { port = 3 })) → ⊥
port_of_an_add h = let z : false ≡ true = (h.fielded 0 0 (omega arith) (omega arith)).port in cc

port_of_16 : IsCanonical t1 (saying 1 (record off { op = Some Output; port = 16 })) → ⊥
port_of_16 h = let z : 16 < 16 = (h.fielded 0 0 (omega arith) (omega arith)).ports in omega arith

stage_of_65535 : IsCanonical t1 (saying 65536 (record (adding 0 no_arg no_arg no_arg) { stage = 65535 })) → ⊥
stage_of_65535 h = let z : false ≡ true = (h.fielded 0 0 (omega arith) (omega arith)).stage in cc

operation_that_is_not_offered : IsCanonical t1 (saying 1 (record off { op = Some Mul })) → ⊥
operation_that_is_not_offered h = let z : false ≡ true = (h.fielded 0 0 (omega arith) (omega arith)).offer in cc

-- ---- the whole

more_stages_than_the_greatest : IsCanonical t1 (saying 2 off) → ⊥
unfolding greatest_of
more_stages_than_the_greatest h = let z : ◌≡◌ {A = ℕ} 2 1 = h.stages in omega arith

fewer_stages_than_the_greatest : IsCanonical t1 (saying 1 (record off { op = Some Iter; stage = 1 })) → ⊥
unfolding greatest_of
fewer_stages_than_the_greatest h = let z : ◌≡◌ {A = ℕ} 1 2 = h.stages in omega arith

-- the register has two drivers
select_above_the_drivers : IsCanonical t1 (record (saying 1 off) { selects = (3 ∷ 0 ∷ 0 ∷ 0 ∷ []) ∷ [] }) → ⊥
select_above_the_drivers h = let z : 3 ≤ 2 = h.selects 0 0 (omega arith) (omega arith) in omega arith

-- the out has none
select_of_an_out : IsCanonical t1 (record (saying 1 off) { selects = (0 ∷ 0 ∷ 0 ∷ 1 ∷ []) ∷ [] }) → ⊥
select_of_an_out h = let z : 1 ≤ 0 = h.selects 3 0 (omega arith) (omega arith) in omega arith

interval_of_0 : IsCanonical t1 (record { ii = 0; stages = 1; selects = []; units = [] }) → ⊥
interval_of_0 h = let z : 0 < 0 = h.interval in omega arith

interval_above_the_contexts : IsCanonical t1 (record (saying 1 off) { ii = 5 }) → ⊥
interval_above_the_contexts h = let z : 5 ≤ 4 = h.contexts in omega arith

-- output to port 2 in both slots
abbrev twice : Config
twice = record {
  ii = 2;
  stages = 1;
  selects = (0 ∷ 0 ∷ 0 ∷ 0 ∷ []) ∷ (0 ∷ 0 ∷ 0 ∷ 0 ∷ []) ∷ [];
  units = (record off { op = Some Output; port = 2 } ∷ []) ∷ (record off { op = Some Output; port = 2 } ∷ []) ∷ [];
}

two_outputs_to_one_port : IsCanonical t1 twice → ⊥
unfolding any_below
two_outputs_to_one_port h = let z : false ≡ true = h.free 0 1 (omega arith) (omega arith) in cc
