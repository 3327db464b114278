-- Worked rows: the running sum on one tile, and each fault on its bits with a field changed.
use Rattle.std.proofs.Common.{◌≡◌, ℕ, [], ◌∷◌, ◌++◌, List, Option, Some, None, replicate, refl}
use Rattle.std.specs.Prelude.{codes}
use Rattle.cg_word.specs.declared.op.Op.TheVariants.{Iter, Add, Output}
use Rattle.cg_word.specs.Word as operations
use Rattle.cg_model.specs.declared.array.Kind.TheVariants.{Register, Port, Out}
use Rattle.cg_model.specs.Array.{Arch}
use Rattle.cg_model.specs.Config.{Config, no_arg, off}
use Rattle.cg_model.specs.Canonical.{fixed_below, greatest_of, any_below}
use Rattle.cg_flat.specs.Slots.{total, width_by}
use Rattle.cg_bits.specs.declared.fault.BitsFault.{BitsFault}
use Rattle.cg_bits.specs.declared.fault.BitsFault.TheVariants.{Magic, Truncated, ArchMismatch, BadHeader, BadSelect, BadOp, NotOffered, NotCanonical, BadPadding, Trailing, RepeatedPort}
use Rattle.cg_bits.specs.Numbers.{bits_of, number_after}
use Rattle.cg_bits.specs.Parts.{joined}
use Rattle.cg_bits.specs.Format.{cgb2, op_of}
use Rattle.cg_bits.specs.Reading.{arg_in, unit_in, config_in, config_at}
use Rattle.cg_bits.specs.Faults.{first, faults}

-- one tile: a register, and a unit with two ports
abbrev t1 : Arch
t1 =
    record {
      name = codes "t1";
      contexts = 4;
      memory = 16;
      resources =
          record { name = codes "r0c0_r"; kind = Register; drivers = 3 ∷ 0 ∷ [] }
          ∷ record { name = codes "r0c0_u_a"; kind = Port; drivers = 3 ∷ 0 ∷ [] }
          ∷ record { name = codes "r0c0_u_b"; kind = Port; drivers = 3 ∷ 0 ∷ [] }
          ∷ record { name = codes "r0c0_u_o"; kind = Out; drivers = [] }
          ∷ [];
      units = record { name = codes "r0c0_u"; ops = Iter ∷ Add ∷ Output ∷ []; latency = 1; ports = 1 ∷ 2 ∷ []; out = 3 } ∷ [];
      hub = [];
    }

-- the running sum at interval 3: iter in slot 0, an addition with one initial word in slot 1, an output in slot 2
abbrev running_sum : Config
running_sum =
    record {
      ii = 3;
      stages = 1;
      selects = (1 ∷ 0 ∷ 0 ∷ 0 ∷ []) ∷ (2 ∷ 2 ∷ 1 ∷ 0 ∷ []) ∷ (0 ∷ 1 ∷ 0 ∷ 0 ∷ []) ∷ [];
      units =
          (record off { op = Some Iter } ∷ [])
          ∷ (record off { op = Some Add; args = record no_arg { count = 1 } ∷ no_arg ∷ no_arg ∷ [] } ∷ [])
          ∷ (record off { op = Some Output } ∷ [])
          ∷ [];
    }

-- a digest by which the rows tell the architecture
abbrev digest : List ℕ
digest = replicate 32 7

abbrev first_fault : List ℕ → Option BitsFault
first_fault bytes = first (faults cgb2 t1 digest bytes)

-- its 163 bytes, of which behind the header those at 40, 41, 81, 82, 89, 122 and 123 aren't zero
abbrev bytes_of_sum : List ℕ
bytes_of_sum = (67 ∷ 71 ∷ 66 ∷ 50 ∷ 0 ∷ 3 ∷ 0 ∷ 1 ∷ []) ++ (replicate 32 7 ++ ((64 ∷ 32 ∷ []) ++ (replicate 39 0 ++ ((164 ∷ 64 ∷ []) ++ (replicate 6 0 ++ ((16 ∷ []) ++ (replicate 32 0 ++ ((17 ∷ 96 ∷ []) ++ (replicate 39 0)))))))))

sum_is_read : config_at cgb2 t1 bytes_of_sum ≡ running_sum
unfolding bits_of number_after total width_by op_of operations.op_of arg_in unit_in config_in
sum_is_read = refl

-- nothing changed
right : first_fault ((67 ∷ 71 ∷ 66 ∷ 50 ∷ 0 ∷ 3 ∷ 0 ∷ 1 ∷ []) ++ (replicate 32 7 ++ ((64 ∷ 32 ∷ []) ++ (replicate 39 0 ++ ((164 ∷ 64 ∷ []) ++ (replicate 6 0 ++ ((16 ∷ []) ++ (replicate 32 0 ++ ((17 ∷ 96 ∷ []) ++ (replicate 39 0)))))))))) ≡ None
unfolding bits_of number_after total width_by op_of operations.op_of arg_in unit_in config_in joined greatest_of fixed_below any_below
right = refl

-- B1: the sign of another version
another_sign : first_fault ((67 ∷ 71 ∷ 66 ∷ 49 ∷ 0 ∷ 3 ∷ 0 ∷ 1 ∷ []) ++ (replicate 32 7 ++ ((64 ∷ 32 ∷ []) ++ (replicate 39 0 ++ ((164 ∷ 64 ∷ []) ++ (replicate 6 0 ++ ((16 ∷ []) ++ (replicate 32 0 ++ ((17 ∷ 96 ∷ []) ++ (replicate 39 0)))))))))) ≡ Some Magic
unfolding bits_of number_after total width_by op_of operations.op_of arg_in unit_in config_in joined greatest_of fixed_below any_below
another_sign = refl

-- B1 goes before B2
short_magic : first_fault ((67 ∷ 72 ∷ [])) ≡ Some Magic
unfolding bits_of number_after total width_by op_of operations.op_of arg_in unit_in config_in joined greatest_of fixed_below any_below
short_magic = refl

-- B2: no bytes at all
nothing : first_fault ([]) ≡ Some (Truncated 0)
unfolding bits_of number_after total width_by op_of operations.op_of arg_in unit_in config_in joined greatest_of fixed_below any_below
nothing = refl

-- B2: the header isn't whole
half_a_header : first_fault ((67 ∷ 71 ∷ 66 ∷ 50 ∷ 0 ∷ 3 ∷ 0 ∷ 1 ∷ []) ++ (replicate 12 7)) ≡ Some (Truncated 20)
unfolding bits_of number_after total width_by op_of operations.op_of arg_in unit_in config_in joined greatest_of fixed_below any_below
half_a_header = refl

-- B2: the last byte is missing
a_byte_missing : first_fault ((67 ∷ 71 ∷ 66 ∷ 50 ∷ 0 ∷ 3 ∷ 0 ∷ 1 ∷ []) ++ (replicate 32 7 ++ ((64 ∷ 32 ∷ []) ++ (replicate 39 0 ++ ((164 ∷ 64 ∷ []) ++ (replicate 6 0 ++ ((16 ∷ []) ++ (replicate 32 0 ++ ((17 ∷ 96 ∷ []) ++ (replicate 38 0)))))))))) ≡ Some (Truncated 162)
unfolding bits_of number_after total width_by op_of operations.op_of arg_in unit_in config_in joined greatest_of fixed_below any_below
a_byte_missing = refl

-- B3
another_digest : first_fault ((67 ∷ 71 ∷ 66 ∷ 50 ∷ 0 ∷ 3 ∷ 0 ∷ 1 ∷ 9 ∷ []) ++ (replicate 31 7 ++ ((64 ∷ 32 ∷ []) ++ (replicate 39 0 ++ ((164 ∷ 64 ∷ []) ++ (replicate 6 0 ++ ((16 ∷ []) ++ (replicate 32 0 ++ ((17 ∷ 96 ∷ []) ++ (replicate 39 0)))))))))) ≡ Some (ArchMismatch (9 ∷ replicate 31 7) (replicate 32 7))
unfolding bits_of number_after total width_by op_of operations.op_of arg_in unit_in config_in joined greatest_of fixed_below any_below
another_digest = refl

-- B3 goes before the missing slots
digest_before_slots : first_fault ((67 ∷ 71 ∷ 66 ∷ 50 ∷ 0 ∷ 3 ∷ 0 ∷ 1 ∷ 9 ∷ []) ++ (replicate 31 7)) ≡ Some (ArchMismatch (9 ∷ replicate 31 7) (replicate 32 7))
unfolding bits_of number_after total width_by op_of operations.op_of arg_in unit_in config_in joined greatest_of fixed_below any_below
digest_before_slots = refl

-- B4: an interval above the contexts
too_many_slots : first_fault ((67 ∷ 71 ∷ 66 ∷ 50 ∷ 0 ∷ 7 ∷ 0 ∷ 1 ∷ []) ++ (replicate 32 7 ++ ((64 ∷ 32 ∷ []) ++ (replicate 39 0 ++ ((164 ∷ 64 ∷ []) ++ (replicate 6 0 ++ ((16 ∷ []) ++ (replicate 32 0 ++ ((17 ∷ 96 ∷ []) ++ (replicate 39 0)))))))))) ≡ Some (BadHeader 7 1)
unfolding bits_of number_after total width_by op_of operations.op_of arg_in unit_in config_in joined greatest_of fixed_below any_below
too_many_slots = refl

-- B4: an interval of 0
no_slots : first_fault ((67 ∷ 71 ∷ 66 ∷ 50 ∷ 0 ∷ 0 ∷ 0 ∷ 1 ∷ []) ++ (replicate 32 7 ++ ((64 ∷ 32 ∷ []) ++ (replicate 39 0 ++ ((164 ∷ 64 ∷ []) ++ (replicate 6 0 ++ ((16 ∷ []) ++ (replicate 32 0 ++ ((17 ∷ 96 ∷ []) ++ (replicate 39 0)))))))))) ≡ Some (BadHeader 0 1)
unfolding bits_of number_after total width_by op_of operations.op_of arg_in unit_in config_in joined greatest_of fixed_below any_below
no_slots = refl

-- B4: stages of 0
no_stages : first_fault ((67 ∷ 71 ∷ 66 ∷ 50 ∷ 0 ∷ 3 ∷ 0 ∷ 0 ∷ []) ++ (replicate 32 7 ++ ((64 ∷ 32 ∷ []) ++ (replicate 39 0 ++ ((164 ∷ 64 ∷ []) ++ (replicate 6 0 ++ ((16 ∷ []) ++ (replicate 32 0 ++ ((17 ∷ 96 ∷ []) ++ (replicate 39 0)))))))))) ≡ Some (BadHeader 3 0)
unfolding bits_of number_after total width_by op_of operations.op_of arg_in unit_in config_in joined greatest_of fixed_below any_below
no_stages = refl

-- B5: the select of port a in slot 0
third_driver_of_two : first_fault ((67 ∷ 71 ∷ 66 ∷ 50 ∷ 0 ∷ 3 ∷ 0 ∷ 1 ∷ []) ++ (replicate 32 7 ++ ((112 ∷ 32 ∷ []) ++ (replicate 39 0 ++ ((164 ∷ 64 ∷ []) ++ (replicate 6 0 ++ ((16 ∷ []) ++ (replicate 32 0 ++ ((17 ∷ 96 ∷ []) ++ (replicate 39 0)))))))))) ≡ Some (BadSelect 322)
unfolding bits_of number_after total width_by op_of operations.op_of arg_in unit_in config_in joined greatest_of fixed_below any_below
third_driver_of_two = refl

-- B6: the unit in slot 1
code_26 : first_fault ((67 ∷ 71 ∷ 66 ∷ 50 ∷ 0 ∷ 3 ∷ 0 ∷ 1 ∷ []) ++ (replicate 32 7 ++ ((64 ∷ 32 ∷ []) ++ (replicate 39 0 ++ ((165 ∷ 160 ∷ []) ++ (replicate 6 0 ++ ((16 ∷ []) ++ (replicate 32 0 ++ ((17 ∷ 96 ∷ []) ++ (replicate 39 0)))))))))) ≡ Some (BadOp 654)
unfolding bits_of number_after total width_by op_of operations.op_of arg_in unit_in config_in joined greatest_of fixed_below any_below
code_26 = refl

-- B7: the unit in slot 1
subtraction : first_fault ((67 ∷ 71 ∷ 66 ∷ 50 ∷ 0 ∷ 3 ∷ 0 ∷ 1 ∷ []) ++ (replicate 32 7 ++ ((64 ∷ 32 ∷ []) ++ (replicate 39 0 ++ ((164 ∷ 80 ∷ []) ++ (replicate 6 0 ++ ((16 ∷ []) ++ (replicate 32 0 ++ ((17 ∷ 96 ∷ []) ++ (replicate 39 0)))))))))) ≡ Some (NotOffered 654)
unfolding bits_of number_after total width_by op_of operations.op_of arg_in unit_in config_in joined greatest_of fixed_below any_below
subtraction = refl

-- B8: the header's stages
stages_of_2 : first_fault ((67 ∷ 71 ∷ 66 ∷ 50 ∷ 0 ∷ 3 ∷ 0 ∷ 2 ∷ []) ++ (replicate 32 7 ++ ((64 ∷ 32 ∷ []) ++ (replicate 39 0 ++ ((164 ∷ 64 ∷ []) ++ (replicate 6 0 ++ ((16 ∷ []) ++ (replicate 32 0 ++ ((17 ∷ 96 ∷ []) ++ (replicate 39 0)))))))))) ≡ Some (NotCanonical 48)
unfolding bits_of number_after total width_by op_of operations.op_of arg_in unit_in config_in joined greatest_of fixed_below any_below
stages_of_2 = refl

-- B8: a stage that the header lacks
stage_1_alone : first_fault ((67 ∷ 71 ∷ 66 ∷ 50 ∷ 0 ∷ 3 ∷ 0 ∷ 1 ∷ []) ++ (replicate 32 7 ++ ((64 ∷ 32 ∷ []) ++ (replicate 39 0 ++ ((164 ∷ 64 ∷ 0 ∷ 16 ∷ []) ++ (replicate 4 0 ++ ((16 ∷ []) ++ (replicate 32 0 ++ ((17 ∷ 96 ∷ []) ++ (replicate 39 0)))))))))) ≡ Some (NotCanonical 48)
unfolding bits_of number_after total width_by op_of operations.op_of arg_in unit_in config_in joined greatest_of fixed_below any_below
stage_1_alone = refl

-- B8: a stage under an off unit
stage_of_off : first_fault ((67 ∷ 71 ∷ 66 ∷ 50 ∷ 0 ∷ 3 ∷ 0 ∷ 1 ∷ []) ++ (replicate 32 7 ++ ((64 ∷ 0 ∷ 0 ∷ 16 ∷ []) ++ (replicate 37 0 ++ ((164 ∷ 64 ∷ []) ++ (replicate 6 0 ++ ((16 ∷ []) ++ (replicate 32 0 ++ ((17 ∷ 96 ∷ []) ++ (replicate 39 0)))))))))) ≡ Some (NotCanonical 332)
unfolding bits_of number_after total width_by op_of operations.op_of arg_in unit_in config_in joined greatest_of fixed_below any_below
stage_of_off = refl

-- B8: a port that means nothing
port_of_addition : first_fault ((67 ∷ 71 ∷ 66 ∷ 50 ∷ 0 ∷ 3 ∷ 0 ∷ 1 ∷ []) ++ (replicate 32 7 ++ ((64 ∷ 32 ∷ []) ++ (replicate 39 0 ++ ((164 ∷ 64 ∷ 0 ∷ 1 ∷ []) ++ (replicate 4 0 ++ ((16 ∷ []) ++ (replicate 32 0 ++ ((17 ∷ 96 ∷ []) ++ (replicate 39 0)))))))))) ≡ Some (NotCanonical 676)
unfolding bits_of number_after total width_by op_of operations.op_of arg_in unit_in config_in joined greatest_of fixed_below any_below
port_of_addition = refl

-- B8: an immediate without a mode bit
immediate_alone : first_fault ((67 ∷ 71 ∷ 66 ∷ 50 ∷ 0 ∷ 3 ∷ 0 ∷ 1 ∷ []) ++ (replicate 32 7 ++ ((64 ∷ 32 ∷ []) ++ (replicate 39 0 ++ ((164 ∷ 64 ∷ []) ++ (replicate 5 0 ++ ((5 ∷ 16 ∷ []) ++ (replicate 32 0 ++ ((17 ∷ 96 ∷ []) ++ (replicate 39 0)))))))))) ≡ Some (NotCanonical 680)
unfolding bits_of number_after total width_by op_of operations.op_of arg_in unit_in config_in joined greatest_of fixed_below any_below
immediate_alone = refl

-- B8: an immediate under an off unit whose mode bit is set
immediate_of_off : first_fault ((67 ∷ 71 ∷ 66 ∷ 50 ∷ 0 ∷ 3 ∷ 0 ∷ 1 ∷ []) ++ (replicate 32 7 ++ ((64 ∷ 0 ∷ 0 ∷ 0 ∷ 0 ∷ 0 ∷ 0 ∷ 7 ∷ 128 ∷ []) ++ (replicate 32 0 ++ ((164 ∷ 64 ∷ []) ++ (replicate 6 0 ++ ((16 ∷ []) ++ (replicate 32 0 ++ ((17 ∷ 96 ∷ []) ++ (replicate 39 0)))))))))) ≡ Some (NotCanonical 352)
unfolding bits_of number_after total width_by op_of operations.op_of arg_in unit_in config_in joined greatest_of fixed_below any_below
immediate_of_off = refl

-- B8: a mode bit from the arity on
mode_past_arity : first_fault ((67 ∷ 71 ∷ 66 ∷ 50 ∷ 0 ∷ 3 ∷ 0 ∷ 1 ∷ []) ++ (replicate 32 7 ++ ((64 ∷ 32 ∷ []) ++ (replicate 39 0 ++ ((164 ∷ 64 ∷ []) ++ (replicate 6 0 ++ ((16 ∷ []) ++ (replicate 32 0 ++ ((17 ∷ 96 ∷ []) ++ (replicate 22 0 ++ ((8 ∷ []) ++ (replicate 16 0)))))))))))) ≡ Some (NotCanonical 1172)
unfolding bits_of number_after total width_by op_of operations.op_of arg_in unit_in config_in joined greatest_of fixed_below any_below
mode_past_arity = refl

-- B8: a second mode bit
two_modes : first_fault ((67 ∷ 71 ∷ 66 ∷ 50 ∷ 0 ∷ 3 ∷ 0 ∷ 1 ∷ []) ++ (replicate 32 7 ++ ((64 ∷ 32 ∷ []) ++ (replicate 39 0 ++ ((164 ∷ 64 ∷ []) ++ (replicate 6 0 ++ ((128 ∷ []) ++ (replicate 15 0 ++ ((8 ∷ []) ++ (replicate 16 0 ++ ((17 ∷ 96 ∷ []) ++ (replicate 39 0)))))))))))) ≡ Some (NotCanonical 844)
unfolding bits_of number_after total width_by op_of operations.op_of arg_in unit_in config_in joined greatest_of fixed_below any_below
two_modes = refl

-- B8: a count above 4
count_of_5 : first_fault ((67 ∷ 71 ∷ 66 ∷ 50 ∷ 0 ∷ 3 ∷ 0 ∷ 1 ∷ []) ++ (replicate 32 7 ++ ((64 ∷ 32 ∷ []) ++ (replicate 39 0 ++ ((164 ∷ 64 ∷ []) ++ (replicate 6 0 ++ ((16 ∷ []) ++ (replicate 15 0 ++ ((5 ∷ []) ++ (replicate 16 0 ++ ((17 ∷ 96 ∷ []) ++ (replicate 39 0)))))))))))) ≡ Some (NotCanonical 845)
unfolding bits_of number_after total width_by op_of operations.op_of arg_in unit_in config_in joined greatest_of fixed_below any_below
count_of_5 = refl

-- B8: a count under a mode bit
count_of_fixed : first_fault ((67 ∷ 71 ∷ 66 ∷ 50 ∷ 0 ∷ 3 ∷ 0 ∷ 1 ∷ []) ++ (replicate 32 7 ++ ((64 ∷ 32 ∷ []) ++ (replicate 39 0 ++ ((164 ∷ 64 ∷ []) ++ (replicate 6 0 ++ ((144 ∷ []) ++ (replicate 32 0 ++ ((17 ∷ 96 ∷ []) ++ (replicate 39 0)))))))))) ≡ Some (NotCanonical 713)
unfolding bits_of number_after total width_by op_of operations.op_of arg_in unit_in config_in joined greatest_of fixed_below any_below
count_of_fixed = refl

-- B8: a count from the arity on
count_past_arity : first_fault ((67 ∷ 71 ∷ 66 ∷ 50 ∷ 0 ∷ 3 ∷ 0 ∷ 1 ∷ []) ++ (replicate 32 7 ++ ((64 ∷ 32 ∷ []) ++ (replicate 6 0 ++ ((16 ∷ []) ++ (replicate 32 0 ++ ((164 ∷ 64 ∷ []) ++ (replicate 6 0 ++ ((16 ∷ []) ++ (replicate 32 0 ++ ((17 ∷ 96 ∷ []) ++ (replicate 39 0)))))))))))) ≡ Some (NotCanonical 385)
unfolding bits_of number_after total width_by op_of operations.op_of arg_in unit_in config_in joined greatest_of fixed_below any_below
count_past_arity = refl

-- B8: a word from the count on
word_past_count : first_fault ((67 ∷ 71 ∷ 66 ∷ 50 ∷ 0 ∷ 3 ∷ 0 ∷ 1 ∷ []) ++ (replicate 32 7 ++ ((64 ∷ 32 ∷ []) ++ (replicate 39 0 ++ ((164 ∷ 64 ∷ []) ++ (replicate 6 0 ++ ((16 ∷ []) ++ (replicate 7 0 ++ ((144 ∷ []) ++ (replicate 24 0 ++ ((17 ∷ 96 ∷ []) ++ (replicate 39 0)))))))))))) ≡ Some (NotCanonical 748)
unfolding bits_of number_after total width_by op_of operations.op_of arg_in unit_in config_in joined greatest_of fixed_below any_below
word_past_count = refl

-- B8: a word under a mode bit
word_of_fixed : first_fault ((67 ∷ 71 ∷ 66 ∷ 50 ∷ 0 ∷ 3 ∷ 0 ∷ 1 ∷ []) ++ (replicate 32 7 ++ ((64 ∷ 32 ∷ []) ++ (replicate 39 0 ++ ((164 ∷ 64 ∷ []) ++ (replicate 6 0 ++ ((128 ∷ 0 ∷ 0 ∷ 0 ∷ 16 ∷ []) ++ (replicate 28 0 ++ ((17 ∷ 96 ∷ []) ++ (replicate 39 0)))))))))) ≡ Some (NotCanonical 716)
unfolding bits_of number_after total width_by op_of operations.op_of arg_in unit_in config_in joined greatest_of fixed_below any_below
word_of_fixed = refl

-- B8: a word from the arity on
word_past_arity : first_fault ((67 ∷ 71 ∷ 66 ∷ 50 ∷ 0 ∷ 3 ∷ 0 ∷ 1 ∷ []) ++ (replicate 32 7 ++ ((64 ∷ 32 ∷ []) ++ (replicate 38 0 ++ ((1 ∷ 164 ∷ 64 ∷ []) ++ (replicate 6 0 ++ ((16 ∷ []) ++ (replicate 32 0 ++ ((17 ∷ 96 ∷ []) ++ (replicate 39 0)))))))))) ≡ Some (NotCanonical 616)
unfolding bits_of number_after total width_by op_of operations.op_of arg_in unit_in config_in joined greatest_of fixed_below any_below
word_past_arity = refl

-- B8: the last bit of all, in the last word of slot 2
last_bit : first_fault ((67 ∷ 71 ∷ 66 ∷ 50 ∷ 0 ∷ 3 ∷ 0 ∷ 1 ∷ []) ++ (replicate 32 7 ++ ((64 ∷ 32 ∷ []) ++ (replicate 39 0 ++ ((164 ∷ 64 ∷ []) ++ (replicate 6 0 ++ ((16 ∷ []) ++ (replicate 32 0 ++ ((17 ∷ 96 ∷ []) ++ (replicate 38 0 ++ ((1 ∷ [])))))))))))) ≡ Some (NotCanonical 1272)
unfolding bits_of number_after total width_by op_of operations.op_of arg_in unit_in config_in joined greatest_of fixed_below any_below
last_bit = refl

-- B10
a_byte_more : first_fault ((67 ∷ 71 ∷ 66 ∷ 50 ∷ 0 ∷ 3 ∷ 0 ∷ 1 ∷ []) ++ (replicate 32 7 ++ ((64 ∷ 32 ∷ []) ++ (replicate 39 0 ++ ((164 ∷ 64 ∷ []) ++ (replicate 6 0 ++ ((16 ∷ []) ++ (replicate 32 0 ++ ((17 ∷ 96 ∷ []) ++ (replicate 40 0)))))))))) ≡ Some (Trailing 163)
unfolding bits_of number_after total width_by op_of operations.op_of arg_in unit_in config_in joined greatest_of fixed_below any_below
a_byte_more = refl

-- B10: an interval of 1
one_slot : first_fault ((67 ∷ 71 ∷ 66 ∷ 50 ∷ 0 ∷ 1 ∷ 0 ∷ 1 ∷ []) ++ (replicate 32 7 ++ ((64 ∷ 32 ∷ []) ++ (replicate 39 0 ++ ((164 ∷ 64 ∷ []) ++ (replicate 6 0 ++ ((16 ∷ []) ++ (replicate 32 0 ++ ((17 ∷ 96 ∷ []) ++ (replicate 39 0)))))))))) ≡ Some (Trailing 81)
unfolding bits_of number_after total width_by op_of operations.op_of arg_in unit_in config_in joined greatest_of fixed_below any_below
one_slot = refl

-- B10: an interval of 2
two_slots : first_fault ((67 ∷ 71 ∷ 66 ∷ 50 ∷ 0 ∷ 2 ∷ 0 ∷ 1 ∷ []) ++ (replicate 32 7 ++ ((64 ∷ 32 ∷ []) ++ (replicate 39 0 ++ ((164 ∷ 64 ∷ []) ++ (replicate 6 0 ++ ((16 ∷ []) ++ (replicate 32 0 ++ ((17 ∷ 96 ∷ []) ++ (replicate 39 0)))))))))) ≡ Some (Trailing 122)
unfolding bits_of number_after total width_by op_of operations.op_of arg_in unit_in config_in joined greatest_of fixed_below any_below
two_slots = refl

-- B11: the output in slot 2
two_outputs : first_fault ((67 ∷ 71 ∷ 66 ∷ 50 ∷ 0 ∷ 3 ∷ 0 ∷ 1 ∷ []) ++ (replicate 32 7 ++ ((64 ∷ 32 ∷ []) ++ (replicate 39 0 ++ ((165 ∷ 96 ∷ []) ++ (replicate 6 0 ++ ((16 ∷ []) ++ (replicate 32 0 ++ ((17 ∷ 96 ∷ []) ++ (replicate 39 0)))))))))) ≡ Some (RepeatedPort 1004)
unfolding bits_of number_after total width_by op_of operations.op_of arg_in unit_in config_in joined greatest_of fixed_below any_below
two_outputs = refl

-- ---- a unit without ports, whose slot of 58 bits leaves six bits of padding

abbrev alone : Arch
alone =
    record {
      name = codes "alone";
      contexts = 4;
      memory = 0;
      resources = record { name = codes "u_o"; kind = Out; drivers = [] } ∷ [];
      units = record { name = codes "u"; ops = Iter ∷ []; latency = 1; ports = []; out = 0 } ∷ [];
      hub = [];
    }

abbrev off_slot : ℕ → List ℕ
off_slot last = (67 ∷ 71 ∷ 66 ∷ 50 ∷ 0 ∷ 1 ∷ 0 ∷ 1 ∷ []) ++ (replicate 32 7 ++ (replicate 7 0 ++ (last ∷ [])))

all_off_is_right : first (faults cgb2 alone digest (off_slot 0)) ≡ None
unfolding bits_of number_after total width_by op_of operations.op_of arg_in unit_in config_in joined greatest_of fixed_below any_below
all_off_is_right = refl

-- B9: the last bit of padding
last_padding : first (faults cgb2 alone digest (off_slot 1)) ≡ Some (BadPadding 383)
unfolding bits_of number_after total width_by op_of operations.op_of arg_in unit_in config_in joined greatest_of fixed_below any_below
last_padding = refl

-- B9: the first of two bits of padding
first_padding : first (faults cgb2 alone digest (off_slot 33)) ≡ Some (BadPadding 378)
unfolding bits_of number_after total width_by op_of operations.op_of arg_in unit_in config_in joined greatest_of fixed_below any_below
first_padding = refl
