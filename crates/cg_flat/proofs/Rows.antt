-- Worked rows. Each expected value is computed by hand.
use Rattle.std.proofs.Common.{◌≡◌, [], ◌∷◌, length, map, refl}
use Rattle.std.specs.Prelude.{codes}
use Rattle.std.specs.List.{range_with_len}
use Rattle.std.specs.Fmt.{digits}
use Rattle.cg_word.specs.declared.op.Op.TheVariants.{Const, Iter, Add, Output}
use Rattle.cg_model.specs.declared.array.Kind.TheVariants.{Wire, Register, Port, Out}
use Rattle.cg_model.specs.Array.{Arch}
use Rattle.cg_flat.specs.Text.{resource_line, unit_line, text_of}
use Rattle.cg_flat.specs.Slots.{width_by, width, total, select_bits, unit_bits, slot_bits, all_select_at, all_unit_at}

-- ---- one tile: a register, and a unit with two ports

abbrev t1 : Arch
t1 = record {
  name = codes "t1";
  contexts = 4;
  memory = 16;
  resources =
      record { name = codes "r0c0_r"; kind = Register; drivers = 3 ∷ 0 ∷ [] }
      ∷ record { name = codes "r0c0_u_a"; kind = Port; drivers = 3 ∷ 0 ∷ [] }
      ∷ record { name = codes "r0c0_u_b"; kind = Port; drivers = 3 ∷ 0 ∷ [] }
      ∷ record { name = codes "r0c0_u_o"; kind = Out; drivers = [] }
      ∷ [];
  units = record { name = codes "r0c0_u"; ops = Iter ∷ Add ∷ Output ∷ []; latency = 1; ports = 1 ∷ 2 ∷ []; out = 3 } ∷ [];
  hub = [];
}

text_of_t1 : text_of t1 ≡ codes "cgaflat1\nname t1\ncontexts 4\nmemory 16\nreg r0c0_r 3 0\nport r0c0_u_a 3 0\nport r0c0_u_b 3 0\nout r0c0_u_o\nunit r0c0_u latency 1 ports 1 2 out 3 ops iter add output\nhub\n"
unfolding text_of digits
text_of_t1 = refl

bytes_of_t1 : length (text_of t1) ≡ 164
unfolding text_of digits
bytes_of_t1 = refl

-- 0, 1 and 2 need two bits; an out has no drivers, and so no select
selects_of_t1 : map (select_bits t1) (range_with_len 0 4) ≡ 2 ∷ 2 ∷ 2 ∷ 0 ∷ []
unfolding width_by
selects_of_t1 = refl

select_starts_of_t1 : all_select_at t1 ≡ 0 ∷ 2 ∷ 4 ∷ 6 ∷ 6 ∷ []
unfolding all_select_at total width_by
select_starts_of_t1 = refl

-- 6 + 16 + 4 + 32 bits, and twice 1 + 3 + 4 * 32
unit_of_t1 : unit_bits t1 0 ≡ 322
unit_of_t1 = refl

unit_starts_of_t1 : all_unit_at t1 ≡ 6 ∷ 328 ∷ []
unfolding all_unit_at total width_by
unit_starts_of_t1 = refl

slot_of_t1 : slot_bits t1 ≡ 328
unfolding total width_by
slot_of_t1 = refl

-- ---- the same tile with a hub, of register 0

text_with_hub : text_of (record t1 { hub = 0 ∷ [] }) ≡ codes "cgaflat1\nname t1\ncontexts 4\nmemory 16\nreg r0c0_r 3 0\nport r0c0_u_a 3 0\nport r0c0_u_b 3 0\nout r0c0_u_o\nunit r0c0_u latency 1 ports 1 2 out 3 ops iter add output\nhub 0\n"
unfolding text_of digits
text_with_hub = refl

-- ---- lines by themselves

wire_line : resource_line (record { name = codes "w"; kind = Wire; drivers = 7 ∷ 10 ∷ 4095 ∷ [] }) ≡ codes "wire w 7 10 4095\n"
unfolding digits
wire_line = refl

-- operations are printed in the order of their codes
line_without_ports : unit_line (record { name = codes "c"; ops = Iter ∷ Const ∷ []; latency = 4; ports = []; out = 12 }) ≡ codes "unit c latency 4 ports out 12 ops const iter\n"
unfolding digits
line_without_ports = refl

-- ---- the tile with a second unit, without ports, that begins where the first one ends

starts_of_two_units : all_unit_at (record t1 { units = record { name = codes "r0c0_u"; ops = Iter ∷ []; latency = 1; ports = 1 ∷ 2 ∷ []; out = 3 } ∷ record { name = codes "c"; ops = Const ∷ []; latency = 1; ports = []; out = 4 } ∷ [] }) ≡ 6 ∷ 328 ∷ 386 ∷ []
unfolding all_unit_at total width_by
starts_of_two_units = refl

-- ---- widths on both sides of powers of two

widths : map width (0 ∷ 1 ∷ 2 ∷ 3 ∷ 4 ∷ 7 ∷ 8 ∷ 255 ∷ 256 ∷ []) ≡ 0 ∷ 1 ∷ 2 ∷ 2 ∷ 3 ∷ 3 ∷ 4 ∷ 8 ∷ 9 ∷ []
unfolding width_by
widths = refl
