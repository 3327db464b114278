-- The nets of units' cells.
use Rattle.std.proofs.Common.{◌≡◌, ℕ, zero, suc, ◌<◌, true, List, [], Option, Some, None, refl, ap, sym, ◌∙◌, subst, arith}
use Rattle.std.specs.Prelude.{Contains, bytes_eq, is_some, slice_get, slice_index}
use Rattle.std.specs.List.{position_from}
use Rattle.std.specs.Option.{option_map_or}
use Rattle.std.proofs.lemmas.Bool.{and_parts, true≢false}
use Rattle.std.proofs.lemmas.Option.{slice_get_within, get_or_from_slice_get}
use Rattle.cg_model.specs.declared.array.Unit.{Unit}
use Rattle.cg_model.specs.Array.{Arch, unit}
use Rattle.cg_netlist.specs.Netlist.{NetGraph}
use Rattle.cg_netlist.specs.Graph.{names, IsNetGraph}
use Rattle.cg_datapath.specs.declared.terminals.Terminals.{Terminals}
use Rattle.cg_gates.specs.Shape.{Shape, shapes, is_unit}
use Rattle.cg_gates.specs.Gates.{is_instance, unit_instance, pins_named}
use Rattle.cg_gates.specs.Accepts.{has_cell, fault_before_loops}
use Rattle.cg_gates.specs.Tables.{IsPinNumber, IsTerminals}
use Rattle.cg_gates_run.specs.Kept.{pin_number, terminals_of, IsUnitCell}
use Rattle.cg_gates.proofs.Finds.{find_from, same_text}
use Rattle.cg_gates.proofs.Early.{q_known, in_known, is_number}
use Rattle.cg_gates.proofs.Places.{any_is}

-- a unit that has a cell has a first one
pub first_there : (N : NetGraph) (u : Unit) → has_cell N u ≡ true → None ≡ position_from (is_instance (unit_instance u.name)) 0 (shapes N) → ⊥
first_there N u there none = true≢false (sym there ∙ sym (any_is (is_instance (unit_instance u.name)) 0 (shapes N)) ∙ ap is_some (sym none))

module _ (N : NetGraph) (early : fault_before_loops N ≡ None) (graph : IsNetGraph N) (c : Shape) (there : Contains (shapes N) c) where
  pin_numbered : (o : Option (List ℕ)) → ((net : List ℕ) → o ≡ Some net → Contains (names N.nets) net) → IsPinNumber N o (pin_number N o)
  pin_numbered None known = refl
  pin_numbered (Some net) known = is_number N graph net (known net refl)

  pub pin_at : (p : ℕ) → IsPinNumber N (slice_get c.ins p) (pin_number N (slice_get c.ins p))
  pin_at p = pin_numbered (slice_get c.ins p) (λ net e. in_known N early graph c net there (p, slice_get_within c.ins p net e, get_or_from_slice_get c.ins p net net e))

  ports_are : (p : ℕ) (latency : ℕ) → p < 3 → IsPinNumber N (slice_get c.ins p) (slice_index (terminals_of N c latency).ports p)
  ports_are zero latency l = pin_at 0
  ports_are (suc zero) latency l = pin_at 1
  ports_are (suc (suc zero)) latency l = pin_at 2
  ports_are (suc (suc (suc p))) latency l = absurd (omega arith)

pub unit_wired : (A : Arch) (N : NetGraph) → fault_before_loops N ≡ None → IsNetGraph N → (x : ℕ) (t : Terminals) → IsUnitCell N (unit A x) t → IsTerminals A N x t
unit_wired A N early graph x t h =
    let u = unit A x in
    let c = h.cell in
    let found = find_from (is_instance (unit_instance u.name)) (shapes N) c h.first in
    let there = found.0 in
    let both = and_parts (is_unit c.form) (bytes_eq c.name (unit_instance u.name)) found.1 in
    let pins : pins_named (unit_instance u.name) (shapes N) ≡ c.ins = ap (λ o. option_map_or (λ (s : Shape). s.ins) o []) h.first in
    let P : Terminals → Type 0 = λ s. IsTerminals A N x s in
    subst P (sym h.is)
    (record {
      ports = λ p l. let Q : List (List ℕ) → Type 0 = λ ins. IsPinNumber N (slice_get ins p) (slice_index (terminals_of N c u.latency).ports p) in subst Q (sym pins) (ports_are N early graph c there p u.latency l);
      cell = c;
      there = there;
      form = both.0;
      named = same_text c.name (unit_instance u.name) both.1;
      out = is_number N graph c.q (q_known N early graph c there);
      latency = refl;
    })
