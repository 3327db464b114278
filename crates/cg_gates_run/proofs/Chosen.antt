-- Muxes and registers as they are kept, one after another.
use Rattle.std.proofs.Common.{◌≡◌, ℕ, suc, ◌+◌, ◌<◌, ◌≤◌, Bool, true, false, ◌||◌, List, [], ◌++◌, length, map, take, drop, get_or, None, refl, ap, sym, ◌∙◌, subst, arith, length-append, length-drop}
use Rattle.std.specs.Prelude.{Contains, slice_index, slice_index_or}
use Rattle.std.proofs.lemmas.Bool.{true≢false}
use Rattle.std.proofs.lemmas.List.{get_or_append_left, get_or-append-add, get_or-drop, get_or-map, length-map}
use Rattle.std.proofs.lemmas.List.Elements.{Contains-get_or}
use Rattle.cg_netlist.specs.declared.forms.Form.{Form}
use Rattle.cg_netlist.specs.declared.forms.Form.TheVariants.{Context as ContextForm, Preselect as PreselectForm, Mux as MuxForm, Register as RegisterForm, Zero as ZeroForm, FunctionalUnit as UnitForm}
use Rattle.cg_netlist.specs.declared.parts.Cell.{Cell}
use Rattle.cg_netlist.specs.Forms.{IsForm}
use Rattle.cg_netlist.specs.Netlist.{NetGraph}
use Rattle.cg_netlist.specs.Graph.{IsNetGraph}
use Rattle.cg_gates.specs.declared.tables.Choice.{Choice}
use Rattle.cg_gates.specs.declared.tables.Choices.{Choices}
use Rattle.cg_gates.specs.Shape.{Shape, shapes, shape_of, is_mux, is_register}
use Rattle.cg_gates.specs.Accepts.{fault_before_loops}
use Rattle.cg_gates.specs.Order.{net_number}
use Rattle.cg_gates.specs.Tables.{IsNumber, IsChoice, AreChoices}
use Rattle.cg_gates_run.specs.Kept.{entry_of, IsPushed}
use Rattle.cg_gates_run.proofs.Listed.{AreEntries, entries_kept, mapped_next, mapped_skip, mapped_all}
use Rattle.cg_gates.proofs.Early.{in_count, meant, q_known, in_known, is_number}

-- ---- one entry

-- muxes and registers have a select
has_select : (f : Form) → (is_mux f || is_register f) ≡ true → 0 < in_count f
has_select (ContextForm w) e = absurd (true≢false (sym e))
has_select (PreselectForm w) e = absurd (true≢false (sym e))
has_select (MuxForm k) e = omega arith
has_select (RegisterForm k) e = omega arith
has_select ZeroForm e = absurd (true≢false (sym e))
has_select (UnitForm p l h) e = absurd (true≢false (sym e))

pub choice_made : (N : NetGraph) → fault_before_loops N ≡ None → IsNetGraph N → (is : Form → Bool) (heard : List ℕ) (c : Shape) → Contains (shapes N) c → is c.form ≡ true → (is_mux c.form || is_register c.form) ≡ true
    → IsChoice N is (heard ++ map (net_number N) (drop 1 c.ins)) c (entry_of N c (length heard))
choice_made N early graph is heard c there form chooses =
    let pins = drop 1 c.ins in
    let many = (meant N early graph c there).many in
    let some = has_select c.form chooses in
    let long = length-append heard (map (net_number N) pins) in
    let more = length-map pins (net_number N) in
    let less = length-drop 1 c.ins in
    let pin = λ (j : ℕ) (l : j < length c.ins). is_number N graph (slice_index_or c.ins j []) (in_known N early graph c (slice_index_or c.ins j []) there (Contains-get_or c.ins j [] l)) in
    record {
      there = there;
      form = form;
      net = is_number N graph c.q (q_known N early graph c there);
      many = omega (arith, many, some);
      select = pin 0 (omega (arith, many, some));
      within = omega (arith, long, more, less);
      each = λ k l.
          let here : suc k < length c.ins = omega arith in
          let back : 1 + k ≡ suc k = omega arith in
          let at : slice_index (heard ++ map (net_number N) pins) (length heard + k) ≡ net_number N (slice_index_or c.ins (suc k) []) =
          get_or-append-add heard (map (net_number N) pins) k 0
          ∙ get_or-map (net_number N) pins k [] 0 (omega (arith, less))
          ∙ ap (net_number N) (get_or-drop 1 c.ins k [] ∙ ap (λ j. slice_index_or c.ins j []) back) in
          subst (IsNumber N (slice_index_or c.ins (suc k) [])) (sym at) (pin (suc k) here);
    }

-- an entry's nets stay where they are in a list that grows
pub choice_kept : (N : NetGraph) (is : Form → Bool) (heard more : List ℕ) (c : Shape) (e : Choice) → IsChoice N is heard c e → IsChoice N is (heard ++ more) c e
choice_kept N is heard more c e h =
    let long = length-append heard more in
    let within = h.within in
    record {
      there = h.there;
      form = h.form;
      net = h.net;
      many = h.many;
      select = h.select;
      within = omega arith;
      each = λ k l. subst (IsNumber N (slice_index_or c.ins (suc k) [])) (sym (get_or_append_left heard more 0 (e.first + k) (omega arith))) (h.each k l);
    }

-- the number of pins of a mux or a register, and of a unit
few_ins : (f : Form) → IsForm f → in_count f ≤ 65537
few_ins (ContextForm w) h = omega arith
few_ins (PreselectForm w) h = omega arith
few_ins (MuxForm k) h = let most = h.1 in omega (arith, most)
few_ins (RegisterForm k) h = let most = h.1 in omega (arith, most)
few_ins ZeroForm h = omega arith
few_ins (UnitForm p l b) h = let most = h.0 in omega (arith, most)

pub few_pins : (N : NetGraph) → fault_before_loops N ≡ None → IsNetGraph N → (c : Shape) → Contains (shapes N) c → length c.ins ≤ 65537
few_pins N early graph c there =
    let is = meant N early graph c there in
    let few = few_ins c.form is.valid in
    let many = is.many in
    omega (arith, few, many)

-- ---- registers, cell by cell

abbrev none : Choice
none = record { net = 0; select = 0; first = 0; count = 0 }

abbrev pub AreFirstChoices : NetGraph → (Form → Bool) → ℕ → List ℕ → List Choice → Type 0
AreFirstChoices N is i heard es = AreEntries (IsChoice N is heard) (λ c. is c.form ≡ true) (Contains (take i (shapes N))) none es

module _ (N : NetGraph) (is : Form → Bool) (i : ℕ) (d : Cell) (old new : Choices) (inside : i < length N.cells) (at : d ≡ get_or N.cells i d) where
  pub choices_next : fault_before_loops N ≡ None → IsNetGraph N → is (shape_of d).form ≡ true → (is_mux (shape_of d).form || is_register (shape_of d).form) ≡ true → Contains (shapes N) (shape_of d) → IsPushed N (shape_of d) old new
      → AreFirstChoices N is i old.heard.items old.entries.items → AreFirstChoices N is (i + 1) new.heard.items new.entries.items
  choices_next early graph form chooses there pushed h =
      let c = shape_of d in
      let more = map (net_number N) (drop 1 c.ins) in
      let kept = entries_kept (IsChoice N is old.heard.items) (IsChoice N is (old.heard.items ++ more)) (λ c. is c.form ≡ true) (Contains (take i (shapes N))) none old.entries.items (λ b e r. choice_kept N is old.heard.items more b e r) h in
      let P : List ℕ → Type 0 = λ hs. AreFirstChoices N is (i + 1) hs new.entries.items in
      subst P (sym pushed.heard)
      (mapped_next (IsChoice N is (old.heard.items ++ more)) (λ c. is c.form ≡ true) shape_of N.cells i d none (entry_of N c (length old.heard.items)) old.entries.items new.entries.items inside at
      (choice_made N early graph is old.heard.items c there form chooses) pushed.entries kept)

  pub choices_skip : is (shape_of d).form ≡ false → new ≡ old → AreFirstChoices N is i old.heard.items old.entries.items → AreFirstChoices N is (i + 1) new.heard.items new.entries.items
  choices_skip other same h =
      let P : Choices → Type 0 = λ t. AreFirstChoices N is (i + 1) t.heard.items t.entries.items in
      subst P (sym same)
      (mapped_skip (IsChoice N is old.heard.items) (λ c. is c.form ≡ true) shape_of N.cells i d none old.entries.items old.entries.items inside at (λ e. true≢false (sym e ∙ other)) refl h)

pub choices_all : (N : NetGraph) (is : Form → Bool) (i : ℕ) (t : Choices) → length N.cells ≤ i → AreFirstChoices N is i t.heard.items t.entries.items → AreChoices N is t
choices_all N is i t all h =
    let whole = mapped_all (IsChoice N is t.heard.items) (λ c. is c.form ≡ true) shape_of N.cells i none t.entries.items all h in
    record { each = whole.each; all = λ c there form. whole.all c there form }
