-- The muxes of a netlist, in an order of its nets.
use Rattle.std.proofs.Common.{◌≡◌, ℕ, ◌+◌, ◌-◌, ◌<◌, ◌≤◌, ◌⊎◌, inl, inr, Bool, true, false, ◌||◌, List, [], ◌∷◌, ◌++◌, length, map, take, drop, Option, Some, None, refl, ap, sym, ◌∙◌, subst, arith, ⊎_elim, length-drop}
use Rattle.std.specs.Prelude.{Contains, slice_index, slice_index_or}
use Rattle.std.proofs.lemmas.Bool.{cases_lt, true≢false}
use Rattle.std.proofs.lemmas.List.{get_or-map, get_or_default, length-map}
use Rattle.std.proofs.lemmas.List.Elements.{Contains-get_or}
use Rattle.cg_levelize.specs.Topological.{IsTopological}
use Rattle.cg_netlist.specs.declared.forms.Form.{Form}
use Rattle.cg_netlist.specs.declared.forms.Form.TheVariants.{Context as ContextForm, Preselect as PreselectForm, Mux as MuxForm, Register as RegisterForm, Zero as ZeroForm, FunctionalUnit as UnitForm}
use Rattle.cg_netlist.specs.Netlist.{NetGraph}
use Rattle.cg_netlist.specs.Graph.{IsNetGraph}
use Rattle.cg_gates.specs.declared.tables.Choice.{Choice}
use Rattle.cg_gates.specs.declared.tables.Choices.{Choices}
use Rattle.cg_gates.specs.Shape.{Shape, shapes, is_mux, is_register}
use Rattle.cg_gates.specs.Gates.{driving}
use Rattle.cg_gates.specs.Accepts.{data_now, net_name, fault_before_loops}
use Rattle.cg_gates.specs.Order.{net_number, mux_graph}
use Rattle.cg_gates.specs.Tables.{IsChoice, AreChoices, AreRising}
use Rattle.cg_gates_run.specs.Kept.{entry_of, IsSame, PushesIf, PushesMux}
use Rattle.cg_gates.proofs.Early.{q_known, in_known, number_is, number_of, driving_from, driving_only}
use Rattle.cg_gates.proofs.Graph.{graph_long, data_in, heard_passes}
use Rattle.cg_gates_run.proofs.Once.{once}
use Rattle.cg_gates_run.proofs.Ranked.{AreRanked, none_ranked, ranked_more, ranked_skip}
use Rattle.cg_gates_run.proofs.Listed.{AreEntries, no_entries, entries_more, entries_same, entries_kept}
use Rattle.cg_gates_run.proofs.Chosen.{choice_made, choice_kept}

abbrev none : Choice
none = record { net = 0; select = 0; first = 0; count = 0 }

abbrev Wanted : Shape → Type 0
Wanted c = is_mux c.form ≡ true

-- a cell drives one of the first n nets of an order
abbrev IsDone : NetGraph → List ℕ → ℕ → Shape → Type 0
IsDone N order n c = Contains (shapes N) c × ((k : ℕ) × ((k < n) × (net_name N (slice_index order k) ≡ c.q)))

-- the entries of muxes that drive one of these
pub record AreMuxes (N : NetGraph) (order : List ℕ) (n : ℕ) (heard : List ℕ) (es : List Choice) : Type 0 where
  pub entries : AreEntries (IsChoice N is_mux heard) Wanted (IsDone N order n) none es
  pub ranked : AreRanked order n heard es

pub no_muxes : (N : NetGraph) (order heard : List ℕ) → AreMuxes N order 0 heard []
no_muxes N order heard = record {
  entries = no_entries (IsChoice N is_mux heard) Wanted (IsDone N order 0) none (λ c h. let low = h.1.1.0 in omega (arith, low));
  ranked = none_ranked order heard;
}

data_of_mux : (f : Form) (ins : List (List ℕ)) → is_mux f ≡ true → data_now f ins ≡ drop 1 ins
data_of_mux (ContextForm w) ins e = absurd (true≢false (sym e))
data_of_mux (PreselectForm w) ins e = absurd (true≢false (sym e))
data_of_mux (MuxForm k) ins e = refl
data_of_mux (RegisterForm k) ins e = absurd (true≢false (sym e))
data_of_mux ZeroForm ins e = absurd (true≢false (sym e))
data_of_mux (UnitForm p l h) ins e = absurd (true≢false (sym e))

module _ (N : NetGraph) (early : fault_before_loops N ≡ None) (graph : IsNetGraph N) (order : List ℕ) (topological : IsTopological (mux_graph N) order) where
  module _ (n : ℕ) (inside : n < length order) where
    abbrev net : ℕ
    net = slice_index order n

    abbrev name : List ℕ
    name = net_name N net

    low_net : net < length N.nets
    low_net = let low = topological.known n inside in let long = graph_long N in omega (arith, low, long)

    -- a cell that is done next is done, or drives net n of the order
    done_next : (b : Shape) → IsDone N order (n + 1) b → IsDone N order n b ⊎ (driving name (shapes N) ≡ Some b)
    done_next b (there, (k, (low, e))) =
        ⊎_elim (λ l. inl (there, (k, (l, e))))
        (λ l. let same : k ≡ n = omega (arith, low, l) in inr (driving_only N early graph b name there (sym e ∙ ap (λ j. net_name N (slice_index order j)) same)))
        (cases_lt k n)

    -- no mux drives it
    skipped : (heard : List ℕ) (es : List Choice) → ((b : Shape) → driving name (shapes N) ≡ Some b → Wanted b → ⊥) → AreMuxes N order n heard es → AreMuxes N order (n + 1) heard es
    skipped heard es other h = record {
      entries = entries_same (IsChoice N is_mux heard) Wanted (IsDone N order n) (IsDone N order (n + 1)) none es (λ b next w. ⊎_elim (λ d. d) (λ e. absurd (other b e w)) (done_next b next)) h.entries;
      ranked = ranked_skip order n heard es h.ranked;
    }

    -- a mux drives it
    module _ (heard : List ℕ) (es : List Choice) (c : Shape) (found : driving name (shapes N) ≡ Some c) (mux : is_mux c.form ≡ true) (h : AreMuxes N order n heard es) where
      abbrev more : List ℕ
      more = map (net_number N) (drop 1 c.ins)

      there : Contains (shapes N) c
      there = (driving_from N name c found).0

      drives : c.q ≡ name
      drives = (driving_from N name c found).1

      chooses : (is_mux c.form || is_register c.form) ≡ true
      chooses = ap (λ b. b || is_register c.form) mux

      at : net_number N c.q ≡ net
      at = ap (net_number N) drives ∙ number_is N graph net low_net

      -- those that it hears stand before it
      before : (m : ℕ) → m < length more → Contains (take n order) (slice_index more m)
      before m l =
          let pins = drop 1 c.ins in
          let long = length-map pins (net_number N) in
          let here : m < length pins = omega (arith, l, long) in
          let d : List ℕ = slice_index_or pins m [] in
          let one : Contains pins d = Contains-get_or pins m [] here in
          let heard_now : Contains (data_now c.form c.ins) d = let P : List (List ℕ) → Type 0 = λ xs. Contains xs d in subst P (sym (data_of_mux c.form c.ins mux)) one in
          let known = in_known N early graph c d there (data_in c d heard_now) in
          let number = number_of N graph d known in
          let is : slice_index more m ≡ net_number N d = get_or-map (net_number N) pins m [] 0 here in
          let Q : List ℕ → Type 0 = λ x. Contains (data_now c.form c.ins) x in
          let passes = heard_passes N early graph (net_number N d) net (record { first = number.0; second = low_net; hears = record { cell = c; there = there; drives = drives; hears = subst Q (sym number.1) heard_now } }) in
          let R : ℕ → Type 0 = λ q. Contains (take n order) q in
          subst R (sym is) (topological.rising n (net_number N d) inside passes)

      many : length c.ins - 1 ≡ length more
      many = let long = length-map (drop 1 c.ins) (net_number N) in let less = length-drop 1 c.ins in omega (arith, long, less)

      added : AreMuxes N order (n + 1) (heard ++ more) (es ++ entry_of N c (length heard) ∷ [])
      added = record {
        entries = entries_more (IsChoice N is_mux (heard ++ more)) Wanted (IsDone N order n) (IsDone N order (n + 1)) none (entry_of N c (length heard)) es c
            (λ b next. ⊎_elim (λ d. inl d) (λ e. inr (let same : Some b ≡ Some c = sym e ∙ found in cc)) (done_next b next))
            (choice_made N early graph is_mux heard c there mux chooses)
            (entries_kept (IsChoice N is_mux heard) (IsChoice N is_mux (heard ++ more)) Wanted (IsDone N order n) none es (λ b e r. choice_kept N is_mux heard more b e r) h.entries);
        ranked = ranked_more order n heard more es (entry_of N c (length heard)) inside (λ j k low high e. once (mux_graph N) order topological j k low high e) at refl many before h.ranked;
      }

    -- what a loop over the order has at hand
    same_lists : (old new : Choices) → IsSame old new → AreMuxes N order (n + 1) old.heard.items old.entries.items → AreMuxes N order (n + 1) new.heard.items new.entries.items
    same_lists old new same h =
        let P : List Choice → Type 0 = λ es. AreMuxes N order (n + 1) new.heard.items es in
        let Q : List ℕ → Type 0 = λ hs. AreMuxes N order (n + 1) hs old.entries.items in
        subst P (sym same.entries) (subst Q (sym same.heard) h)

    by_test : (b : Bool) (c : Shape) (old new : Choices) → is_mux c.form ≡ b → driving name (shapes N) ≡ Some c → PushesIf b N c old new → AreMuxes N order n old.heard.items old.entries.items → AreMuxes N order (n + 1) new.heard.items new.entries.items
    by_test true c old new mux found pushed h =
        let P : List Choice → Type 0 = λ es. AreMuxes N order (n + 1) new.heard.items es in
        let Q : List ℕ → Type 0 = λ hs. AreMuxes N order (n + 1) hs (old.entries.items ++ entry_of N c (length old.heard.items) ∷ []) in
        subst P (sym pushed.entries) (subst Q (sym pushed.heard) (added old.heard.items old.entries.items c found mux h))
    by_test false c old new other found same h =
        same_lists old new same
        (skipped old.heard.items old.entries.items (λ b e w. let is : Some b ≡ Some c = sym e ∙ found in let one : b ≡ c = cc in true≢false (sym w ∙ ap (λ (s : Shape). is_mux s.form) one ∙ other)) h)

    pub mux_step : (o : Option Shape) (old new : Choices) → driving name (shapes N) ≡ o → PushesMux N o old new → AreMuxes N order n old.heard.items old.entries.items → AreMuxes N order (n + 1) new.heard.items new.entries.items
    mux_step None old new missed same h = same_lists old new same (skipped old.heard.items old.entries.items (λ b e w. let bad : None ≡ Some b = sym missed ∙ e in absurd (cc)) h)
    mux_step (Some c) old new found pushed h = by_test (is_mux c.form) c old new refl found pushed h

  -- the whole order
  pub all_muxes : (n : ℕ) (t : Choices) → length order ≤ n → AreMuxes N order n t.heard.items t.entries.items → AreChoices N is_mux t
  all_muxes n t all h = record {
    each = h.entries.each;
    all = λ c there mux.
        let number = number_of N graph c.q (q_known N early graph c there) in
        let long = graph_long N in
        let low = number.0 in
        let (k, l, e) = topological.all (net_number N c.q) (omega (arith, low, long)) in
        let at : slice_index order k ≡ net_number N c.q = get_or_default order k 0 (net_number N c.q) l ∙ e in
        h.entries.all c (there, (k, (omega (arith, l, all), ap (net_name N) at ∙ number.1))) mux;
  }

  pub muxes_rise : (n : ℕ) (t : Choices) → AreMuxes N order n t.heard.items t.entries.items → AreRising t
  muxes_rise n t h = h.ranked.rising
