-- The words of a cycle of an accepted netlist.
use Rattle.std.proofs.Common.{◌≡◌, ℕ, zero, suc, ◌+◌, ◌%◌, ◌<◌, inl, Bool, true, ◌||◌, cond, List, [], ◌∷◌, length, Option, Some, None, refl, sym, ap, ◌∙◌, subst, arith, ⊎_elim}
use Rattle.std.specs.Prelude.{Contains, nat_lt, slice_index, slice_index_or}
use Rattle.std.proofs.lemmas.Bool.{true≢false, cases_lt, lt-ltb, le-ltb}
use Rattle.std.proofs.lemmas.Option.{slice_get-get_or, slice_get_past}
use Rattle.cg_model.specs.Array.{Arch, unit}
use Rattle.cg_model.specs.Config.{Config, select}
use Rattle.cg_datapath.specs.Terminals.{terminals}
use Rattle.cg_datapath.specs.Course.{Course, result_ago, Keeps, AreOutsRight, GiveOuts, ArePortsKnown}
use Rattle.cg_netlist.specs.declared.forms.Form.{Form}
use Rattle.cg_netlist.specs.declared.forms.Form.TheVariants.{Context as ContextForm, Preselect as PreselectForm, Mux as MuxForm, Register as RegisterForm, Zero as ZeroForm, FunctionalUnit as UnitForm}
use Rattle.cg_netlist.specs.Netlist.{NetGraph}
use Rattle.cg_netlist.specs.Graph.{names}
use Rattle.cg_gates.specs.declared.tables.SelectCell.{SelectCell}
use Rattle.cg_gates.specs.declared.tables.Choice.{Choice}
use Rattle.cg_gates.specs.declared.tables.Choices.{Choices}
use Rattle.cg_gates.specs.Shape.{Shape, shapes, is_context, is_preselect, is_mux, is_register}
use Rattle.cg_gates.specs.Gates.{GateCycle, gates_ago, word_on, way, picked, by_form, on_q, nets_in}
use Rattle.cg_gates.specs.Accepts.{net_name}
use Rattle.cg_gates.specs.Tables.{IsNumber, IsPinNumber, select_cell, AreSelects, choice, IsChoice, AreChoices, AreRising, IsTerminals}
use Rattle.cg_gates.proofs.Early.{driving_only, driving_some, select_given, nets_apart, name_known}
use Rattle.cg_gates.proofs.Late.{same_named}
use Rattle.cg_gates.proofs.Unrolled.{unrolled}
use Rattle.cg_gates_run.specs.Settle.{AreSelectable, GiveSelects, AreSelectsRight, chosen_by, AreReadable, GiveRegisters, AreRight, GiveMuxes, IsZero, AreByNet, IsFitted, HaveWords, Precedes, IsSettled}
use Rattle.cg_gates_run.proofs.Cells.{context_form, preselect_form, mux_form, register_form, unit_form, cell_unit, unit_cell}

-- ---- words by number

-- the word of the net of that number, 0 past the last
abbrev pub by_number : NetGraph → (List ℕ → ℕ) → ℕ → ℕ
by_number N g i = cond (nat_lt i (length N.nets)) (g (net_name N i)) 0

pub within_number : (N : NetGraph) (g : List ℕ → ℕ) (i : ℕ) → i < length N.nets → by_number N g i ≡ g (net_name N i)
within_number N g i l = ap (λ b. cond b (g (net_name N i)) 0) (lt-ltb i (length N.nets) l)

pub past_number : (N : NetGraph) (g : List ℕ → ℕ) → by_number N g (length N.nets) ≡ 0
past_number N g = ap (λ b. cond b (g (net_name N (length N.nets))) 0) (le-ltb (length N.nets) (length N.nets) (omega arith))

pub at_number : (N : NetGraph) (g : List ℕ → ℕ) (net : List ℕ) (i : ℕ) → IsNumber N net i → by_number N g i ≡ g net
at_number N g net i is = within_number N g i is.within ∙ ap g is.named

-- ---- what an entry chooses

module _ (N : NetGraph) (heard ws : List ℕ) (w : List ℕ → ℕ) (e : Choice) where
  -- the word that a select numbers
  numbered : (ds : List (List ℕ)) (m : ℕ) → length ds ≡ e.count → ((k : ℕ) → k < e.count → slice_index ws (slice_index heard (e.first + k)) ≡ w (slice_index_or ds k [])) → chosen_by heard ws e m ≡ word_on w (way ds m)
  numbered ds zero long each = refl
  numbered ds (suc k) long each =
      let v = slice_index ws (slice_index heard (e.first + k)) in
      ⊎_elim
      (λ l. ap (λ b. cond b v 0) (lt-ltb k e.count l) ∙ each k l ∙ sym (ap (word_on w) (slice_get-get_or ds k [] (omega arith))))
      (λ l. ap (λ b. cond b v 0) (le-ltb k e.count l) ∙ sym (ap (word_on w) (slice_get_past ds k (omega arith))))
      (cases_lt k e.count)

  -- is what its cell picks, where the words are those of the cell's pins
  pub picks : (ins : List (List ℕ)) → length ins ≡ e.count + 1 → IsNumber N (slice_index_or ins 0 []) e.select
      → ((k : ℕ) → k < e.count → IsNumber N (slice_index_or ins (suc k) []) (slice_index heard (e.first + k)))
      → ((j i : ℕ) → j < length ins → IsNumber N (slice_index_or ins j []) i → slice_index ws i ≡ w (slice_index_or ins j []))
      → chosen_by heard ws e (slice_index ws e.select) ≡ picked w ins
  picks [] many sel each right = absurd (omega arith)
  picks (s ∷ ds) many sel each right =
      let few : length ds ≡ e.count = omega arith in
      ap (chosen_by heard ws e) (right 0 e.select (omega arith) sel)
      ∙ numbered ds (w s) few (λ k l. right (suc k) (slice_index heard (e.first + k)) (omega arith) (each k l))

module _ (A : Arch) (N : NetGraph) (C : Config) (k : Course) (fit : IsFitted A N C k) where
  -- ---- what is read is there

  pub selectable : (is : Form → Bool) (es : List SelectCell) (slot size : ℕ) → AreSelects A N is es → slot < C.ii → size ≡ length N.nets + 1 → AreSelectable C slot es size
  selectable is es slot size all low long j h =
      let (c, s) = all.each j h in
      let known = s.known in
      let rows = (fit.canonical.rows slot low).0 in
      let net = s.net.within in
      ((low, omega arith), omega arith)

  pub readable : (is : Form → Bool) (t : Choices) (size : ℕ) → AreChoices N is t → size ≡ length N.nets + 1 → AreReadable t size
  readable is t size all long j h =
      let (c, s) = all.each j h in
      let net = s.net.within in
      let sel = s.select.within in
      record { net = omega arith; select = omega arith; within = s.within; each = λ q l. let one = (s.each q l).within in omega arith }

  pub units_long : length k.terminals ≡ length A.units
  units_long = fit.terminals.long

  pub outs_known : (size x : ℕ) → size ≡ length N.nets + 1 → x < length k.terminals → (terminals k.terminals x).out < size
  outs_known size x long l =
      let many = units_long in
      let low = (fit.terminals.each x (omega arith)).out.within in
      omega arith

  pin_below : (o : Option (List ℕ)) (i : ℕ) → IsPinNumber N o i → i < length N.nets + 1
  pin_below None i e = omega arith
  pin_below (Some net) i is = let low = is.within in omega arith

  pub ports_known : (words : List ℕ) → length words ≡ length N.nets + 1 → ArePortsKnown k.terminals words
  ports_known words long x p l lp =
      let many = units_long in
      let low = pin_below _ (slice_index (terminals k.terminals x).ports p) ((fit.terminals.each x (omega arith)).ports p lp) in
      omega arith

  -- a net has one number
  one_number : (net : List ℕ) (i j : ℕ) → IsNumber N net i → IsNumber N net j → i ≡ j
  one_number net i j a b = nets_apart N fit.graph i j a.within b.within (a.named ∙ sym b.named)

  module _ (past : List GateCycle) where
    abbrev now : List ℕ → ℕ
    now = nets_in A N C k.done past

    abbrev f : ℕ → ℕ
    f = by_number N now

    -- each cell gives its word
    pub gives : (x : Shape) (form : Form) → Contains (shapes N) x → x.form ≡ form → now x.q ≡ by_form A N C k.done past now x.name x.ins form
    gives x form m e =
        unrolled A N C fit.graph fit.accepted.early fit.accepted.no_loop k.done past x.q
        ∙ ap (on_q A N C k.done past now) (driving_only N fit.accepted.early fit.graph x x.q m refl)
        ∙ ap (by_form A N C k.done past now x.name x.ins) e

    pub zero_word : (i : ℕ) → i < length N.nets → IsZero N i → now (net_name N i) ≡ 0
    zero_word i l (c, there, form, q) = ap now (sym q) ∙ gives c ZeroForm there form

    -- ---- what gives them

    pub give_contexts : (es : List SelectCell) (slot : ℕ) → AreSelects A N is_context es → slot ≡ k.done % C.ii → GiveSelects C slot es f
    give_contexts es slot all at j h =
        let (c, s) = all.each j h in
        let (w, form) = context_form c.form s.form in
        ap (select C (select_cell es j).resource) at
        ∙ ap (λ r. select C r (k.done % C.ii)) (sym s.resource)
        ∙ sym (at_number N now c.q (select_cell es j).net s.net ∙ gives c (ContextForm w) s.there form)

    pub give_preselects : (es : List SelectCell) (slot : ℕ) → AreSelects A N is_preselect es → slot ≡ (k.done + 1) % C.ii → GiveSelects C slot es f
    give_preselects es slot all at j h =
        let (c, s) = all.each j h in
        let (w, form) = preselect_form c.form s.form in
        ap (select C (select_cell es j).resource) at
        ∙ ap (λ r. select C r ((k.done + 1) % C.ii)) (sym s.resource)
        ∙ sym (at_number N now c.q (select_cell es j).net s.net ∙ gives c (PreselectForm w) s.there form)

    module _ (before : List ℕ) (pre : Precedes A N past k before) where
      pub give_outs : GiveOuts k f
      give_outs x h =
          let many = units_long in
          let l : x < length A.units = omega arith in
          let t = terminals k.terminals x in
          let is : IsTerminals A N x t = fit.terminals.each x l in
          let (p, d, ops, form) = unit_form is.cell.form is.form in
          let of = unit_cell A N fit.valid fit.accepted is.cell p d ops x is.there form l is.named in
          let few = fit.valid.latencies x l in
          ap (result_ago k x) is.latency
          ∙ pre.results x (unit A x).latency l few.0 few.1
          ∙ ap (λ z. (gates_ago past z).results x) of.latency
          ∙ ap (λ z. (gates_ago past d).results z) (sym of.number)
          ∙ sym (at_number N now is.cell.q t.out is.out ∙ gives is.cell (UnitForm p d ops) is.there form)

      pub give_registers : (t : Choices) → AreChoices N is_register t → GiveRegisters t before f
      give_registers t all j h =
          let (c, s) = all.each j h in
          let (n, form) = register_form c.form s.form in
          picks N t.heard.items before (gates_ago past 1).nets (choice t.entries.items j) c.ins s.many s.select s.each (λ q i l is. pre.words i is.within ∙ ap (gates_ago past 1).nets is.named)
          ∙ sym (at_number N now c.q (choice t.entries.items j).net s.net ∙ gives c (RegisterForm n) s.there form)

    -- the words of all but muxes are there
    pub record AreBelow (cs ps : List SelectCell) (rs : Choices) (ws : List ℕ) : Type 0 where
      pub contexts : AreSelectsRight cs (length cs) ws f
      pub preselects : AreSelectsRight ps (length ps) ws f
      pub outs : AreOutsRight k.terminals ws f
      pub registers : AreRight rs (length rs.entries.items) ws f
      pub zeros : (i : ℕ) → i < length N.nets → IsZero N i → slice_index ws i ≡ f i

    module _ (cs ps : List SelectCell) (rs ms : Choices) (contexts : AreSelects A N is_context cs) (preselects : AreSelects A N is_preselect ps)
        (registers : AreChoices N is_register rs) (muxes : AreChoices N is_mux ms) (rising : AreRising ms) where
      module _ (ws : List ℕ) (below : AreBelow cs ps rs ws) where
        moved : (net : List ℕ) (i j : ℕ) → IsNumber N net i → IsNumber N net j → slice_index ws j ≡ f j → slice_index ws i ≡ f i
        moved net i j a b e = subst (λ z. slice_index ws z ≡ f z) (one_number net j i b a) e

        by_form_right : (y : Shape) (i : ℕ) (form : Form) → Contains (shapes N) y → IsNumber N y.q i → y.form ≡ form → (is_mux form ≡ true → slice_index ws i ≡ f i) → slice_index ws i ≡ f i
        by_form_right y i (ContextForm w) there is e mux =
            let (j, l, s) = contexts.all y there (ap is_context e) in
            moved y.q i (select_cell cs j).net is s.net (below.contexts j l)
        by_form_right y i (PreselectForm w) there is e mux =
            let (j, l, s) = preselects.all y there (ap is_preselect e) in
            moved y.q i (select_cell ps j).net is s.net (below.preselects j l)
        by_form_right y i (MuxForm n) there is e mux = mux refl
        by_form_right y i (RegisterForm n) there is e mux =
            let (j, l, s) = registers.all y there (ap is_register e) in
            moved y.q i (choice rs.entries.items j).net is s.net (below.registers j l)
        by_form_right y i ZeroForm there is e mux = below.zeros i is.within (y, there, e, sym is.named)
        by_form_right y i (UnitForm p d ops) there is e mux =
            let (x, of) = cell_unit A N fit.valid fit.accepted y p d ops there e in
            let within : x < length A.units = of.within in
            let t : IsTerminals A N x (terminals k.terminals x) = fit.terminals.each x within in
            let same : t.cell ≡ y = same_named A N fit.accepted.late t.cell y t.there there (t.named ∙ sym of.named) in
            let many = units_long in
            moved y.q i (terminals k.terminals x).out is (subst (λ (z : Shape). IsNumber N z.q (terminals k.terminals x).out) same t.out) (below.outs x (omega arith))

        -- the word of a cell, where it is that of a mux or not
        pub right_at : (y : Shape) (i : ℕ) → Contains (shapes N) y → IsNumber N y.q i → (is_mux y.form ≡ true → slice_index ws i ≡ f i) → slice_index ws i ≡ f i
        right_at y i there is mux = by_form_right y i y.form there is refl mux

        -- the word on net i, where the muxes up to j have theirs, and only earlier ones lead to it
        pub net_right : (net : List ℕ) (i : ℕ) → IsNumber N net i → ((y : Shape) → Contains (shapes N) y → y.q ≡ net → is_mux y.form ≡ true → slice_index ws i ≡ f i) → slice_index ws i ≡ now net
        net_right net i is mux =
            let known : Contains (names N.nets) net = subst (Contains (names N.nets)) is.named (name_known N fit.graph i is.within) in
            let (y, there, q, found) = driving_some N fit.accepted.early fit.graph net known in
            right_at y i there (subst (λ z. IsNumber N z i) (sym q) is) (mux y there q) ∙ at_number N now net i is

      given_mux : (g : Form) → (is_context g || is_preselect g) ≡ true → is_mux g ≡ true → ⊥
      given_mux g given mux = let (n, e) = mux_form g mux in true≢false (sym given ∙ ap (λ g. is_context g || is_preselect g) e)

      -- ---- muxes, in their order

      pub give_muxes : (old : List ℕ) → AreBelow cs ps rs old → GiveMuxes ms old f
      give_muxes old first j h ws kept earlier =
          let (c, s) = muxes.each j h in
          let (n, form) = mux_form c.form s.form in
          let e = choice ms.entries.items j in
          let heard = ms.heard.items in
          let below : AreBelow cs ps rs ws =
          record {
            contexts = λ q l. kept (select_cell cs q).net (first.contexts q l);
            preselects = λ q l. kept (select_cell ps q).net (first.preselects q l);
            outs = λ x l. kept (terminals k.terminals x).out (first.outs x l);
            registers = λ q l. kept (choice rs.entries.items q).net (first.registers q l);
            zeros = λ i l z. kept i (first.zeros i l z);
          } in
          picks N heard ws now e c.ins s.many s.select s.each (λ q i l is. net_right ws below (slice_index_or c.ins q []) i is (λ y there yq mux. heard_right j h ws earlier c s n form q i l is y there yq mux))
          ∙ sym (at_number N now c.q e.net s.net ∙ gives c (MuxForm n) s.there form)
        where
          -- a mux that the cell hears is an earlier one
          heard_right : (j : ℕ) → j < length ms.entries.items → (ws : List ℕ) → AreRight ms j ws f → (c : Shape) → IsChoice N is_mux ms.heard.items c (choice ms.entries.items j) → (n : ℕ) → c.form ≡ MuxForm n → (q i : ℕ)
              → q < length c.ins → IsNumber N (slice_index_or c.ins q []) i → (y : Shape) → Contains (shapes N) y → y.q ≡ slice_index_or c.ins q [] → is_mux y.form ≡ true → slice_index ws i ≡ f i
          heard_right j h ws earlier c s n form zero i l is y there yq mux = absurd (given_mux y.form (select_given N fit.accepted.early fit.graph c y n s.there there (inl form) yq) mux)
          heard_right j h ws earlier c s n form (suc q) i l is y there yq mux =
              let e = choice ms.entries.items j in
              let many = s.many in
              let low : q < e.count = omega arith in
              let (a, la, sa) = muxes.all y there mux in
              let one : (choice ms.entries.items a).net ≡ i = one_number (slice_index_or c.ins (suc q) []) (choice ms.entries.items a).net i (subst (λ z. IsNumber N z (choice ms.entries.items a).net) yq sa.net) is in
              let two : i ≡ slice_index ms.heard.items (e.first + q) = one_number (slice_index_or c.ins (suc q) []) i (slice_index ms.heard.items (e.first + q)) is (s.each q low) in
              let lower : a < j = rising a j q la h low (one ∙ two) in
              subst (λ z. slice_index ws z ≡ f z) one (earlier a lower)

      -- ---- all words

      pub settled : (old words : List ℕ) → AreByNet N old → length words ≡ length old → Keeps f old words → AreBelow cs ps rs words → AreRight ms (length ms.entries.items) words f → IsSettled N words now
      settled old words by same kept below last =
          let are : HaveWords N words now =
          λ i l. net_right words below (net_name N i) i (record { within = l; named = refl })
          (λ y there yq mux.
          let (a, la, sa) = muxes.all y there mux in
          let one : (choice ms.entries.items a).net ≡ i = one_number (net_name N i) (choice ms.entries.items a).net i (subst (λ z. IsNumber N z (choice ms.entries.items a).net) yq sa.net) (record { within = l; named = refl }) in
          subst (λ z. slice_index words z ≡ f z) one (last a la)) in
          record {
            by_net = record {
              long = same ∙ by.long;
              none = kept (length N.nets) (by.none ∙ sym (past_number N now)) ∙ past_number N now;
              zeros = λ i l z. are i l ∙ zero_word i l z;
            };
            are = are;
          }

    -- the nets of zeros had their word before
    pub zeros_before : (old : List ℕ) → AreByNet N old → (i : ℕ) → i < length N.nets → IsZero N i → slice_index old i ≡ f i
    zeros_before old by i l z = by.zeros i l z ∙ sym (within_number N now i l ∙ zero_word i l z)
