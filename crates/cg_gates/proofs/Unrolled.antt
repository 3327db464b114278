-- In a netlist that has a meaning each net has, in each cycle, what its cell gives over the words of that cycle.
use Rattle.std.proofs.Common.{◌≡◌, ℕ, zero, suc, ◌+◌, ◌<◌, ◌⊎◌, inl, inr, true, ◌||◌, List, [], ◌∷◌, length, Option, Some, None, refl, sym, ap, ◌∙◌, subst, subst₂, arith, ⊎_elim}
use Rattle.std.specs.Prelude.{Contains, slice_index_or}
use Rattle.std.proofs.lemmas.Bool.{true≢false}
use Rattle.cg_model.specs.Array.{Arch}
use Rattle.cg_model.specs.Config.{Config}
use Rattle.cg_model.proofs.Lookups.{Contains-get, Contains-nil}
use Rattle.cg_netlist.specs.declared.forms.Form.{Form}
use Rattle.cg_netlist.specs.declared.forms.Form.TheVariants.{Context as ContextForm, Preselect as PreselectForm, Mux as MuxForm, Register as RegisterForm, Zero as ZeroForm, FunctionalUnit as UnitForm}
use Rattle.cg_netlist.specs.Netlist.{NetGraph}
use Rattle.cg_netlist.specs.Graph.{names, IsNetGraph}
use Rattle.cg_gates.specs.Shape.{Shape, shapes, is_context, is_preselect}
use Rattle.cg_gates.specs.Gates.{driving, GateCycle, word_on, way, picked, by_form, on_q, net_by, nets_in}
use Rattle.cg_gates.specs.Accepts.{data_now, fault_before_loops, HasNoMuxLoop}
use Rattle.cg_gates.proofs.Finds.{Contains-first, Contains-later, Contains-cases}
use Rattle.cg_gates.proofs.Early.{driving_from, driving_only, driving_some, q_known, in_known, select_given}
use Rattle.cg_gates.proofs.Graph.{IsRank, has_rank}

way_in : (ds : List (List ℕ)) (j : ℕ) (d : List ℕ) → way ds j ≡ Some d → Contains ds d
way_in ds zero d e = absurd (cc)
way_in ds (suc j) d e = Contains-get ds j d e

word_same : (a b : List ℕ → ℕ) (o : Option (List ℕ)) → ((d : List ℕ) → o ≡ Some d → a d ≡ b d) → word_on a o ≡ word_on b o
word_same a b None h = refl
word_same a b (Some d) h = h d refl

-- what is picked depends on the words of the pins alone
pub picked_same : (a b : List ℕ → ℕ) (ins : List (List ℕ)) → ((d : List ℕ) → Contains ins d → a d ≡ b d) → picked a ins ≡ picked b ins
picked_same a b [] h = refl
picked_same a b (s ∷ ds) h =
    ap (λ z. word_on a (way ds z)) (h s (Contains-first s ds)) ∙ word_same a b (way ds (b s)) (λ d f. h d (Contains-later d s ds (way_in ds (b s) d f)))

-- what gives selects is no mux
no_mux : (f : Form) (k : ℕ) → (is_context f || is_preselect f) ≡ true → f ≡ MuxForm k → ⊥
no_mux f k given e = true≢false (sym given ∙ ap (λ f. is_context f || is_preselect f) e)

module _ (N : NetGraph) (early : fault_before_loops N ≡ None) (graph : IsNetGraph N) (rank : List ℕ → ℕ) (up : IsRank N rank) where
  -- the pins of a mux are its select, which no mux drives, and nets of lower ranks
  pin_ranks : (x : Shape) (k : ℕ) (net d : List ℕ) → Contains (shapes N) x → x.form ≡ MuxForm k → x.q ≡ net → Contains x.ins d → (d ≡ slice_index_or x.ins 0 []) ⊎ (rank d < rank net)
  pin_ranks x k net d m e q i = by x.ins refl i
    where
      by : (ins : List (List ℕ)) → x.ins ≡ ins → Contains ins d → (d ≡ slice_index_or x.ins 0 []) ⊎ (rank d < rank net)
      by [] same i = absurd (Contains-nil d i)
      by (s ∷ ds) same i =
          ⊎_elim (λ f. inl (sym f ∙ ap (λ ins. slice_index_or ins 0 []) (sym same)))
          (λ l. inr (up.rising net d (record { cell = x; there = m; drives = q; hears = subst₂ (λ f ins. Contains (data_now f ins) d) (sym e) (sym same) l })))
          (Contains-cases d s ds i)

  -- what holds on the q of each cell where it holds on the pins of muxes holds on each net
  module _ (P : List ℕ → Type 0) (step : (x : Shape) → Contains (shapes N) x → ((k : ℕ) → x.form ≡ MuxForm k → (d : List ℕ) → Contains x.ins d → P d) → P x.q) where
    by_rank : (f : ℕ) (net : List ℕ) → Contains (names N.nets) net → rank net < f → P net
    by_rank zero net m l = absurd (omega arith)
    by_rank (suc f) net m l =
        let (x, there, q, found) = driving_some N early graph net m in
        subst P q
        (step x there
        (λ k e d i. ⊎_elim
        (λ s.
        let (y, also, r, has) = driving_some N early graph d (in_known N early graph x d there i) in
        subst P r (step y also (λ j mux z n. absurd (no_mux y.form j (select_given N early graph x y k there also (inl e) (r ∙ s)) mux))))
        (λ low. by_rank f d (in_known N early graph x d there i) (omega arith))
        (pin_ranks x k net d there e q i)))

    pub by_muxes : (net : List ℕ) → Contains (names N.nets) net → P net
    by_muxes net m = by_rank (suc (rank net)) net m (omega arith)

module _ (A : Arch) (N : NetGraph) (C : Config) (early : fault_before_loops N ≡ None) (graph : IsNetGraph N) (rank : List ℕ → ℕ) (up : IsRank N rank) (c : ℕ) (g : List GateCycle) where
  -- a cell gives the same over words that agree on the pins of muxes
  pub same_form : (a b : List ℕ → ℕ) (name : List ℕ) (ins : List (List ℕ)) (f : Form) → ((k : ℕ) → f ≡ MuxForm k → (d : List ℕ) → Contains ins d → a d ≡ b d) → by_form A N C c g a name ins f ≡ by_form A N C c g b name ins f
  same_form a b name ins (ContextForm w) h = refl
  same_form a b name ins (PreselectForm w) h = refl
  same_form a b name ins (MuxForm k) h = picked_same a b ins (h k refl)
  same_form a b name ins (RegisterForm k) h = refl
  same_form a b name ins ZeroForm h = refl
  same_form a b name ins (UnitForm p l o) h = refl

  -- the net of a select has the same word, whatever the fuel
  select_fixed : (f h : ℕ) (x : Shape) (k : ℕ) (s : List ℕ) (o : Option Shape) → Contains (shapes N) x → x.form ≡ MuxForm k → s ≡ slice_index_or x.ins 0 [] → driving s (shapes N) ≡ o
      → on_q A N C c g (net_by A N C c g f) o ≡ on_q A N C c g (net_by A N C c g h) o
  select_fixed f h x k s None m e z d = refl
  select_fixed f h x k s (Some y) m e z d =
      let (also, r) = driving_from N s y d in
      same_form (net_by A N C c g f) (net_by A N C c g h) y.name y.ins y.form (λ j mux t i. absurd (no_mux y.form j (select_given N early graph x y k m also (inl e) (r ∙ z)) mux))

  on_cell : (f h : ℕ) (net : List ℕ) (o : Option Shape) → ((d : List ℕ) → rank d < rank net → net_by A N C c g (suc f) d ≡ net_by A N C c g (suc h) d) → driving net (shapes N) ≡ o
      → on_q A N C c g (net_by A N C c g (suc f)) o ≡ on_q A N C c g (net_by A N C c g (suc h)) o
  unfolding net_by
  on_cell f h net None ih e = refl
  on_cell f h net (Some x) ih e =
      let (m, q) = driving_from N net x e in
      same_form (net_by A N C c g (suc f)) (net_by A N C c g (suc h)) x.name x.ins x.form
      (λ k mux d i. ⊎_elim (λ s. select_fixed f h x k d (driving d (shapes N)) m mux s refl) (λ low. ih d low) (pin_ranks N early graph rank up x k net d m mux q i))

  enough : (f h : ℕ) (net : List ℕ) → rank net + 1 < f → rank net + 1 < h → net_by A N C c g f net ≡ net_by A N C c g h net
  unfolding net_by
  enough zero h net p q = absurd (omega arith)
  enough (suc f) zero net p q = absurd (omega arith)
  enough (suc zero) (suc h) net p q = absurd (omega arith)
  enough (suc (suc f)) (suc zero) net p q = absurd (omega arith)
  enough (suc (suc f)) (suc (suc h)) net p q = on_cell f h net (driving net (shapes N)) (λ d l. enough (suc f) (suc h) d (omega arith) (omega arith)) refl

  one_step : (m : ℕ) (net : List ℕ) → rank net < m → net_by A N C c g (suc m) net ≡ on_q A N C c g (net_by A N C c g (suc m)) (driving net (shapes N))
  unfolding net_by
  one_step zero net l = absurd (omega arith)
  one_step (suc m) net l = on_cell m (suc m) net (driving net (shapes N)) (λ d low. enough (suc m) (suc (suc m)) d (omega arith) (omega arith)) refl

  -- a net without a cell has the word 0
  bare : (net : List ℕ) → driving net (shapes N) ≡ None → nets_in A N C c g net ≡ on_q A N C c g (nets_in A N C c g) None
  unfolding net_by
  bare net e = ap (on_q A N C c g (net_by A N C c g (length N.nets))) e

  unrolled_by : (net : List ℕ) (o : Option Shape) → driving net (shapes N) ≡ o → nets_in A N C c g net ≡ on_q A N C c g (nets_in A N C c g) o
  unrolled_by net None e = bare net e
  unrolled_by net (Some x) e =
      let (m, q) = driving_from N net x e in
      let known : Contains (names N.nets) net = subst (Contains (names N.nets)) q (q_known N early graph x m) in
      one_step (length N.nets) net (up.low net known) ∙ ap (on_q A N C c g (nets_in A N C c g)) e

module _ (A : Arch) (N : NetGraph) (C : Config) (graph : IsNetGraph N) (early : fault_before_loops N ≡ None) (none : HasNoMuxLoop N) (c : ℕ) (g : List GateCycle) where
  -- each net has what its cell gives over the words of the same cycle
  pub unrolled : (net : List ℕ) → nets_in A N C c g net ≡ on_q A N C c g (nets_in A N C c g) (driving net (shapes N))
  unrolled net = let (rank, up) = has_rank N early graph none in unrolled_by A N C early graph rank up c g net (driving net (shapes N)) refl

  -- and words of which that holds are those of the cycle
  pub settled : (words : List ℕ → ℕ) → ((net : List ℕ) → Contains (names N.nets) net → words net ≡ on_q A N C c g words (driving net (shapes N))) → (net : List ℕ) → Contains (names N.nets) net → words net ≡ nets_in A N C c g net
  settled words h net m =
      let (rank, up) = has_rank N early graph none in
      by_muxes N early graph rank up (λ net. words net ≡ nets_in A N C c g net)
      (λ x there ih.
      let found = driving_only N early graph x x.q there refl in
      h x.q (q_known N early graph x there)
      ∙ ap (on_q A N C c g words) found
      ∙ same_form A N C early graph rank up c g words (nets_in A N C c g) x.name x.ins x.form ih
      ∙ ap (on_q A N C c g (nets_in A N C c g)) (sym found)
      ∙ sym (unrolled x.q))
      net m
