-- The configuration of a legal mapping is canonical.
use Rattle.std.proofs.Common.{◌≡◌, ℕ, zero, suc, ◌+◌, ◌-◌, ◌/◌, ◌%◌, ◌^◌, ◌<◌, ◌≤◌, true, false, not, ◌&&◌, eqb, max, List, [], ◌∷◌, length, map, get_or, Option, Some, None, Contains, refl, sym, ap, subst, ◌∙◌, arith, ⊎_elim}
use Rattle.std.specs.Prelude.{slice_get, slice_index, slice_index_or}
use Rattle.std.specs.List.{range_with_len}
use Rattle.std.proofs.lemmas.Bool.{cases_lt, eqb-true, eq-eqb, cond_both, or_from, and_parts, true≢false}
use Rattle.std.proofs.lemmas.List.{get_or-replicate}
use Rattle.std.proofs.lemmas.List.FromFn.{get_or-map-range_with_len, length-map-range_with_len}
use Rattle.std.proofs.lemmas.Nat.{mod_below}
use Rattle.std.proofs.Math.Nat.{div-le_self}
use Rattle.cg_word.specs.declared.op.Op.{Op}
use Rattle.cg_model.specs.Canonical.{AreFields, IsCanonical, gives_output, clash, any_below, stage_of, greatest_of, last_stage}
use Rattle.cg_word.proofs.Marks.{among_it}
use Rattle.cg_overlap.proofs.Emitted.{node_is, node_keeps}
use Rattle.cg_model.specs.declared.kernel.Operand.{Operand}
use Rattle.cg_model.specs.declared.kernel.Operand.TheVariants.{Const as Constant, Edge}
use Rattle.cg_model.specs.declared.mapping.Place.{Place}
use Rattle.cg_model.specs.declared.mapping.Route.{Route}
use Rattle.cg_model.specs.Kernel.{Kernel, IsKernel, node, size}
use Rattle.cg_model.specs.Array.{Arch, unit, resource, delay}
use Rattle.cg_model.specs.Mapping.{Mapping, Position, IsLegal, place, positions, positions_on, positions_after, of_route, of_operand, leaves, Goes}
use Rattle.cg_model.specs.Config.{Config, arg, select, fields, off, no_arg}
use Rattle.cg_model.specs.Configured.{node_on, node_fields, fields_by, configuration_of, select_in, selected, place_of, stages_of}
use Rattle.cg_overlap.proofs.Facts.{Contains-cases, Contains-first, Contains-later, Contains-flat_map_from}
use Rattle.cg_overlap.proofs.Selects.{node_found, fields_right}
use Rattle.cg_model.proofs.Bools.{no_clash}
use Rattle.cg_model.proofs.Lookups.{Contains-nil}
use Rattle.cg_model.proofs.Canonical.{zero_mode, zero_count, zero_word, greatest_below, any_none}

-- ---- tests on lists

pub greatest_has : (f : ℕ → ℕ) (n i : ℕ) → i < n → f i ≤ greatest_of f n
unfolding greatest_of
greatest_has f zero i lt = absurd (omega arith)
greatest_has f (suc n) i lt =
    ⊎_elim (λ l. let h = greatest_has f n i l in omega arith) (λ l. let e : n ≡ i = omega arith in subst (λ j. f j ≤ max (greatest_of f n) (f n)) e (omega arith)) (cases_lt i n)

-- ---- stages

no_place : Place
no_place = record { unit = 0; time = 0 }

stages_one : (ii : ℕ) (ps : List Place) → 1 ≤ stages_of ii ps
stages_one ii [] = omega arith
stages_one ii (p ∷ ps) = let h = stages_one ii ps in omega arith

stages_has : (ii : ℕ) (ps : List Place) (i : ℕ) (d : Place) → i < length ps → (get_or ps i d).time / ii + 1 ≤ stages_of ii ps
stages_has ii [] i d lt = absurd (omega arith)
stages_has ii (p ∷ ps) zero d lt = omega arith
stages_has ii (p ∷ ps) (suc i) d lt = let h = stages_has ii ps i d (omega arith) in omega arith

stages_least : (ii : ℕ) (ps : List Place) (b : ℕ) (d : Place) → ((i : ℕ) → i < length ps → (get_or ps i d).time / ii ≤ b) → stages_of ii ps ≤ 1 + b
stages_least ii [] b d h = omega arith
stages_least ii (p ∷ ps) b d h = let first = h 0 (omega arith) in let rest = stages_least ii ps b d (λ i lt. h (suc i) (omega arith)) in omega arith

-- ---- selects

placed_below : (q : ℕ) (ds : List ℕ) → Contains ds q → place_of q ds < length ds
placed_below q [] h = absurd (Contains-nil q h)
placed_below q (d ∷ ds) h =
    cond_both (eqb d q) 0 (suc (place_of q ds)) (λ k. k < suc (length ds)) (λ e. omega arith)
    (λ e. ⊎_elim (λ f. absurd (true≢false (sym (eq-eqb d q f) ∙ e))) (λ m. let r = placed_below q ds m in omega arith) (Contains-cases q d ds h))

selected_below : (ds : List ℕ) (from : Option ℕ) → ((q : ℕ) → from ≡ Some q → Contains ds q) → selected ds from ≤ length ds
selected_below ds None h = omega arith
selected_below ds (Some q) h = let r = placed_below q ds (h q refl) in omega arith

select_below : (A : Arch) (ii r slot : ℕ) (ps : List Position) → ((p : Position) (q : ℕ) → Contains ps p → p.from ≡ Some q → Contains (resource A p.resource).drivers q) →
    select_in A ii r slot ps ≤ length (resource A r).drivers
select_below A ii r slot [] h = omega arith
select_below A ii r slot (p ∷ ps) h =
    cond_both (eqb p.resource r && eqb (p.time % ii) slot) (selected (resource A r).drivers p.from) (select_in A ii r slot ps) (λ k. k ≤ length (resource A r).drivers)
    (λ t. let there = eqb-true _ _ (and_parts _ _ t).0 in selected_below (resource A r).drivers p.from (λ q e. subst (λ z. Contains (resource A z).drivers q) there (h p q (Contains-first p ps) e)))
    (λ t. select_below A ii r slot ps (λ z q m e. h z q (Contains-later z p ps m) e))

goes_drivers : (A : Arch) (u q t : ℕ) (path : List ℕ) (r s : ℕ) (p : Position) (w : ℕ) → Goes A q t path r s → Contains (positions_after A u q t path) p → p.from ≡ Some w → Contains (resource A p.resource).drivers w
goes_drivers A u q t [] r s p w g m e = absurd (Contains-nil p m)
goes_drivers A u q t (x ∷ path) r s p w g m e =
    let here : Position = record { source = u; resource = x; time = t + delay A x; from = Some q } in
    ⊎_elim (λ f. let same : q ≡ w = cc (ap (λ (z : Position). z.from) f ∙ e) in subst (λ (z : Position). Contains (resource A z.resource).drivers w) f (subst (λ z. Contains (resource A x).drivers z) same g.0))
    (λ l. goes_drivers A u x (t + delay A x) path r s p w g.1 l e) (Contains-cases p here (positions_after A u x (t + delay A x) path) m)

on_drivers : (A : Arch) (u t q : ℕ) (path rest : List ℕ) (r s : ℕ) (p : Position) (w : ℕ) → path ≡ q ∷ rest → Goes A q t rest r s → Contains (positions_on A u t path) p → p.from ≡ Some w → Contains (resource A p.resource).drivers w
on_drivers A u t q path rest r s p w is g m e =
    let here : Position = record { source = u; resource = q; time = t; from = None } in
    let there : Contains (positions_on A u t (q ∷ rest)) p = subst (λ z. Contains (positions_on A u t z) p) is m in
    ⊎_elim (λ f. absurd (cc (ap (λ (z : Position). z.from) f ∙ e))) (λ l. goes_drivers A u q t rest r s p w g l e) (Contains-cases p here (positions_after A u q t rest) there)

module _ (A : Arch) (K : Kernel) (M : Mapping) (good : IsKernel K) (legal : IsLegal A K M) (shaped : length M.places ≡ size K) where
  abbrev C : Config
  C = configuration_of A K M

  operand_drivers : (route : Route) (o : Option Operand) (p : Position) (w : ℕ) → Contains M.routes route → slice_get (node K route.node).operands route.arg ≡ o → Contains (of_operand A M route.path o) p → p.from ≡ Some w → Contains (resource A p.resource).drivers w
  operand_drivers route None p w r is m e = absurd (Contains-nil p m)
  operand_drivers route (Some (Constant k)) p w r is m e = absurd (Contains-nil p m)
  operand_drivers route (Some (Edge u d init)) p w r is m e =
      let b = (legal.brings route u d init r is).2 in
      on_drivers A u (leaves A M u) _ route.path b.0 _ _ p w b.1 b.2 m e

  position_drivers : (p : Position) (w : ℕ) → Contains (positions A K M) p → p.from ≡ Some w → Contains (resource A p.resource).drivers w
  unfolding positions
  position_drivers p w m e =
      let f = Contains-flat_map_from (of_route A K M) M.routes p m in
      operand_drivers f.0 (slice_get (node K f.0.node).operands f.0.arg) p w f.1 refl f.2 e

  off_keeps : (ops : List Op) → AreFields ops off
  off_keeps ops =
      let zero_arg : (p : ℕ) → p < 3 → arg off p ≡ no_arg = λ p lt. get_or-replicate 3 p no_arg no_arg lt in
      record {
        args = refl;
        inits = λ p lt. ap (λ z. length z.init) (zero_arg p lt);
        ports = omega arith;
        immediates = omega arith;
        init_words = λ p k lt l. subst (λ z. slice_index z.init k < 2 ^ 32) (sym (zero_arg p lt)) (subst (λ z. z < 2 ^ 32) (sym (get_or-replicate 4 k 0 0 l)) (omega arith));
        offer = refl;
        stage = refl;
        port = refl;
        immediate = refl;
        mode = λ p lt. zero_mode off p (zero_arg p lt);
        count = λ p lt. zero_count off p (zero_arg p lt);
        word = λ p k lt l. zero_word off p k l (zero_arg p lt);
      }

  field_keeps : (x slot : ℕ) (o : Option ℕ) → node_on M x slot (size K) ≡ o → AreFields (unit A x).ops (fields_by K M o)
  field_keeps x slot None e = off_keeps (unit A x).ops
  field_keeps x slot (Some v) e =
      let found = node_found M x slot (size K) v e in
      let early = legal.soon v found.0 in
      let offers = subst (λ z. Contains (unit A z).ops (node K v).op) found.1 (legal.offered v found.0) in
      node_keeps (node K v) ((place M v).time / M.ii) (node_is K good v found.0) (unit A x).ops (shorter (place M v).time M.ii early) (among_it (unit A x).ops (node K v).op offers)
    where
      shorter : (t ii : ℕ) → t ≤ 65534 → t / ii ≤ 65534
      shorter t ii le = let less : t / ii ≤ t = div-le_self t ii in omega arith

  fields_are : (x slot : ℕ) → x < length A.units → slot < M.ii → fields C x slot ≡ fields_by K M (node_on M x slot (size K))
  unfolding configuration_of
  fields_are x slot lt in_time =
      ap (λ row. slice_index_or row x off) (get_or-map-range_with_len (λ i. map (λ y. fields_by K M (node_on M y i (size K))) (range_with_len 0 (length A.units))) 0 M.ii slot slot [] in_time (omega arith))
      ∙ get_or-map-range_with_len (λ y. fields_by K M (node_on M y slot (size K))) 0 (length A.units) x x off lt (omega arith)

  select_is : (r slot : ℕ) → r < length A.resources → slot < M.ii → select C r slot ≡ select_in A M.ii r slot (positions A K M)
  unfolding configuration_of
  select_is r slot lt in_time =
      ap (λ row. slice_index_or row r 0) (get_or-map-range_with_len (λ i. map (λ q. select_in A M.ii q i (positions A K M)) (range_with_len 0 (length A.resources))) 0 M.ii slot slot [] in_time (omega arith))
      ∙ get_or-map-range_with_len (λ q. select_in A M.ii q slot (positions A K M)) 0 (length A.resources) r r 0 lt (omega arith)

  -- two output fields with one port are one field
  one_writer : (x slot y s : ℕ) (a b : Option ℕ) → node_on M x slot (size K) ≡ a → node_on M y s (size K) ≡ b → gives_output (fields_by K M a).op ≡ true → gives_output (fields_by K M b).op ≡ true →
      (fields_by K M a).port ≡ (fields_by K M b).port → (x ≡ y) × (slot ≡ s)
  one_writer x slot y s None b e f p q r = absurd cc
  one_writer x slot y s (Some v) None e f p q r = absurd cc
  one_writer x slot y s (Some v) (Some w) e f p q r =
      let found = node_found M x slot (size K) v e in
      let other = node_found M y s (size K) w f in
      let same : v ≡ w = good.one_output v w found.0 other.0 p q r in
      (sym found.1 ∙ ap (λ z. (place M z).unit) same ∙ other.1, sym found.2 ∙ ap (λ z. (place M z).time % M.ii) same ∙ other.2)

  apart : (x slot y s : ℕ) → x < length A.units → slot < M.ii → y < length A.units → s < M.ii → ((x ≡ y) × (slot ≡ s) → ⊥) → clash (fields C y s) (fields C x slot) ≡ false
  apart x slot y s lx ls ly lt differ =
      no_clash (gives_output (fields C y s).op) (gives_output (fields C x slot).op) (eqb (fields C y s).port (fields C x slot).port)
      (λ p q r.
      let fx = fields_are x slot lx ls in
      let fy = fields_are y s ly lt in
      let one = one_writer y s x slot (node_on M y s (size K)) (node_on M x slot (size K)) refl refl (sym (ap (λ z. gives_output z.op) fy) ∙ p) (sym (ap (λ z. gives_output z.op) fx) ∙ q)
      (sym (ap (λ z. z.port) fy) ∙ eqb-true _ _ r ∙ ap (λ z. z.port) fx) in
      differ (sym one.0, sym one.1))

  stage_small : (x slot : ℕ) (o : Option ℕ) → node_on M x slot (size K) ≡ o → stage_of (fields_by K M o) + 1 ≤ stages_of M.ii M.places
  stage_small x slot None e = stages_one M.ii M.places
  stage_small x slot (Some v) e =
      let found = node_found M x slot (size K) v e in
      stages_has M.ii M.places v (record { unit = 0; time = 0 }) (omega arith)

  stages_are : stages_of M.ii M.places ≡ 1 + last_stage A C
  unfolding configuration_of
  stages_are =
      let above : (slot : ℕ) → slot < M.ii → greatest_of (λ x. stage_of (fields C x slot)) (length A.units) + 1 ≤ stages_of M.ii M.places =
      λ slot in_time. let one = stages_one M.ii M.places in
      let below = greatest_below (λ x. stage_of (fields C x slot)) (length A.units) (stages_of M.ii M.places - 1)
      (λ x lt. let h = stage_small x slot (node_on M x slot (size K)) refl in subst (λ f. stage_of f ≤ stages_of M.ii M.places - 1) (sym (fields_are x slot lt in_time)) (omega arith)) in
      omega arith in
      let one = stages_one M.ii M.places in
      let all = greatest_below (λ slot. greatest_of (λ x. stage_of (fields C x slot)) (length A.units)) M.ii (stages_of M.ii M.places - 1) (λ slot in_time. let h = above slot in_time in omega arith) in
      let least = stages_least M.ii M.places (last_stage A C) (record { unit = 0; time = 0 }) (λ v lt.
      let inside : v < size K = omega arith in
      let slot = (place M v).time % M.ii in
      let x = (place M v).unit in
      let in_time : slot < M.ii = mod_below (place M v).time M.ii legal.interval in
      let there : fields C x slot ≡ node_fields (node K v) ((place M v).time / M.ii) = fields_right A K M legal v (place M v).time inside refl in
      let a = greatest_has (λ y. stage_of (fields C y slot)) (length A.units) x (legal.units v inside) in
      let b = greatest_has (λ s. greatest_of (λ y. stage_of (fields C y s)) (length A.units)) M.ii slot in_time in
      let c : stage_of (fields C x slot) ≡ (place M v).time / M.ii = ap stage_of there in
      omega arith) in
      omega arith

  -- the configuration of a legal mapping is canonical
  pub canonical : IsCanonical A C
  unfolding configuration_of
  canonical =
      record {
        interval = legal.interval;
        contexts = legal.contexts;
        stages = stages_are;
        slots = (length-map-range_with_len _ 0 M.ii, length-map-range_with_len _ 0 M.ii);
        rows = λ slot in_time. (
          ap length (get_or-map-range_with_len (λ i. map (λ q. select_in A M.ii q i (positions A K M)) (range_with_len 0 (length A.resources))) 0 M.ii slot slot [] in_time (omega arith)) ∙ length-map-range_with_len _ 0 (length A.resources),
          ap length (get_or-map-range_with_len (λ i. map (λ y. fields_by K M (node_on M y i (size K))) (range_with_len 0 (length A.units))) 0 M.ii slot slot [] in_time (omega arith)) ∙ length-map-range_with_len _ 0 (length A.units),
        );
        selects = λ r slot lt in_time. subst (λ z. z ≤ length (resource A r).drivers) (sym (select_is r slot lt in_time)) (select_below A M.ii r slot (positions A K M) position_drivers);
        fielded = λ x slot lt in_time. subst (λ f. AreFields (unit A x).ops f) (sym (fields_are x slot lt in_time)) (field_keeps x slot (node_on M x slot (size K)) refl);
        free = λ x slot lt in_time.
            ap not (or_from _ _
            (any_none (λ s. any_below (λ y. clash (fields C y s) (fields C x slot)) (length A.units)) slot (λ s before. any_none (λ y. clash (fields C y s) (fields C x slot)) (length A.units)
            (λ y ly. apart x slot y s lt in_time ly (omega arith) (λ h. let e = h.1 in omega arith))))
            (any_none (λ y. clash (fields C y slot) (fields C x slot)) x (λ y before. apart x slot y slot lt in_time (omega arith) in_time (λ h. let e = h.0 in omega arith))));
      }
