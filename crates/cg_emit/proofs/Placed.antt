-- The fields that a node asks for, where the nodes before it have theirs.
use Rattle.std.proofs.Common.{◌≡◌, ℕ, suc, ◌/◌, ◌%◌, ◌<◌, ◌≤◌, true, false, ◌&&◌, eqb, List, [], length, get_or, Option, Some, None, refl, sym, ap, subst, ◌∙◌, arith, ⊎_elim}
use Rattle.std.specs.Prelude.{slice_index_or, slice_set}
use Rattle.std.proofs.lemmas.Bool.{cases_eq, cond_both, and_parts, and_from, eqb-true, eq-eqb, true≢false}
use Rattle.std.proofs.lemmas.List.{get_or-set_same, get_or-set_other}
use Rattle.std.proofs.lemmas.Nat.{mod_below}
use Rattle.std.proofs.Math.Nat.{div-le_self}
use Rattle.cg_word.proofs.Marks.{among_it}
use Rattle.cg_model.specs.declared.config.UnitFields.{UnitFields}
use Rattle.cg_model.specs.declared.kernel.Node.{Node}
use Rattle.cg_model.specs.declared.mapping.Place.{Place}
use Rattle.cg_flat.proofs.Lists.{item_at}
use Rattle.cg_model.specs.Kernel.{Kernel, IsKernel, node, no_node, size}
use Rattle.cg_model.specs.Array.{Arch, unit}
use Rattle.cg_model.specs.Mapping.{Mapping, IsLegal, place}
use Rattle.cg_model.specs.Config.{Config, fields, off}
use Rattle.cg_model.specs.Configured.{node_on, node_fields, fields_by}
use Rattle.cg_model.specs.Canonical.{IsCanonical, AreFields, gives_output, clash}
use Rattle.cg_config.specs.Changes.{with_fields, LeavesPortsFree}
use Rattle.cg_overlap.proofs.Emitted.{node_is, node_keeps}
use Rattle.cg_overlap.proofs.Selects.{node_found}
use Rattle.cg_emit.specs.Building.{HasNodes}
use Rattle.cg_model.proofs.Bools.{no_clash}

-- ---- fields that are set

module _ (A : Arch) (C : Config) (right : IsCanonical A C) (x slot : ℕ) (f : UnitFields) (known : x < length A.units) (in_time : slot < C.ii) where
  abbrev E : Config
  E = with_fields C x slot f

  abbrev row : List UnitFields
  row = slice_index_or C.units slot []

  row_set : slice_index_or E.units slot [] ≡ slice_set row x f
  row_set = get_or-set_same C.units slot (slice_set row x f) [] (let e = right.slots.1 in omega arith)

  pub set_here : (y s : ℕ) → y ≡ x → s ≡ slot → fields E y s ≡ f
  set_here y s a b =
      ap (λ z. fields E z s) a ∙ ap (λ z. fields E x z) b
      ∙ ap (λ xs. get_or xs x off) row_set ∙ get_or-set_same row x f off (let n = (right.rows slot in_time).1 in omega arith)

  pub set_elsewhere : (y s : ℕ) → (y ≡ x → s ≡ slot → ⊥) → fields E y s ≡ fields C y s
  set_elsewhere y s apart =
      ⊎_elim (λ (e : s ≡ slot).
      let other : y ≡ x → ⊥ = λ g. apart g e in
      ap (λ z. fields E y z) e ∙ ap (λ xs. get_or xs y off) row_set ∙ get_or-set_other row x y f off other ∙ ap (λ z. fields C y z) (sym e))
      (λ other. ap (λ xs. get_or xs y off) (get_or-set_other C.units slot s (slice_set row x f) [] other)) (cases_eq s slot)

-- ---- the next node

module _ (A : Arch) (K : Kernel) (M : Mapping) (good : IsKernel K) (legal : IsLegal A K M) (C : Config) (v : ℕ) (lt : v < size K) (has : HasNodes A K M C v) where
  abbrev x : ℕ
  x = (place M v).unit

  abbrev slot : ℕ
  slot = (place M v).time % M.ii

  abbrev f : UnitFields
  f = node_fields (node K v) ((place M v).time / M.ii)

  pub slot_below : slot < M.ii
  slot_below = mod_below (place M v).time M.ii legal.interval

  pub slot_within : slot < C.ii
  slot_within = let e = has.interval in let below = slot_below in omega arith

  -- no node before it is on its unit in its slot
  none_before : (o : Option ℕ) → node_on M x slot v ≡ o → o ≡ None
  none_before None e = refl
  none_before (Some w) e =
      let found = node_found M x slot v w e in
      let same : w ≡ v = legal.apart w v (let l = found.0 in omega arith) lt found.1 found.2 in
      absurd (let l = found.0 in omega arith)

  pub was_off : (fields C x slot).op ≡ None
  was_off = ap (λ (g : UnitFields). g.op) (has.asked x slot (legal.units v lt) slot_below ∙ ap (fields_by K M) (none_before (node_on M x slot v) refl))

  pub are_fields : AreFields (unit A x).ops f
  are_fields =
      node_keeps (node K v) ((place M v).time / M.ii) (node_is K good v lt) (unit A x).ops (stage_few (place M v).time M.ii (legal.soon v lt)) (among_it (unit A x).ops (node K v).op (legal.offered v lt))
    where
      stage_few : (t ii : ℕ) → t ≤ 65534 → t / ii ≤ 65534
      stage_few t ii le = let less : t / ii ≤ t = div-le_self t ii in omega arith

  apart_by : (y s : ℕ) (o : Option ℕ) → node_on M y s v ≡ o → clash (fields_by K M o) f ≡ false
  apart_by y s None e = refl
  apart_by y s (Some w) e =
      let before = (node_found M y s v w e).0 in
      no_clash (gives_output (fields_by K M (Some w)).op) (gives_output f.op) (eqb (fields_by K M (Some w)).port f.port)
      (λ p q r. let same : w ≡ v = good.one_output w v (omega arith) lt p q (eqb-true _ _ r) in omega arith)

  pub ports_free : LeavesPortsFree A C f
  ports_free y s ly ls =
      ap (λ g. clash g f) (has.asked y s ly (let e = has.interval in omega arith)) ∙ apart_by y s (node_on M y s v) refl

  asked_next : IsCanonical A C → (y s : ℕ) → y < length A.units → s < M.ii → fields (with_fields C x slot f) y s ≡ fields_by K M (node_on M y s (suc v))
  asked_next right y s ly ls =
      cond_both (eqb (place M v).unit y && eqb ((place M v).time % M.ii) s) (Some v) (node_on M y s v) (λ (o : Option ℕ). fields (with_fields C x slot f) y s ≡ fields_by K M o)
      (λ t. let (a, b) = and_parts _ _ t in set_here A C right x slot f (legal.units v lt) slot_within y s (sym (eqb-true _ _ a)) (sym (eqb-true _ _ b)))
      (λ t. set_elsewhere A C right x slot f (legal.units v lt) slot_within y s (λ a b. true≢false (sym (and_from _ _ (eq-eqb _ _ (sym a)) (eq-eqb _ _ (sym b))) ∙ t)) ∙ has.asked y s ly ls)

  pub has_next : IsCanonical A C → (j : ℕ) → j ≡ suc v → HasNodes A K M (with_fields C x slot f) j
  has_next right j e =
      record { interval = has.interval; asked = λ y s ly ls. asked_next right y s ly ls ∙ ap (λ k. fields_by K M (node_on M y s k)) (sym e) }

-- ---- what the code holds is what the mapping says

module _ (A : Arch) (K : Kernel) (M : Mapping) (good : IsKernel K) (legal : IsLegal A K M) (C : Config) (v : ℕ) (lt : v < size K) (has : HasNodes A K M C v)
    (p : Place) (ii : ℕ) (f : UnitFields) (p-is : p ≡ place M v) (ii-is : ii ≡ M.ii) (f-is : f ≡ node_fields (node K v) (p.time / ii)) where
  slot_is : p.time % ii ≡ (place M v).time % M.ii
  slot_is = ap (λ (q : Place). q.time % ii) p-is ∙ ap (λ j. (place M v).time % j) ii-is

  unit_is : p.unit ≡ (place M v).unit
  unit_is = ap (λ (q : Place). q.unit) p-is

  fields_is : f ≡ node_fields (node K v) ((place M v).time / M.ii)
  fields_is = f-is ∙ ap (λ (q : Place). node_fields (node K v) (q.time / ii)) p-is ∙ ap (λ j. node_fields (node K v) ((place M v).time / j)) ii-is

  pub told_off : (fields C p.unit (p.time % ii)).op ≡ None
  told_off =
      ap (λ z. (fields C z (p.time % ii)).op) unit_is ∙ ap (λ z. (fields C (place M v).unit z).op) slot_is ∙ was_off A K M good legal C v lt has

  pub told_fields : AreFields (unit A p.unit).ops f
  told_fields =
      subst (λ z. AreFields (unit A z).ops f) (sym unit_is) (subst (λ (g : UnitFields). AreFields (unit A (place M v).unit).ops g) (sym fields_is) (are_fields A K M good legal C v lt has))

  pub told_ports : LeavesPortsFree A C f
  told_ports y s ly ls = ap (λ (g : UnitFields). clash (fields C y s) g) fields_is ∙ ports_free A K M good legal C v lt has y s ly ls

  pub told_next : (D : Config) (j : ℕ) → IsCanonical A C → D ≡ with_fields C p.unit (p.time % ii) f → j ≡ suc v → HasNodes A K M D j
  told_next D j right set e =
      let same : D ≡ with_fields C (place M v).unit ((place M v).time % M.ii) (node_fields (node K v) ((place M v).time / M.ii)) =
      set ∙ ap (λ z. with_fields C z (p.time % ii) f) unit_is ∙ ap (λ z. with_fields C (place M v).unit z f) slot_is
      ∙ ap (λ (g : UnitFields). with_fields C (place M v).unit ((place M v).time % M.ii) g) fields_is in
      subst (λ z. HasNodes A K M z j) (sym same) (has_next A K M good legal C v lt has right j e)

-- the place and the node that were read
pub place_is : (M : Mapping) (places : List Place) (v : ℕ) → places ≡ M.places → get_or places v (record { unit = 0; time = 0 }) ≡ place M v
place_is M places v same = ap (λ (ps : List Place). get_or ps v (record { unit = 0; time = 0 })) same

pub node_read : (K : Kernel) (ns : List Node) (v : ℕ) (n : Node) → n ≡ get_or ns v n → ns ≡ K.nodes → v < size K → n ≡ node K v
node_read K ns v n is same lt = item_at ns K.nodes v n no_node is same (let e = ap (λ (z : List Node). length z) same in omega arith)
