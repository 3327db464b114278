-- The selects that positions ask for, one after the other, are those of the mapping's configuration.
use Rattle.std.proofs.Common.{◌≡◌, ℕ, ◌%◌, ◌<◌, ◌⊎◌, List, [], ◌∷◌, ◌++◌, length, get_or, Option, Some, None, Contains, refl, sym, ap, subst, ◌∙◌, arith, ⊎_elim, inl, inr, eqb, length-set}
use Rattle.std.specs.Prelude.{slice_index_or, slice_set, ◌&&◌}
use Rattle.std.proofs.lemmas.Bool.{cases_eq, cond_both, and_parts, and_from, eqb-true, eq-eqb, true≢false}
use Rattle.std.proofs.lemmas.List.{get_or-set_same, get_or-set_other}
use Rattle.std.proofs.lemmas.Nat.{mod_below}
use Rattle.cg_model.specs.Array.{Arch, resource}
use Rattle.cg_model.specs.Mapping.{Position}
use Rattle.cg_model.specs.Config.{Config, select}
use Rattle.cg_model.specs.Configured.{selected, select_in}
use Rattle.cg_model.specs.Canonical.{IsCanonical}
use Rattle.cg_config.specs.Changes.{with_select}
use Rattle.cg_overlap.proofs.Facts.{Contains-first, Contains-later}
use Rattle.cg_emit.specs.Building.{with_position, with_positions}

pub with_positions-append : (A : Arch) (ps qs : List Position) (C : Config) → with_positions A (ps ++ qs) C ≡ with_positions A qs (with_positions A ps C)
with_positions-append A [] qs C = refl
with_positions-append A (p ∷ ps) qs C = with_positions-append A ps qs (with_position A p p.from C)

-- ---- what a position leaves as it is

interval_by : (A : Arch) (p : Position) (o : Option ℕ) (C : Config) → (with_position A p o C).ii ≡ C.ii
interval_by A p None C = refl
interval_by A p (Some q) C = refl

pub interval_kept : (A : Arch) (ps : List Position) (C : Config) → (with_positions A ps C).ii ≡ C.ii
interval_kept A [] C = refl
interval_kept A (p ∷ ps) C = interval_kept A ps (with_position A p p.from C) ∙ interval_by A p p.from C

units_by : (A : Arch) (p : Position) (o : Option ℕ) (C : Config) → (with_position A p o C).units ≡ C.units
units_by A p None C = refl
units_by A p (Some q) C = refl

pub units_kept : (A : Arch) (ps : List Position) (C : Config) → (with_positions A ps C).units ≡ C.units
units_kept A [] C = refl
units_kept A (p ∷ ps) C = units_kept A ps (with_position A p p.from C) ∙ units_by A p p.from C

-- ---- tables of selects

-- a select for each slot and resource
pub record HasSelects (A : Arch) (ii : ℕ) (C : Config) : Type 0 where
  pub interval : C.ii ≡ ii
  pub slots : (slot : ℕ) → slot < ii → slot < length C.selects
  pub rows : (slot : ℕ) → slot < ii → length (slice_index_or C.selects slot []) ≡ length A.resources

pub selects_of : (A : Arch) (C : Config) → IsCanonical A C → HasSelects A C.ii C
selects_of A C right =
    record { interval = refl; slots = λ slot lt. (let e = right.slots.0 in omega arith); rows = λ slot lt. (right.rows slot lt).0 }

module _ (A : Arch) (ii : ℕ) (C : Config) (has : HasSelects A ii C) (r slot value : ℕ) where
  abbrev row : List ℕ
  row = slice_index_or C.selects slot []

  select_here : r < length A.resources → slot < ii → select (with_select C r slot value) r slot ≡ value
  select_here lr ls =
      ap (λ xs. get_or xs r 0) (get_or-set_same C.selects slot (slice_set row r value) [] (has.slots slot ls))
      ∙ get_or-set_same row r value 0 (let e = has.rows slot ls in omega arith)

  select_elsewhere : slot < ii → (q s : ℕ) → (q ≡ r → s ≡ slot → ⊥) → select (with_select C r slot value) q s ≡ select C q s
  select_elsewhere ls q s apart =
      ⊎_elim (λ (e : s ≡ slot).
      let other : q ≡ r → ⊥ = λ g. apart g e in
      ap (λ z. select (with_select C r slot value) q z) e ∙ ap (λ xs. get_or xs q 0) (get_or-set_same C.selects slot (slice_set row r value) [] (has.slots slot ls))
      ∙ get_or-set_other row r q value 0 other ∙ ap (λ z. select C q z) (sym e))
      (λ other. ap (λ xs. get_or xs q 0) (get_or-set_other C.selects slot s (slice_set row r value) [] other)) (cases_eq s slot)

  row_kept : slot < ii → (s : ℕ) → s < ii → length (slice_index_or (with_select C r slot value).selects s []) ≡ length A.resources
  row_kept ls s lt =
      ⊎_elim (λ (e : s ≡ slot).
      ap (λ z. length (slice_index_or (with_select C r slot value).selects z [])) e ∙ ap length (get_or-set_same C.selects slot (slice_set row r value) [] (has.slots slot ls))
      ∙ length-set row r value ∙ has.rows slot ls)
      (λ other. ap length (get_or-set_other C.selects slot s (slice_set row r value) [] other) ∙ has.rows s lt) (cases_eq s slot)

  selects_kept : slot < ii → HasSelects A ii (with_select C r slot value)
  selects_kept ls =
      record {
        interval = has.interval;
        slots = λ s lt. (let e = length-set C.selects slot (slice_set row r value) in let l = has.slots s lt in omega arith);
        rows = row_kept ls;
      }

-- ---- position by position

module _ (A : Arch) (ii : ℕ) (some : 0 < ii) where
  slot_of : (C : Config) → HasSelects A ii C → (p : Position) → p.time % C.ii < ii
  slot_of C has p = let e = has.interval in subst (λ z. p.time % z < ii) (sym e) (mod_below p.time ii some)

  table_by : (p : Position) (o : Option ℕ) (C : Config) → HasSelects A ii C → HasSelects A ii (with_position A p o C)
  table_by p None C has = has
  table_by p (Some q) C has = selects_kept A ii C has p.resource (p.time % C.ii) (selected (resource A p.resource).drivers (Some q)) (slot_of C has p)

  module _ (r slot : ℕ) (lr : r < length A.resources) (ls : slot < ii) where
    -- the position is on that resource in that slot
    abbrev IsThere : Position → Type 0
    IsThere p = (p.resource ≡ r) × (p.time % ii ≡ slot)

    there_or_not : (p : Position) → IsThere p ⊎ (p.resource ≡ r → p.time % ii ≡ slot → ⊥)
    there_or_not p = ⊎_elim (λ e. ⊎_elim (λ g. inl (e, g)) (λ other. inr (λ a b. other b)) (cases_eq (p.time % ii) slot)) (λ other. inr (λ a b. other a)) (cases_eq p.resource r)

    -- a position there sets the select, or has no predecessor
    set_there : (p : Position) (o : Option ℕ) (C : Config) → HasSelects A ii C → IsThere p → (o ≡ None → select C r slot ≡ 0) → select (with_position A p o C) r slot ≡ selected (resource A r).drivers o
    set_there p None C has there idle = idle refl
    set_there p (Some q) C has there idle =
        let value = selected (resource A p.resource).drivers (Some q) in
        let at : p.time % C.ii ≡ slot = ap (λ z. p.time % z) has.interval ∙ there.1 in
        ap (λ z. select (with_select C z (p.time % C.ii) value) r slot) there.0
        ∙ ap (λ z. select (with_select C r z value) r slot) at
        ∙ select_here A ii C has r slot value lr ls
        ∙ ap (λ z. selected (resource A z).drivers (Some q)) there.0

    -- every other position leaves it
    left_elsewhere : (p : Position) (o : Option ℕ) (C : Config) → HasSelects A ii C → (p.resource ≡ r → p.time % ii ≡ slot → ⊥) → select (with_position A p o C) r slot ≡ select C r slot
    left_elsewhere p None C has apart = refl
    left_elsewhere p (Some q) C has apart =
        select_elsewhere A ii C has p.resource (p.time % C.ii) (selected (resource A p.resource).drivers (Some q)) (slot_of C has p) r slot
        (λ a b. apart (sym a) (ap (λ z. p.time % z) (sym has.interval) ∙ sym b))

    -- once it is what all positions there ask for, it stays so
    stays : (from : Option ℕ) (ps : List Position) (C : Config) → HasSelects A ii C → select C r slot ≡ selected (resource A r).drivers from →
        ((p : Position) → Contains ps p → p.resource ≡ r → p.time % ii ≡ slot → p.from ≡ from) → select (with_positions A ps C) r slot ≡ selected (resource A r).drivers from
    stays from [] C has e h = e
    stays from (p ∷ ps) C has e h =
        stays from ps (with_position A p p.from C) (table_by p p.from C has)
        (⊎_elim (λ (there : IsThere p).
        let same = h p (Contains-first p ps) there.0 there.1 in
        set_there p p.from C has there (λ none. e ∙ ap (selected (resource A r).drivers) (sym same ∙ none)) ∙ ap (selected (resource A r).drivers) same)
        (λ apart. left_elsewhere p p.from C has apart ∙ e) (there_or_not p))
        (λ q m. h q (Contains-later q p ps m))

    -- from 0 on it becomes what the first position there asks for
    pub becomes : (ps : List Position) (C : Config) → HasSelects A ii C → select C r slot ≡ 0 →
        ((p q : Position) → Contains ps p → Contains ps q → p.resource ≡ r → q.resource ≡ r → p.time % ii ≡ slot → q.time % ii ≡ slot → p.from ≡ q.from) →
        select (with_positions A ps C) r slot ≡ select_in A ii r slot ps
    becomes [] C has e h = e
    becomes (p ∷ ps) C has e h =
        cond_both (eqb p.resource r && eqb (p.time % ii) slot) (selected (resource A r).drivers p.from) (select_in A ii r slot ps) (λ k. select (with_positions A (p ∷ ps) C) r slot ≡ k)
        (λ t.
        let parts = and_parts (eqb p.resource r) (eqb (p.time % ii) slot) t in
        let a = eqb-true p.resource r parts.0 in
        let b = eqb-true (p.time % ii) slot parts.1 in
        stays p.from ps (with_position A p p.from C) (table_by p p.from C has) (set_there p p.from C has (a, b) (λ none. e))
        (λ q m c d. h q p (Contains-later q p ps m) (Contains-first p ps) c a d b))
        (λ t. becomes ps (with_position A p p.from C) (table_by p p.from C has)
        (left_elsewhere p p.from C has (λ a b. true≢false (sym (and_from _ _ (eq-eqb _ _ a) (eq-eqb _ _ b)) ∙ t)) ∙ e)
        (λ q s m n. h q s (Contains-later q p ps m) (Contains-later s p ps n)))
