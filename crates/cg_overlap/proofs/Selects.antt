-- What the configuration of a legal mapping holds at the places that the mapping uses.
use Rattle.std.proofs.Common.{◌≡◌, ℕ, zero, suc, ◌/◌, ◌%◌, ◌<◌, eqb, List, [], ◌∷◌, Option, Some, refl, sym, ap, ◌∙◌, arith, Contains, ⊎_elim, eq-eqb, eqb-true}
use Rattle.std.specs.Prelude.{slice_get, ◌&&◌}
use Rattle.std.proofs.lemmas.Bool.{cond_both, and_parts, and_from, true≢false, cases_eq}
use Rattle.cg_model.specs.Kernel.{Kernel, node, size}
use Rattle.cg_model.specs.Array.{Arch, resource}
use Rattle.cg_model.specs.Mapping.{Mapping, Position, place, positions, IsLegal}
use Rattle.cg_model.specs.Config.{select, fields, off}
use Rattle.cg_model.specs.Configured.{select_in, selected, place_of, node_on, node_fields, fields_by, configuration_of}
use Rattle.cg_model.specs.Machine.{driver}
use Rattle.std.specs.List.{range_with_len}
use Rattle.std.specs.Prelude.{map, slice_index_or, length}
use Rattle.std.proofs.lemmas.List.FromFn.{get_or-map-range_with_len}
use Rattle.std.proofs.lemmas.Nat.{mod_below}
use Rattle.cg_overlap.proofs.Facts.{Contains-first, Contains-later, Contains-cases}
use Rattle.cg_model.proofs.Lookups.{Contains-nil}

-- the place of a driver names it
driver_placed : (q : ℕ) (ds : List ℕ) → Contains ds q → slice_get ds (place_of q ds) ≡ Some q
driver_placed q [] h = absurd (Contains-nil q h)
driver_placed q (d ∷ ds) h =
    cond_both (eqb d q) 0 (suc (place_of q ds)) (λ k. slice_get (d ∷ ds) k ≡ Some q)
    (λ e. ap Some (eqb-true d q e))
    (λ e. ⊎_elim (λ f. absurd (true≢false (sym (eq-eqb d q f) ∙ e))) (λ m. driver_placed q ds m) (Contains-cases q d ds h))

pub chosen : (q : ℕ) (ds : List ℕ) → Contains ds q → driver ds (selected ds (Some q)) ≡ Some q
chosen q ds h = driver_placed q ds h

-- the select is that of any position there, since all there come from one place
select_is : (A : Arch) (ii r slot : ℕ) (ps : List Position) (from : Option ℕ) (p : Position) → Contains ps p → p.resource ≡ r → p.time % ii ≡ slot →
    ((q : Position) → Contains ps q → q.resource ≡ r → q.time % ii ≡ slot → q.from ≡ from) → select_in A ii r slot ps ≡ selected (resource A r).drivers from
select_is A ii r slot [] from p m e f h = absurd (Contains-nil p m)
select_is A ii r slot (q ∷ ps) from p m e f h =
    cond_both (eqb q.resource r && eqb (q.time % ii) slot) (selected (resource A r).drivers q.from) (select_in A ii r slot ps) (λ k. k ≡ selected (resource A r).drivers from)
    (λ t. let (a, b) = and_parts _ _ t in ap (selected (resource A r).drivers) (h q (Contains-first q ps) (eqb-true _ _ a) (eqb-true _ _ b)))
    (λ t. ⊎_elim
    (λ g. absurd (true≢false (sym (and_from _ _ (eq-eqb _ _ (ap (λ z. z.resource) g ∙ e)) (eq-eqb _ _ (ap (λ z. z.time % ii) g ∙ f))) ∙ t)))
    (λ l. select_is A ii r slot ps from p l e f (λ z y. h z (Contains-later z q ps y)))
    (Contains-cases p q ps m))

-- an entry of a table
table_at : {X : Type 0} (f : ℕ → ℕ → X) (m n i j : ℕ) (d : X) → i < m → j < n →
    slice_index_or (slice_index_or (map (λ i. map (f i) (range_with_len 0 n)) (range_with_len 0 m)) i []) j d ≡ f i j
table_at f m n i j d li lj =
    ap (λ row. slice_index_or row j d) (get_or-map-range_with_len (λ i. map (f i) (range_with_len 0 n)) 0 m i i [] li (omega arith))
    ∙ get_or-map-range_with_len (f i) 0 n j j d lj (omega arith)

module _ (A : Arch) (K : Kernel) (M : Mapping) (legal : IsLegal A K M) where
  pub select_right : (p : Position) (c : ℕ) → p.resource < length A.resources → Contains (positions A K M) p → p.time % M.ii ≡ c % M.ii →
      select (configuration_of A K M) p.resource (c % M.ii) ≡ selected (resource A p.resource).drivers p.from
  unfolding configuration_of
  select_right p c l m e =
      table_at (λ slot r. select_in A M.ii r slot (positions A K M)) M.ii (length A.resources) (c % M.ii) p.resource 0 (mod_below c M.ii legal.interval) l
      ∙ select_is A M.ii p.resource (c % M.ii) (positions A K M) p.from p m refl e
      (λ q mq r t. sym (legal.one_way p q m mq (sym r) (e ∙ sym t)))

-- the node on a unit at a slot is the only one there
node_is : (M : Mapping) (x slot m v : ℕ) → v < m → (place M v).unit ≡ x → (place M v).time % M.ii ≡ slot →
    ((w : ℕ) → w < m → (place M w).unit ≡ x → (place M w).time % M.ii ≡ slot → w ≡ v) → node_on M x slot m ≡ Some v
node_is M x slot zero v l e f h = absurd (omega arith)
node_is M x slot (suc m) v l e f h =
    cond_both (eqb (place M m).unit x && eqb ((place M m).time % M.ii) slot) (Some m) (node_on M x slot m) (λ k. k ≡ Some v)
    (λ t. let (a, b) = and_parts _ _ t in ap Some (h m (omega arith) (eqb-true _ _ a) (eqb-true _ _ b)))
    (λ t. ⊎_elim
    (λ g. absurd (true≢false (sym (and_from _ _ (eq-eqb _ _ (ap (λ z. (place M z).unit) g ∙ e)) (eq-eqb _ _ (ap (λ z. (place M z).time % M.ii) g ∙ f))) ∙ t)))
    (λ g. node_is M x slot m v (omega arith) e f (λ w k. h w (omega arith)))
    (cases_eq m v))

-- and a node that is found there is placed there
pub node_found : (M : Mapping) (x slot m v : ℕ) → node_on M x slot m ≡ Some v → (v < m) × ((place M v).unit ≡ x) × ((place M v).time % M.ii ≡ slot)
node_found M x slot zero v = λ e. absurd (cc)
node_found M x slot (suc m) v =
    cond_both (eqb (place M m).unit x && eqb ((place M m).time % M.ii) slot) (Some m) (node_on M x slot m) (λ k. k ≡ Some v → (v < suc m) × ((place M v).unit ≡ x) × ((place M v).time % M.ii ≡ slot))
    (λ t e. let (a, b) = and_parts _ _ t in let g : m ≡ v = cc in (omega arith, sym (ap (λ z. (place M z).unit) g) ∙ eqb-true _ _ a, sym (ap (λ z. (place M z).time % M.ii) g) ∙ eqb-true _ _ b))
    (λ t e. let (a, b, c) = node_found M x slot m v e in (omega arith, b, c))

pub fields_at : (A : Arch) (K : Kernel) (M : Mapping) (x c : ℕ) → 0 < M.ii → x < length A.units → fields (configuration_of A K M) x (c % M.ii) ≡ fields_by K M (node_on M x (c % M.ii) (size K))
unfolding configuration_of
fields_at A K M x c h l = table_at (λ slot x. fields_by K M (node_on M x slot (size K))) M.ii (length A.units) (c % M.ii) x off (mod_below c M.ii h) l

module _ (A : Arch) (K : Kernel) (M : Mapping) (legal : IsLegal A K M) where
  pub fields_right : (v c : ℕ) → v < size K → (place M v).time % M.ii ≡ c % M.ii →
      fields (configuration_of A K M) (place M v).unit (c % M.ii) ≡ node_fields (node K v) ((place M v).time / M.ii)
  fields_right v c l e =
      fields_at A K M (place M v).unit c legal.interval (legal.units v l)
      ∙ ap (fields_by K M) (node_is M (place M v).unit (c % M.ii) (size K) v l refl e (λ w k x t. legal.apart w v k l x (t ∙ sym e)))
