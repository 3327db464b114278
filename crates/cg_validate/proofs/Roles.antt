-- What the resources of an element are.
use Rattle.std.proofs.Common.{⊎_elim, ◌≡◌, ℕ, zero, suc, ◌+◌, ◌-◌, ◌<◌, ◌⊎◌, List, [], ◌∷◌, length, Some, None, refl, ap, sym, ◌∙◌, arith, inl, inr, length-append}
use Rattle.std.specs.Prelude.{slice_get}
use Rattle.std.proofs.lemmas.Bool.{cases_lt}
use Rattle.cg_word.specs.declared.op.Op.{Op}
use Rattle.cg_model.specs.declared.array.Kind.{Kind}
use Rattle.cg_model.specs.declared.array.Kind.TheVariants.{Port}
use Rattle.cg_parts.specs.declared.parts.Element.TheVariants as element
use Rattle.cg_parts.specs.declared.entry.Entry.{Entry}
use Rattle.cg_parts.specs.Parts.{entries_of, port_entries, out_entry, port_name_of, distinct}
use Rattle.cg_validate.proofs.Places.{get_left, get_right}

-- port p of a unit, with those drivers
abbrev pub port_entry : List ℕ → ℕ → List (List ℕ) → Entry
port_entry unit p drivers = record { name = port_name_of unit p; kind = Port; drivers = distinct drivers }

pub length-port_entries : (unit : List ℕ) (q : ℕ) (ports : List (List (List ℕ))) → length (port_entries unit q ports) ≡ length ports
length-port_entries unit q [] = refl
length-port_entries unit q (d ∷ ds) = ap suc (length-port_entries unit (q + 1) ds)

-- a unit has a resource for each port, and one for its out
pub unit_long : (name : List ℕ) (ops : List Op) (latency : ℕ) (ports : List (List (List ℕ))) → length (entries_of (element.Unit name ops latency ports)) ≡ length ports + 1
unit_long name ops latency ports = let long = length-port_entries name 0 ports in let all = length-append (port_entries name 0 ports) (out_entry name ∷ []) in omega (arith, long, all)

port_get : (unit : List ℕ) (q : ℕ) (ports : List (List (List ℕ))) (p : ℕ) (d : List (List ℕ)) → slice_get ports p ≡ Some d → slice_get (port_entries unit q ports) p ≡ Some (port_entry unit (q + p) d)
port_get unit q [] p d at = let bad : None ≡ Some d = at in absurd (cc)
port_get unit q (c ∷ cs) zero d at = let same : c ≡ d = cc in let n : q ≡ q + 0 = omega arith in ap (λ x. Some (port_entry unit q x)) same ∙ ap (λ m. Some (port_entry unit m d)) n
port_get unit q (c ∷ cs) (suc p) d at = let n : q + 1 + p ≡ q + suc p = omega arith in port_get unit (q + 1) cs p d at ∙ ap (λ m. Some (port_entry unit m d)) n

port_back : (unit : List ℕ) (q : ℕ) (ports : List (List (List ℕ))) (p : ℕ) (x : Entry) → slice_get (port_entries unit q ports) p ≡ Some x → (d : List (List ℕ)) × ((slice_get ports p ≡ Some d) × (x ≡ port_entry unit (q + p) d))
port_back unit q [] p x at = let bad : None ≡ Some x = at in absurd (cc)
port_back unit q (c ∷ cs) zero x at = let same : port_entry unit q c ≡ x = cc in let n : q ≡ q + 0 = omega arith in (c, (refl, sym same ∙ ap (λ m. port_entry unit m c) n))
port_back unit q (c ∷ cs) (suc p) x at = let rest = port_back unit (q + 1) cs p x at in let n : q + 1 + p ≡ q + suc p = omega arith in (rest.0, (rest.1.0, rest.1.1 ∙ ap (λ m. port_entry unit m rest.0) n))

-- ---- from a unit to its resources

pub port_of_unit : (name : List ℕ) (ops : List Op) (latency : ℕ) (ports : List (List (List ℕ))) (p : ℕ) (d : List (List ℕ)) → slice_get ports p ≡ Some d
    → p < length ports → slice_get (entries_of (element.Unit name ops latency ports)) p ≡ Some (port_entry name p d)
port_of_unit name ops latency ports p d at h =
    let long = length-port_entries name 0 ports in
    let n : 0 + p ≡ p = omega arith in
    get_left (port_entries name 0 ports) (out_entry name ∷ []) p (omega (arith, long)) ∙ port_get name 0 ports p d at ∙ ap (λ m. Some (port_entry name m d)) n

pub out_of_unit : (name : List ℕ) (ops : List Op) (latency : ℕ) (ports : List (List (List ℕ))) → slice_get (entries_of (element.Unit name ops latency ports)) (length ports) ≡ Some (out_entry name)
out_of_unit name ops latency ports =
    let long = length-port_entries name 0 ports in
    get_right (port_entries name 0 ports) (out_entry name ∷ []) (length ports) 0 (omega (arith, long))

-- ---- from a resource to its element

-- a wire or register
pub record IsOwn (kind : Kind) (name : List ℕ) (drivers : List (List ℕ)) (j : ℕ) (x : Entry) : Type 0 where
  pub first : j ≡ 0
  pub is : x ≡ record { name = Some name; kind = kind; drivers = distinct drivers }

-- a port of a unit
pub record IsPortOf (name : List ℕ) (ports : List (List (List ℕ))) (j : ℕ) (x : Entry) : Type 0 where
  pub drivers : List (List ℕ)
  pub at : slice_get ports j ≡ Some drivers
  pub is : x ≡ port_entry name j drivers

-- the out of a unit
pub record IsOutOf (name : List ℕ) (ports : List (List (List ℕ))) (j : ℕ) (x : Entry) : Type 0 where
  pub last : j ≡ length ports
  pub is : x ≡ out_entry name

pub own_role : (kind : Kind) (name : List ℕ) (drivers : List (List ℕ)) (j : ℕ) (x : Entry) → slice_get (record { name = Some name; kind = kind; drivers = distinct drivers } ∷ []) j ≡ Some x → IsOwn kind name drivers j x
own_role kind name drivers zero x at = record { first = refl; is = cc }
own_role kind name drivers (suc j) x at = let bad : None ≡ Some x = at in absurd (cc)

last_role : (name : List ℕ) (ports : List (List (List ℕ))) (j k : ℕ) (x : Entry) → j ≡ length ports + k → slice_get (out_entry name ∷ []) k ≡ Some x → IsOutOf name ports j x
last_role name ports j zero x h at = record { last = omega arith; is = let same : out_entry name ≡ x = cc in sym same }
last_role name ports j (suc k) x h at = let bad : None ≡ Some x = at in absurd (cc)

pub unit_role : (name : List ℕ) (ops : List Op) (latency : ℕ) (ports : List (List (List ℕ))) (j : ℕ) (x : Entry) → slice_get (entries_of (element.Unit name ops latency ports)) j ≡ Some x → IsPortOf name ports j x ⊎ IsOutOf name ports j x
unit_role name ops latency ports j x at =
    let long = length-port_entries name 0 ports in
    ⊎_elim
    (λ h.
    let back = port_back name 0 ports j x (sym (get_left (port_entries name 0 ports) (out_entry name ∷ []) j (omega (arith, long, h))) ∙ at) in
    let n : 0 + j ≡ j = omega arith in
    inl (record { drivers = back.0; at = back.1.0; is = back.1.1 ∙ ap (λ m. port_entry name m back.0) n }))
    (λ h.
    let split : j ≡ length ports + (j - length ports) = omega (arith, h) in
    inr (last_role name ports j (j - length ports) x split (sym (get_right (port_entries name 0 ports) (out_entry name ∷ []) j (j - length ports) (omega (arith, long, split))) ∙ at)))
    (cases_lt j (length ports))
