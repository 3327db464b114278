-- No two nets or cells of a valid architecture's netlist have one name.
use Rattle.std.proofs.Common.{◌≡◌, ℕ, zero, suc, ◌+◌, ◌<◌, ◌||◌, eqb, inl, inr, ⊎_elim, List, [], ◌∷◌, ◌++◌, Some, None, length, map, get_or, refl, ap, sym, ◌∙◌, subst, arith}
use Rattle.std.specs.Prelude.{◌≢◌, ◌⊎◌, All, bytes_eq, flat_map, slice_get, if◌then◌else◌}
use Rattle.std.specs.List.{IsDistinct}
use Rattle.std.proofs.lemmas.Bool.{cases_Bool, cond_both}
use Rattle.std.proofs.lemmas.List.Concat.{flat_map_single}
use Rattle.std.proofs.lemmas.List.Elements.{All-nil, All-cons}
use Rattle.std.proofs.lemmas.Option.{slice_get_within, slice_get-get_or, get_or_from_slice_get}
use Rattle.std.proofs.lemmas.Map.Keys.{IsDistinct-from_apart}
use Rattle.std.proofs.lemmas.Slice.Eq.{bytes_eq-Decides}
use Rattle.cg_model.proofs.Elements.{map_get}
use Rattle.cg_model.specs.declared.array.Kind.{Kind}
use Rattle.cg_model.specs.declared.array.Kind.TheVariants.{Wire, Register, Port, Out}
use Rattle.cg_model.specs.declared.array.Resource.{Resource}
use Rattle.cg_model.specs.declared.array.Unit.{Unit}
use Rattle.cg_model.specs.Array.{Arch, IsArch}
use Rattle.cg_netlist.specs.Netlist.{Net, Cell, NetGraph, nets_of, word_net, select_net, select_width, context_cell, preselect_cell, mux_cell, register_cell, zero_cell, cells_by, resource_cells, unit_cell, netlist_of}
use Rattle.cg_netlist.specs.Graph.{HasDistinctNames}

-- ---- lists of what has a name

-- no two items have one name
abbrev pub IsOnce : {X : Type 0} → (X → List ℕ) → List X → Type 0
IsOnce {X} name xs = (i j : ℕ) (x y : X) → slice_get xs i ≡ Some x → slice_get xs j ≡ Some y → name x ≡ name y → i ≡ j

-- an item of two lists is one of the first or one of the second
split : {X : Type 0} (xs ys : List X) (i : ℕ) (x : X) → slice_get (xs ++ ys) i ≡ Some x → (slice_get xs i ≡ Some x) ⊎ ((k : ℕ) × (i ≡ length xs + k) × (slice_get ys k ≡ Some x))
split [] ys i x at = inr (i, omega arith, at)
split (z ∷ xs) ys zero x at = inl at
split (z ∷ xs) ys (suc i) x at = ⊎_elim (λ h. inl h) (λ h. inr (h.0, (let e = h.1 in omega arith), h.2)) (split xs ys i x at)

-- an item of a flat_map is one that it makes of some item
from_one : {X Y : Type 0} (f : X → List Y) (xs : List X) (i : ℕ) (y : Y) → slice_get (flat_map f xs) i ≡ Some y → (k : ℕ) × (x : X) × (j : ℕ) × (slice_get xs k ≡ Some x) × (slice_get (f x) j ≡ Some y)
from_one f [] i y at = let bad : None ≡ Some y = at in absurd (cc)
from_one f (x ∷ xs) i y at =
    ⊎_elim (λ h. (0, x, i, refl, h)) (λ h. let r = from_one f xs h.0 y h.2 in (suc r.0, r.1, r.2, r.3, r.4)) (split (f x) (flat_map f xs) i y at)

-- what holds of all items holds of one
all_at : {X : Type 0} (P : X → Type 0) (xs : List X) (i : ℕ) (x : X) → All P xs → slice_get xs i ≡ Some x → P x
all_at P xs i x all at = subst P (get_or_from_slice_get xs i x x at) (all i x (slice_get_within xs i x at))

-- a list of one item has only that one
only : {X : Type 0} (a : X) (i : ℕ) (x : X) → slice_get (a ∷ []) i ≡ Some x → a ≡ x
only a zero x at = cc
only a (suc i) x at = let bad : None ≡ Some x = at in absurd (cc)

once_one : {X : Type 0} (name : X → List ℕ) (a : X) → IsOnce name (a ∷ [])
once_one name a i j x y at there same = let p = slice_get_within (a ∷ []) i x at in let q = slice_get_within (a ∷ []) j y there in omega arith

-- two lists where no name is in both
once_append : {X : Type 0} (name : X → List ℕ) (xs ys : List X) → IsOnce name xs → IsOnce name ys
    → ((i j : ℕ) (x y : X) → slice_get xs i ≡ Some x → slice_get ys j ≡ Some y → name x ≢ name y) → IsOnce name (xs ++ ys)
once_append name xs ys p q apart i j x y at there same =
    ⊎_elim
    (λ a. ⊎_elim (λ b. p i j x y a b same) (λ b. absurd (apart i b.0 x y a b.2 same)) (split xs ys j y there))
    (λ a. ⊎_elim (λ b. absurd (apart j a.0 y x b a.2 (sym same))) (λ b. let e = q a.0 b.0 x y a.2 b.2 same in omega (arith, a.1, b.1)) (split xs ys j y there))
    (split xs ys i x at)

-- two items with different names
once_two : {X : Type 0} (name : X → List ℕ) (a b : X) → name a ≢ name b → IsOnce name (a ∷ b ∷ [])
once_two name a b other =
    once_append name (a ∷ []) (b ∷ []) (once_one name a) (once_one name b)
    (λ i j x y at there same. other (ap name (only a i x at) ∙ same ∙ sym (ap name (only b j y there))))

-- names that differ at different places of a list
once_by : {X : Type 0} (name : X → List ℕ) (xs : List X) (d : X) → ((i j : ℕ) → i < length xs → j < length xs → name (get_or xs i d) ≡ name (get_or xs j d) → i ≡ j) → IsOnce name xs
once_by name xs d apart i j x y at there same =
    apart i j (slice_get_within xs i x at) (slice_get_within xs j y there) (ap name (get_or_from_slice_get xs i x d at) ∙ same ∙ sym (ap name (get_or_from_slice_get xs j y d there)))

-- the names of such a list are distinct
pub distinct_from : {X : Type 0} (name : X → List ℕ) (xs : List X) → IsOnce name xs → IsDistinct bytes_eq (map name xs)
distinct_from name xs once =
    IsDistinct-from_apart bytes_eq (map name xs)
    (λ i j d lt within.
    let a = map_get name xs i (get_or (map name xs) i d) (slice_get-get_or (map name xs) i d (omega arith)) in
    let b = map_get name xs j (get_or (map name xs) j d) (slice_get-get_or (map name xs) j d within) in
    ⊎_elim
    (λ e. let same = once i j a.0 b.0 a.1.0 b.1.0 (a.1.1 ∙ (bytes_eq-Decides _ _).0 e ∙ sym b.1.1) in absurd (omega (arith, same)))
    (λ e. e)
    (cases_Bool (bytes_eq (get_or (map name xs) i d) (get_or (map name xs) j d))))

-- ---- names of two letters and an own name

-- what two letters say: 0 for a net, 1 for a resource's cell, 2 for a unit's, and 3 where they are others
abbrev group_by : ℕ → ℕ → ℕ
group_by a b = if eqb b 95 then (if eqb a 110 || eqb a 115 then 0 else if eqb a 117 then 2 else 1) else 3

-- what the first two letters of a name say
abbrev group : List ℕ → ℕ
group [] = 3
group (a ∷ []) = 3
group (a ∷ b ∷ rest) = group_by a b

-- the first letter
abbrev letter : List ℕ → ℕ
letter [] = 0
letter (a ∷ rest) = a

-- the own name
abbrev own : List ℕ → List ℕ
own [] = []
own (a ∷ []) = []
own (a ∷ b ∷ rest) = rest

-- a name with letters of that group before that own name
record IsNamed (g : ℕ) (o : List ℕ) (name : List ℕ) : Type 0 where
  letters : group name ≡ g
  rest : own name ≡ o

-- no two items have one name, and the letters are of one group
pub record AreNamed {X : Type 0} (g : ℕ) (name : X → List ℕ) (xs : List X) : Type 0 where
  pub once : IsOnce name xs
  letters : (i : ℕ) (x : X) → slice_get xs i ≡ Some x → group (name x) ≡ g

-- what is made of each item has the item's own name
once_flat : {X Y : Type 0} (g : ℕ) (f : X → List Y) (key : X → List ℕ) (name : Y → List ℕ) → ((x : X) → All (λ y. IsNamed g (key x) (name y)) (f x)) → ((x : X) → IsOnce name (f x))
    → (xs : List X) → IsOnce key xs → IsOnce name (flat_map f xs)
once_flat g f key name named each [] once = λ i j x y at there same. let bad : None ≡ Some x = at in absurd (cc)
once_flat g f key name named each (x ∷ xs) once =
    once_append name (f x) (flat_map f xs) (each x)
    (once_flat g f key name named each xs (λ i j a b at there same. let e : suc i ≡ suc j = once (suc i) (suc j) a b at there same in omega arith))
    (λ i j y z at there same.
    let r = from_one f xs j z there in
    let here = all_at (λ w. IsNamed g (key x) (name w)) (f x) i y (named x) at in
    let other = all_at (λ w. IsNamed g (key r.1) (name w)) (f r.1) r.2 z (named r.1) r.4 in
    let e : 0 ≡ suc r.0 = once 0 (suc r.0) x r.1 refl r.3 (sym here.rest ∙ ap own same ∙ other.rest) in
    omega arith)

named_flat : {X Y : Type 0} (g : ℕ) (f : X → List Y) (key : X → List ℕ) (name : Y → List ℕ) → ((x : X) → All (λ y. IsNamed g (key x) (name y)) (f x)) → ((x : X) → IsOnce name (f x))
    → (xs : List X) → IsOnce key xs → AreNamed g name (flat_map f xs)
named_flat g f key name named each xs once = record {
  once = once_flat g f key name named each xs once;
  letters = λ i y at. let r = from_one f xs i y at in (all_at (λ w. IsNamed g (key r.1) (name w)) (f r.1) r.2 y (named r.1) r.4).letters;
}

-- ---- nets and cells

-- the name of a net
abbrev net_name : Net → List ℕ
net_name n = n.name

-- the name of a cell
abbrev cell_name : Cell → List ℕ
cell_name c = c.name

-- the name of a resource
abbrev own_name : Resource → List ℕ
own_name r = r.name

-- the name of a unit
abbrev unit_name : Unit → List ℕ
unit_name u = u.name

-- a resource's nets have its name behind the letters, and no two have one
nets_named : (r : Resource) → All (λ n. IsNamed 0 (own_name r) (net_name n)) (nets_of r)
nets_named r =
    let P : Net → Type 0 = λ n. IsNamed 0 r.name n.name in
    All-cons P (record { name = word_net r; width = 32 }) _ (record { letters = refl; rest = refl })
    (cond_both (eqb (length r.drivers) 0) [] (record { name = select_net r; width = select_width r } ∷ []) (All P)
    (λ e. All-nil P) (λ e. All-cons P (record { name = select_net r; width = select_width r }) [] (record { letters = refl; rest = refl }) (All-nil P)))

nets_once : (r : Resource) → IsOnce net_name (nets_of r)
nets_once r =
    let word : Net = record { name = word_net r; width = 32 } in
    let select : Net = record { name = select_net r; width = select_width r } in
    cond_both (eqb (length r.drivers) 0) [] (select ∷ []) (λ ns. IsOnce net_name (word ∷ ns))
    (λ e. once_one net_name word) (λ e. once_two net_name word select (λ same. let e : 110 ≡ 115 = ap letter same in omega arith))

-- the cells of a resource are none, or that of the word 0, or two of these
cells_by_case : (A : Arch) (r : Resource) (P : List Cell → Type 0) → P [] → P (zero_cell r ∷ []) → P (context_cell r ∷ mux_cell A r ∷ []) → P (preselect_cell r ∷ register_cell A r ∷ []) → (kind : Kind) → P (cells_by kind A r)
cells_by_case A r P none undriven wire register Wire = cond_both (eqb (length r.drivers) 0) (zero_cell r ∷ []) (context_cell r ∷ mux_cell A r ∷ []) P (λ e. undriven) (λ e. wire)
cells_by_case A r P none undriven wire register Port = cond_both (eqb (length r.drivers) 0) (zero_cell r ∷ []) (context_cell r ∷ mux_cell A r ∷ []) P (λ e. undriven) (λ e. wire)
cells_by_case A r P none undriven wire register Register = cond_both (eqb (length r.drivers) 0) (zero_cell r ∷ []) (preselect_cell r ∷ register_cell A r ∷ []) P (λ e. undriven) (λ e. register)
cells_by_case A r P none undriven wire register Out = none

-- what holds of one item, or of two, holds of all of their list
pub one : {X : Type 0} (P : X → Type 0) (x : X) → P x → All P (x ∷ [])
one P x h = All-cons P x [] h (All-nil P)

pub two : {X : Type 0} (P : X → Type 0) (x y : X) → P x → P y → All P (x ∷ y ∷ [])
two P x y h k = All-cons P x (y ∷ []) h (one P y k)

-- a resource's cells have its name behind the letters, and no two have one
cells_named : (A : Arch) (r : Resource) → All (λ c. IsNamed 1 (own_name r) (cell_name c)) (resource_cells A r)
cells_named A r =
    let P : Cell → Type 0 = λ c. IsNamed 1 r.name c.name in
    cells_by_case A r (All P) (All-nil P) (one P (zero_cell r) (record { letters = refl; rest = refl }))
    (two P (context_cell r) (mux_cell A r) (record { letters = refl; rest = refl }) (record { letters = refl; rest = refl }))
    (two P (preselect_cell r) (register_cell A r) (record { letters = refl; rest = refl }) (record { letters = refl; rest = refl })) r.kind

cells_once : (A : Arch) (r : Resource) → IsOnce cell_name (resource_cells A r)
cells_once A r =
    cells_by_case A r (IsOnce cell_name) (λ i j x y at there same. let bad : None ≡ Some x = at in absurd (cc)) (once_one cell_name (zero_cell r))
    (once_two cell_name (context_cell r) (mux_cell A r) (λ same. let e : 99 ≡ 109 = ap letter same in omega arith))
    (once_two cell_name (preselect_cell r) (register_cell A r) (λ same. let e : 112 ≡ 114 = ap letter same in omega arith)) r.kind

-- ---- those of an architecture

resources_apart : (A : Arch) → IsArch A → IsOnce own_name A.resources
resources_apart A arch = once_by own_name A.resources (record { name = []; kind = Wire; drivers = [] }) arch.names.resources_apart

units_apart : (A : Arch) → IsArch A → IsOnce unit_name A.units
units_apart A arch = once_by unit_name A.units (record { name = []; ops = []; latency = 1; ports = []; out = 0 }) arch.names.units_apart

pub distinct_nets : (A : Arch) → IsArch A → AreNamed 0 net_name (flat_map nets_of A.resources)
distinct_nets A arch = named_flat 0 nets_of own_name net_name nets_named nets_once A.resources (resources_apart A arch)

distinct_cells : (A : Arch) → IsArch A → AreNamed 1 cell_name (flat_map (resource_cells A) A.resources)
distinct_cells A arch = named_flat 1 (resource_cells A) own_name cell_name (cells_named A) (cells_once A) A.resources (resources_apart A arch)

distinct_units : (A : Arch) → IsArch A → AreNamed 2 cell_name (map (unit_cell A) A.units)
distinct_units A arch =
    let P : Unit → Cell → Type 0 = λ u c. IsNamed 2 u.name c.name in
    subst (AreNamed 2 cell_name) (flat_map_single (unit_cell A) A.units)
    (named_flat 2 (λ u. unit_cell A u ∷ []) unit_name cell_name (λ u. one (P u) (unit_cell A u) (record { letters = refl; rest = refl })) (λ u. once_one cell_name (unit_cell A u)) A.units (units_apart A arch))

-- all cells of an architecture
abbrev cells_of : Arch → List Cell
cells_of A = flat_map (resource_cells A) A.resources ++ map (unit_cell A) A.units

-- the letters of a cell
cell_letters : (A : Arch) → IsArch A → (j : ℕ) (c : Cell) → slice_get (cells_of A) j ≡ Some c → (0 < group c.name) × (group c.name < 3)
cell_letters A arch j c at =
    ⊎_elim
    (λ h. let e = (distinct_cells A arch).letters j c h in (omega arith, omega arith))
    (λ h. let e = (distinct_units A arch).letters h.0 c h.2 in (omega arith, omega arith))
    (split (flat_map (resource_cells A) A.resources) (map (unit_cell A) A.units) j c at)

-- no two nets or cells have one name
distinct_names : (A : Arch) → IsArch A → HasDistinctNames (netlist_of A)
unfolding netlist_of
distinct_names A arch = record {
  nets = (distinct_nets A arch).once;
  cells =
      once_append cell_name (flat_map (resource_cells A) A.resources) (map (unit_cell A) A.units) (distinct_cells A arch).once (distinct_units A arch).once
      (λ i j x y at there same. let p = (distinct_cells A arch).letters i x at in let q = (distinct_units A arch).letters j y there in let e = ap group same in omega arith);
  apart = λ i j n c at there same. let p = (distinct_nets A arch).letters i n at in let q = cell_letters A arch j c there in let e = ap group same in omega arith;
  no_clock = λ j c at same. let p = cell_letters A arch j c at in let e : group c.name ≡ 3 = ap group same in omega arith;
  no_reset = λ j c at same. let p = cell_letters A arch j c at in let e : group c.name ≡ 3 = ap group same in omega arith;
}

pub named_apart : (A : Arch) (G : NetGraph) → IsArch A → G ≡ netlist_of A → HasDistinctNames G
named_apart A G arch is = subst HasDistinctNames (sym is) (distinct_names A arch)
