-- What is written stands for parts with the same answers when it is lean.
use Rattle.std.proofs.Common.{◌≡◌, ℕ, ◌+◌, List, [], ◌∷◌, map, Bool, true, false, not, cond, eqb, ◌⊎◌, Option, Some, None, inl, inr, refl, ap, sym, ◌∙◌, subst}
use Rattle.std.specs.Option.{option_map, option_or, option_map_or}
use Rattle.cg_model.specs.Names.{is_name}
use Rattle.cg_model.specs.First.{first_from}
use Rattle.cg_parts.specs.declared.parts.Element.{Element}
use Rattle.cg_parts.specs.declared.parts.Element.TheVariants as element
use Rattle.cg_parts.specs.declared.parts.Parts.{Parts}
use Rattle.cg_parts.specs.declared.fault.ArchFault.{ArchFault}
use Rattle.cg_parts.specs.declared.fault.ArchFault.TheVariants as arch
use Rattle.cg_parts.specs.declared.fault.TooLargePlace.{TooLargePlace}
use Rattle.cg_parts.specs.declared.fault.NamePlace.{NamePlace}
use Rattle.cg_parts.specs.declared.fault.NamePlace.TheVariants as place
use Rattle.cg_model.proofs.Options.{cond_none}
use Rattle.cg_parts.specs.Parts.{entries}
use Rattle.cg_parts.specs.Rules.{links, too_large, bad_name, has_bad_name, repeated_name, wrong_driver, fault_before_loops}
use Rattle.cg_validate.specs.Answer.{IsFault, AreValid, early, a_loop, late}
use Rattle.cg_grid.specs.declared.written.Part.{Part}
use Rattle.cg_grid.specs.declared.written.WrittenPart.{WrittenPart}
use Rattle.cg_grid.specs.declared.written.Tile.{Tile}
use Rattle.cg_grid.specs.declared.written.WrittenArch.{WrittenArch}
use Rattle.cg_grid.specs.declared.written.Part.TheVariants as part
use Rattle.cg_grid.specs.declared.grid.Cell.{Cell}
use Rattle.cg_grid.specs.declared.grid.Grid.{Grid}
use Rattle.cg_grid.specs.Rules.{tile_of}
use Rattle.cg_tiles.specs.Elements.{drivers_of, element_of, flat_name, parts_for, cell_elements, row_elements, grid_elements, grid_of, parts_of}
use Rattle.cg_tiles.specs.Lean.{short_name, lean_part, lean_written, lean_tile, lean}
use Rattle.cg_tiles.specs.Alike.{AnswersFor}
use Rattle.cg_tiles.proofs.References.{drivers-once, ports-once}
use Rattle.cg_tiles.proofs.Alike.{Alike, AreAlike, wire-alike, register-alike, unit-alike, alike-append, alike-links, alike-resources, alike-units, alike-names, alike-same}

-- ---- the elements are alike

part-alike : (grid : Grid) (cell : Cell) (p : Part) → Alike (element_of grid cell (lean_part p)) (element_of grid cell p)
part-alike grid cell (part.Wire name from) =
    subst (λ drivers. Alike (element.Wire (flat_name cell (short_name name)) drivers) (element.Wire (flat_name cell name) (drivers_of grid cell from)))
    (sym (drivers-once grid cell from)) (wire-alike cell name (drivers_of grid cell from))
part-alike grid cell (part.Register name from) =
    subst (λ drivers. Alike (element.Register (flat_name cell (short_name name)) drivers) (element.Register (flat_name cell name) (drivers_of grid cell from)))
    (sym (drivers-once grid cell from)) (register-alike cell name (drivers_of grid cell from))
part-alike grid cell (part.Unit name ops other latency ports) =
    subst (λ drivers. Alike (element.Unit (flat_name cell (short_name name)) ops latency drivers) (element.Unit (flat_name cell name) ops latency (map (drivers_of grid cell) ports)))
    (sym (ports-once grid cell ports)) (unit-alike cell name ops latency (map (drivers_of grid cell) ports))

parts-alike : (grid : Grid) (cell : Cell) (ps : List WrittenPart) → AreAlike (map (λ p. element_of grid cell p.part) (map lean_written ps)) (map (λ p. element_of grid cell p.part) ps)
parts-alike grid cell [] = tt
parts-alike grid cell (p ∷ ps) = (part-alike grid cell p.part, parts-alike grid cell ps)

found : (b : Bool) (t : Tile) (o q : Option Tile) → option_map_or (λ t. t.parts) o [] ≡ map lean_written (option_map_or (λ t. t.parts) q [])
    → option_map_or (λ t. t.parts) (cond b (Some (lean_tile t)) o) [] ≡ map lean_written (option_map_or (λ t. t.parts) (cond b (Some t) q) [])
found true t o q e = refl
found false t o q e = e

lean_parts_for : (tiles : List Tile) (letter : ℕ) → parts_for (map lean_tile tiles) letter ≡ map lean_written (parts_for tiles letter)
lean_parts_for [] letter = refl
lean_parts_for (t ∷ ts) letter = found (eqb t.letter letter) t (tile_of (map lean_tile ts) letter) (tile_of ts letter) (lean_parts_for ts letter)

cell-alike : (w : WrittenArch) (grid : Grid) (cell : Cell) (letter : ℕ) → AreAlike (cell_elements (lean w) grid cell letter) (cell_elements w grid cell letter)
unfolding lean
cell-alike w grid cell letter =
    subst (λ ps. AreAlike (map (λ p. element_of grid cell p.part) ps) (cell_elements w grid cell letter)) (sym (lean_parts_for w.tiles letter)) (parts-alike grid cell (parts_for w.tiles letter))

row-alike : (w : WrittenArch) (grid : Grid) (r c : ℕ) (row : List ℕ) → AreAlike (row_elements (lean w) grid r c row) (row_elements w grid r c row)
row-alike w grid r c [] = tt
row-alike w grid r c (x ∷ xs) =
    let cell : Cell = record { row = r; column = c } in
    alike-append (cell_elements (lean w) grid cell x) (cell_elements w grid cell x) (row_elements (lean w) grid r (c + 1) xs) (row_elements w grid r (c + 1) xs)
    (cell-alike w grid cell x) (row-alike w grid r (c + 1) xs)

grid-alike : (w : WrittenArch) (grid : Grid) (r : ℕ) (rows : List (List ℕ)) → AreAlike (grid_elements (lean w) grid r rows) (grid_elements w grid r rows)
grid-alike w grid r [] = tt
grid-alike w grid r (x ∷ xs) =
    alike-append (row_elements (lean w) grid r 0 x) (row_elements w grid r 0 x) (grid_elements (lean w) grid (r + 1) xs) (grid_elements w grid (r + 1) xs)
    (row-alike w grid r 0 x) (grid-alike w grid (r + 1) xs)

-- ---- so the answers for them are the same

-- parts with other elements
with_elements : Parts → List Element → Parts
with_elements parts es = record { name = parts.name; contexts = parts.contexts; memory = parts.memory; elements = es; hub = parts.hub }

abbrev faults_from : Option TooLargePlace → Option NamePlace → Option ArchFault → Option ArchFault
faults_from large name rest = option_or (option_map arch.TooLarge large) (option_or (option_map arch.BadName name) rest)

-- two parts have the same early fault, or are equal
abbrev Differ : Parts → Parts → Type 0
Differ q p = (q ≡ p) ⊎ ((f : ArchFault) × (fault_before_loops q ≡ Some f) × (fault_before_loops p ≡ Some f))

by_fault : (q p : Parts) (large : Option TooLargePlace) (name : Option NamePlace) (a b : Option ArchFault) → fault_before_loops q ≡ faults_from large name a → fault_before_loops p ≡ faults_from large name b
    → (name ≡ None → q ≡ p) → Differ q p
by_fault q p (Some l) name a b eq ep same = inr (arch.TooLarge l, eq, ep)
by_fault q p None (Some n) a b eq ep same = inr (arch.BadName n, eq, ep)
by_fault q p None None a b eq ep same = inl (same refl)

same-large : (p : Parts) (es : List Element) → AreAlike es p.elements → too_large (with_elements p es) (entries es) ≡ too_large p (entries p.elements)
unfolding with_elements
same-large p es a = rw (alike-resources es p.elements a, alike-links es p.elements a, alike-units es p.elements a) refl

same-name : (p : Parts) (es : List Element) → AreAlike es p.elements → bad_name (with_elements p es) ≡ bad_name p
unfolding with_elements
same-name p es a = rw (alike-names es p.elements 0 a) refl

no_place : (o : Option ℕ) → option_map place.Element o ≡ None → o ≡ None
no_place None e = refl
no_place (Some v) e = let bad : Some (place.Element v) ≡ None = e in absurd (cc)

all_good : (p : Parts) → bad_name p ≡ None → first_from (λ number e. has_bad_name e) 0 p.elements ≡ None
all_good p none =
    let first = first_from (λ number e. has_bad_name e) 0 p.elements in
    no_place first (cond_none (not (is_name 40 p.name)) place.Architecture (option_map place.Element first) none).1

differ : (p : Parts) (es : List Element) → AreAlike es p.elements → Differ (with_elements p es) p
unfolding with_elements fault_before_loops
differ p es a =
    let q = with_elements p es in
    by_fault q p (too_large p (entries p.elements)) (bad_name p) (option_or (option_map arch.RepeatedName (repeated_name es)) (wrong_driver es (entries es))) (option_or (option_map arch.RepeatedName (repeated_name p.elements)) (wrong_driver p.elements (entries p.elements)))
    (ap (λ l. faults_from l (bad_name q) (option_or (option_map arch.RepeatedName (repeated_name es)) (wrong_driver es (entries es)))) (same-large p es a)
    ∙ ap (λ n. faults_from (too_large p (entries p.elements)) n (option_or (option_map arch.RepeatedName (repeated_name es)) (wrong_driver es (entries es)))) (same-name p es a))
    refl
    (λ none. ap (with_elements p) (alike-same es p.elements 0 a (all_good p none)))

fault_too : (q p : Parts) (f g : ArchFault) → fault_before_loops q ≡ Some f → fault_before_loops p ≡ Some f → IsFault q g → IsFault p g
fault_too q p f g eq ep (early e) = early (ep ∙ sym eq ∙ e)
fault_too q p f g eq ep (a_loop none is) = let bad : None ≡ Some f = sym none ∙ eq in cc
fault_too q p f g eq ep (late none l is) = let bad : None ≡ Some f = sym none ∙ eq in cc

answers : (q p : Parts) → Differ q p → AnswersFor q p
answers q p (inl e) = record { valid = λ A v. subst (λ x. AreValid x A) e v; fault = λ f v. subst (λ x. IsFault x f) e v }
answers q p (inr (f, eq, ep)) = record {
  valid = λ A v. let bad : None ≡ Some f = sym v.early ∙ eq in absurd (cc);
  fault = λ g v. fault_too q p f g eq ep v;
}

pub lean-answers : (w : WrittenArch) → AnswersFor (parts_of (lean w)) (parts_of w)
unfolding parts_of lean with_elements
lean-answers w = answers (parts_of (lean w)) (parts_of w) (differ (parts_of w) (grid_elements (lean w) (grid_of w) 0 w.header.grid) (grid-alike w (grid_of w) 0 w.header.grid))

pub lean-links : (w : WrittenArch) → links (entries (parts_of (lean w)).elements) ≡ links (entries (parts_of w).elements)
unfolding parts_of lean
lean-links w = alike-links (grid_elements (lean w) (grid_of w) 0 w.header.grid) (grid_elements w (grid_of w) 0 w.header.grid) (grid-alike w (grid_of w) 0 w.header.grid)
