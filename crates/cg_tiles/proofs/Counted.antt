-- The resources and links of the elements are those that are counted by what is written.
use Rattle.std.proofs.Common.{◌≡◌, ℕ, ◌+◌, List, [], ◌∷◌, ◌++◌, length, map, filter_map, sum_by, arith, refl, ap, ◌∙◌, length-append}
use Rattle.std.proofs.lemmas.Grind.{flat_map-append}
use Rattle.std.proofs.lemmas.List.{length-map}
use Rattle.std.proofs.lemmas.List.Concat.{flat_map-cons}
use Rattle.std.proofs.lemmas.List.Sums.{sum_by-cons}
use Rattle.cg_parts.specs.declared.parts.Element.{Element}
use Rattle.cg_parts.specs.declared.entry.Entry.{Entry}
use Rattle.cg_parts.specs.Parts.{entries, entries_of, port_entries, out_entry}
use Rattle.cg_parts.specs.Rules.{links}
use Rattle.cg_grid.specs.declared.written.Reference.{Reference}
use Rattle.cg_grid.specs.declared.written.Part.{Part}
use Rattle.cg_grid.specs.declared.written.WrittenPart.{WrittenPart}
use Rattle.cg_grid.specs.declared.written.WrittenArch.{WrittenArch}
use Rattle.cg_grid.specs.declared.written.Part.TheVariants as part
use Rattle.cg_grid.specs.declared.grid.Cell.{Cell}
use Rattle.cg_grid.specs.declared.grid.Grid.{Grid}
use Rattle.cg_tiles.specs.Elements.{element_of, driver_of, drivers_of, flat_name, parts_for, row_elements, grid_elements}
use Rattle.cg_tiles.specs.Counts.{resources_of, part_resources, row_resources, grid_resources, list_links, links_of, part_links, row_links, grid_links}
use Rattle.cg_tiles.proofs.Distinct.{distinct_distinct}
use Rattle.cg_validate.proofs.Roles.{length-port_entries}

entries-append : (xs ys : List Element) → entries (xs ++ ys) ≡ entries xs ++ entries ys
unfolding entries
entries-append xs ys = flat_map-append entries_of xs ys

pub entries-cons : (x : Element) (xs : List Element) → entries (x ∷ xs) ≡ entries_of x ++ entries xs
unfolding entries
entries-cons x xs = flat_map-cons entries_of x xs

entries-nil : length (entries []) ≡ 0
unfolding entries
entries-nil = refl

links-nil : links (entries []) ≡ 0
unfolding entries
links-nil = refl

-- ---- resources

of_part : (grid : Grid) (cell : Cell) (p : Part) → length (entries_of (element_of grid cell p)) ≡ resources_of p
of_part grid cell (part.Wire name from) = refl
of_part grid cell (part.Register name from) = refl
of_part grid cell (part.Unit name ops other latency ports) =
    let unit = flat_name cell name in
    let drivers = map (drivers_of grid cell) ports in
    length-append (port_entries unit 0 drivers) (out_entry unit ∷ [])
    ∙ ap (λ n. n + 1) (length-port_entries unit 0 drivers ∙ length-map ports (drivers_of grid cell))

of_parts : (grid : Grid) (cell : Cell) (ps : List WrittenPart) → length (entries (map (λ p. element_of grid cell p.part) ps)) ≡ part_resources ps
of_parts grid cell [] = entries-nil
of_parts grid cell (p ∷ ps) =
    let e = element_of grid cell p.part in
    let rest = map (λ q. element_of grid cell q.part) ps in
    omega (arith, ap length (entries-cons e rest), length-append (entries_of e) (entries rest), of_part grid cell p.part, of_parts grid cell ps, sum_by-cons (λ q. resources_of q.part) p ps)

of_row : (w : WrittenArch) (grid : Grid) (r c : ℕ) (row : List ℕ) → length (entries (row_elements w grid r c row)) ≡ row_resources w.tiles row
of_row w grid r c [] = entries-nil
of_row w grid r c (letter ∷ row) =
    let cell : Cell = record { row = r; column = c } in
    let here = map (λ p. element_of grid cell p.part) (parts_for w.tiles letter) in
    let rest = row_elements w grid r (c + 1) row in
    omega (arith, ap length (entries-append here rest), length-append (entries here) (entries rest), of_parts grid cell (parts_for w.tiles letter), of_row w grid r (c + 1) row, sum_by-cons (λ l. part_resources (parts_for w.tiles l)) letter row)

pub resources-counted : (w : WrittenArch) (grid : Grid) (r : ℕ) (rows : List (List ℕ)) → length (entries (grid_elements w grid r rows)) ≡ grid_resources w.tiles rows
resources-counted w grid r [] = entries-nil
resources-counted w grid r (row ∷ rows) =
    let here = row_elements w grid r 0 row in
    let rest = grid_elements w grid (r + 1) rows in
    omega (arith, ap length (entries-append here rest), length-append (entries here) (entries rest), of_row w grid r 0 row, resources-counted w grid (r + 1) rows, sum_by-cons (row_resources w.tiles) row rows)

-- ---- links

pub links-append : (xs ys : List Entry) → links (xs ++ ys) ≡ links xs + links ys
links-append [] ys = omega arith
links-append (x ∷ xs) ys = omega (arith, links-append xs ys)

into_ports : (grid : Grid) (cell : Cell) (unit : List ℕ) (p : ℕ) (ports : List (List Reference))
    → links (port_entries unit p (map (drivers_of grid cell) ports)) ≡ sum_by (list_links grid cell) ports
into_ports grid cell unit p [] = refl
into_ports grid cell unit p (x ∷ xs) =
    omega (arith, ap length (distinct_distinct (filter_map (driver_of grid cell) x)), into_ports grid cell unit (p + 1) xs, sum_by-cons (list_links grid cell) x xs)

into_part : (grid : Grid) (cell : Cell) (p : Part) → links (entries_of (element_of grid cell p)) ≡ links_of grid cell p
into_part grid cell (part.Wire name from) = omega (arith, ap length (distinct_distinct (filter_map (driver_of grid cell) from)))
into_part grid cell (part.Register name from) = omega (arith, ap length (distinct_distinct (filter_map (driver_of grid cell) from)))
into_part grid cell (part.Unit name ops other latency ports) =
    let unit = flat_name cell name in
    omega (arith, links-append (port_entries unit 0 (map (drivers_of grid cell) ports)) (out_entry unit ∷ []), into_ports grid cell unit 0 ports)

into_parts : (grid : Grid) (cell : Cell) (ps : List WrittenPart) → links (entries (map (λ p. element_of grid cell p.part) ps)) ≡ part_links grid cell ps
into_parts grid cell [] = links-nil
into_parts grid cell (p ∷ ps) =
    let e = element_of grid cell p.part in
    let rest = map (λ q. element_of grid cell q.part) ps in
    omega (arith, ap links (entries-cons e rest), links-append (entries_of e) (entries rest), into_part grid cell p.part, into_parts grid cell ps, sum_by-cons (λ q. links_of grid cell q.part) p ps)

into_row : (w : WrittenArch) (grid : Grid) (r c : ℕ) (row : List ℕ) → links (entries (row_elements w grid r c row)) ≡ row_links w grid r c row
into_row w grid r c [] = links-nil
into_row w grid r c (letter ∷ row) =
    let cell : Cell = record { row = r; column = c } in
    let here = map (λ p. element_of grid cell p.part) (parts_for w.tiles letter) in
    let rest = row_elements w grid r (c + 1) row in
    omega (arith, ap links (entries-append here rest), links-append (entries here) (entries rest), into_parts grid cell (parts_for w.tiles letter), into_row w grid r (c + 1) row)

pub links-counted : (w : WrittenArch) (grid : Grid) (r : ℕ) (rows : List (List ℕ)) → links (entries (grid_elements w grid r rows)) ≡ grid_links w grid r rows
links-counted w grid r [] = links-nil
links-counted w grid r (row ∷ rows) =
    let here = row_elements w grid r 0 row in
    let rest = grid_elements w grid (r + 1) rows in
    omega (arith, ap links (entries-append here rest), links-append (entries here) (entries rest), into_row w grid r 0 row, links-counted w grid (r + 1) rows)
