-- Tiles that stand for too many resources or links are refused.
use Rattle.std.proofs.Common.{◌≡◌, ◌<◌, length, true, false, Some, None, Ok, nat_lt, lt-ltb, refl, ap, sym, ◌∙◌, subst}
use Rattle.std.specs.Option.{option_map, option_or}
use Rattle.cg_parts.specs.declared.parts.Parts.{Parts}
use Rattle.cg_parts.specs.declared.fault.ArchFault.TheVariants as arch
use Rattle.cg_parts.specs.declared.fault.TooLargePlace.{TooLargePlace}
use Rattle.cg_parts.specs.declared.fault.TooLargePlace.TheVariants as large
use Rattle.cg_parts.specs.Parts.{entries}
use Rattle.cg_parts.specs.Rules.{links, too_large, fault_before_loops, bad_name, repeated_name, wrong_driver}
use Rattle.cg_validate.specs.Answer.{early}
use Rattle.cg_model.specs.Limits.{most_resources, most_links}
use Rattle.cg_grid.specs.declared.written.WrittenArch.{WrittenArch}
use Rattle.cg_grid.specs.Rules.{first_fault}
use Rattle.cg_grid.specs.declared.fault.TilesFault.TheVariants as fault
use Rattle.cg_tiles.specs.Elements.{parts_of, grid_of}
use Rattle.cg_tiles.specs.Lean.{lean}
use Rattle.cg_tiles.specs.Counts.{grid_resources, grid_links}
use Rattle.cg_tiles.specs.Answer.{unless, judged, IsRefused}
use Rattle.cg_tiles.proofs.Counted.{resources-counted, links-counted}
use Rattle.cg_tiles.proofs.Leaner.{lean-links}

pub judged-clean : (w : WrittenArch) → first_fault w ≡ None → judged w ≡ Ok (parts_of w)
unfolding judged
judged-clean w none = ap (λ o. unless o (parts_of w)) none

early-too_large : (parts : Parts) (place : TooLargePlace) → too_large parts (entries parts.elements) ≡ Some place → fault_before_loops parts ≡ Some (arch.TooLarge place)
unfolding fault_before_loops
early-too_large parts place e =
    ap (λ o. option_or (option_map arch.TooLarge o) (option_or (option_map arch.BadName (bad_name parts)) (option_or (option_map arch.RepeatedName (repeated_name parts.elements)) (wrong_driver parts.elements (entries parts.elements))))) e

-- what is written stands for parts that are too large
refused : (w : WrittenArch) (place : TooLargePlace) → first_fault w ≡ None → too_large (parts_of w) (entries (parts_of w).elements) ≡ Some place → IsRefused (judged w) (fault.Parts (arch.TooLarge place))
unfolding judged
refused w place none e =
    subst (λ o. IsRefused (unless o (parts_of w)) (fault.Parts (arch.TooLarge place))) (sym none)
    (arch.TooLarge place, refl, (λ m. let bad : arch.TooLarge place ≡ arch.Memory = m in cc), early (early-too_large (parts_of w) place e))

resources-of : (w : WrittenArch) → length (entries (parts_of w).elements) ≡ grid_resources w.tiles w.header.grid
unfolding parts_of
resources-of w = resources-counted w (grid_of w) 0 w.header.grid

links-of : (w : WrittenArch) → links (entries (parts_of w).elements) ≡ grid_links w (grid_of w) 0 w.header.grid
unfolding parts_of
links-of w = links-counted w (grid_of w) 0 w.header.grid

pub refused-resources : (w : WrittenArch) → first_fault w ≡ None → nat_lt most_resources (grid_resources w.tiles w.header.grid) ≡ true
    → IsRefused (judged w) (fault.Parts (arch.TooLarge large.Resources))
refused-resources w none many = refused w large.Resources none (let e : nat_lt most_resources (length (entries (parts_of w).elements)) ≡ true = ap (nat_lt most_resources) (resources-of w) ∙ many in rw e refl)

-- by what is lean
pub refused-links : (w u : WrittenArch) → u ≡ lean w → first_fault w ≡ None → nat_lt most_resources (grid_resources w.tiles w.header.grid) ≡ false → most_links < grid_links u (grid_of u) 0 u.header.grid
    → IsRefused (judged w) (fault.Parts (arch.TooLarge large.Links))
refused-links w u is none few many = refused w large.Links none
    (let e : nat_lt most_resources (length (entries (parts_of w).elements)) ≡ false = ap (nat_lt most_resources) (resources-of w) ∙ few in
    let same : links (entries (parts_of w).elements) ≡ grid_links u (grid_of u) 0 u.header.grid = sym (lean-links w) ∙ ap (λ x. links (entries (parts_of x).elements)) (sym is) ∙ links-of u in
    let m : nat_lt most_links (links (entries (parts_of w).elements)) ≡ true = ap (nat_lt most_links) same ∙ lt-ltb most_links (grid_links u (grid_of u) 0 u.header.grid) many in
    rw (e, m) refl)
