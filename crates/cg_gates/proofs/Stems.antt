-- What stands in the names of units' cells behind their letter.
use Rattle.std.proofs.Common.{◌≡◌, ℕ, Bool, false, cond, ◌&&◌, List, Some, None, drop, ap, sym, ◌∙◌}
use Rattle.std.specs.Prelude.{codes, bytes_eq, find}
use Rattle.std.specs.Option.{option_map_or}
use Rattle.cg_model.specs.declared.array.Unit.{Unit}
use Rattle.cg_model.specs.Array.{Arch}
use Rattle.cg_model.proofs.Options.{some_cond}
use Rattle.cg_netlist.specs.Forms.{begins}
use Rattle.cg_gates.specs.Accepts.{is_unit_of, names_unit}

-- a unit that was found behind the letter tells whether the name is that of a unit that fits
pub unit_named_by : (A : Arch) (p l h : ℕ) (name rest : List ℕ) (u : Unit) (b : Bool) → Some rest ≡ cond (begins (codes "u_") name) (Some (drop 2 name)) None → Some u ≡ find (λ (v : Unit). bytes_eq v.name rest) A.units → b ≡ is_unit_of p l h u
    → b ≡ names_unit A p l h name
unit_named_by A p l h name rest u b behind found is =
    let both = some_cond (begins (codes "u_") name) (drop 2 name) rest (sym behind) in
    is
    ∙ ap (λ o. option_map_or (is_unit_of p l h) o false) found
    ∙ ap (λ s. option_map_or (is_unit_of p l h) (find (λ (v : Unit). bytes_eq v.name s) A.units) false) (sym both.1)
    ∙ sym (ap (λ t. t && option_map_or (is_unit_of p l h) (find (λ (v : Unit). bytes_eq v.name (drop 2 name)) A.units) false) both.0)
