use Rattle.std.proofs.Common.{List, ap, ◌∙◌}
use Rattle.std.proofs.lemmas.List.{set-set, set-get_or}
use Rattle.cg_model.specs.declared.mapping.Place.{Place}
use Rattle.cg_place.specs.Placed.{place_in}
use Rattle.cg_place.proofs.laws.undone.Goals as goal

pub returns : goal.returns
returns c = λ P m.
    ap (λ (z : List Place). record P { places = z }) (set-set P.places m.node m.place (place_in P.places m.node) ∙ set-get_or P.places m.node (record { unit = 0; time = 0 }))
