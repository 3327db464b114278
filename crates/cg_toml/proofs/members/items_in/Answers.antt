use Rattle.std.proofs.Common.{◌∙◌, Some, ap, sym, map, option_map}
use Rattle.toml.specs.View.{view}
use Rattle.cg_toml.specs.Members.{listed}
use Rattle.cg_toml.proofs.Reading.{listed-items_of}
use Rattle.cg_toml.proofs.members.items_in.Goals as goal

pub returns-in-Some : goal.returns-in-Some
returns-in-Some c =
    ap (λ items. Some (map view items)) c.as_slice.ensures.value
    ∙ ap Some (sym (listed-items_of (map view c.in-Some.items.now.items)))
    ∙ ap (option_map listed) c.in-Some.ensures
