use Rattle.std.proofs.Common.{◌∙◌, ap, false, map}
use Rattle.std.specs.Option.{option_map_or}
use Rattle.cg_reading.specs.Keys.{has_other}
use Rattle.cg_toml.specs.Members.{keys_in}
use Rattle.cg_toml.proofs.Reading.{keys_in-members}
use Rattle.cg_toml.proofs.members.has_other_keys.Goals as goal

pub returns-in-Some : goal.returns-in-Some
returns-in-Some c =
    let known = map (λ k. k.now) c.args.known.now in
    c.has_other.ensures ∙ ap (has_other known) (keys_in-members c.in-Some.members.now.entries)
    ∙ ap (λ o. option_map_or (λ ms. has_other known (keys_in ms)) o false) c.in-Some.ensures
