use Rattle.std.proofs.Common.{◌∙◌, sym, map, string_bytes}
use Rattle.std.specs.BTreeMap.{keys}
use Rattle.cg_reading.specs.Keys.{is_unlisted}
use Rattle.cg_reading.proofs.Lists.{list_any-map}
use Rattle.cg_reading.proofs.keys.has_other.Goals as goal

pub returns : goal.returns
returns g c = c.has_unlisted.ensures ∙ sym (list_any-map (is_unlisted (map (λ k. k.now) c.args.known.now)) string_bytes (keys c.args.members.now))
