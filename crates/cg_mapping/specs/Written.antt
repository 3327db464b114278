-- The description of a mapping in a JSON value.
use Rattle.std.specs.Prelude.{ℕ, Bool, List, [], ◌∷◌, Option, Some, None, Result, Ok, Err, codes, option_and_then, if◌then◌else◌}
use Rattle.std.specs.Str.{bytes_eq}
use Rattle.serde_json.specs.Data.{Data}
use Rattle.serde_json.specs.Find.{get, as_str}
use Rattle.cg_reading.specs.Items.{all_of, all_or_first}
use Rattle.cg_json.specs.Members.{text_at, items_at, word_in, has_other_keys}
pub use Rattle.cg_mapping.specs.declared.fault.MappingPlace.{MappingPlace}
use Rattle.cg_mapping.specs.declared.fault.MappingPlace.TheVariants as at
pub use Rattle.cg_mapping.specs.declared.written.WrittenPlace.{WrittenPlace}
pub use Rattle.cg_mapping.specs.declared.written.WrittenRoute.{WrittenRoute}
pub use Rattle.cg_mapping.specs.declared.written.WrittenMapping.{WrittenMapping}

-- the word at a key
abbrev pub word_at : List ℕ → Data → Option ℕ
word_at key d = option_and_then word_in (get key d)

-- a place: the texts `node` and `unit`, and the number `time`
abbrev pub place_from : Option (List ℕ) → Option (List ℕ) → Option ℕ → Bool → Option WrittenPlace
place_from (Some node) (Some unit) (Some time) other = Some (record { node = node; unit = unit; time = time; other_keys = other })
place_from _ _ _ other = None

-- the place that an object describes
abbrev pub place_in : Data → Option WrittenPlace
place_in d = place_from
    (text_at (codes "node") d)
    (text_at (codes "unit") d)
    (word_at (codes "time") d)
    (has_other_keys (codes "node" ∷ codes "unit" ∷ codes "time" ∷ []) d)

-- a route: the text `to`, the number `arg`, and the array `path` of texts
abbrev pub route_from : Option (List ℕ) → Option ℕ → Option (List (List ℕ)) → Bool → Option WrittenRoute
route_from (Some to) (Some arg) (Some path) other = Some (record { to = to; arg = arg; path = path; other_keys = other })
route_from _ _ _ other = None

-- the route that an object describes
abbrev pub route_in : Data → Option WrittenRoute
route_in d = route_from
    (text_at (codes "to") d)
    (word_at (codes "arg") d)
    (option_and_then (all_of as_str) (items_at (codes "path") d))
    (has_other_keys (codes "to" ∷ codes "arg" ∷ codes "path" ∷ []) d)

-- the text `format` names the format
abbrev pub format_in : Data → Option (Unit {0})
format_in d = option_and_then (λ text. if bytes_eq text (codes "cgm1") then Some tt else None) (text_at (codes "format") d)

-- all places and routes, or the first malformed one
abbrev pub joined : ℕ → Bool → Result (List WrittenPlace) ℕ → Result (List WrittenRoute) ℕ → Result WrittenMapping MappingPlace
joined ii other (Ok places) (Ok routes) = Ok (record { ii = ii; places = places; routes = routes; other_keys = other })
joined ii other (Ok places) (Err r) = Err (at.Route r)
joined ii other (Err p) routes = Err (at.Place p)

-- where the format, the interval or one of the arrays is missing or wrong, the place is the file
abbrev pub written_from : Option (Unit {0}) → Option ℕ → Option (List Data) → Option (List Data) → Bool → Result WrittenMapping MappingPlace
written_from (Some format) (Some ii) (Some places) (Some routes) other = joined ii other (all_or_first place_in 0 places) (all_or_first route_in 0 routes)
written_from _ _ _ _ other = Err at.File

-- P2 WrongShape: the description in the value, or the first place where a key is missing or a value has another kind or
-- range
unfoldable pub written_of : Data → Result WrittenMapping MappingPlace
written_of d = written_from
    (format_in d)
    (word_at (codes "ii") d)
    (items_at (codes "places") d)
    (items_at (codes "routes") d)
    (has_other_keys (codes "format" ∷ codes "ii" ∷ codes "places" ∷ codes "routes" ∷ []) d)
