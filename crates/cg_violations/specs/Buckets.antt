-- Positions in buckets, by resource and slot: positions that meet are in one bucket.
use Rattle.std.specs.Prelude.{◌≡◌, ℕ, ◌+◌, ◌*◌, ◌%◌, ◌^◌, ◌<◌, eqb, List, [], length, map, filter, slice_index_or}
use Rattle.cg_model.specs.Mapping.{Position}
use Rattle.cg_check.specs.declared.stop.Stop.{Stop}
use Rattle.cg_check.specs.Claims.{position_of}

-- the bucket of resource r in slot s, of `count` buckets
unfoldable pub bucket_of : ℕ → ℕ → ℕ → ℕ → ℕ
bucket_of count ii r s = (((r * ii) % 2 ^ 64 + s) % 2 ^ 64) % count

-- the bucket of a position
abbrev pub bucket : ℕ → ℕ → Position → ℕ
bucket count ii p = bucket_of count ii p.resource (p.time % ii)

-- those of the positions that are in bucket b, in their order
abbrev pub in_bucket : ℕ → ℕ → ℕ → List Position → List Position
in_bucket count ii b ps = filter (λ p. eqb (bucket count ii p) b) ps

-- `count` lists, of which list b holds the positions in bucket b
pub record HasPositions (count ii : ℕ) (ps : List Position) (lists : List (List Stop)) : Type 0 where
  pub long : length lists ≡ count
  pub each : (b : ℕ) → b < count → map position_of (slice_index_or lists b []) ≡ in_bucket count ii b ps

-- buckets that were made at the interval `made` hold these positions at the interval ii
pub record IsFilled (ii : ℕ) (ps : List Position) (made : ℕ) (lists : List (List Stop)) : Type 0 where
  pub interval : made ≡ ii
  pub some : 0 < length lists
  pub has : HasPositions (length lists) ii ps lists
