-- Parts of a turn under conditions.
use Rattle.std.specs.Prelude.{◌≡◌, ℕ, nat_lt, ◌&&◌, List, length, Option, None, slice_index_or}
use Rattle.cg_c_values.specs.Values.{Moment, Words, Fits, Extends, IsBelow, holds}
use Rattle.cg_c_turn.specs.Draft.{Draft, assigned_in}
use Rattle.cg_c_turn.specs.Words.{Merges}

-- the draft at another point
abbrev pub with_point : Draft → (guard : Option ℕ) → (words : List (Option ℕ)) → Draft
with_point d guard words = record d { guard = guard; words = words }

-- values were added, and the point may be another: all else is as it was
pub record IsElsewhere (before after : Draft) : Type 0 where
  pub arrays : after.arrays ≡ before.arrays
  pub counters : after.counters ≡ before.counters
  pub values : Extends before.values after.values
  pub effects : after.effects ≡ before.effects
  pub initial : after.initial ≡ before.initial
  pub latest : after.latest ≡ before.latest

-- from a point on, under a condition
pub record EntersArm (before after : Draft) (condition : ℕ) : Type 0 where
  pub same : IsElsewhere before after
  pub words : after.words ≡ before.words
  pub below : IsBelow (length after.values) after.guard
  pub both : (x : Moment) (E : Words) → Fits after.values x E → holds E after.guard ≡ holds E before.guard && nat_lt 0 (E condition)

-- each word is merged
pub record IsMerged (before after : Draft) (condition : ℕ) (chosen other : List (Option ℕ)) : Type 0 where
  pub same : IsElsewhere before after
  pub guard : after.guard ≡ before.guard
  pub each : (number : ℕ) → Merges after condition number (slice_index_or chosen number None) (slice_index_or other number None) (assigned_in after number)
