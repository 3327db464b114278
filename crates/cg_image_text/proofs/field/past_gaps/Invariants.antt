use Rattle.std.proofs.Common.{◌≡◌, ◌≤◌, ◌-◌, length}
use Rattle.cg_image_text.specs.Fields.{fields_at}
use Rattle.cg_image_text.proofs.field.past_gaps.Given as goal

-- only blanks and comments were passed over
abbrev pub invariant-loop-place : goal.invariant-loop-place
invariant-loop-place l = record {
  same : fields_at l.bytes l.place ≡ fields_at l.bytes l.at;
  on : l.at ≤ l.place;
}

abbrev pub decreases-loop-place : goal.decreases-loop-place
decreases-loop-place l = length l.bytes - l.place
