use Rattle.std.proofs.Common.{◌≡◌, ◌-◌, ℕ, Option, length}
use Rattle.cg_tokens.specs.Tokens.{tokens_at}
use Rattle.cg_tokens.proofs.token.past_blanks.Given as goal

-- only blanks were passed over
abbrev pub invariant-loop-place : goal.invariant-loop-place
invariant-loop-place l = (double : Option ℕ) → tokens_at double l.bytes l.place ≡ tokens_at double l.bytes l.at

abbrev pub decreases-loop-place : goal.decreases-loop-place
decreases-loop-place l = length l.bytes - l.place
