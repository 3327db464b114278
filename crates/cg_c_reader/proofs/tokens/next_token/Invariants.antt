use Rattle.std.proofs.Common.{◌≡◌, ◌-◌, ◌≤◌, length}
use Rattle.cg_c_syntax.specs.Tokens.{tokens_at}
use Rattle.cg_c_reader.proofs.tokens.next_token.Given as goal

-- only blanks and comments were passed over
abbrev pub invariant-loop-at : goal.invariant-loop-at
invariant-loop-at l = record {
  same : tokens_at l.bytes l.at.line l.at.place ≡ tokens_at l.bytes l.fn.cursor.line l.fn.cursor.place;
  within : l.at.place ≤ length l.bytes;
}

abbrev pub decreases-loop-at : goal.decreases-loop-at
decreases-loop-at l = length l.bytes - l.at.place
