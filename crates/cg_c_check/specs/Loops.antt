-- The heads of loops.
use Rattle.std.specs.Prelude.{ℕ, ◌+◌, ◌-◌, ◌*◌, ◌/◌, ◌^◌, nat_lt, nat_le, Bool, not, ◌&&◌, if◌then◌else◌, Option, Some, None, Ok}
use Rattle.cg_word.specs.Word.{words, rank}
use Rattle.cg_c_syntax.specs.Tree.{Expr, Head}
use Rattle.cg_c_syntax.specs.declared.statement.Signedness.TheVariants.{Signed}
use Rattle.cg_c_check.specs.declared.fault.CheckFault.TheVariants.{BadLoop}
pub use Rattle.cg_c_check.specs.declared.program.Range.{Range}
use Rattle.cg_c_check.specs.Rules.{most_signed, is_signed}
use Rattle.cg_c_check.specs.Faults.{Checked, ◌>>=◌, ◌>>◌, demand}
use Rattle.cg_c_check.specs.Names.{Names}
use Rattle.cg_c_check.specs.Constants.{Constant, constant_of}

-- the greatest number of loops in one another, and of turns of the innermost
abbrev pub most_loops : ℕ
most_loops = 4

abbrev pub most_turns : ℕ
most_turns = 1000000

-- a number that a word may stand for, counted from the least signed one, -2^31
abbrev pub height : Constant → ℕ
height c = if is_signed c.signedness then rank c.word else c.word + 2 ^ 31

-- how many of first, first + step, .. are below the bound, or with `inclusive` not above it
abbrev pub trips_of : (inclusive : Bool) (first bound step : ℕ) → ℕ
trips_of inclusive first bound step = if inclusive then (bound + step - first) / step else (bound + step - 1 - first) / step

-- the comparison with the bound is unsigned, and the first value negative
abbrev pub is_never_below : Constant → Constant → Bool
is_never_below first bound = not (is_signed bound.signedness) && nat_lt most_signed first.word

-- F11: a step is positive
abbrev pub is_positive : (step : ℕ) → Bool
is_positive step = nat_lt 0 step && nat_le step most_signed

-- F11: there is an iteration, and the counter stays a signed word even after the last one
abbrev pub stays_signed : (first step trips : ℕ) → Bool
stays_signed first step trips = nat_lt 0 trips && nat_lt (rank first + step * trips) words

-- F11: the turns of a loop are few, with those of the loops around
abbrev pub are_few : (turns trips : ℕ) → Bool
are_few turns trips = nat_le (turns * trips) most_turns

-- a step that is not written is 1
abbrev pub step_of : Names → Option Expr → Checked Constant
step_of names None = Ok (record { word = 1; signedness = Signed })
step_of names (Some e) = constant_of names e

-- the range of a loop at a place with this head, where the loops around it have `turns` turns
unfoldable pub range_of : Names → (turns place : ℕ) → Head → Checked Range
range_of names turns place head = do
  first ← constant_of names head.start
  bound ← constant_of names head.bound
  step ← step_of names head.step
  demand (not (is_never_below first bound) && is_positive step.word) (BadLoop place)
  let trips = trips_of head.inclusive (rank first.word) (height bound) step.word
  demand (stays_signed first.word step.word trips && are_few turns trips) (BadLoop place)
  Ok (record { first = first.word; step = step.word; trips = trips })
