use Rattle.std.proofs.Common.{◌≡◌, ℕ, ◌+◌, ◌*◌, ◌<◌, ◌≤◌, length, get_or}
use Rattle.cg_model.specs.Config.{no_arg}
use Rattle.cg_bits.specs.Format.{args_at, arg_len}
use Rattle.cg_bits.specs.Numbers.{bits_of_bytes}
use Rattle.cg_bits.specs.Reading.{arg_in}
use Rattle.cg_bits.proofs.reading.unit_at.Given as goal

abbrev pub invariant-loop-p : goal.invariant-loop-p
invariant-loop-p l = record {
  three : length l.args ≡ 3;
  done : (q : ℕ) → q < l.p → get_or l.args q no_arg ≡ arg_in (bits_of_bytes l.bytes) (l.at + args_at l.format + q * arg_len);
  rest : (q : ℕ) → l.p ≤ q → q < 3 → get_or l.args q no_arg ≡ no_arg;
}
