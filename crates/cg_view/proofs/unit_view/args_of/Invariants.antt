use Rattle.std.proofs.Common.{◌≡◌, ℕ, ◌<◌, ◌≤◌, length, get_or}
use Rattle.cg_model.specs.Config.{arg, no_arg}
use Rattle.cg_bits.specs.Numbers.{bits_of_bytes}
use Rattle.cg_bits.specs.Format.{cgb2}
use Rattle.cg_bits.specs.Reading.{unit_in}
use Rattle.cg_view.proofs.unit_view.args_of.Given as goal

abbrev pub invariant-loop-p : goal.invariant-loop-p
invariant-loop-p l = record {
  three : length l.args ≡ 3;
  done : (q : ℕ) → q < l.p → get_or l.args q no_arg ≡ arg (unit_in cgb2 l.ports (bits_of_bytes l.body) l.at) q;
  rest : (q : ℕ) → l.p ≤ q → q < 3 → get_or l.args q no_arg ≡ no_arg;
}
