use Rattle.std.proofs.Common.{◌≡◌, ◌≤◌, ◌^◌, min, take}
use Rattle.cg_c_syntax.specs.Words.{value_from}
use Rattle.cg_c_reader.proofs.values.value_from.Given as goal

-- the number of the digits so far
abbrev pub invariant-loop-digit : goal.invariant-loop-digit
invariant-loop-digit l = record {
  is : l.value ≡ min (2 ^ 32) (value_from l.base 0 (take l.digit-index l.digits));
  small : l.value ≤ 2 ^ 32;
}
