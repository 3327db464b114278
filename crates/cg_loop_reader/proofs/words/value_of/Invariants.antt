use Rattle.std.proofs.Common.{◌≡◌, ◌<◌, ◌^◌, take}
use Rattle.cg_loop_text_spec.specs.Words.{number_of}
use Rattle.cg_loop_reader.proofs.words.value_of.Given as goal

-- the number of the digits so far
abbrev pub invariant-loop-digit : goal.invariant-loop-digit
invariant-loop-digit l = record {
  is : l.number ≡ number_of (take l.digit-index l.text);
  small : l.number < 10 ^ l.digit-index;
}
