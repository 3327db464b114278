use Rattle.std.proofs.Common.{◌≡◌, ◌<◌, ◌^◌, take}
use Rattle.std.specs.Str.Parse.{digits_value}
use Rattle.cg_image_text.proofs.number.value.Given as goal

-- the digits so far, which write a word
abbrev pub invariant-loop-byte : goal.invariant-loop-byte
invariant-loop-byte l = record {
  so_far : l.value ≡ digits_value l.base (take l.byte-index l.text);
  small : l.value < 2 ^ 32;
}
