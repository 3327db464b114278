use Rattle.std.proofs.Common.{◌≡◌, drop}
use Rattle.std.specs.Char.{is_digit}
use Rattle.std.specs.List.{list_all}
use Rattle.cg_image_text.proofs.number.are_digits.Given as goal

-- what is left decides
abbrev pub invariant-loop-byte : goal.invariant-loop-byte
invariant-loop-byte l = list_all (λ c. is_digit c l.base) (drop l.byte-index l.text) ≡ list_all (λ c. is_digit c l.base) l.text
