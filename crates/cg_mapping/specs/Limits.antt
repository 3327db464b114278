-- The limits on a mapping that is read.
use Rattle.std.specs.Prelude.{ℕ}

abbrev pub greatest_interval : ℕ
greatest_interval = 65535

-- the greatest number of resources of a path
abbrev pub longest_path : ℕ
longest_path = 65535
