-- The rules of canonical configurations, by which each configuration is encoded by exactly one file of bits. The rules
-- on single fields are tests, since the reader of bits decides them.
use Rattle.std.specs.Prelude.{◌≡◌, ℕ, zero, suc, ◌+◌, ◌^◌, ◌<◌, ◌≤◌, nat_lt, nat_le, eqb, max, Bool, true, false, not, ◌&&◌, ◌||◌, if◌then◌else◌, List, [], length, Option, Some, None, slice_index, slice_index_or}
use Rattle.cg_word.specs.declared.op.Op.{Op}
use Rattle.cg_word.specs.Word.{arity, words, is_output, has_port}
use Rattle.cg_word.specs.Sets.{among}
use Rattle.cg_model.specs.Array.{Arch, resource, unit}
use Rattle.cg_model.specs.Config.{Config, UnitFields, arg, select, fields}
use Rattle.cg_model.specs.Limits.{latest_time}

-- ---- what the fields of a unit say, by its operation

-- the unit isn't off
abbrev pub is_on : Option Op → Bool
is_on None = false
is_on (Some op) = true

-- the number of arguments of the operation, 0 for an off unit
abbrev pub arity_of : Option Op → ℕ
arity_of None = 0
arity_of (Some op) = arity op

-- it is an output or outputif
abbrev pub gives_output : Option Op → Bool
gives_output None = false
gives_output (Some op) = is_output op

-- it is an input, output or outputif, so that its port has a meaning
abbrev pub names_port : Option Op → Bool
names_port None = false
names_port (Some op) = has_port op

-- the unit offers the operation, or is off
abbrev pub offered : List Op → Option Op → Bool
offered ops None = true
offered ops (Some op) = among ops op

-- ---- each field of a unit

-- a stage is at most 65,534, and 0 for an off unit
abbrev pub stage_right : UnitFields → Bool
stage_right f = nat_le f.stage latest_time && (is_on f.op || eqb f.stage 0)

-- the port is 0 where the operation names no port
abbrev pub port_right : UnitFields → Bool
port_right f = names_port f.op || eqb f.port 0

-- the immediate is 0 where no argument is fixed, that is, has its mode bit set, and for an off unit
abbrev pub immediate_right : UnitFields → Bool
immediate_right f = (is_on f.op && ((arg f 0).fixed || ((arg f 1).fixed || (arg f 2).fixed))) || eqb f.immediate 0

-- an argument below p is fixed
unfoldable pub fixed_below : UnitFields → ℕ → Bool
fixed_below f zero = false
fixed_below f (suc p) = fixed_below f p || (arg f p).fixed

-- the argument may have initial words: it is one of the operation's, and not fixed
abbrev pub takes : UnitFields → ℕ → Bool
takes f p = nat_lt p (arity_of f.op) && not (arg f p).fixed

-- at most one argument is fixed, and it is one of the operation's
abbrev pub mode_right : UnitFields → ℕ → Bool
mode_right f p = not (arg f p).fixed || (nat_lt p (arity_of f.op) && not (fixed_below f p))

-- a count is 0 to 4, and 0 unless its argument may have initial words
abbrev pub count_right : UnitFields → ℕ → Bool
count_right f p = nat_le (arg f p).count 4 && (eqb (arg f p).count 0 || takes f p)

-- a word is 0 unless its argument may have initial words and the word's number is below the count
abbrev pub word_right : UnitFields → ℕ → ℕ → Bool
word_right f p k = eqb (slice_index (arg f p).init k) 0 || (takes f p && nat_lt k (arg f p).count)

-- the fields of one unit in one slot: three arguments of four words each, numbers in their ranges,
-- an offered operation, and the tests above
pub record AreFields (ops : List Op) (f : UnitFields) : Type 0 where
  pub args : length f.args ≡ 3
  pub inits : (p : ℕ) → p < 3 → length (arg f p).init ≡ 4
  pub ports : f.port < 2 ^ 4
  pub immediates : f.immediate < words
  pub init_words : (p k : ℕ) → p < 3 → k < 4 → slice_index (arg f p).init k < words
  pub offer : offered ops f.op ≡ true
  pub stage : stage_right f ≡ true
  pub port : port_right f ≡ true
  pub immediate : immediate_right f ≡ true
  pub mode : (p : ℕ) → p < 3 → mode_right f p ≡ true
  pub count : (p : ℕ) → p < 3 → count_right f p ≡ true
  pub word : (p k : ℕ) → p < 3 → k < 4 → word_right f p k ≡ true

-- ---- the whole configuration

-- the stage of a unit, 0 where it is off
abbrev pub stage_of : UnitFields → ℕ
stage_of f = if is_on f.op then f.stage else 0

-- the greatest of the first n numbers, or 0
unfoldable pub greatest_of : (ℕ → ℕ) → ℕ → ℕ
greatest_of f zero = 0
greatest_of f (suc n) = max (greatest_of f n) (f n)

-- one of the first n tests holds
unfoldable pub any_below : (ℕ → Bool) → ℕ → Bool
any_below f zero = false
any_below f (suc n) = any_below f n || f n

-- the greatest stage of a unit that isn't off, or 0
abbrev pub last_stage : Arch → Config → ℕ
last_stage A C = greatest_of (λ slot. greatest_of (λ x. stage_of (fields C x slot)) (length A.units)) C.ii

-- both fields send output to one port
abbrev pub clash : UnitFields → UnitFields → Bool
clash f g = gives_output f.op && (gives_output g.op && eqb f.port g.port)

-- no fields before these, in the order of slots and units, send output to the same port
abbrev pub port_free : Arch → Config → ℕ → ℕ → Bool
port_free A C x slot =
    not
    (any_below (λ s. any_below (λ y. clash (fields C y s) (fields C x slot)) (length A.units)) slot
    || any_below (λ y. clash (fields C y slot) (fields C x slot)) x)

-- a canonical configuration of an architecture: its interval is at most the contexts, stages is one more than the
-- greatest stage in use, each slot has a select for each resource and fields for each unit, all in their ranges, and at
-- most one unit in one slot sends output to a port
pub record IsCanonical (A : Arch) (C : Config) : Type 0 where
  pub interval : 0 < C.ii
  pub contexts : C.ii ≤ A.contexts
  pub stages : C.stages ≡ 1 + last_stage A C
  pub slots : (length C.selects ≡ C.ii) × (length C.units ≡ C.ii)
  pub rows : (slot : ℕ) → slot < C.ii →
      (length (slice_index_or C.selects slot []) ≡ length A.resources) ×
      (length (slice_index_or C.units slot []) ≡ length A.units)
  pub selects : (r slot : ℕ) → r < length A.resources → slot < C.ii →
      select C r slot ≤ length (resource A r).drivers
  pub fielded : (x slot : ℕ) → x < length A.units → slot < C.ii →
      AreFields (unit A x).ops (fields C x slot)
  pub free : (x slot : ℕ) → x < length A.units → slot < C.ii → port_free A C x slot ≡ true
