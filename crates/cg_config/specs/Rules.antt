-- The rules on the fields of a unit as tests, argument by argument.
use Rattle.std.specs.Prelude.{◌≡◌, ℕ, ◌<◌, length, nat_le, nat_lt, eqb, not, ◌&&◌, ◌||◌, Bool, false, List, slice_index}
use Rattle.cg_word.specs.declared.op.Op.{Op}
use Rattle.cg_model.specs.declared.config.ArgFields.{ArgFields}
use Rattle.cg_model.specs.declared.config.UnitFields.{UnitFields}
use Rattle.cg_word.specs.Word.{words}
use Rattle.cg_model.specs.Config.{arg}
use Rattle.cg_model.specs.Canonical.{arity_of, offered, stage_right, port_right, immediate_right}

-- ---- an argument, given whether the operation has it and whether one before it is fixed

-- at most one argument is fixed, and it is one of the operation's
abbrev pub mode_ok : ArgFields → Bool → Bool → Bool
mode_ok a used before = not a.fixed || (used && not before)

-- a count is at most 4, and 0 unless the argument may have initial words
abbrev pub count_ok : ArgFields → Bool → Bool
count_ok a used = nat_le a.count 4 && (eqb a.count 0 || (used && not a.fixed))

-- word k is 0 unless the argument may have initial word k
abbrev pub word_ok : ArgFields → Bool → ℕ → Bool
word_ok a used k = eqb (slice_index a.init k) 0 || ((used && not a.fixed) && nat_lt k a.count)

-- its mode bit, its count and its four words keep the rules
abbrev pub arg_ok : ArgFields → Bool → Bool → Bool
arg_ok a used before = mode_ok a used before && (count_ok a used && (word_ok a used 0 && (word_ok a used 1 && (word_ok a used 2 && word_ok a used 3))))

-- ---- a unit

-- its three arguments keep the rules
abbrev pub args_ok : UnitFields → Bool
args_ok f =
    arg_ok (arg f 0) (nat_lt 0 (arity_of f.op)) false
    && (arg_ok (arg f 1) (nat_lt 1 (arity_of f.op)) (arg f 0).fixed && arg_ok (arg f 2) (nat_lt 2 (arity_of f.op)) ((arg f 0).fixed || (arg f 1).fixed))

-- all fields keep the rules, for a unit that offers the operations
abbrev pub fields_ok : List Op → UnitFields → Bool
fields_ok ops f = offered ops f.op && (nat_lt f.port 16 && (stage_right f && (port_right f && (immediate_right f && args_ok f))))

-- ---- what the types of the fields guarantee

-- four numbers that are words
abbrev pub AreWords : List ℕ → Type 0
AreWords ws = (length ws ≡ 4) × ((k : ℕ) → slice_index ws k < words)

-- three arguments with four words each, and an immediate that is a word
pub record IsTyped (f : UnitFields) : Type 0 where
  pub args : length f.args ≡ 3
  pub inits : (p : ℕ) → p < 3 → AreWords (arg f p).init
  pub immediates : f.immediate < words
