-- Tokens by their texts.
use Rattle.std.specs.Prelude.{ℕ, ◌+◌, ◌-◌, ◌*◌, nat_le, nat_lt, Bool, ◌&&◌, List, [], ◌∷◌, length, codes, bytes_eq, Option, Some, None, find, if◌then◌else◌}
use Rattle.std.specs.List.{list_all}
use Rattle.std.specs.Char.{is_ascii_digit}
use Rattle.cg_word.specs.declared.op.Op.{Op}
use Rattle.cg_word.specs.declared.op.Op.TheVariants.{Const, Add, Sub, Eq, Lts}
use Rattle.cg_word.specs.Word.{words, all_ops, name_of}
use Rattle.cg_loop_syntax.specs.Well.{is_word_op}

-- the number that the digits denote
abbrev pub number_from : ℕ → List ℕ → ℕ
number_from n [] = n
number_from n (d ∷ ds) = number_from (10 * n + (d - 48)) ds

abbrev pub number_of : List ℕ → ℕ
number_of t = number_from 0 t

-- one to ten digits, whose number is a word
abbrev pub is_number : List ℕ → Bool
is_number t = (nat_lt 0 (length t) && (nat_le (length t) 10 && list_all is_ascii_digit t)) && nat_lt (number_of t) words

-- the operation that has the given name in an expression
abbrev pub op_called : List ℕ → Option Op
op_called t = find (λ op. is_word_op op && bytes_eq (name_of op) t) all_ops

-- + and -
abbrev pub added_by : List ℕ → Option Op
added_by t = if bytes_eq t (codes "+") then Some Add else (if bytes_eq t (codes "-") then Some Sub else None)

-- == and <
abbrev pub compared_by : List ℕ → Option Op
compared_by t = if bytes_eq t (codes "==") then Some Eq else (if bytes_eq t (codes "<") then Some Lts else None)

-- the operation, if there is one
abbrev pub op_of : Option Op → Op
op_of None = Const
op_of (Some op) = op
