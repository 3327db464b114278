-- Numbers, and the kinds of token with which an operand begins.
use Rattle.std.specs.Prelude.{ℕ, List, if◌then◌else◌, codes, bytes_eq, Option, Some, None}
use Rattle.cg_loop_syntax.specs.Well.{is_loop_name}
use Rattle.cg_loop_text_spec.specs.Words.{is_number, number_of}
use Rattle.cg_loop_reader.specs.declared.words.Beginning.{Beginning}
use Rattle.cg_loop_reader.specs.declared.words.Beginning.TheVariants as begins

abbrev pub number_in : List ℕ → Option ℕ
number_in t = if is_number t then Some (number_of t) else None

abbrev pub beginning_of : List ℕ → Beginning
beginning_of t =
    if is_number t then begins.Number (number_of t)
    else (if bytes_eq t (codes "turn") then begins.Turn
    else (if bytes_eq t (codes "in") then begins.In
    else (if is_loop_name t then begins.Name else begins.Other)))
