-- The forms of cells: the name of a cell's module, its ports in order, and the form that a name denotes.
use Rattle.std.specs.Prelude.{ℕ, ◌+◌, ◌^◌, ◌<◌, ◌≤◌, Bool, true, false, ◌&&◌, nat_lt, nat_le, List, [], ◌∷◌, ◌++◌, map, length, take, drop, slice_index, bytes_eq, codes, decimal, Option, Some, None, if◌then◌else◌}
use Rattle.std.specs.List.{range_with_len}
use Rattle.std.specs.Option.{option_or, option_and_then}
use Rattle.std.specs.Fmt.{digits}
use Rattle.std.specs.Char.{digit_value}
use Rattle.std.specs.Str.Parse.{digits_value}
-- the select of a context, or that of the next one, by its number of bits; the choice among drivers, by their number,
-- or a register of the chosen word; the word 0; and a unit by its number of ports, its latency and its operations, bit
-- k for the operation of code k
pub use Rattle.cg_netlist.specs.declared.forms.Form.{Form}
pub use Rattle.cg_netlist.specs.declared.forms.Form.TheVariants.{Context as ContextForm, Preselect as PreselectForm, Mux as MuxForm, Register as RegisterForm, Zero as ZeroForm, FunctionalUnit as UnitForm}

-- the number in lower-case hexadecimal, without leading zeros
abbrev pub hexadecimal : ℕ → List ℕ
hexadecimal n = digits 16 false n

-- the name of the form's module
abbrev pub form_name : Form → List ℕ
form_name (ContextForm w) = codes "cg_ctx_" ++ decimal w
form_name (PreselectForm w) = codes "cg_pre_" ++ decimal w
form_name (MuxForm k) = codes "cg_mux_" ++ decimal k
form_name (RegisterForm k) = codes "cg_reg_" ++ decimal k
form_name ZeroForm = codes "cg_zero"
form_name (UnitForm p l h) = codes "cg_unit_" ++ (decimal p ++ (codes "_" ++ (decimal l ++ (codes "_" ++ hexadecimal h))))

-- the port for driver number k, from 1 on: d1, d2, ..
abbrev pub driver_port : ℕ → List ℕ
driver_port k = codes "d" ++ decimal k

-- the port for argument number p, from 0 on: a, b, ..
abbrev pub argument_port : ℕ → List ℕ
argument_port p = (97 + p) ∷ []

-- the form's ports in order
abbrev pub form_ports : Form → List (List ℕ)
form_ports (ContextForm w) = codes "clk" ∷ codes "rst" ∷ codes "q" ∷ []
form_ports (PreselectForm w) = codes "clk" ∷ codes "rst" ∷ codes "q" ∷ []
form_ports (MuxForm k) = codes "s" ∷ (map driver_port (range_with_len 1 k) ++ codes "q" ∷ [])
form_ports (RegisterForm k) = codes "clk" ∷ codes "rst" ∷ codes "s" ∷ (map driver_port (range_with_len 1 k) ++ codes "q" ∷ [])
form_ports ZeroForm = codes "q" ∷ []
form_ports (UnitForm p l h) = codes "clk" ∷ codes "rst" ∷ (map argument_port (range_with_len 0 p) ++ codes "q" ∷ [])

-- the form's numbers are in their ranges; the operations have one to eight hexadecimal digits
abbrev pub IsForm : Form → Type 0
IsForm (ContextForm w) = (0 < w) × (w ≤ 17)
IsForm (PreselectForm w) = (0 < w) × (w ≤ 17)
IsForm (MuxForm k) = (0 < k) × (k ≤ 65536)
IsForm (RegisterForm k) = (0 < k) × (k ≤ 65536)
IsForm ZeroForm = Unit {0}
IsForm (UnitForm p l h) = (p ≤ 3) × (0 < l) × (l ≤ 4) × (0 < h) × (h < 2 ^ 32)

-- `IsForm` as a test
abbrev pub is_form : Form → Bool
is_form (ContextForm w) = nat_lt 0 w && nat_le w 17
is_form (PreselectForm w) = nat_lt 0 w && nat_le w 17
is_form (MuxForm k) = nat_lt 0 k && nat_le k 65536
is_form (RegisterForm k) = nat_lt 0 k && nat_le k 65536
is_form ZeroForm = true
is_form (UnitForm p l h) = nat_le p 3 && (nat_lt 0 l && (nat_le l 4 && (nat_lt 0 h && nat_lt h (2 ^ 32))))

-- ---- the form that a name says

-- the name begins with the prefix
abbrev pub begins : List ℕ → List ℕ → Bool
begins prefix name = bytes_eq (take (length prefix) name) prefix

-- where the name begins with the prefix, the form with the number that follows the prefix in base 10
abbrev pub said_after : (ℕ → Form) → List ℕ → List ℕ → Option Form
said_after form prefix name = if begins prefix name then Some (form (digits_value 10 (drop (length prefix) name))) else None

-- where the name begins as a unit's, the unit with a digit of ports, a digit of latency, and the operations that follow
-- in base 16
abbrev pub said_unit : List ℕ → Option Form
said_unit name = if begins (codes "cg_unit_") name then Some (UnitForm (digit_value (slice_index name 8)) (digit_value (slice_index name 10)) (digits_value 16 (drop 12 name))) else None

-- the form that the name would denote, judged by its prefix
unfoldable pub said_form : List ℕ → Option Form
said_form name =
    option_or (said_after ContextForm (codes "cg_ctx_") name)
    (option_or (said_after PreselectForm (codes "cg_pre_") name)
    (option_or (said_after MuxForm (codes "cg_mux_") name)
    (option_or (said_after RegisterForm (codes "cg_reg_") name)
    (option_or (if begins (codes "cg_zero") name then Some ZeroForm else None) (said_unit name)))))

-- that form, if its name is exactly this one and its numbers are in their ranges
abbrev pub if_called : List ℕ → Form → Option Form
if_called name f = if is_form f && bytes_eq name (form_name f) then Some f else None

-- the form that the name denotes
unfoldable pub form_of : List ℕ → Option Form
form_of name = option_and_then (if_called name) (said_form name)
