-- Nodes whose value in every turn is a base plus a stride times the turn, modulo 2^32.
use Rattle.std.specs.Prelude.{ℕ, zero, suc, ◌+◌, ◌-◌, ◌*◌, ◌%◌, eqb, if◌then◌else◌, Bool, true, ◌&&◌, List, [], ◌∷◌, ◌++◌, Option, Some, None, slice_get, slice_index, slice_index_or}
use Rattle.std.specs.Option.{option_or}
use Rattle.cg_word.specs.declared.op.Op.{Op}
use Rattle.cg_word.specs.declared.op.Op.TheVariants.{Const, Iter, Add, Sub, Mul, Shl}
use Rattle.cg_word.specs.Word.{words, apply_of, address_arg}
use Rattle.cg_model.specs.declared.kernel.Operand.{Operand}
use Rattle.cg_model.specs.declared.kernel.Operand.TheVariants.{Const as Constant, Edge}
use Rattle.cg_model.specs.Kernel.{Kernel, size, node}
pub use Rattle.cg_depend.specs.declared.table.AffinePair.{AffinePair}

abbrev pub pair_of : ℕ → ℕ → AffinePair
pair_of base stride = record { base = base; stride = stride }

-- the word of a pair in turn i
abbrev pub at_turn : AffinePair → ℕ → ℕ
at_turn p i = (p.base + p.stride * i) % words

-- the word of a pair x turns before turn 0
abbrev pub ago : AffinePair → ℕ → ℕ
ago p x = (p.base + (words - p.stride) * x) % words

-- ---- operands

-- the first k initial words of an edge of distance d continue the pair backwards: initial word i is read in turn i, in
-- which the source would be d - i turns before turn 0
abbrev pub suits : AffinePair → ℕ → List ℕ → ℕ → Bool
suits p d init zero = true
suits p d init (suc k) = eqb (slice_index init k) (ago p (d - k)) && suits p d init k

-- the pair of a value that is read d turns later
abbrev pub delayed : ℕ → List ℕ → Option AffinePair → Option AffinePair
delayed d init None = None
delayed d init (Some p) = if suits p d init d then Some (pair_of (ago p d) p.stride) else None

-- the pair of an operand, where `earlier` has the pairs of the nodes before
abbrev pub operand_pair : List (Option AffinePair) → Operand → Option AffinePair
operand_pair earlier (Constant c) = Some (pair_of c 0)
operand_pair earlier (Edge u d init) = delayed d init (slice_index_or earlier u None)

abbrev pub pair_of_some : List (Option AffinePair) → Option Operand → Option AffinePair
pair_of_some earlier None = None
pair_of_some earlier (Some o) = operand_pair earlier o

-- the pair of operand number p
abbrev pub arg_pair : List (Option AffinePair) → List Operand → ℕ → Option AffinePair
arg_pair earlier operands p = pair_of_some earlier (slice_get operands p)

-- ---- operations

-- the pair of a sum or a difference
abbrev pub line : Op → Option AffinePair → Option AffinePair → Option AffinePair
line op (Some p) (Some q) = Some (pair_of (apply_of op p.base q.base 0) (apply_of op p.stride q.stride 0))
line op _ _ = None

-- a pair times a word, by multiplication or by shift
abbrev pub scaled : Op → AffinePair → ℕ → AffinePair
scaled op p w = pair_of (apply_of op p.base w 0) (apply_of op p.stride w 0)

abbrev pub product : Option AffinePair → Option AffinePair → Option AffinePair
product (Some p) (Some q) = if eqb q.stride 0 then Some (scaled Mul p q.base) else if eqb p.stride 0 then Some (scaled Mul q p.base) else None
product _ _ = None

abbrev pub shift : Option AffinePair → Option AffinePair → Option AffinePair
shift (Some p) (Some q) = if eqb q.stride 0 then Some (scaled Shl p q.base) else None
shift _ _ = None

-- the initial word of an operand that is node v itself in the turn before
abbrev pub itself : ℕ → Option Operand → Option ℕ
itself v (Some (Edge u d init)) = if eqb u v && eqb d 1 then Some (slice_index init 0) else None
itself v _ = None

abbrev pub constant : Option Operand → Option ℕ
constant (Some (Constant c)) = Some c
constant _ = None

-- the pair of a node that begins with w and adds the constant c to itself, or subtracts it, turn by turn
abbrev pub climb : Option ℕ → Option ℕ → Option AffinePair
climb (Some w) (Some c) = Some (pair_of (apply_of Add w c 0) c)
climb _ _ = None

abbrev pub fall : Option ℕ → Option ℕ → Option AffinePair
fall (Some w) (Some c) = Some (pair_of (apply_of Sub w c 0) (apply_of Sub 0 c 0))
fall _ _ = None

-- the pair of node v, by its operation
abbrev pub pair_by : ℕ → List (Option AffinePair) → List Operand → Op → Option AffinePair
pair_by v earlier operands Iter = Some (pair_of 0 1)
pair_by v earlier operands Const = arg_pair earlier operands 0
pair_by v earlier operands Add =
    option_or (line Add (arg_pair earlier operands 0) (arg_pair earlier operands 1))
    (option_or (climb (itself v (slice_get operands 0)) (constant (slice_get operands 1))) (climb (itself v (slice_get operands 1)) (constant (slice_get operands 0))))
pair_by v earlier operands Sub =
    option_or (line Sub (arg_pair earlier operands 0) (arg_pair earlier operands 1)) (fall (itself v (slice_get operands 0)) (constant (slice_get operands 1)))
pair_by v earlier operands Mul = product (arg_pair earlier operands 0) (arg_pair earlier operands 1)
pair_by v earlier operands Shl = shift (arg_pair earlier operands 0) (arg_pair earlier operands 1)
pair_by v earlier operands _ = None

-- ---- nodes

-- the pairs of the first v nodes, in program order
unfoldable pub pairs : Kernel → ℕ → List (Option AffinePair)
pairs K zero = []
pairs K (suc v) = pairs K v ++ pair_by v (pairs K v) (node K v).operands (node K v).op ∷ []

-- the pair of node v, if it has one
abbrev pub affine_of : Kernel → ℕ → Option AffinePair
affine_of K v = slice_index_or (pairs K (size K)) v None

-- the pair of the address of an accessing node
abbrev pub address_pair : Kernel → ℕ → Option AffinePair
address_pair K v = arg_pair (pairs K v) (node K v).operands (address_arg (node K v).op)
