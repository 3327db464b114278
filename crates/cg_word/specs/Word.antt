-- The operations on words of 32 bits; each table has one row for each operation.
use Rattle.std.specs.Prelude.{ℕ, ◌+◌, ◌-◌, ◌*◌, ◌/◌, ◌%◌, ◌^◌, nat_lt, eqb, if◌then◌else◌, Bool, true, false, List, [], ◌∷◌, Option, find, codes, bytes_eq, bit_and, bit_or, bit_xor}
pub use Rattle.cg_word.specs.declared.op.Op.{Op}
pub use Rattle.cg_word.specs.declared.op.Op.TheVariants.{Const, Iter, Input, Add, Sub, Mul, And, Or, Xor, Shl, Shr, Sar, Eq, Ne, Lts, Ltu, Mins, Maxs, Select, Load, Store, Output, LoadIf, StoreIf, OutputIf}

-- all operations, in the order of their codes
abbrev pub all_ops : List Op
all_ops = Const ∷ Iter ∷ Input ∷ Add ∷ Sub ∷ Mul ∷ And ∷ Or ∷ Xor ∷ Shl ∷ Shr ∷ Sar ∷ Eq ∷ Ne ∷ Lts ∷ Ltu ∷ Mins ∷ Maxs ∷ Select ∷ Load ∷ Store ∷ Output ∷ LoadIf ∷ StoreIf ∷ OutputIf ∷ []

-- the code of an operation, from 1 on
abbrev pub code : Op → ℕ
code Const = 1
code Iter = 2
code Input = 3
code Add = 4
code Sub = 5
code Mul = 6
code And = 7
code Or = 8
code Xor = 9
code Shl = 10
code Shr = 11
code Sar = 12
code Eq = 13
code Ne = 14
code Lts = 15
code Ltu = 16
code Mins = 17
code Maxs = 18
code Select = 19
code Load = 20
code Store = 21
code Output = 22
code LoadIf = 23
code StoreIf = 24
code OutputIf = 25

-- its name
abbrev pub name_of : Op → List ℕ
name_of Const = codes "const"
name_of Iter = codes "iter"
name_of Input = codes "input"
name_of Add = codes "add"
name_of Sub = codes "sub"
name_of Mul = codes "mul"
name_of And = codes "and"
name_of Or = codes "or"
name_of Xor = codes "xor"
name_of Shl = codes "shl"
name_of Shr = codes "shr"
name_of Sar = codes "sar"
name_of Eq = codes "eq"
name_of Ne = codes "ne"
name_of Lts = codes "lts"
name_of Ltu = codes "ltu"
name_of Mins = codes "mins"
name_of Maxs = codes "maxs"
name_of Select = codes "select"
name_of Load = codes "load"
name_of Store = codes "store"
name_of Output = codes "output"
name_of LoadIf = codes "loadif"
name_of StoreIf = codes "storeif"
name_of OutputIf = codes "outputif"

-- the number of its operands
abbrev pub arity : Op → ℕ
arity Const = 1
arity Iter = 0
arity Input = 0
arity Add = 2
arity Sub = 2
arity Mul = 2
arity And = 2
arity Or = 2
arity Xor = 2
arity Shl = 2
arity Shr = 2
arity Sar = 2
arity Eq = 2
arity Ne = 2
arity Lts = 2
arity Ltu = 2
arity Mins = 2
arity Maxs = 2
arity Select = 3
arity Load = 1
arity Store = 2
arity Output = 1
arity LoadIf = 2
arity StoreIf = 3
arity OutputIf = 2

-- the operation with that code
unfoldable pub op_of : ℕ → Option Op
op_of c = find (λ op. eqb (code op) c) all_ops

-- the operation of that name
unfoldable pub op_named : List ℕ → Option Op
op_named name = find (λ op. bytes_eq (name_of op) name) all_ops

-- the operations that act only where their first operand, the guard, isn't 0
abbrev pub is_guarded : Op → Bool
is_guarded LoadIf = true
is_guarded StoreIf = true
is_guarded OutputIf = true
is_guarded _ = false

-- the operations that access the scratchpad memory
abbrev pub is_access : Op → Bool
is_access Load = true
is_access Store = true
is_access LoadIf = true
is_access StoreIf = true
is_access _ = false

-- the operations that write it
abbrev pub is_store : Op → Bool
is_store Store = true
is_store StoreIf = true
is_store _ = false

-- the operations that append to a stream
abbrev pub is_output : Op → Bool
is_output Output = true
is_output OutputIf = true
is_output _ = false

-- the operations with a value that data edges may carry
abbrev pub has_value : Op → Bool
has_value Store = false
has_value Output = false
has_value StoreIf = false
has_value OutputIf = false
has_value _ = true

-- the operations that name a stream's port
abbrev pub has_port : Op → Bool
has_port Input = true
has_port Output = true
has_port OutputIf = true
has_port _ = false

-- which operand is the address
abbrev pub address_arg : Op → ℕ
address_arg LoadIf = 1
address_arg StoreIf = 1
address_arg _ = 0

-- which operand is stored or appended: the last one
abbrev pub last_arg : Op → ℕ
last_arg Output = 0
last_arg StoreIf = 2
last_arg _ = 1

-- the number of words of 32 bits
abbrev pub words : ℕ
words = 2 ^ 32

-- a word's rank in the signed order, counted from the least word
abbrev pub rank : ℕ → ℕ
rank a = (a + 2 ^ 31) % words

-- 1 for true, 0 for false
abbrev pub one_if : Bool → ℕ
one_if b = if b then 1 else 0

-- shifted right by k bits, with the sign bit shifted in
abbrev pub sar : ℕ → ℕ → ℕ
sar a k = if nat_lt a (2 ^ 31) then a / 2 ^ k else words - 1 - (words - 1 - a) / 2 ^ k

-- the value of an operation that needs only its operands; 0 for the others
unfoldable pub apply_of : Op → ℕ → ℕ → ℕ → ℕ
apply_of Const a b c = a
apply_of Iter a b c = 0
apply_of Input a b c = 0
apply_of Add a b c = (a + b) % words
apply_of Sub a b c = (a + words - b) % words
apply_of Mul a b c = (a * b) % words
apply_of And a b c = bit_and a b
apply_of Or a b c = bit_or a b
apply_of Xor a b c = bit_xor a b
apply_of Shl a b c = (a * 2 ^ (b % 32)) % words
apply_of Shr a b c = a / 2 ^ (b % 32)
apply_of Sar a b c = sar a (b % 32)
apply_of Eq a b c = one_if (eqb a b)
apply_of Ne a b c = if eqb a b then 0 else 1
apply_of Lts a b c = one_if (nat_lt (rank a) (rank b))
apply_of Ltu a b c = one_if (nat_lt a b)
apply_of Mins a b c = if nat_lt (rank b) (rank a) then b else a
apply_of Maxs a b c = if nat_lt (rank a) (rank b) then b else a
apply_of Select a b c = if nat_lt 0 a then b else c
apply_of Load a b c = 0
apply_of Store a b c = 0
apply_of Output a b c = 0
apply_of LoadIf a b c = 0
apply_of StoreIf a b c = 0
apply_of OutputIf a b c = 0
