-- A kernel of which an operand or the text of a node is set.
use Rattle.std.specs.Prelude.{◌≡◌, ℕ, ◌<◌, ◌≤◌, true, List, length, Some, slice_get, slice_index, slice_set, false}
use Rattle.cg_word.specs.Word.{arity, has_port, has_value, is_output, words}
use Rattle.cg_word.specs.declared.op.Op.{Op}
use Rattle.cg_model.specs.Limits.{last_port, most_distance}
use Rattle.cg_model.specs.declared.kernel.Operand.{Operand}
use Rattle.cg_model.specs.declared.kernel.Operand.TheVariants.{Const as Constant, Edge}
use Rattle.cg_model.specs.Kernel.{Kernel, HasOperand, size, node}

-- K, but that operand p of node v is o
abbrev pub with_operand : Kernel → ℕ → ℕ → Operand → Kernel
with_operand K v p o =
    record {
      nodes = slice_set K.nodes v (record (node K v) { operands = slice_set (node K v).operands p o });
      order = K.order;
    }

-- K, but that node v has this operation, port and operands
abbrev pub with_text : Kernel → ℕ → Op → ℕ → List Operand → Kernel
with_text K v op port operands =
    record {
      nodes = slice_set K.nodes v (record (node K v) { op = op; port = port; operands = operands });
      order = K.order;
    }

-- the constant c is a word, and no operand of node v but p is a constant
pub record FitsConstant (K : Kernel) (v p c : ℕ) : Type 0 where
  pub word : c < words
  pub alone : (q b : ℕ) → HasOperand K v q (Constant b) → q ≡ p

-- u is a node with a value, earlier than v if the distance d is 0; d is at most 4, and there are d initial words
pub record FitsEdge (K : Kernel) (v u d : ℕ) (init : List ℕ) : Type 0 where
  pub known : u < size K
  pub valued : has_value (node K u).op ≡ true
  pub earlier : d ≡ 0 → u < v
  pub near : d ≤ most_distance
  pub long : length init ≡ d
  pub init_words : (k : ℕ) → slice_index init k < words

-- a valid kernel K stays valid if operand p of node v becomes the given operand
abbrev pub Fits : Kernel → ℕ → ℕ → Operand → Type 0
Fits K v p (Constant c) = FitsConstant K v p c
Fits K v p (Edge u d init) = FitsEdge K v u d init

-- a valid kernel K stays valid if node v gets this operation, port and operands: as many as the operation takes, at most
-- one of them a constant; it has a value if it had one, and is an output only where it was one, at the same port
pub record FitsText (K : Kernel) (v : ℕ) (op : Op) (port : ℕ) (operands : List Operand) : Type 0 where
  pub long : length operands ≡ arity op
  pub valued : has_value (node K v).op ≡ true → has_value op ≡ true
  pub edges : (p u d : ℕ) (init : List ℕ) → slice_get operands p ≡ Some (Edge u d init) → FitsEdge K v u d init
  pub constants : (p c : ℕ) → slice_get operands p ≡ Some (Constant c) → c < words
  pub one_constant : (p q a b : ℕ) → slice_get operands p ≡ Some (Constant a) →
      slice_get operands q ≡ Some (Constant b) → p ≡ q
  pub port_small : port ≤ last_port
  pub no_port : has_port op ≡ false → port ≡ 0
  pub output : is_output op ≡ true → (is_output (node K v).op ≡ true) × (port ≡ (node K v).port)
