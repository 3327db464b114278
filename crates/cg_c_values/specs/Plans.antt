-- What plans and choices give.
use Rattle.std.specs.Prelude.{◌≡◌, ℕ, ◌+◌, ◌<◌, true, List, length}
use Rattle.cg_word.specs.declared.op.Op.TheVariants as ops
use Rattle.cg_word.specs.declared.op.Op.{Op}
use Rattle.cg_word.specs.Word.{words, apply_of}
use Rattle.cg_c_values.specs.Values.{Value, Fits, Moment, Words, is_plain}
pub use Rattle.cg_c_values.specs.declared.plan.Operand.{Operand}
pub use Rattle.cg_c_values.specs.declared.plan.Operand.TheVariants.{Given, Number}
pub use Rattle.cg_c_values.specs.declared.plan.Plan.{Plan}
pub use Rattle.cg_c_values.specs.declared.plan.Plan.TheVariants.{Is, Stands, Again, Outwards, Carried}
pub use Rattle.cg_c_values.specs.declared.plan.Choice.{Choice}
use Rattle.cg_c_values.specs.declared.plan.Choice.TheVariants as choices

-- ---- operands

abbrev pub operand_word : Words → Operand → ℕ
operand_word E (Given v) = E v
operand_word E (Number word) = word

abbrev pub IsOperand : ℕ → Operand → Type 0
IsOperand n (Given v) = v < n
IsOperand n (Number word) = word < words

-- ---- plans

-- the word that a plan gives
abbrev pub plan_word : Words → Plan → ℕ
plan_word E (Is operand) = operand_word E operand
plan_word E (Stands op first second) = apply_of op (E first) (operand_word E second) 0
plan_word E (Again op first second) = apply_of op (operand_word E first) (operand_word E second) 0
plan_word E (Outwards first second word) = apply_of ops.Add (apply_of ops.Add (E first) (E second) 0) word 0
plan_word E (Carried carried first second) = apply_of ops.Add (E carried) (apply_of ops.Add (E first) (E second) 0) 0

-- a plan on the first n values
abbrev pub IsPlan : ℕ → Plan → Type 0
IsPlan n (Is operand) = IsOperand n operand
IsPlan n (Stands op first second) = (is_plain op ≡ true) × (first < n) × IsOperand n second
IsPlan n (Again op first second) = (is_plain op ≡ true) × IsOperand n first × IsOperand n second
IsPlan n (Outwards first second word) = (first < n) × (second < n) × (word < words)
IsPlan n (Carried carried first second) = (carried < n) × (first < n) × (second < n)

-- a plan on the values that gives this word wherever the words fit
pub record Gives (values : List Value) (plan : Plan) (word : Words → ℕ) : Type 0 where
  pub within : IsPlan (length values) plan
  pub is : (x : Moment) (E : Words) → Fits values x E → plan_word E plan ≡ word E

-- ---- choices

-- the word that is chosen
abbrev pub chosen_word : Words → ℕ → ℕ → ℕ → ℕ
chosen_word E condition chosen other = apply_of ops.Select (E condition) (E chosen) (E other)

-- the word that a choice gives, where it was made for these operands
abbrev pub choice_word : Words → ℕ → ℕ → ℕ → Choice → ℕ
choice_word E c a b (choices.Planned plan) = plan_word E plan
choice_word E c a b (choices.Again condition chosen other) = chosen_word E condition chosen other
choice_word E c a b (choices.Step op first condition chosen other) =
    apply_of op (E first) (apply_of ops.Select (E condition) (operand_word E chosen) (operand_word E other)) 0
choice_word E c a b (choices.Stands tried) = chosen_word E c a b

-- a choice on the first n values
abbrev pub IsChoice : ℕ → Choice → Type 0
IsChoice n (choices.Planned plan) = IsPlan n plan
IsChoice n (choices.Again condition chosen other) = (condition < n) × (chosen < n) × (other < n)
IsChoice n (choices.Step op first condition chosen other) = (is_plain op ≡ true) × (first < n) × (condition < n) × IsOperand n chosen × IsOperand n other
IsChoice n (choices.Stands tried) = Unit {0}

-- a choice on the values that gives the word that is chosen wherever the words fit
pub record Chooses (values : List Value) (choice : Choice) (c a b : ℕ) : Type 0 where
  pub within : IsChoice (length values) choice
  pub is : (x : Moment) (E : Words) → Fits values x E → choice_word E c a b choice ≡ chosen_word E c a b

-- ---- orders

-- op says whether a word is below another in an order with this least and this greatest word, in which words follow
-- each other as numbers do
pub record IsOrder (op : Op) (least greatest : ℕ) : Type 0 where
  pub plain : is_plain op ≡ true
  pub one_less : (a w n : ℕ) → a < words → w < words → (w ≡ least → ⊥) → n ≡ apply_of ops.Sub w 1 0
      → apply_of op n a 0 ≡ apply_of ops.Eq (apply_of op a w 0) 0 0
  pub one_more : (w b n : ℕ) → w < words → b < words → (w ≡ greatest → ⊥) → n ≡ apply_of ops.Add w 1 0
      → apply_of op b n 0 ≡ apply_of ops.Eq (apply_of op w b 0) 0 0

-- ---- operations that 0 leaves

-- 0 as the second operand of op changes nothing
abbrev pub IsStep : Op → Type 0
IsStep op = (a : ℕ) → a < words → apply_of op a 0 0 ≡ a

-- the operands of op may be exchanged
abbrev pub Commutes : Op → Type 0
Commutes op = (a b : ℕ) → a < words → b < words → apply_of op a b 0 ≡ apply_of op b a 0

-- ---- shifts

abbrev pub IsShift : Op → Type 0
IsShift ops.Shl = Unit {0}
IsShift ops.Shr = Unit {0}
IsShift ops.Sar = Unit {0}
IsShift _ = ⊥

-- a plan on a value that gives what two shifts by less than 32 bits do, which are shifts by `bits` bits together
pub record ShiftsBy (plan : Plan) (op : Op) (first bits : ℕ) : Type 0 where
  pub within : (n : ℕ) → first < n → IsPlan n plan
  pub is : (E : Words) (b c : ℕ) → E first < words → b < 32 → c < 32 → b + c ≡ bits → plan_word E plan ≡ apply_of op (apply_of op (E first) b 0) c 0
