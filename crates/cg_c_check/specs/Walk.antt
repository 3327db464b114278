-- Walks through a source in the order of its text: each gives a value and what is known behind it, or the first fault.
use Rattle.std.specs.Prelude.{ℕ, Bool, List, [], ◌∷◌, ◌++◌, length, Ok, Err}
use Rattle.cg_c_syntax.specs.Tree.{Expr}
use Rattle.cg_c_syntax.specs.declared.expression.Named.{Named}
use Rattle.cg_c_syntax.specs.declared.statement.Signedness.{Signedness}
use Rattle.cg_c_check.specs.declared.names.Meaning.TheVariants as meanings
use Rattle.cg_c_check.specs.declared.program.Array.{Array}
use Rattle.cg_c_check.specs.Faults as faults
use Rattle.cg_c_check.specs.Faults.{Checked, demand}
use Rattle.cg_c_check.specs.Names.{Names, Meaning, declared}
use Rattle.cg_c_check.specs.Ports.{port_of}

-- the visible names; the arrays so far and the address behind them; how the declared words are read; the ports of earlier
-- inputs and outputs
pub record State : Type 0 where
  pub names : Names
  pub arrays : List Array
  pub free : ℕ
  pub words : List Signedness
  pub inputs : List ℕ
  pub outputs : List ℕ

abbrev pub Walk : Type 0 → Type 0
Walk A = State → Checked (A × State)

abbrev pub onward : {A B : Type 0} → (A → Walk B) → Checked (A × State) → Checked (B × State)
onward next (Ok r) = next r.0 r.1
onward next (Err fault) = Err fault

infixl 10 ◌>>=◌
abbrev pub ◌>>=◌ : {A B : Type 0} → Walk A → (A → Walk B) → Walk B
walk >>= next = λ s. onward next (walk s)

infixl 10 ◌>>◌
abbrev pub ◌>>◌ : {A B : Type 0} → Walk A → Walk B → Walk B
walk >> next = λ s. onward (λ _. next) (walk s)

abbrev pub give : {A : Type 0} → A → Walk A
give a = λ s. Ok (a, s)

abbrev pub with_state : {A : Type 0} → State → Checked A → Checked (A × State)
with_state s (Ok a) = Ok (a, s)
with_state s (Err fault) = Err fault

-- a step by the visible names alone
abbrev pub by_names : {A : Type 0} → (Names → Checked A) → Walk A
by_names step = λ s. with_state s (step s.names)

-- a rule
abbrev pub need : Bool → faults.CheckFault → Walk (Unit {0})
need holds fault = λ s. with_state s (demand holds fault)

abbrev pub with_names : State → Checked Names → Checked (Unit {0} × State)
with_names s (Ok names) = Ok (tt, record s { names = names })
with_names s (Err fault) = Err fault

-- a declaration
abbrev pub declares : Named → Meaning → Walk (Unit {0})
declares name meaning = λ s. with_names s (declared s.names name meaning)

abbrev pub restored : {A : Type 0} → Names → Checked (A × State) → Checked (A × State)
restored names (Ok r) = Ok (r.0, record r.1 { names = names })
restored names (Err fault) = Err fault

-- what is declared in it is visible in it alone
abbrev pub scoped : {A : Type 0} → Walk A → Walk A
scoped walk = λ s. restored s.names (walk s)

-- a name for the next word, which is known by the number of the words before it
abbrev pub declares_word : Named → Signedness → Walk ℕ
declares_word name signedness = λ s.
    (declares name (meanings.Word (length s.words) signedness) >> give (length s.words)) (record s { words = s.words ++ signedness ∷ [] })

abbrev pub with_input : State → Checked ℕ → Checked (ℕ × State)
with_input s (Ok port) = Ok (port, record s { inputs = s.inputs ++ port ∷ [] })
with_input s (Err fault) = Err fault

abbrev pub with_output : State → Checked ℕ → Checked (ℕ × State)
with_output s (Ok port) = Ok (port, record s { outputs = s.outputs ++ port ∷ [] })
with_output s (Err fault) = Err fault

-- the port of an in, and of an out
abbrev pub input_port : Expr → Walk ℕ
input_port e = λ s. with_input s (port_of s.inputs s.names e)

abbrev pub output_port : Expr → Walk ℕ
output_port e = λ s. with_output s (port_of s.outputs s.names e)
