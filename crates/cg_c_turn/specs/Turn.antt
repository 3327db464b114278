-- What a turn of a program does.
use Rattle.std.specs.Prelude.{◌≡◌, ℕ, ◌+◌, ◌<◌, ◌≤◌, ◌==◌, if◌then◌else◌, List, [], length, Contains, Some}
use Rattle.cg_c_check.specs.declared.program.Array.{Array}
use Rattle.cg_c_check.specs.Arrays.{size_of}
use Rattle.cg_c_check.specs.Program.{Program}
use Rattle.cg_c_values.specs.Values.{Moment, Words}
use Rattle.cg_c_meaning.specs.Meaning.{State, Context}
use Rattle.cg_c_meaning.specs.Turns.{turn, turns_of}
use Rattle.cg_c_meaning.specs.Typed.{AreApart, stmts_inputs}
use Rattle.cg_c_turn.specs.Draft.{Draft}
use Rattle.cg_c_turn.specs.Leads.{Outcome, Leads}
use Rattle.cg_c_turn.specs.Stands.{AreBelow, AreReady, HasTable, IsFormed, Runs, sent_ports, word_in}

-- the memory has room for the arrays, and tables have their words
pub record HasArrays (arrays : List Array) (memory : List ℕ) : Type 0 where
  pub room : (a : Array) → Contains arrays a → a.start + size_of a.dimensions ≤ length memory
  pub tables : (a : Array) → Contains arrays a → HasTable memory a a.table

-- where no loop is around
abbrev pub outside_loops : Program → Moment → Context
outside_loops p x = record { arrays = p.arrays; streams = x.streams; counters = [] }

-- a run is where the turn begins: before the first turn each word is 0
pub record Starts (p : Program) (x : Moment) (m : Outcome) (s : State) : Type 0 where
  pub memory : s.memory ≡ m.memory
  pub outputs : (port : ℕ) → s.outputs port ≡ m.outputs port
  pub words : (number : ℕ) → s.words number ≡ (if x.turn == 0 then 0 else x.carried number)
  pub ready : AreReady x s (stmts_inputs p.body)

-- a run is where the turn has ended
pub record IsTurnEnd (d : Draft) (x : Moment) (E : Words) (s : State) (n : Outcome) : Type 0 where
  pub memory : s.memory ≡ n.memory
  pub outputs : (port : ℕ) → s.outputs port ≡ n.outputs port
  pub words : (number : ℕ) → s.words number ≡ word_in x E d number
  pub arrays : HasArrays d.arrays n.memory

-- the draft does what the program does in each of its turns, and sends to each of the 16 ports from one place at most
pub record Turns (p : Program) (d : Draft) : Type 0 where
  pub formed : IsFormed d
  pub arrays : d.arrays ≡ p.arrays
  pub sends : AreApart (sent_ports d.effects) × AreBelow 16 (sent_ports d.effects)
  pub leads : (x : Moment) (E : Words) (m : Outcome) (s end : State) → x.turn < turns_of p.levels → Runs d x E → HasArrays p.arrays m.memory → Starts p x m s →
      turn (outside_loops p x) p.levels p.body x.turn s ≡ Some (tt, end) →
      Leads p.arrays E d.effects m (IsTurnEnd d x E end)
