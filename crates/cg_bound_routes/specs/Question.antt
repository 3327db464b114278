-- Questions about an architecture: the least number of registers on a way between units that offer two operations.
use Rattle.std.specs.Prelude.{◌≡◌, ◌≢◌, ℕ, ◌<◌, ◌≤◌, ◌↔◌, ⊤, nat_lt, if◌then◌else◌, List, [], length, slice_index_or, Contains, Option, Some, None, slice_get}
use Rattle.cg_word.specs.declared.op.Op.{Op}
use Rattle.cg_model.specs.declared.kernel.Operand.TheVariants.{Edge}
use Rattle.cg_model.specs.Kernel.{Kernel, HasOperand, node}
use Rattle.cg_model.specs.Array.{Arch, unit}
use Rattle.cg_bound_routes.specs.declared.question.Ends.{Ends}
use Rattle.cg_bound_routes.specs.declared.question.Ends.TheVariants.{Any, One, Apart}
use Rattle.cg_bound_routes.specs.declared.question.Question.{Question}
use Rattle.cg_bound_routes.specs.declared.answers.Answer.{Answer}
use Rattle.cg_bound_routes.specs.Ways.{Offers, IsWay, HasWay}
use Rattle.cg_bound_routes.specs.Search.{IsFound}

-- units x and y satisfy the condition: any units, one unit, or two units
abbrev pub AreEnds : Ends → ℕ → ℕ → Type 0
AreEnds Any x y = ⊤
AreEnds One x y = x ≡ y
AreEnds Apart x y = x ≢ y

-- there is a way of n registers from the out of a unit that offers one operation to the port of a unit that offers the
-- other, and the units satisfy the question's condition
abbrev pub IsAskedWay : Arch → Question → ℕ → Type 0
IsAskedWay A q n =
    (x : ℕ) × (y : ℕ) × Offers A x q.from × Offers A y q.to × AreEnds q.ends x y × IsWay A x y q.arg n

-- the given number answers the question
abbrev pub IsAnswer : Arch → Question → Option ℕ → Type 0
IsAnswer A q hops = IsFound A (IsAskedWay A q) hops

-- the same units offer operations a and b
abbrev pub AreAlike : Arch → Op → Op → Type 0
AreAlike A a b = (x : ℕ) → (Offers A x a → Offers A x b) × (Offers A x b → Offers A x a)

-- each answer that is kept is right
abbrev pub AreAnswers : Arch → List Answer → Type 0
AreAnswers A answers = (a : Answer) → Contains answers a → IsAnswer A a.question a.hops

-- the outs of those of the first `count` units that offer an operation and satisfy the condition with unit y
pub record AreOuts (A : Arch) (op : Op) (ends : Ends) (y count : ℕ) (list : List ℕ) : Type 0 where
  pub all : (x : ℕ) → x < count → Contains (unit A x).ops op → AreEnds ends x y → Contains list (unit A x).out
  pub only : (r : ℕ) → Contains list r →
      (x : ℕ) × (x < count) × Contains (unit A x).ops op × AreEnds ends x y × ((unit A x).out ≡ r)

-- the ports of number `arg` of those of the first `count` units that offer an operation
pub record ArePorts (A : Arch) (op : Op) (arg count : ℕ) (list : List ℕ) : Type 0 where
  pub all : (y r : ℕ) → y < count → Contains (unit A y).ops op → slice_get (unit A y).ports arg ≡ Some r → Contains list r
  pub only : (r : ℕ) → Contains list r → (y : ℕ) × (y < count) × Contains (unit A y).ops op × (slice_get (unit A y).ports arg ≡ Some r)

-- there is a way of n registers for a question to the port of unit y
abbrev pub IsAskedWayTo : Arch → Question → ℕ → ℕ → Type 0
IsAskedWayTo A q y n = Contains (unit A y).ops q.to × ((x : ℕ) × Offers A x q.from × AreEnds q.ends x y × IsWay A x y q.arg n)

-- there is a way of n registers for a question to the port of one of the first `count` units
abbrev pub HasAskedWay : Arch → Question → ℕ → ℕ → Type 0
HasAskedWay A q count n = (y : ℕ) × (y < count) × IsAskedWayTo A q y n

-- a lower bound of the ways for a question; if it is None, there is no way
abbrev pub IsFloor : Arch → Question → Option ℕ → Type 0
IsFloor A q None = (n : ℕ) → IsAskedWay A q n → ⊥
IsFloor A q (Some least) = (n : ℕ) → IsAskedWay A q n → least ≤ n

-- the lesser of two numbers if both exist, else the one that exists
abbrev pub lesser : Option ℕ → Option ℕ → Option ℕ
lesser None b = b
lesser (Some a) None = Some a
lesser (Some a) (Some b) = if nat_lt b a then Some b else Some a

-- units x and y may hold nodes u and v at interval ii: they are one unit if u is v, and two if it isn't and the
-- interval is 1
abbrev pub MayBeEnds : ℕ → ℕ → ℕ → ℕ → ℕ → Type 0
MayBeEnds ii u v x y = (u ≡ v → x ≡ y) × (ii ≡ 1 → x ≡ y → u ≡ v)

-- the question of operand number p of node v at interval ii, which is an edge
pub record IsQuestionOf (K : Kernel) (ii v p : ℕ) (q : Question) : Type 0 where
  pub source : ℕ
  pub distance : ℕ
  pub init : List ℕ
  pub operand : HasOperand K v p (Edge source distance init)
  pub from : q.from ≡ (node K source).op
  pub to : q.to ≡ (node K v).op
  pub arg : q.arg ≡ p
  pub ends : (x y : ℕ) → AreEnds q.ends x y ↔ MayBeEnds ii source v x y

-- operand number p of node v isn't an edge
abbrev pub IsNoEdge : Kernel → ℕ → ℕ → Type 0
IsNoEdge K v p = (u d : ℕ) (init : List ℕ) → HasOperand K v p (Edge u d init) → ⊥

-- the result for operand number p of node v at interval ii
abbrev pub AreFoundHops : Arch → Kernel → ℕ → ℕ → ℕ → Option ℕ → Type 0
AreFoundHops A K ii v p hops = IsFound A (HasWay A K ii v p) hops

-- the numbers for the first p operands of node v
pub record IsRowTo (A : Arch) (K : Kernel) (ii v p : ℕ) (row : List (Option ℕ)) : Type 0 where
  pub each : length row ≡ p
  pub tables : (i : ℕ) → i < p → AreFoundHops A K ii v i (slice_index_or row i None)

-- the numbers for all operands of node v
abbrev pub IsRow : Arch → Kernel → ℕ → ℕ → List (Option ℕ) → Type 0
IsRow A K ii v row = (p : ℕ) → AreFoundHops A K ii v p (slice_index_or row p None)

-- the rows of the first v nodes
pub record AreRowsTo (A : Arch) (K : Kernel) (ii v : ℕ) (rows : List (List (Option ℕ))) : Type 0 where
  pub each : length rows ≡ v
  pub right : (w : ℕ) → w < v → IsRow A K ii w (slice_index_or rows w [])
