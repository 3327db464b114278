-- The sequential meaning of a kernel: all nodes of the first turn in program order, then those of the second, and so
-- on. It is independent of arrays.
use Rattle.std.specs.Prelude.{ℕ, zero, suc, ◌+◌, ◌-◌, ◌*◌, ◌/◌, ◌%◌, nat_lt, if◌then◌else◌, List, [], ◌∷◌, ◌++◌, length, map, slice_index}
use Rattle.cg_model.specs.Work.{Image, Work, Left, left, value, stored, sent, missed}
use Rattle.cg_model.specs.Kernel.{Kernel, Node, Operand, Constant, Edge, size, node}

-- the effects of the steps so far; a step is one node in one turn
pub record Progress : Type 0 where
  pub values : List ℕ  -- the value of each step, in order
  pub memory : List ℕ
  pub streams : ℕ → List ℕ  -- the output streams, by port
  pub outside : ℕ

-- an operand in turn i: the constant, or by an edge from u of distance d the initial word number i
-- where i < d, else the value of u in turn i - d; `earlier` gives the value of a node in a turn
abbrev pub operand : (ℕ → ℕ → ℕ) → ℕ → Operand → ℕ
operand earlier i (Constant w) = w
operand earlier i (Edge u d init) = if nat_lt i d then slice_index init i else earlier u (i - d)

-- what node v does in turn i
abbrev pub work_of : Node → ℕ → (ℕ → ℕ → ℕ) → Work
work_of v i earlier = record { op = v.op; port = v.port; turn = i; args = map (operand earlier i) v.operands }

-- step k is node k % m of turn k / m, for a kernel of m nodes
abbrev pub work_at : Kernel → ℕ → List ℕ → Work
work_at K k values = work_of (node K (k % size K)) (k / size K) (λ u j. slice_index values (j * size K + u))

-- the progress after one more step, which does w: the value and the store see the memory before the step
abbrev pub after : Image → Work → Progress → Progress
after image w p =
    record {
      values = p.values ++ value image p.memory w ∷ [];
      memory = stored p.memory w;
      streams = λ port. p.streams port ++ sent port w;
      outside = p.outside + missed (length p.memory) w;
    }

-- the progress before step k: at first the image's memory, empty streams and no access outside
unfoldable pub before : Kernel → Image → ℕ → Progress
before K image zero = record { values = []; memory = image.memory; streams = λ port. []; outside = 0 }
before K image (suc k) = after image (work_at K k (before K image k).values) (before K image k)

-- what step k does
abbrev pub work : Kernel → Image → ℕ → Work
work K image k = work_at K k (before K image k).values

-- the value of node v in turn i
abbrev pub val : Kernel → Image → ℕ → ℕ → ℕ
val K image v i = value image (before K image (i * size K + v)).memory (work K image (i * size K + v))

-- the progress after n turns
abbrev pub turns : Kernel → ℕ → Image → Progress
turns K n image = before K image (n * size K)

-- what n turns leave
abbrev pub turns_left : Kernel → ℕ → Image → Left
turns_left K n image = left (turns K n image).memory (turns K n image).streams (turns K n image).outside
