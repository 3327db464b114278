-- The watched accesses, step by step.
use Rattle.std.specs.Prelude.{◌≡◌, ℕ, ◌<◌, ◌⊎◌, false, length, replicate, Option, Some, None, slice_index_or}
use Rattle.std.specs.List.{list_any}
use Rattle.cg_word.specs.Word.{is_store}
use Rattle.cg_model.specs.declared.kernel.Node.{Node}
use Rattle.cg_model.specs.Kernel.{Kernel, node}
use Rattle.cg_model.specs.Work.{Image, Work, Reaches}
use Rattle.cg_turns.specs.declared.pair.Access.{Access}
use Rattle.cg_turns.specs.declared.watch.Watch.{Watch}
use Rattle.cg_turns.specs.Trace.{Kept, nothing_kept, IsTrace, IsPairSoFar, Keeps, IsCompared}

-- no node is a store
abbrev pub HasNoStore : Kernel → Type 0
HasNoStore K = list_any (λ (v : Node). is_store v.op) K.nodes ≡ false

-- the accesses to a word that are kept
abbrev pub word_of : Watch → ℕ → Kept
word_of w a = slice_index_or w.words.items a nothing_kept

-- before the first step: no accesses to each word of a memory, and no words where no node is a store
pub record IsUnwatched (K : Kernel) (size : ℕ) (w : Watch) : Type 0 where
  pub long : (length w.words.items ≡ size) ⊎ HasNoStore K
  pub words : w.words.items ≡ replicate (length w.words.items) nothing_kept
  pub pair : w.pair ≡ None

-- before a step: the first unordered pair, and the kept accesses to each word until there is a pair
pub record IsWatched (K : Kernel) (image : Image) (steps : ℕ) (w : Watch) : Type 0 where
  pub long : (length w.words.items ≡ length image.memory) ⊎ HasNoStore K
  pub traces : w.pair ≡ None → (a : ℕ) → a < length w.words.items → a < length image.memory → IsTrace K image steps a (word_of w a)
  pub pair : IsPairSoFar K image steps w.pair

-- an access to the word a was watched
pub record Watches (K : Kernel) (a : ℕ) (x : Access) (old new : Watch) : Type 0 where
  pub long : length new.words.items ≡ length old.words.items
  pub here : Keeps (is_store (node K x.node).op) x (word_of old a) (word_of new a)
  pub others : (b : ℕ) → (b ≡ a → ⊥) → word_of new b ≡ word_of old b
  pub pair : IsCompared K (is_store (node K x.node).op) x (word_of old a) new.pair

-- no pair is known, and the word a is one of those watched
abbrev pub IsOpen : Watch → ℕ → Type 0
IsOpen w a = (w.pair ≡ None) × (a < length w.words.items)

-- an access to the word a was watched, if a is open
abbrev pub WatchesWord : Kernel → ℕ → Access → Watch → Watch → Type 0
WatchesWord K a x old new = (IsOpen old a → Watches K a x old new) × ((IsOpen old a → ⊥) → new ≡ old)

-- a step was watched, which accesses at most one word
abbrev pub WatchesStep : Kernel → Option ℕ → Access → Watch → Watch → Type 0
WatchesStep K None x old new = new ≡ old
WatchesStep K (Some a) x old new = WatchesWord K a x old new

-- the word of a memory of `size` words that an operation accesses, None where it accesses none
abbrev pub IsReached : ℕ → Work → Option ℕ → Type 0
IsReached size w None = (a : ℕ) → a < size → Reaches w a → ⊥
IsReached size w (Some a) = (a < size) × Reaches w a
