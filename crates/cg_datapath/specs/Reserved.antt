-- Streams with the room that was reserved for them.
use Rattle.std.specs.Prelude.{◌≡◌, ℕ, suc, ◌-◌, ◌/◌, ◌%◌, ◌<◌, ◌≤◌, Bool, true, false, nat_lt, if◌then◌else◌, List, [], length, map, slice_index_or}
use Rattle.cg_model.specs.Config.{Config, fields}
use Rattle.cg_model.specs.Canonical.{gives_output}

pub record Reserved : Type 0 where
  pub words : List ℕ
  pub room : ℕ

-- the stream of a port, past the last one an empty one without room
abbrev pub stream : List Reserved → ℕ → Reserved
stream ss port = slice_index_or ss port (record { words = []; room = 0 })

-- the words of all streams
abbrev pub all_words : List Reserved → List (List ℕ)
all_words ss = map (λ s. s.words) ss

-- one of the first units sends to the port in the given slot
abbrev pub IsSentToIn : Config → ℕ → ℕ → ℕ → Type 0
IsSentToIn C units slot port =
    (x : ℕ) × (x < units) × (gives_output (fields C x slot).op ≡ true) × ((fields C x slot).port ≡ port)

-- one of the first units sends to the port in one of the first slots
abbrev pub IsSentTo : Config → ℕ → ℕ → ℕ → Type 0
IsSentTo C units slots port = (slot : ℕ) × (slot < slots) × IsSentToIn C units slot port

-- the ports that are marked are those to which the units send in one of the first slots
pub record AreMarked (C : Config) (units slots : ℕ) (used : List Bool) : Type 0 where
  pub all : (port : ℕ) → IsSentTo C units slots port → slice_index_or used port false ≡ true
  pub only : (port : ℕ) → slice_index_or used port false ≡ true → IsSentTo C units slots port

-- a stream to which the units send has room for n words, and no other has room
pub record IsReserved (C : Config) (units n : ℕ) (ss : List Reserved) : Type 0 where
  pub used : (port : ℕ) → IsSentTo C units C.ii port → (stream ss port).room ≡ n
  pub unused : (port : ℕ) → (IsSentTo C units C.ii port → ⊥) → (stream ss port).room ≡ 0

-- there is room for n words in each stream to which a unit sends
abbrev pub HaveRoom : Config → ℕ → ℕ → List Reserved → Type 0
HaveRoom C units n ss = (x slot : ℕ) → x < units → slot < C.ii → gives_output (fields C x slot).op ≡ true →
    n ≤ (stream ss (fields C x slot).port).room

-- the number of cycles below c whose slot is s
abbrev pub comings : ℕ → ℕ → ℕ → ℕ
comings ii s c = if nat_lt s (c % ii) then suc (c / ii) else c / ii

-- after c cycles each stream to which a unit sends at a slot has at most a word for each round of that slot from the
-- unit's stage on
abbrev pub HaveSent : Config → ℕ → ℕ → List Reserved → Type 0
HaveSent C units c ss = (x slot : ℕ) → x < units → slot < C.ii → gives_output (fields C x slot).op ≡ true →
    length (stream ss (fields C x slot).port).words ≤ comings C.ii slot c - (fields C x slot).stage

-- and each stream has at most one word per iteration
abbrev pub HaveFew : ℕ → List Reserved → Type 0
HaveFew n ss = (port : ℕ) → length (stream ss port).words ≤ n
