-- The observable state of a store in memory.
use Rattle.std.specs.Prelude.{◌≡◌, ℕ, List, Option, option_map, map, string_bytes}
use Rattle.std.specs.BTreeMap.{get_by_text}
use Rattle.cg_files.specs.Calls.{IsListed}
use Rattle.cg_files.specs.declared.memory.MemStore.{MemStore}

-- the bytes held under each name
abbrev pub files_of : MemStore → List ℕ → Option (List ℕ)
files_of store name = option_map (λ v. v.items) (get_by_text store.files name)

-- the number of counted calls
abbrev pub calls_of : MemStore → ℕ
calls_of store = store.calls.made

-- the numbers of the calls that are to fail
abbrev pub failing_of : MemStore → List ℕ
failing_of store = store.calls.failing.items

-- the number of reads that failed as requested
abbrev pub read_faults_of : MemStore → ℕ
read_faults_of store = store.read_faults

-- the number of writes that failed as requested
abbrev pub write_faults_of : MemStore → ℕ
write_faults_of store = store.write_faults

-- the names of the reads, in order
abbrev pub asked_of : MemStore → List (List ℕ)
asked_of store = map string_bytes store.asked.items

-- the names of the writes, in order
abbrev pub wrote_of : MemStore → List (List ℕ)
wrote_of store = map string_bytes store.wrote.items

-- the next call is to fail
abbrev pub FailsNext : MemStore → Type 0
FailsNext store = IsListed (failing_of store) (calls_of store)

-- no call was made
pub record SameCalls (old new : MemStore) : Type 0 where
  pub calls : calls_of new ≡ calls_of old
  pub read_faults : read_faults_of new ≡ read_faults_of old
  pub write_faults : write_faults_of new ≡ write_faults_of old
  pub asked : asked_of new ≡ asked_of old
  pub wrote : wrote_of new ≡ wrote_of old
