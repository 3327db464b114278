-- How a call that has an outcome may end, in terms of the store and the sink before and after.
use Rattle.std.specs.Prelude.{◌≡◌, ◌≢◌, ℕ, List, [], ◌∷◌, ◌++◌, Option, Some, None, ◌⊎◌, if◌then◌else◌, bytes_eq}
use Rattle.cg_files.specs.Causes.{Rose}
use Rattle.cg_files.specs.Held.{Held, Appends, AppendsSome}
use Rattle.cg_effects.specs.declared.outcome.Status.{Status}
use Rattle.cg_effects.specs.declared.outcome.Status.TheVariants.{Done, Memory, WriteFault}
use Rattle.cg_effects.specs.Outcome.{Name, Bytes, File, Outcome}

-- the observable state of store and sink at a moment
pub record Moment : Type 0 where
  pub held : Held
  pub read_faults : ℕ
  pub write_faults : ℕ
  pub taken : Option Bytes
  pub faults : ℕ

-- the moment with these five components
abbrev pub moment : Held → ℕ → ℕ → Option Bytes → ℕ → Moment
moment held read_faults write_faults taken faults =
    record {
      held = held;
      read_faults = read_faults;
      write_faults = write_faults;
      taken = taken;
      faults = faults;
    }

-- what is held after these writes, made one after the other
abbrev pub written : (Name → Option Bytes) → List File → Name → Option Bytes
written old [] = old
written old (file ∷ files) =
    written (λ name. if bytes_eq name file.name then Some file.bytes else old name) files

-- all of the writes were made, and no others
abbrev pub Wrote : Held → List File → Held → Type 0
Wrote (Some old) files (Some new) = (name : Name) → new name ≡ written old files name
Wrote None files None = Unit {0}
Wrote (Some old) files None = ⊥
Wrote None files (Some new) = ⊥

-- a prefix of the writes was made, and no others
pub record WrotePart (old : Held) (files : List File) (new : Held) : Type 0 where
  pub done : List File
  pub rest : List File
  pub parts : files ≡ done ++ rest
  pub wrote : Wrote old done new

-- each name except this one holds what these writes leave under it
abbrev pub WroteBut : Name → Held → List File → Held → Type 0
WroteBut name (Some old) files (Some new) =
    (other : Name) → other ≢ name → new other ≡ written old files other
WroteBut name None files None = Unit {0}
WroteBut name (Some old) files None = ⊥
WroteBut name None files (Some new) = ⊥

-- one of the writes failed: those before it were made, and what is held under its name is unspecified
pub record FailedAt (old : Held) (files : List File) (new : Held) : Type 0 where
  pub done : List File
  pub failed : File
  pub rest : List File
  pub parts : files ≡ done ++ failed ∷ rest
  pub wrote : WroteBut failed.name old done new

-- the report was put; the report of a refusal possibly in part, where its put failed
abbrev pub IsPut : Status → Bytes → Moment → Moment → Type 0
IsPut status report before after = Appends before.taken report after.taken
    ⊎ ((status ≢ Done) × Rose before.faults after.faults × AppendsSome before.taken report after.taken)

-- the call ends as its outcome says
pub record Completed (outcome : Outcome) (before after : Moment) (status : Status) : Type 0 where
  pub status_is : status ≡ outcome.status
  pub held : Wrote before.held outcome.writes after.held
  pub put : IsPut outcome.status outcome.report before after
  -- where it writes nothing, no write call failed, since none was made
  pub no_write : outcome.writes ≡ [] → after.write_faults ≡ before.write_faults
  -- where its report is empty, the sink is as before, since no put was made
  pub no_put : outcome.report ≡ [] → (after.taken ≡ before.taken) × (after.faults ≡ before.faults)

-- a write failed, and no report was put
pub record WriteFailed (outcome : Outcome) (before after : Moment) (status : Status) : Type 0 where
  pub status_is : status ≡ WriteFault
  pub cause : Rose before.write_faults after.write_faults
  pub held : FailedAt before.held outcome.writes after.held
  pub put : after.taken ≡ before.taken

-- all files were written, and the put of the report failed
pub record PutFailed (outcome : Outcome) (before after : Moment) (status : Status) : Type 0 where
  pub status_is : status ≡ WriteFault
  pub was : outcome.status ≡ Done
  pub report : outcome.report ≢ []
  pub cause : Rose before.faults after.faults
  pub held : Wrote before.held outcome.writes after.held
  pub put : AppendsSome before.taken outcome.report after.taken

-- memory ran out: a prefix of the writes was made, and no report was put
pub record RanOutOfMemory (outcome : Outcome) (before after : Moment) (status : Status) : Type 0 where
  pub status_is : status ≡ Memory
  pub held : WrotePart before.held outcome.writes after.held
  pub put : after.taken ≡ before.taken

-- the ways in which a call with this outcome ends
abbrev pub Finished : Outcome → Moment → Moment → Status → Type 0
Finished outcome before after status = Completed outcome before after status
    ⊎ (WriteFailed outcome before after status
    ⊎ (PutFailed outcome before after status ⊎ RanOutOfMemory outcome before after status))

-- the ways in which the put of a report with this status ends
abbrev pub Reported : Status → Bytes → Option Bytes → ℕ → Option Bytes → ℕ → Status → Type 0
Reported was report old faults new now status =
    ((status ≡ was)
    × (Appends old report new ⊎ ((was ≢ Done) × Rose faults now × AppendsSome old report new)))
    ⊎ (((status ≡ WriteFault) × (was ≡ Done) × (report ≢ []) × Rose faults now
    × AppendsSome old report new)
    ⊎ ((status ≡ Memory) × (new ≡ old)))
