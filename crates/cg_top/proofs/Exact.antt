-- Over files that are told the status is determined, but for faults and running out of memory.
use Rattle.std.proofs.Common.{◌≡◌, List, All, Option, Some, None, sym, ◌∙◌, ap, subst, ◌⊎◌, inl, inr}
use Rattle.cg_files.specs.Causes.{Rose}
use Rattle.cg_effects.specs.declared.outcome.Status.{Status}
use Rattle.cg_effects.specs.declared.outcome.Status.TheVariants.{Memory, ReadFault, WriteFault}
use Rattle.cg_effects.specs.Outcome.{Name, Bytes, File, Outcome}
use Rattle.cg_effects.specs.Reads.{IsRead, read_fault_of, too_long_of}
use Rattle.cg_effects.specs.Ends.{Moment, Finished}
use Rattle.cg_effects.proofs.Reading.{Reading, all, missing, longer, reading, reads_all, stops}
use Rattle.cg_command.specs.Command.{inputs_of}
use Rattle.cg_command.specs.Files.{names_only}
use Rattle.cg_command.specs.Words.{plan_of}
use Rattle.cg_command.specs.declared.command.Command.{Command}
use Rattle.cg_commands.specs.Commands.{IsAnswer, AgreeIn}
use Rattle.cg_top.proofs.Planned.{is_outcome}
use Rattle.cg_top.proofs.Contents.{held_file, contents, names_read, same_contents}
use Rattle.cg_top.specs.TopCall.{IsPlanned, Ends, Agrees, IsExact}
use Rattle.cg_commands.proofs.Commands.{agree_in, agree_kept, equal}

-- what the told reading leads to
abbrev pub IsOf : (Name → Option Bytes) → Command Name Name → Reading → Outcome → Type 0
IsOf files plan (all fs) o = IsAnswer (contents files plan) o
IsOf files plan (missing n) o = o ≡ read_fault_of n
IsOf files plan (longer n) o = o ≡ too_long_of n

agree_of : (files : Name → Option Bytes) (plan : Command Name Name) (r : Reading) (a b : Outcome) → IsOf files plan r a → IsOf files plan r b → AgreeIn plan a.status b.status
agree_of files plan (all fs) a b p q = agree_kept (held_file files) (λ (name : Name). name) plan a.status b.status (agree_in (contents files plan) a b p q)
agree_of files plan (missing n) a b p q = equal plan a.status b.status (ap (λ o. o.status) (p ∙ sym q))
agree_of files plan (longer n) a b p q = equal plan a.status b.status (ap (λ o. o.status) (p ∙ sym q))

-- where all input files were read, their names give them
pub all_told : (files : Name → Option Bytes) (c : Command File Name) → All (IsRead (Some files)) (inputs_of c) → reading files (inputs_of (names_only c)) ≡ all (inputs_of c)
all_told files c each = reads_all files (inputs_of (names_only c)) (inputs_of c) (names_read (Some files) c each)

told_all : (files : Name → Option Bytes) (c : Command File Name) (o : Outcome) → All (IsRead (Some files)) (inputs_of c) → IsAnswer c o → IsOf files (names_only c) (reading files (inputs_of (names_only c))) o
told_all files c o each answer =
    subst (λ r. IsOf files (names_only c) r o) (sym (all_told files c each)) (subst (λ z. IsAnswer z o) (sym (same_contents files c each)) answer)

pub told : (files : Name → Option Bytes) (rose : Type 0) (plan : Command Name Name) (o : Outcome) → IsPlanned (Some files) rose (Some plan) o
    → (rose × (o.status ≡ ReadFault)) ⊎ IsOf files plan (reading files (inputs_of plan)) o
told files rose plan o (inl a) = inr (subst (λ p. IsOf files p (reading files (inputs_of p)) o) a.named (told_all files a.command o a.read a.answer))
told files rose plan o (inr s) = elim (stops files rose (inputs_of plan) o s) [
  | inl p ↦ inl (p.0, ap (λ x. x.status) p.1.1)
  | inr q ↦ inr (elim q [ inl m ↦ rw m.1 m.2 | inr l ↦ rw l.1 l.2 ])
]

-- the status of the outcome that came agrees with that of the one that is defined, or a read failed
settled : (p : Option (Command Name Name)) (files : Name → Option Bytes) (rose : Type 0) (a o : Outcome) → IsPlanned (Some files) rose p a → IsPlanned (Some files) ⊥ p o
    → (rose × (a.status ≡ ReadFault)) ⊎ Agrees p a.status o.status
settled None files rose a o p q = inr (ap (λ x. x.status) (p ∙ sym q))
settled (Some plan) files rose a o p q = elim (told files rose plan a p) [
  | inl f ↦ inl f
  | inr x ↦ elim (told files ⊥ plan o q) [ inl f ↦ absurd f.0 | inr y ↦ inr (agree_of files plan (reading files (inputs_of plan)) a o x y) ]
]

pub exact : (words : List Name) (before after : Moment) (status : Status) → Ends words before after status → IsExact words before after status
exact words before after status (inr g) files o held d = inr (inl g.status_is)
exact words before after status (inl e) files o held d = finished e.finished
  where
    is : (Rose before.read_faults after.read_faults × (e.outcome.status ≡ ReadFault)) ⊎ Agrees (plan_of words) e.outcome.status o.status
    is = settled (plan_of words) files (Rose before.read_faults after.read_faults) e.outcome o (rw held at (is_outcome words before after status e)) d

    finished : Finished e.outcome before after status → Agrees (plan_of words) status o.status ⊎ ((status ≡ Memory)
        ⊎ (((status ≡ ReadFault) × Rose before.read_faults after.read_faults)
        ⊎ ((status ≡ WriteFault) × (Rose before.write_faults after.write_faults ⊎ Rose before.faults after.faults))))
    finished (inl y) = elim is [ inl f ↦ inr (inr (inl (y.status_is ∙ f.1, f.0))) | inr s ↦ inl (subst (λ z. Agrees (plan_of words) z o.status) (sym y.status_is) s) ]
    finished (inr (inl y)) = inr (inr (inr (y.status_is, inl y.cause)))
    finished (inr (inr (inl y))) = inr (inr (inr (y.status_is, inr y.cause)))
    finished (inr (inr (inr y))) = inr (inl y.status_is)
