-- What holds of every outcome of a command.
use Rattle.std.proofs.Common.{◌≡◌, ◌⊎◌, Bool, true, false, List, [], sym, ap, ◌∙◌}
use Rattle.cg_effects.specs.declared.outcome.Status.{Status}
use Rattle.cg_effects.specs.declared.outcome.Status.TheVariants.{Done, Memory, Usage, Malformed, Impossible, ReadFault, WriteFault, BudgetSpent, No}
use Rattle.cg_effects.specs.Outcome.{Name, Outcome, names_of}
use Rattle.cg_effects.specs.Status.{leaves_all}

-- a command's own statuses: beside those of each command that of one that may say no, and those of a search
abbrev pub owns : Bool → Bool → Status → Bool
owns says_no searches Done = true
owns says_no searches Malformed = true
owns says_no searches No = says_no
owns says_no searches Impossible = searches
owns says_no searches BudgetSpent = searches
owns says_no searches Memory = false
owns says_no searches Usage = false
owns says_no searches ReadFault = false
owns says_no searches WriteFault = false

abbrev pub plain : Status → Bool
plain = owns false false

abbrev pub judging : Status → Bool
judging = owns true false

abbrev pub searching : Status → Bool
searching = owns false true

-- an outcome of a command: a status of its own, and no writes at a refusal
pub record IsSound (own_statuses : Status → Bool) (o : Outcome) : Type 0 where
  pub own : own_statuses o.status ≡ true
  pub quiet : leaves_all o.status ≡ true → o.writes ≡ []

-- a status that isn't a command's own doesn't come
pub never : (own_statuses : Status → Bool) (status : Status) (o : Outcome) → IsSound own_statuses o → own_statuses status ≡ false → o.status ≡ status → ⊥
never own_statuses status o sound other is = let z : true ≡ false = sym sound.own ∙ ap own_statuses is ∙ other in cc

-- what an outcome writes has these names, or it writes nothing
abbrev pub IsNamed : List Name → Outcome → Type 0
IsNamed outputs o = (names_of o.writes ≡ outputs) ⊎ (o.writes ≡ [])
