-- What was written and put where a command's outcome came.
use Rattle.std.proofs.Common.{◌≡◌, [], ◌∷◌, cond, Some, None, refl, ◌∙◌, ap, inl, inr}
use Rattle.std.proofs.lemmas.Slice.Eq.{bytes_eq-Decides}
use Rattle.cg_files.specs.Held.{Held, Holds, Appends}
use Rattle.cg_effects.specs.declared.outcome.Status.{Status}
use Rattle.cg_effects.specs.declared.outcome.Status.TheVariants.{Done}
use Rattle.cg_effects.specs.Outcome.{Name, Bytes}
use Rattle.cg_effects.specs.Ends.{Moment, Wrote, IsPut}

-- where the outcome is Done its report was put whole
pub whole : (status : Status) (report : Bytes) (before after : Moment) → status ≡ Done → IsPut status report before after → Appends before.taken report after.taken
whole status report before after d (inl put) = put
whole status report before after d (inr x) = absurd (x.0 d)

-- after one write its bytes are held
pub one_write : (old new : Held) (name : Name) (bytes : Bytes) → Wrote old (record { name = name; bytes = bytes } ∷ []) new → Holds new name bytes
one_write (Some old) (Some new) name bytes w = w name ∙ ap (λ b. cond b (Some bytes) (old name)) ((bytes_eq-Decides name name).1 refl)
one_write (Some old) None name bytes w = absurd w
one_write None (Some new) name bytes w = absurd w
one_write None None name bytes w = tt
