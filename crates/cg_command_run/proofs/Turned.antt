-- The report of turns that were run.
use Rattle.std.proofs.Common.{◌≡◌, ℕ, List, ap, ◌∙◌}
use Rattle.cg_model.specs.Kernel.{Kernel}
use Rattle.cg_model.specs.Work.{Image, Left}
use Rattle.cg_model.specs.Turns.{turns_left}
use Rattle.cg_effects.specs.declared.outcome.Status.TheVariants.{Done}
use Rattle.cg_effects.specs.Outcome.{Bytes}
use Rattle.cg_effects.specs.Refusals.{reports}
use Rattle.cg_command_run.specs.Turns.{blank, streams_report, turned}

pub turned_by : (K : Kernel) (n : ℕ) (image : Image) (left : Left) (streams : List (List ℕ)) (report : Bytes) → image ≡ blank → left ≡ turns_left K n image → streams ≡ left.image.streams
    → report ≡ streams_report K streams → reports Done report ≡ turned n K
turned_by K n image left streams report b l s r = ap (reports Done) (r ∙ ap (streams_report K) (s ∙ ap (λ x. x.image.streams) l ∙ ap (λ i. (turns_left K n i).image.streams) b))
