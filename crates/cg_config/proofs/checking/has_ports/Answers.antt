use Rattle.std.proofs.Common.{length, false, sym, ◌∙◌, arith}
use Rattle.std.proofs.lemmas.List.{get_or-replicate}
use Rattle.cg_config.specs.Parts.{given_in}
use Rattle.cg_config.proofs.Canonicals.{any_zero}
use Rattle.cg_config.proofs.checking.has_ports.Goals as goal

pub loop-slot-init : goal.loop-slot-init
loop-slot-init c =
    record {
      noted = λ q lt. get_or-replicate 16 q false false lt ∙ sym (any_zero (λ s. given_in c.args.config.now s (length c.args.arch.now.units) q));
      free = λ s lt. absurd (omega arith);
    }
