use Rattle.std.proofs.Common.{[], ◌∷◌, codes}
use Rattle.std.proofs.lemmas.Result.{IfErr-weaker}
use Rattle.cg_verilog.specs.Rules.{Exactly}
use Rattle.cg_verilog.specs.Read.{Misses}
use Rattle.cg_verilog.proofs.Steps.{misses_later}
use Rattle.cg_verilog.proofs.reader.Reader.title.Goals as goal

pub returns-clause-misses : goal.returns-clause-misses
returns-clause-misses c =
    IfErr-weaker c.exactly-2.result (λ e. Misses e (Exactly (codes "cgra_array") ∷ []) _ _) (λ e. Misses e (Exactly (codes "module") ∷ Exactly (codes "cgra_array") ∷ []) _ _)
    (λ e h. misses_later e (codes "module") (Exactly (codes "cgra_array") ∷ []) _ _ _ h c.in_ok-exactly.ensures.ok)
    c.exactly-2.ensures.misses
