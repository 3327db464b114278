use Rattle.std.proofs.Common.{ap, ◌∙◌}
use Rattle.cg_loop_reader.proofs.Answered.{read_to, fault_found}
use Rattle.cg_loop_reader.proofs.read.read.Goals as goal

pub judged-requires : goal.judged-requires
judged-requires c =
    read_to c.in-Ok.parts c.new-reader.result c.text.new.self c.args.bytes.now c.new-reader.ensures.all c.new-reader.ensures.none (ap (λ b. b.now) c.in-Ok.ensures.same ∙ c.new-reader.ensures.bytes) c.in-Ok.ensures.ok

pub returns-clause-fault : goal.returns-clause-fault
returns-clause-fault c =
    fault_found c.new-reader.result c.text.new.self c.args.bytes.now c.place.result c.new-reader.ensures.all (ap (λ b. b.now) c.in-Err-Text.ensures.same ∙ c.new-reader.ensures.bytes) (rw c.in-Err-Text.field-0-is at c.in-Err-Text.ensures.misses) c.place.ensures
