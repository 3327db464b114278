use Rattle.std.proofs.Common.{◌≡◌, List, ℕ, Some, None, ◌∙◌, ap, subst, sym}
use Rattle.cg_tokens.specs.Faults.{AreLast}
use Rattle.cg_tokens.specs.Table.{run}
use Rattle.cg_tokens.specs.Tokens.{texts, tokens_at, tokens_of}
use Rattle.cg_verilog.specs.Rules.{rule, start}
use Rattle.cg_verilog.proofs.Whole.{fault_in}
use Rattle.cg_verilog.proofs.read.Goals as goal

pub returns-in-Err-Text-clause-fault : goal.returns-in-Err-Text-clause-fault
returns-in-Err-Text-clause-fault c =
    let bytes = c.args.bytes.now in
    let reader = c.module.new.self in
    let rest = tokens_at None reader.bytes.now reader.at in
    let kept : reader.bytes.now ≡ bytes = ap (λ b. b.now) c.in-Err-Text.ensures.same ∙ c.new-reader.ensures.bytes in
    let last : AreLast rest (tokens_of None bytes) = subst (λ (x : List ℕ). AreLast rest (tokens_of None x)) kept reader.last in
    let stops : run rule start (texts (tokens_of None bytes)) ≡ Some (texts rest) = ap (run rule start) (sym c.new-reader.ensures.all) ∙ rw c.in-Err-Text.field-0-is at c.in-Err-Text.ensures.misses in
    fault_in bytes rest c.place.result last stops c.place.ensures
