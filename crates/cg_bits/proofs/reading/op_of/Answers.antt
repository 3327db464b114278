use Rattle.std.proofs.Common.{◌≡◌, ◌+◌, ◌-◌, sym, ap, ◌∙◌, arith, ⊎_elim}
use Rattle.cg_word.specs.declared.op.Op.TheVariants.{Const}
use Rattle.cg_word.specs.Word as operations
use Rattle.cg_bits.specs.Format.{op_of}
use Rattle.cg_bits.proofs.Codes.{none_coded, op_there, op_within, op_above}
use Rattle.cg_bits.proofs.reading.op_of.Goals as goal

pub returns-then-code-eq0 : goal.returns-then-code-eq0
returns-then-code-eq0 c =
    ⊎_elim (λ (e : c.args.code ≡ 0). sym (ap (op_of c.args.format) e ∙ op_within c.args.format 0 (omega arith) ∙ none_coded)) (λ p. sym (op_above c.args.format c.args.code p.1)) c.then-code-eq0.either

pub returns : goal.returns
returns c =
    let known = c.requires.known in
    let within = c.if-code-format.false in
    let some = c.if-code-eq0.false in
    let again : c.args.code - 1 + 1 ≡ c.args.code = omega arith in
    sym (op_within c.args.format c.args.code within ∙ ap operations.op_of (sym again) ∙ op_there (c.args.code - 1) Const (omega arith))
