use Rattle.std.proofs.Common.{◌≡◌, ℕ, List, Result, Ok, Err, IfOk, subst, sym}
use Rattle.cg_model.specs.Array.{Arch}
use Rattle.cg_model.specs.Config.{Config}
use Rattle.cg_bits.specs.Ranges.{IsBytes}
use Rattle.cg_bits.specs.Spelling.{AreBits}
use Rattle.cg_emit.proofs.emission.emit.Goals as goal

-- what holds of each value of one kind holds of an answer of that kind
answered : {X E : Type 0} (r : Result X E) (P Q : X → Type 0) → ((x : X) → P x → Q x) → IfOk r P → IfOk r Q
answered (Ok x) P Q h p = h x p
answered (Err e) P Q h p = tt

pub returns-clause-only : goal.returns-clause-only
returns-clause-only c =
    answered c.write_bits.result (λ v. AreBits c.arch.result.now c.in_ok-config.config v.items) _
    (λ v bits. c.run_like_turns.ensures.only v.items (subst (λ (D : Config). AreBits c.args.legal.now.arch D v.items) c.in_ok-config.ensures.mapped (subst (λ (B : Arch). AreBits B c.in_ok-config.config v.items) c.arch.ensures bits))) c.write_bits.ensures.bits

pub returns-clause-one_spelling : goal.returns-clause-one_spelling
returns-clause-one_spelling c =
    answered c.write_bits.result (λ v. (bytes : List ℕ) → IsBytes bytes → AreBits c.arch.result.now c.in_ok-config.config bytes → bytes ≡ v.items) _
    (λ v same bytes fits bits. same bytes fits (subst (λ (B : Arch). AreBits B c.in_ok-config.config bytes) (sym c.arch.ensures) (subst (λ (D : Config). AreBits c.args.legal.now.arch D bytes) (sym c.in_ok-config.ensures.mapped) bits))) c.write_bits.ensures.only

pub returns-clause-read : goal.returns-clause-read
returns-clause-read c =
    answered c.write_bits.result (λ v. AreBits c.arch.result.now c.in_ok-config.config v.items) _
    (λ v bits. c.run_like_turns.ensures.read v.items (subst (λ (D : Config). AreBits c.args.legal.now.arch D v.items) c.in_ok-config.ensures.mapped (subst (λ (B : Arch). AreBits B c.in_ok-config.config v.items) c.arch.ensures bits))) c.write_bits.ensures.bits

pub returns-clause-overlaps : goal.returns-clause-overlaps
returns-clause-overlaps c =
    answered c.write_bits.result (λ v. AreBits c.arch.result.now c.in_ok-config.config v.items) _
    (λ v bits. c.run_like_turns.ensures.overlaps v.items (subst (λ (D : Config). AreBits c.args.legal.now.arch D v.items) c.in_ok-config.ensures.mapped (subst (λ (B : Arch). AreBits B c.in_ok-config.config v.items) c.arch.ensures bits))) c.write_bits.ensures.bits
