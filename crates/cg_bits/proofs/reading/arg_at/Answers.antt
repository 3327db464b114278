use Rattle.std.proofs.Common.{◌≡◌, ℕ, ◌+◌, [], ◌∷◌, eqb, ap, ◌∙◌, arith}
use Rattle.cg_bits.specs.Numbers.{number_at, bits_of_bytes}
use Rattle.cg_bits.specs.Reading.{arg_in}
use Rattle.cg_bits.proofs.Fields.{arg_same}
use Rattle.cg_bits.proofs.reading.arg_at.Goals as goal

four : (a b c d e f g h : ℕ) → a ≡ e → b ≡ f → c ≡ g → d ≡ h → a ∷ b ∷ c ∷ d ∷ [] ≡ e ∷ f ∷ g ∷ h ∷ []
four a b c d e f g h p q r s = cc

pub returns : goal.returns
unfolding arg_in
returns c =
    let bits = bits_of_bytes c.args.bytes.now in
    let at = c.args.at in
    let w0 : c.number_at-3.result ≡ number_at bits (at + 4 + 0) 32 = c.number_at-3.ensures ∙ ap (λ z. number_at bits z 32) (omega arith) in
    let w1 : c.number_at-4.result ≡ number_at bits (at + 4 + 32) 32 = c.number_at-4.ensures ∙ ap (λ z. number_at bits z 32) (omega arith) in
    let w2 : c.number_at-5.result ≡ number_at bits (at + 4 + 64) 32 = c.number_at-5.ensures ∙ ap (λ z. number_at bits z 32) (omega arith) in
    let w3 : c.number_at-6.result ≡ number_at bits (at + 4 + 96) 32 = c.number_at-6.ensures ∙ ap (λ z. number_at bits z 32) (omega arith) in
    arg_same _ (arg_in bits at) (ap (λ z. eqb z 1) c.number_at.ensures) c.number_at-2.ensures (four _ _ _ _ _ _ _ _ w0 w1 w2 w3)
