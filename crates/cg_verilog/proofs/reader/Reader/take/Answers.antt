use Rattle.std.proofs.Common.{◌∷◌, None, sym, ◌∙◌, ap}
use Rattle.cg_tokens.specs.Tokens.{seen, tokens_at, tokens_of}
use Rattle.cg_tokens.proofs.Bytes.{later_last}
use Rattle.cg_verilog.proofs.reader.Reader.take.Goals as goal

pub invariant_of-self : goal.invariant_of-self
invariant_of-self c =
    let bytes = c.args.self.now.bytes.now in
    let next = c.requires.next ∙ ap (λ x. seen c.args.token ∷ x) (sym (c.past_blanks-self.ensures.same None)) in
    record { last = later_last (tokens_of None bytes) (tokens_at None bytes c.args.self.now.at) (tokens_at None bytes c.past_blanks-self.result) (seen c.args.token) c.args.self.now.last next }
