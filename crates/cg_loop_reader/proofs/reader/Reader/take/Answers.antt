use Rattle.std.proofs.Common.{◌∷◌, sym, ◌∙◌, ap}
use Rattle.cg_tokens.specs.Tokens.{seen, tokens_at, tokens_of}
use Rattle.cg_tokens.proofs.Bytes.{later_last}
use Rattle.cg_loop_reader.specs.Doubled.{double}
use Rattle.cg_loop_reader.proofs.reader.Reader.take.Goals as goal

pub invariant_of-self : goal.invariant_of-self
invariant_of-self c =
    let bytes = c.args.self.now.bytes.now in
    let next = c.requires.next ∙ ap (λ x. seen c.args.token ∷ x) (sym (c.past_blanks-self.ensures.same double)) in
    record { last = later_last (tokens_of double bytes) (tokens_at double bytes c.args.self.now.at) (tokens_at double bytes c.past_blanks-self.result) (seen c.args.token) c.args.self.now.last next }
