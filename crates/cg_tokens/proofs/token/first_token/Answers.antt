use Rattle.cg_tokens.proofs.Lexing.{first_is}
use Rattle.cg_tokens.proofs.token.first_token.Goals as goal

pub returns-clause-first : goal.returns-clause-first
returns-clause-first c = λ b rest e. first_is c.args.double c.args.bytes.now rest b _ c.args.place e c.more_of-more.ensures.count
