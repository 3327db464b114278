use Rattle.std.proofs.lemmas.Str.{IsUtf8-from_ascii}
use Rattle.cg_c_reader.proofs.Ascii.{is_ok_since}
use Rattle.cg_c_reader.proofs.reader.Reader.named.Goals as goal

pub unwrap-text-requires : goal.unwrap-text-requires
unwrap-text-requires c = is_ok_since c.from_utf8.result _ _ (λ e q. q.0 (IsUtf8-from_ascii _ (c.args.self.now.ascii c.requires))) c.from_utf8.ensures.cases
