use Rattle.std.proofs.Common.{refl}
use Rattle.cg_turns.proofs.Pairs.{unwatched_made}
use Rattle.cg_turns.proofs.watch.unwatched.Goals as goal

pub returns : goal.returns
returns c = unwatched_made c.args.kernel.now c.watched_words.result c.args.size _ c.in_ok-words.ensures c.watched_words.ensures refl
