use Rattle.std.proofs.Common.{List, subst, sym}
use Rattle.cg_turns.specs.declared.pair.Access.{Access}
use Rattle.cg_turns.specs.Last.{TakesBehind}
use Rattle.cg_turns.proofs.Loads.{behind_written, behind_push}
use Rattle.cg_turns.proofs.last.take_in.Goals as goal

pub returns-then-index-load : goal.returns-then-index-load
returns-then-index-load c =
    behind_written c.args.load c.index.result.now c.args.accesses.now.items c.deref.result.now c.in-Some.place c.deref.ensures.value c.in-Some.ensures.0 c.in-Some.ensures.1 c.in-Some.ensures.2 c.index.ensures c.if-index-load.true

pub returns-in_ok-push-in-None : goal.returns-in_ok-push-in-None
returns-in_ok-push-in-None c = subst (λ (z : List Access). TakesBehind c.args.load c.args.accesses.now.items z) (sym c.in_ok-push-in-None.ensures.items) (behind_push c.args.load c.args.accesses.now.items c.requires)
