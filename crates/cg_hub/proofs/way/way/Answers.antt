use Rattle.std.proofs.Common.{◌+◌, ◌/◌, get_or, refl}
use Rattle.cg_hub.proofs.Made.{grown_behind}
use Rattle.cg_hub.proofs.way.way.Goals as goal

pub loop-k-preserved : goal.loop-k-preserved
loop-k-preserved c =
    grown_behind c.args.out (λ k. get_or c.args.hub.now (c.args.first + k / c.args.ii) 0) c.loop-k.path.items c.push-in-loop-k.new.self.items _ c.loop-k.k c.loop-k.invariant c.in_ok-push-2.ensures.items refl
