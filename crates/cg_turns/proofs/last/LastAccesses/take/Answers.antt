use Rattle.std.proofs.Common.{List, Bool, false, subst, sym}
use Rattle.cg_turns.specs.declared.pair.Access.{Access}
use Rattle.cg_turns.specs.Trace.{Kept, Keeps}
use Rattle.cg_turns.specs.Last.{kept_in, IsThinnedBehind}
use Rattle.cg_turns.proofs.Loads.{keeps_load}
use Rattle.cg_turns.proofs.last.LastAccesses.take.Goals as goal

pub returns : goal.returns
returns c =
    let old = c.self.inside.accesses.items in
    let thin = c.make_room.new.accesses.items in
    let new = c.take_in.new.accesses.items in
    let load : Keeps false c.args.access (kept_in old) (kept_in new) =
    keeps_load c.args.access old thin new (subst (λ (z : List Access). IsThinnedBehind z thin) c.in_ok-put_store_place.ensures c.in_ok-make_room.ensures) c.in_ok-take_in.ensures in
    subst (λ (b : Bool). Keeps b c.args.access c.args.self.now (kept_in new)) (sym c.if-stores.false) (subst (λ (k : Kept). Keeps false c.args.access k (kept_in new)) c.self.view_is load)
