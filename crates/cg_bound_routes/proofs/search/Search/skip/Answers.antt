use Rattle.std.proofs.Common.{length, sym, subst}
use Rattle.cg_bound_routes.specs.Search.{AreBelow}
use Rattle.cg_bound_routes.proofs.search.Search.skip.Goals as goal

pub next_lacking-self-requires-clause-known : goal.next_lacking-self-requires-clause-known
next_lacking-self-requires-clause-known c =
    let front = c.deref.ensures.value in
    let numbers = c.deref-2.ensures.value in
    subst (λ z. AreBelow (length z) c.deref.result.now) (sym numbers) (subst (λ z. AreBelow (length c.args.self.now.numbers.items) z) (sym front) c.requires.known)
