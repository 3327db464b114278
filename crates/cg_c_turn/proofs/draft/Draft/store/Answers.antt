use Rattle.std.proofs.Common.{arith, ◌+◌, ◌<◌, List, [], ◌∷◌, length, None, sym, ap, ◌∙◌, subst}
use Rattle.cg_c_turn.specs.Draft.{Effect, Latest, Store, draft_of}
use Rattle.cg_c_turn.specs.Stores.{Stores}
use Rattle.cg_c_turn.proofs.Loading.{latest_is}
use Rattle.cg_c_turn.proofs.Storing.{stores, stores_counted, with_store}
use Rattle.cg_c_turn.proofs.draft.Draft.store.Goals as goal

pub overflow_add-version : goal.overflow_add-version
overflow_add-version c =
    let d = draft_of c.args.self.now in
    let there : c.args.array < length d.latest = subst (λ n. c.args.array < n) (sym c.requires.formed.latest) c.requires.there in
    let last = latest_is d.latest c.args.array c.index.result.now (record { version = 0; stored = None }) there c.index.ensures in
    let counted = ap (λ (z : Latest). z.version) last ∙ c.requires.formed.history.counted c.args.array in
    let bound = stores_counted c.args.array d.effects in
    let small = c.args.self.now.effects.small in
    let ok = c.args.self.now.effects.ok in
    omega (arith, counted, bound, small, ok.0, ok.1)

pub returns : goal.returns
returns c =
    let d = draft_of c.args.self.now in
    let new = Store c.args.self.now.guard c.args.array c.args.address c.args.word c.args.place in
    let version = c.index.result.now.version + 1 in
    let there : c.args.array < length d.latest = subst (λ n. c.args.array < n) (sym c.requires.formed.latest) c.requires.there in
    let last = latest_is d.latest c.args.array c.index.result.now (record { version = 0; stored = None }) there c.index.ensures in (
      new ∷ [],
      subst (λ (z : List Effect). Stores d (record (with_store d c.args.array c.args.address c.args.word c.args.place version) { effects = z }) (new ∷ []) c.args.array c.args.address c.args.word) (sym c.in_ok-push.ensures.items)
          (stores d c.args.array c.args.address c.args.word c.args.place version (record { formed = c.requires.formed; there = c.requires.there; no_table = c.requires.no_table; address_in = c.requires.address; word_in = c.requires.word; next = ap (λ (z : Latest). z.version + 1) last })),
    )
