use Rattle.std.proofs.Common.{ℕ, ◌∙◌, ◌+◌, ◌-◌, ◌^◌, ◌<◌, List, [], ◌∷◌, length, set, sym, ap, subst, arith}
use Rattle.cg_congestion.specs.Kept.{ClaimUse, position_of, expand_all}
use Rattle.cg_congestion.specs.Nodes.{IsKept, table_of}
use Rattle.cg_congestion.specs.Table.{Table, IsMore}
use Rattle.cg_congestion.proofs.Tables.{within, old_room, raised_is, raised_kept, read_set, same_read, kept_fits}
use Rattle.cg_congestion.proofs.usage.Usage.raise.Goals as goal

pub raise-requires-clause-room : goal.raise-requires-clause-room
raise-requires-clause-room c =
    let g = c.self.inside in
    let kept : IsKept g.arch.now g.interval g.nodes.items g.history.items g.excess = c.self.invariant in
    let known : c.args.resource < length g.arch.now.resources = subst (λ (T : Table). c.args.resource < length T.arch.resources) (sym c.self.view_is) c.requires.known in
    let some = old_room g.arch.now g.interval g.nodes.items g.history.items g.excess c.args.resource c.args.claim c.index_mut.result.now [] c.place-place.result kept known c.requires.one c.place-place.ensures c.index_mut.ensures.value in
    let few = kept.room in
    let one = c.requires.one in
    omega (arith, some, few, one)

pub invariant_of-self-2 : goal.invariant_of-self-2
invariant_of-self-2 c =
    let g = c.self.inside in
    let kept : IsKept g.arch.now g.interval g.nodes.items g.history.items g.excess = c.self.invariant in
    let known : c.args.resource < length g.arch.now.resources = subst (λ (T : Table). c.args.resource < length T.arch.resources) (sym c.self.view_is) c.requires.known in
    let room : length (expand_all g.interval 0 g.nodes.items) < 2 ^ 48 = subst (λ (T : Table). length T.positions < 2 ^ 48) (sym c.self.view_is) c.requires.room in
    let place : ℕ = c.place-place.result in
    let old : List ClaimUse = c.index_mut.result.now in
    let new : List ClaimUse = c.raise.new.self in
    let l = within g.arch.now g.interval g.nodes.items g.history.items g.excess c.args.resource c.args.claim old new place kept known c.requires.one c.place-place.ensures c.index_mut.ensures.value in
    raised_kept g.arch.now g.interval g.nodes.items g.history.items g.excess c.args.resource c.args.claim old new place kept known c.requires.one c.place-place.ensures c.index_mut.ensures.value
    c.excess-excess.result c.excess.result room c.in_ok-raise.ensures.list c.in_ok-raise.ensures.raised
    (c.excess-excess.ensures ∙ ap (λ (z : List ClaimUse). length z - 1) (same_read g.nodes.items place c.index.result.now old l c.index.ensures c.index_mut.ensures.value))
    (c.excess.ensures ∙ ap (λ (z : List ClaimUse). length z - 1) (read_set g.nodes.items place new c.index-2.result.now l c.index-2.ensures))

pub overflow_add-self : goal.overflow_add-self
overflow_add-self c =
    let g = c.self.inside in
    let kept : IsKept g.arch.now g.interval g.nodes.items g.history.items g.excess = c.self.invariant in
    let known : c.args.resource < length g.arch.now.resources = subst (λ (T : Table). c.args.resource < length T.arch.resources) (sym c.self.view_is) c.requires.known in
    let room : length (expand_all g.interval 0 g.nodes.items) < 2 ^ 48 = subst (λ (T : Table). length T.positions < 2 ^ 48) (sym c.self.view_is) c.requires.room in
    let place : ℕ = c.place-place.result in
    let old : List ClaimUse = c.index_mut.result.now in
    let new : List ClaimUse = c.raise.new.self in
    let l = within g.arch.now g.interval g.nodes.items g.history.items g.excess c.args.resource c.args.claim old new place kept known c.requires.one c.place-place.ensures c.index_mut.ensures.value in
    let after =
    raised_kept g.arch.now g.interval g.nodes.items g.history.items g.excess c.args.resource c.args.claim old new place kept known c.requires.one c.place-place.ensures c.index_mut.ensures.value
    c.excess-excess.result c.excess.result room c.in_ok-raise.ensures.list c.in_ok-raise.ensures.raised
    (c.excess-excess.ensures ∙ ap (λ (z : List ClaimUse). length z - 1) (same_read g.nodes.items place c.index.result.now old l c.index.ensures c.index_mut.ensures.value))
    (c.excess.ensures ∙ ap (λ (z : List ClaimUse). length z - 1) (read_set g.nodes.items place new c.index-2.result.now l c.index-2.ensures)) in
    let fits = kept_fits g.arch.now g.interval (set g.nodes.items place new) g.history.items (g.excess - c.excess-excess.result + c.excess.result) after in
    omega (arith, fits)

pub returns-clause-added : goal.returns-clause-added
returns-clause-added c =
    let g = c.self.inside in
    let kept : IsKept g.arch.now g.interval g.nodes.items g.history.items g.excess = c.self.invariant in
    let known : c.args.resource < length g.arch.now.resources = subst (λ (T : Table). c.args.resource < length T.arch.resources) (sym c.self.view_is) c.requires.known in
    let place : ℕ = c.place-place.result in
    subst (λ (T : Table). IsMore T (table_of g.arch.now g.interval (set g.nodes.items place c.raise.new.self) g.history.items) (position_of c.args.resource c.args.claim ∷ [])) c.self.view_is
    (raised_is g.arch.now g.interval g.nodes.items g.history.items g.excess c.args.resource c.args.claim c.index_mut.result.now c.raise.new.self place kept known c.requires.one c.place-place.ensures c.index_mut.ensures.value
    c.in_ok-raise.ensures.list c.in_ok-raise.ensures.raised)
