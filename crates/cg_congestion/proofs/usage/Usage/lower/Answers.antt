use Rattle.std.proofs.Common.{ℕ, ◌∙◌, ◌+◌, ◌-◌, ◌<◌, List, [], ◌∷◌, length, set, sym, ap, subst, arith}
use Rattle.cg_congestion.specs.Claims.{uses}
use Rattle.cg_congestion.specs.Kept.{ClaimUse, position_of, expand_all}
use Rattle.cg_congestion.specs.Nodes.{IsKept, table_of}
use Rattle.cg_congestion.specs.Table.{Table, IsMore}
use Rattle.cg_congestion.proofs.Tables.{within, old_list, old_uses, lowered_is, lowered_kept, listed, read_set, same_read, kept_fits}
use Rattle.cg_congestion.proofs.Order.{uses_in_any}
use Rattle.cg_congestion.proofs.usage.Usage.lower.Goals as goal

pub lower-requires-clause-sorted : goal.lower-requires-clause-sorted
lower-requires-clause-sorted c =
    let g = c.self.inside in
    let kept : IsKept g.arch.now g.interval g.nodes.items g.history.items g.excess = c.self.invariant in
    let known : c.args.resource < length g.arch.now.resources = subst (λ (T : Table). c.args.resource < length T.arch.resources) (sym c.self.view_is) c.requires.known in
    (old_list g.arch.now g.interval g.nodes.items g.history.items g.excess c.args.resource c.args.claim c.index_mut.result.now [] c.place-place.result kept known c.requires.one c.place-place.ensures c.index_mut.ensures.value).sorted

pub lower-requires-clause-held : goal.lower-requires-clause-held
lower-requires-clause-held c = λ r.
    let g = c.self.inside in
    let kept : IsKept g.arch.now g.interval g.nodes.items g.history.items g.excess = c.self.invariant in
    let known : c.args.resource < length g.arch.now.resources = subst (λ (T : Table). c.args.resource < length T.arch.resources) (sym c.self.view_is) c.requires.known in
    let held : 0 < uses (expand_all g.interval 0 g.nodes.items) (position_of c.args.resource c.args.claim) = subst (λ (T : Table). 0 < uses T.positions (position_of c.args.resource c.args.claim)) (sym c.self.view_is) c.requires.held in
    let at = old_uses g.arch.now g.interval g.nodes.items g.history.items g.excess c.args.resource c.args.claim c.index_mut.result.now [] c.place-place.result kept known c.requires.one c.place-place.ensures c.index_mut.ensures.value in
    let any = uses_in_any c.args.resource r c.index_mut.result.now c.args.claim in
    let one = c.requires.one in
    omega (arith, held, at, any, one)

pub invariant_of-self : goal.invariant_of-self
invariant_of-self c =
    let g = c.self.inside in
    let kept : IsKept g.arch.now g.interval g.nodes.items g.history.items g.excess = c.self.invariant in
    let known : c.args.resource < length g.arch.now.resources = subst (λ (T : Table). c.args.resource < length T.arch.resources) (sym c.self.view_is) c.requires.known in
    let place : ℕ = c.place-place.result in
    let old : List ClaimUse = c.index_mut.result.now in
    let new : List ClaimUse = c.lower.new.self in
    let l = within g.arch.now g.interval g.nodes.items g.history.items g.excess c.args.resource c.args.claim old new place kept known c.requires.one c.place-place.ensures c.index_mut.ensures.value in
    lowered_kept g.arch.now g.interval g.nodes.items g.history.items g.excess c.args.resource c.args.claim old new place kept known c.requires.one c.place-place.ensures c.index_mut.ensures.value
    c.excess-excess.result c.excess.result c.lower.ensures.list c.lower.ensures.lowered
    (c.excess-excess.ensures ∙ ap (λ (z : List ClaimUse). length z - 1) (same_read g.nodes.items place c.index.result.now old l c.index.ensures c.index_mut.ensures.value))
    (c.excess.ensures ∙ ap (λ (z : List ClaimUse). length z - 1) (read_set g.nodes.items place new c.index-2.result.now l c.index-2.ensures))

pub overflow_add-self : goal.overflow_add-self
overflow_add-self c =
    let g = c.self.inside in
    let kept : IsKept g.arch.now g.interval g.nodes.items g.history.items g.excess = c.self.invariant in
    let known : c.args.resource < length g.arch.now.resources = subst (λ (T : Table). c.args.resource < length T.arch.resources) (sym c.self.view_is) c.requires.known in
    let place : ℕ = c.place-place.result in
    let old : List ClaimUse = c.index_mut.result.now in
    let new : List ClaimUse = c.lower.new.self in
    let l = within g.arch.now g.interval g.nodes.items g.history.items g.excess c.args.resource c.args.claim old new place kept known c.requires.one c.place-place.ensures c.index_mut.ensures.value in
    let after =
    lowered_kept g.arch.now g.interval g.nodes.items g.history.items g.excess c.args.resource c.args.claim old new place kept known c.requires.one c.place-place.ensures c.index_mut.ensures.value
    c.excess-excess.result c.excess.result c.lower.ensures.list c.lower.ensures.lowered
    (c.excess-excess.ensures ∙ ap (λ (z : List ClaimUse). length z - 1) (same_read g.nodes.items place c.index.result.now old l c.index.ensures c.index_mut.ensures.value))
    (c.excess.ensures ∙ ap (λ (z : List ClaimUse). length z - 1) (read_set g.nodes.items place new c.index-2.result.now l c.index-2.ensures)) in
    let fits = kept_fits g.arch.now g.interval (set g.nodes.items place new) g.history.items (g.excess - c.excess-excess.result + c.excess.result) after in
    omega (arith, fits)

pub returns-clause-taken : goal.returns-clause-taken
returns-clause-taken c =
    let g = c.self.inside in
    let kept : IsKept g.arch.now g.interval g.nodes.items g.history.items g.excess = c.self.invariant in
    let known : c.args.resource < length g.arch.now.resources = subst (λ (T : Table). c.args.resource < length T.arch.resources) (sym c.self.view_is) c.requires.known in
    let place : ℕ = c.place-place.result in
    subst (λ (T : Table). IsMore (table_of g.arch.now g.interval (set g.nodes.items place c.lower.new.self) g.history.items) T (position_of c.args.resource c.args.claim ∷ [])) c.self.view_is
    (lowered_is g.arch.now g.interval g.nodes.items g.history.items g.excess c.args.resource c.args.claim c.index_mut.result.now c.lower.new.self place kept known c.requires.one c.place-place.ensures c.index_mut.ensures.value
    c.lower.ensures.list c.lower.ensures.lowered)

pub returns-clause-listed : goal.returns-clause-listed
returns-clause-listed c =
    let g = c.self.inside in
    let kept : IsKept g.arch.now g.interval g.nodes.items g.history.items g.excess = c.self.invariant in
    let known : c.args.resource < length g.arch.now.resources = subst (λ (T : Table). c.args.resource < length T.arch.resources) (sym c.self.view_is) c.requires.known in
    let place : ℕ = c.place-place.result in
    let old : List ClaimUse = c.index_mut.result.now in
    let new : List ClaimUse = c.lower.new.self in
    let l = within g.arch.now g.interval g.nodes.items g.history.items g.excess c.args.resource c.args.claim old new place kept known c.requires.one c.place-place.ensures c.index_mut.ensures.value in
    listed g.arch.now g.interval (set g.nodes.items place new) g.history.items (g.excess - c.excess-excess.result + c.excess.result)
    (lowered_kept g.arch.now g.interval g.nodes.items g.history.items g.excess c.args.resource c.args.claim old new place kept known c.requires.one c.place-place.ensures c.index_mut.ensures.value
    c.excess-excess.result c.excess.result c.lower.ensures.list c.lower.ensures.lowered
    (c.excess-excess.ensures ∙ ap (λ (z : List ClaimUse). length z - 1) (same_read g.nodes.items place c.index.result.now old l c.index.ensures c.index_mut.ensures.value))
    (c.excess.ensures ∙ ap (λ (z : List ClaimUse). length z - 1) (read_set g.nodes.items place new c.index-2.result.now l c.index-2.ensures)))
