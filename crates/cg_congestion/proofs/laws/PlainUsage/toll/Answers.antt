use Rattle.std.proofs.Common.{◌≡◌, ℕ, ◌∙◌, ◌+◌, ◌*◌, ◌%◌, ◌<◌, List, length, get_or, sym, ap, subst, arith}
use Rattle.std.proofs.lemmas.List.{get_or_read, length-map}
use Rattle.cg_mrrg.specs.Graph as graphs
use Rattle.cg_congestion.specs.declared.laws.PlainPosition.{PlainPosition}
use Rattle.cg_congestion.specs.Claims.{claims_at}
use Rattle.cg_congestion.specs.Plain.{plain, plains, IsPlain}
use Rattle.cg_congestion.specs.Table.{Table}
use Rattle.cg_congestion.specs.Table as tables
use Rattle.cg_congestion.proofs.Tables.{place_within}
use Rattle.cg_congestion.proofs.Plain.{plain_toll, claims_most}
use Rattle.cg_congestion.proofs.laws.PlainUsage.toll.Goals as goal

pub returns-clause-toll : goal.returns-clause-toll
returns-clause-toll c =
    let g = c.self.inside in
    let kept : IsPlain g.arch.now g.interval g.positions.items g.history.items = c.self.invariant in
    let n = c.args.node in
    let node : graphs.IsNode (record { arch = g.arch.now; interval = g.interval }) n = subst (λ (T : Table). graphs.IsNode (record { arch = T.arch; interval = T.interval }) n) (sym c.self.view_is) c.requires.node in
    let k : ℕ = n.resource * g.interval + n.slot % g.interval in
    let l : k < length g.history.items = subst (λ z. k < z) (sym kept.histories) (place_within (length g.arch.now.resources) g.interval n.resource n.slot kept.some node.resource) in
    let count : c.count_claims.result ≡ claims_at g.interval (plains g.positions.items) n = c.count_claims.ensures ∙ ap (λ (ps : List PlainPosition). claims_at g.interval (plains ps) n) c.deref.ensures.value in
    let past : c.from.result ≡ get_or g.history.items k 0 =
    c.from.ensures ∙ get_or_read g.history.items k c.index.result.now l (c.index.ensures ∙ ap (λ z. get_or g.history.items z c.index.result.now) c.place-place.ensures) 0 in
    ap (λ z. 1 + z + 8 * c.count_claims.result) past ∙ ap (λ z. 1 + get_or g.history.items k 0 + 8 * z) count
    ∙ plain_toll g.arch.now g.interval g.positions.items g.history.items n node ∙ ap (λ (T : Table). tables.toll T n) c.self.view_is

pub returns-clause-small : goal.returns-clause-small
returns-clause-small c =
    let g = c.self.inside in
    let kept : IsPlain g.arch.now g.interval g.positions.items g.history.items = c.self.invariant in
    let count : c.count_claims.result ≡ claims_at g.interval (plains g.positions.items) c.args.node = c.count_claims.ensures ∙ ap (λ (ps : List PlainPosition). claims_at g.interval (plains ps) c.args.node) c.deref.ensures.value in
    let le = claims_most g.interval c.args.node (plains g.positions.items) in
    let long = length-map g.positions.items plain in
    let room = kept.room in
    let from = c.from.ensures in
    omega (arith, count, le, long, room, from)

pub overflow_mul-result : goal.overflow_mul-result
overflow_mul-result c =
    let g = c.self.inside in
    let kept : IsPlain g.arch.now g.interval g.positions.items g.history.items = c.self.invariant in
    let count : c.count_claims.result ≡ claims_at g.interval (plains g.positions.items) c.args.node = c.count_claims.ensures ∙ ap (λ (ps : List PlainPosition). claims_at g.interval (plains ps) c.args.node) c.deref.ensures.value in
    let le = claims_most g.interval c.args.node (plains g.positions.items) in
    let long = length-map g.positions.items plain in
    let room = kept.room in
    let from = c.from.ensures in
    omega (arith, count, le, long, room, from)

pub overflow_add-result-2 : goal.overflow_add-result-2
overflow_add-result-2 c =
    let g = c.self.inside in
    let kept : IsPlain g.arch.now g.interval g.positions.items g.history.items = c.self.invariant in
    let count : c.count_claims.result ≡ claims_at g.interval (plains g.positions.items) c.args.node = c.count_claims.ensures ∙ ap (λ (ps : List PlainPosition). claims_at g.interval (plains ps) c.args.node) c.deref.ensures.value in
    let le = claims_most g.interval c.args.node (plains g.positions.items) in
    let long = length-map g.positions.items plain in
    let room = kept.room in
    let from = c.from.ensures in
    omega (arith, count, le, long, room, from)
