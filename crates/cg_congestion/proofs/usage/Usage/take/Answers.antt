use Rattle.std.proofs.Common.{◌≡◌, ℕ, ◌∙◌, ◌<◌, ◌≤◌, [], ◌∷◌, ◌++◌, get_or, take, sym, ap, subst}
use Rattle.std.proofs.lemmas.List.{take_all}
use Rattle.cg_model.specs.Array.{Arch}
use Rattle.cg_model.specs.Mapping.{Position, positions_on}
use Rattle.cg_congestion.specs.Claims.{uses}
use Rattle.cg_congestion.specs.Kept.{position_of}
use Rattle.cg_congestion.specs.Nodes.{IsListed}
use Rattle.cg_congestion.specs.Table.{Table, IsMore}
use Rattle.cg_congestion.proofs.Tables.{more_none, more_before, listed}
use Rattle.cg_congestion.proofs.Along.{next, begins, goes_on, on_next, held_next}
use Rattle.cg_congestion.proofs.usage.Usage.take.Goals as goal

pub loop-resource-init : goal.loop-resource-init
loop-resource-init c =
    let g = c.self.inside in
    record {
      more = more_none c.args.self.now;
      along = begins g.arch.now c.args.source c.args.start c.args.path.now;
      listed = subst IsListed c.self.view_is (listed g.arch.now g.interval g.nodes.items g.history.items g.excess c.self.invariant);
    }

pub lower-requires-clause-held : goal.lower-requires-clause-held
lower-requires-clause-held c =
    let A : Arch = c.self.inside.arch.now in
    let i : ℕ = c.loop-resource.resource-index in
    let path = c.args.path.now in
    let is : position_of (get_or path i 0) c.one_use.result ≡ next A c.args.source c.loop-resource.before c.loop-resource.time (get_or path i 0) =
    ap (position_of (get_or path i 0)) c.one_use.ensures ∙ ap (λ t. record { source = c.args.source; resource = get_or path i 0; time = t; from = c.loop-resource.before }) c.arrives-time.ensures.time in
    subst (λ p. 0 < uses c.loop-resource.self.positions p) (sym is)
    (held_next A c.args.source c.args.start path i c.loop-resource.before c.loop-resource.time c.loop-resource.self.positions c.args.self.now.positions c.loop-resource-test.true c.loop-resource.invariant.along
    c.loop-resource.invariant.more.uses
    (subst (λ (T : Table). (p : Position) → uses (positions_on T.arch c.args.source c.args.start path) p ≤ uses c.args.self.now.positions p) (sym c.self.view_is) c.requires.held))

pub loop-resource-preserved : goal.loop-resource-preserved
loop-resource-preserved c =
    let A : Arch = c.self.inside.arch.now in
    let i : ℕ = c.loop-resource.resource-index in
    let path = c.args.path.now in
    let r : ℕ = get_or path i 0 in
    let is : position_of r c.one_use.result ≡ next A c.args.source c.loop-resource.before c.loop-resource.time r =
    ap (position_of r) c.one_use.ensures ∙ ap (λ t. record { source = c.args.source; resource = r; time = t; from = c.loop-resource.before }) c.arrives-time.ensures.time in
    let so_far = positions_on A c.args.source c.args.start (take i path) in
    record {
      more =
          subst (IsMore c.lower.new.self c.args.self.now)
          (ap (λ p. so_far ++ p ∷ []) is ∙ sym (on_next A c.args.source c.args.start path i c.loop-resource.before c.loop-resource.time c.loop-resource-test.true c.loop-resource.invariant.along))
          (more_before c.lower.new.self c.loop-resource.self c.args.self.now (position_of r c.one_use.result ∷ []) so_far c.lower.ensures.taken c.loop-resource.invariant.more);
      along = goes_on A c.args.source c.args.start path i c.loop-resource.before c.loop-resource.time c.arrives-time.result c.loop-resource-test.true c.arrives-time.ensures.time c.arrives-time.ensures.near c.loop-resource.invariant.along;
      listed = c.lower.ensures.listed;
    }

pub returns-clause-taken : goal.returns-clause-taken
returns-clause-taken c =
    let path = c.args.path.now in
    let all = take_all c.loop-resource.resource-index path c.loop-resource-test.false in
    let A = c.self.inside.arch.now in
    subst (λ (T : Table). IsMore c.loop-resource.self c.args.self.now (positions_on T.arch c.args.source c.args.start path)) c.self.view_is
    (subst (λ z. IsMore c.loop-resource.self c.args.self.now (positions_on A c.args.source c.args.start z)) all c.loop-resource.invariant.more)
