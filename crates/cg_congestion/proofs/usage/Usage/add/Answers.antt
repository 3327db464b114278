use Rattle.std.proofs.Common.{◌≡◌, ℕ, ◌∙◌, ◌≤◌, List, [], ◌∷◌, ◌++◌, get_or, take, sym, ap, subst, arith}
use Rattle.std.proofs.lemmas.List.{take_all, length-take-le}
use Rattle.cg_model.specs.Array.{Arch}
use Rattle.cg_model.specs.Mapping.{Position, positions_on}
use Rattle.cg_congestion.specs.Claims.{uses}
use Rattle.cg_congestion.specs.Kept.{position_of}
use Rattle.cg_congestion.specs.Nodes.{IsListed}
use Rattle.cg_congestion.specs.Table.{Table, IsMore}
use Rattle.cg_congestion.proofs.Tables.{more_then, listed, same_table}
use Rattle.cg_congestion.proofs.Along.{next, goes_on, on_next, length_on}
use Rattle.cg_congestion.proofs.usage.Usage.add.Goals as goal

pub raise-requires-clause-room : goal.raise-requires-clause-room
raise-requires-clause-room c =
    let A : Arch = c.self.inside.arch.now in
    let i : ℕ = c.loop-place.place in
    let path = c.args.path.now in
    let l = c.loop-place-test.true in
    let count = c.loop-place.invariant.more.count in
    let long = length_on A c.args.source c.args.start (take i path) ∙ length-take-le i path (omega (arith, l)) in
    let room = c.requires.room in
    omega (arith, count, long, room, l)

pub take-requires-clause-held : goal.take-requires-clause-held
take-requires-clause-held c =
    let A : Arch = c.self.inside.arch.now in
    let so_far : List ℕ = take c.loop-place.place c.args.path.now in
    let more = c.loop-place.invariant.more in
    let arch : c.loop-place.self.arch ≡ A = more.arch ∙ sym (ap (λ (T : Table). T.arch) c.self.view_is) in
    subst (λ (T : Table). (p : Position) → uses (positions_on T.arch c.args.source c.args.start so_far) p ≤ uses T.positions p) (sym c.in-Err.ensures.unchanged)
    (λ p.
    let u = more.uses p in
    let e = ap (λ (B : Arch). uses (positions_on B c.args.source c.args.start so_far) p) arch in
    omega (arith, u, e))

pub returns-in-Err-clause-unchanged : goal.returns-in-Err-clause-unchanged
returns-in-Err-clause-unchanged c =
    let g = c.self.inside in
    let A : Arch = g.arch.now in
    let so_far : List ℕ = take c.loop-place.place c.args.path.now in
    let more = c.loop-place.invariant.more in
    let arch : c.loop-place.self.arch ≡ A = more.arch ∙ sym (ap (λ (T : Table). T.arch) c.self.view_is) in
    let taken : IsMore c.take.new.self c.loop-place.self (positions_on c.loop-place.self.arch c.args.source c.args.start so_far) =
    subst (λ (T : Table). IsMore c.take.new.self T (positions_on T.arch c.args.source c.args.start so_far)) c.in-Err.ensures.unchanged c.take.ensures.taken in
    let old : IsListed c.args.self.now = subst IsListed c.self.view_is (listed g.arch.now g.interval g.nodes.items g.history.items g.excess c.self.invariant) in
    same_table c.take.new.self c.args.self.now c.take.ensures.listed old (sym taken.arch ∙ more.arch) (sym taken.interval ∙ more.interval) (sym taken.history ∙ more.history)
    (λ p.
    let u = more.uses p in
    let t = taken.uses p in
    let e = ap (λ (B : Arch). uses (positions_on B c.args.source c.args.start so_far) p) arch in
    omega (arith, u, t, e))

pub loop-place-preserved : goal.loop-place-preserved
loop-place-preserved c =
    let A : Arch = c.self.inside.arch.now in
    let i : ℕ = c.loop-place.place in
    let path = c.args.path.now in
    let r : ℕ = get_or path i 0 in
    let is : position_of r c.one_use.result ≡ next A c.args.source c.loop-place.before c.loop-place.time r =
    ap (position_of r) c.one_use.ensures ∙ ap (λ t. record { source = c.args.source; resource = r; time = t; from = c.loop-place.before }) c.arrives-time.ensures.time in
    let so_far = positions_on A c.args.source c.args.start (take i path) in
    record {
      more =
          subst (IsMore c.args.self.now c.raise.new.self)
          (ap (λ p. so_far ++ p ∷ []) is ∙ sym (on_next A c.args.source c.args.start path i c.loop-place.before c.loop-place.time c.loop-place-test.true c.loop-place.invariant.along))
          (more_then c.args.self.now c.loop-place.self c.raise.new.self so_far (position_of r c.one_use.result ∷ []) c.loop-place.invariant.more c.in_default.ensures.added);
      along = goes_on A c.args.source c.args.start path i c.loop-place.before c.loop-place.time c.arrives-time.result c.loop-place-test.true c.arrives-time.ensures.time c.arrives-time.ensures.near c.loop-place.invariant.along;
    }

pub returns-clause-added : goal.returns-clause-added
returns-clause-added c =
    let path = c.args.path.now in
    let all = take_all c.loop-place.place path c.loop-place-test.false in
    let A = c.self.inside.arch.now in
    subst (λ (T : Table). IsMore c.args.self.now c.loop-place.self (positions_on T.arch c.args.source c.args.start path)) c.self.view_is
    (subst (λ z. IsMore c.args.self.now c.loop-place.self (positions_on A c.args.source c.args.start z)) all c.loop-place.invariant.more)
