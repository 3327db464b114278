use Rattle.std.proofs.Common.{◌≡◌, ℕ, true, false, sym, ◌∙◌, subst}
use Rattle.std.specs.Prelude.{Option}
use Rattle.cg_model.specs.Kernel.{Kernel}
use Rattle.cg_depend.specs.Depend.{Gap, Within}
use Rattle.cg_depend.specs.Gathered.{ask}
use Rattle.cg_depend.proofs.Answered.{apart_one, chained_one, added_one}
use Rattle.cg_depend.proofs.accesses.Accesses.edge.Goals as goal

-- the gap that was found, of the kernel that is seen
gap_of : (K L : Kernel) (u v least : ℕ) (o p : Option ℕ) → K ≡ L → Gap K (ask u v least) o → o ≡ p → Gap L (ask u v least) p
gap_of K L u v least o p same gap is = subst (Gap L (ask u v least)) is (subst (λ (z : Kernel). Gap z (ask u v least) o) same gap)

pub returns-in_default : goal.returns-in_default
returns-in_default c =
    let K = c.args.self.now in
    apart_one K (ask c.args.from c.args.to c.args.least) (gap_of c.self.inside.addresses K c.args.from c.args.to c.args.least _ _ c.self.view_is c.gap.ensures c.in_default.is)

pub returns-then-is_within : goal.returns-then-is_within
returns-then-is_within c =
    let K = c.args.self.now in
    chained_one K (ask c.args.from c.args.to c.args.least) c.in-Some.gap c.distance_for-distance.result (gap_of c.self.inside.addresses K c.args.from c.args.to c.args.least _ _ c.self.view_is c.gap.ensures c.in-Some.is) c.distance_for-distance.ensures
    (subst (λ (z : Kernel). Within z c.args.from c.args.to c.distance_for-distance.result) (c.self.invariant.1 ∙ c.self.view_is) (c.is_within.ensures.0 c.if-is_within.true))

pub returns-else-is_within : goal.returns-else-is_within
returns-else-is_within c =
    let K = c.args.self.now in
    added_one K (ask c.args.from c.args.to c.args.least) c.in-Some.gap c.distance_for-distance.result (gap_of c.self.inside.addresses K c.args.from c.args.to c.args.least _ _ c.self.view_is c.gap.ensures c.in-Some.is) c.distance_for-distance.ensures
    (λ chain.
    let within = subst (λ (z : Kernel). Within z c.args.from c.args.to c.distance_for-distance.result) (sym (c.self.invariant.1 ∙ c.self.view_is)) chain in
    let bad : true ≡ false = sym (c.is_within.ensures.1 within) ∙ c.if-is_within.false in
    cc)
