use Rattle.std.proofs.Common.{◌≡◌, ◌∙◌, ℕ, List, ap, sym, subst, arith, length}
use Rattle.cg_model.specs.declared.array.Resource.{Resource}
use Rattle.cg_levelize.specs.Topological.{AreKnown, IsCombinationalLoop}
use Rattle.cg_levelize.specs.Fault.{IsFaultOf}
use Rattle.cg_levelize.specs.declared.fault.OrderFault.TheVariants.{CombinationalLoop}
use Rattle.cg_parts.specs.declared.fault.ArchFault.TheVariants as fault
use Rattle.cg_validate.specs.Flat.{arch_of}
use Rattle.cg_validate.specs.Answer.{IsFault, a_loop, names_of}
use Rattle.cg_validate.proofs.Clean.{clean}
use Rattle.cg_validate.proofs.Answered.{few, drivers_known}
use Rattle.cg_validate.proofs.validation.numbered.Goals as goal

pub flat_of-requires-clause-few : goal.flat_of-requires-clause-few
flat_of-requires-clause-few c =
    let same = ap length c.requires.resources in
    let most = (clean c.args.parts.now c.requires.early).resources in
    omega (arith, same, most)

pub topological_order-requires-clause-few : goal.topological_order-requires-clause-few
topological_order-requires-clause-few c =
    let same = ap length (c.resources.ensures ∙ ap (λ A. A.resources) c.in_ok-flat.ensures) in
    let most = few c.args.parts.now c.requires.early in
    omega (arith, same, most)

pub topological_order-requires-clause-known : goal.topological_order-requires-clause-known
topological_order-requires-clause-known c =
    subst AreKnown (sym (c.resources.ensures ∙ ap (λ A. A.resources) c.in_ok-flat.ensures)) (drivers_known c.args.parts.now c.requires.early)

pub returns-in-Err-CombinationalLoop-clause-answer : goal.returns-in-Err-CombinationalLoop-clause-answer
returns-in-Err-CombinationalLoop-clause-answer c = λ _.
    let parts = c.args.parts.now in
    let ring = c.in-Err-CombinationalLoop.ring in
    let resources : c.resources.result.now ≡ (arch_of parts).resources = c.resources.ensures ∙ ap (λ A. A.resources) c.in_ok-flat.ensures in
    let shown : IsFaultOf c.resources.result.now (CombinationalLoop ring) = subst (IsFaultOf c.resources.result.now) c.in-Err-CombinationalLoop.field-0-is c.in-Err-CombinationalLoop.ensures.ring in
    let P : List Resource → Type 0 = λ rs. IsCombinationalLoop rs ring in
    let names : c.in_ok-names_of-in-Err-CombinationalLoop.field-0 ≡ names_of (arch_of parts) ring = c.in_ok-names_of-in-Err-CombinationalLoop.ensures ∙ ap (λ A. names_of A c.as_slice.result.now) c.in_ok-flat.ensures ∙ ap (names_of (arch_of parts)) (c.as_slice.ensures ∙ c.in-Err-CombinationalLoop.ring-is) in
    let Q : List (List ℕ) → Type 0 = λ ns. IsFault parts (fault.ZeroDelayLoop ns) in
    subst Q (sym names) (a_loop c.requires.early (subst P resources shown))
