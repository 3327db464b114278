use Rattle.std.proofs.Common.{◌≡◌, None, sym, subst, true}
use Rattle.std.proofs.lemmas.List.{get_or_default}
use Rattle.cg_congestion.specs.declared.laws.PlainPosition.{PlainPosition}
use Rattle.cg_congestion.specs.Claims.{same}
use Rattle.cg_congestion.specs.Plain.{plain}
use Rattle.cg_congestion.proofs.laws.find.Goals as goal

pub returns-then-is_same-clause-some : goal.returns-then-is_same-clause-some
returns-then-is_same-clause-some c =
    let none : PlainPosition = record { source = 0; resource = 0; time = 0; from = None } in (
      c.loop-place-test.true,
      λ d. subst (λ (x : PlainPosition). same (plain c.args.position) (plain x) ≡ true) (get_or_default c.args.positions.now c.loop-place.place none d c.loop-place-test.true) (sym c.if-is_same.ensures),
    )
