-- The list says all that there is to say of the mapping's violations.
use Rattle.std.proofs.Common.{◌≡◌, List, [], sym, ap, ◌∙◌}
use Rattle.std.specs.Prelude.{slice_get}
use Rattle.cg_model.specs.Kernel.{Kernel, IsKernel}
use Rattle.cg_model.specs.Array.{Arch, IsArch}
use Rattle.cg_model.specs.Mapping.{Mapping, IsShaped, IsLegal}
use Rattle.cg_check.specs.declared.rule.Violation.{Violation}
use Rattle.cg_check.proofs.Judged.{keeps_all, legal_from, rules_of}
use Rattle.cg_check.proofs.Places.{keeps_at}
use Rattle.cg_violations.specs.Violations.{violations_of, AreAll}
use Rattle.cg_violations.proofs.Members.{empty}
use Rattle.cg_violations.proofs.Each.{each_is, all_there}
use Rattle.cg_violations.proofs.Lowest.{lowest_first}

module _ (A : Arch) (K : Kernel) (M : Mapping) (arch : IsArch A) (kernel : IsKernel K) (shape : IsShaped K M) where
  legal_of_none : violations_of A K M ≡ [] → IsLegal A K M
  legal_of_none e =
      legal_from A K M arch kernel shape (keeps_all A K M arch kernel shape (sym (lowest_first A K M shape.places) ∙ ap (λ (vs : List Violation). slice_get vs 0) e))

  none_of_legal : IsLegal A K M → violations_of A K M ≡ []
  none_of_legal legal =
      empty (violations_of A K M) (λ v m. let (inside, broken) = each_is A K M v m in broken (keeps_at v.rule A K M v.place (rules_of A K M legal v.rule) inside))

  pub are_all : AreAll A K M (violations_of A K M)
  are_all = record {
    each = each_is A K M;
    all = all_there A K M shape.places;
    lowest = lowest_first A K M shape.places;
    none = (legal_of_none, none_of_legal);
  }
