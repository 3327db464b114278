-- What a valid architecture says of a resource that is found by name.
use Rattle.std.proofs.Common.{◌≡◌, ◌≤◌, Bool, length, Some, sym, ap, ◌∙◌, arith}
use Rattle.std.specs.Prelude.{find}
use Rattle.std.specs.List.{position_or_len}
use Rattle.std.proofs.lemmas.List.Folds.{find_at}
use Rattle.std.proofs.lemmas.Option.{slice_get_within, get_or_from_slice_get}
use Rattle.cg_model.specs.declared.array.Resource.{Resource}
use Rattle.cg_model.specs.Array.{Arch, IsArch}
use Rattle.cg_flat.proofs.Lists.{links_of}

pub few_drivers : (A : Arch) (t : Resource → Bool) (r : Resource) → IsArch A → Some r ≡ find t A.resources → length r.drivers ≤ 65536
few_drivers A t r arch e =
    let k = position_or_len t A.resources in
    let at = sym (find_at t A.resources) ∙ sym e in
    let within = slice_get_within A.resources k r at in
    let few = links_of A.resources k r within in
    let same = ap (λ (x : Resource). length x.drivers) (get_or_from_slice_get A.resources k r r at) in
    let most = arch.small.links in
    omega (arith, few, same, most)
