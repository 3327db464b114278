-- The units of the outs, one by one.
use Rattle.std.proofs.Common.{◌≡◌, ℕ, ◌+◌, ◌<◌, List, [], length, get_or, sym, ap, ◌∙◌, subst, arith, ⊎_elim, set}
use Rattle.std.specs.Prelude.{slice_index}
use Rattle.std.proofs.lemmas.List.{get_or_read, get_or-set_same, get_or-set_other}
use Rattle.std.proofs.lemmas.Bool.{cases_eq}
use Rattle.cg_model.specs.declared.array.Unit.{Unit}
use Rattle.cg_model.specs.Array.{Arch, IsArch, unit, owner}
use Rattle.cg_overlap.proofs.Wires.{out_within}

-- the unit with that number among those that the code was given
pub unit_is : (A : Arch) (us : List Unit) (x : ℕ) (u : Unit) → us ≡ A.units → x < length A.units → u ≡ get_or us x u → u ≡ unit A x
unit_is A us x u all l is =
    get_or_read A.units x u l (subst (λ (xs : List Unit). u ≡ get_or xs x u) all is) (record { name = []; ops = []; latency = 1; ports = []; out = 0 })

pub latency_is : (A : Arch) (us : List Unit) (x : ℕ) (u : Unit) → us ≡ A.units → x < length A.units → u ≡ get_or us x u → (get_or us x u).latency ≡ (unit A x).latency
latency_is A us x u all l is = ap (λ (z : Unit). z.latency) (sym is ∙ unit_is A us x u all l is)

-- the out of a unit is a resource
pub out_known : (A : Arch) → IsArch A → (x : ℕ) → x < length A.units → (unit A x).out < length A.resources
out_known A valid x l = out_within A (unit A x).out (valid.outs x l)

-- one unit more, whose out is r
pub owners_more : (A : Arch) → IsArch A → (owners : List ℕ) (i r : ℕ) → i < length A.units → r < length owners → r ≡ (unit A i).out →
    ((x : ℕ) → x < i → slice_index owners (unit A x).out ≡ x) →
    (x : ℕ) → x < i + 1 → slice_index (set owners r i) (unit A x).out ≡ x
owners_more A valid owners i r li known is below x h =
    ⊎_elim
    (λ same. subst (λ (z : ℕ). slice_index (set owners r i) (unit A z).out ≡ z) (sym same)
    (subst (λ (z : ℕ). slice_index (set owners r i) z ≡ i) is (get_or-set_same owners r i 0 known)))
    (λ other.
    let lx : x < i = omega arith in
    get_or-set_other owners r (unit A x).out i 0
    (λ e. let lu : x < length A.units = omega arith in other (sym (valid.owners x lu) ∙ ap (owner A) (e ∙ is) ∙ valid.owners i li))
    ∙ below x lx)
    (cases_eq x i)
