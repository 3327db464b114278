use Rattle.std.proofs.Common.{◌≡◌, ◌∙◌, ℕ, ◌+◌, ◌≤◌, ◌<◌, ◌++◌, ◌∷◌, [], Bool, false, List, length, get_or, eqb, nat_lt, sym, subst, ap, arith, ⊎_elim}
use Rattle.std.specs.Prelude.{◌||◌}
use Rattle.std.proofs.Math.Seq.{get_or-append_seam}
use Rattle.std.proofs.lemmas.Bool.{cases_lt}
use Rattle.std.proofs.lemmas.List.{length_push, get_or_append_left}
use Rattle.cg_model.specs.Array.{Arch, resource}
use Rattle.cg_mrrg.proofs.Drivers.{drivers_read}
use Rattle.cg_route.proofs.search.met.Goals as goal

pub loop-resource-preserved : goal.loop-resource-preserved
loop-resource-preserved c =
    let A = c.args.graph.now.arch in
    let i = c.loop-resource.resource in
    let old : List Bool = c.loop-resource.met.items in
    let b : Bool = c.may_meet.result in
    let each = c.loop-resource.invariant.each in
    let new : c.push.new.self.items ≡ old ++ b ∷ [] = c.in_ok-push.ensures.items in
    let rs = c.resources-resources.result.now in
    let same : rs ≡ A.resources = c.resources-resources.ensures.resources ∙ ap (λ (A : Arch). A.resources) c.arch.ensures in
    let inside : i < length A.resources = subst (λ (l : List _). i < length l) same c.loop-resource-test.true in
    let ds : c.as_slice-drivers.result.now ≡ (resource A i).drivers = drivers_read A c.index-resources-resource.result rs c.as_slice-drivers.result.now i same inside c.index-resources-resource.is c.as_slice-drivers.ensures in
    let is : b ≡ (nat_lt 0 (length (resource A i).drivers) || eqb i c.args.from) = c.may_meet.ensures ∙ ap (λ (l : List ℕ). nat_lt 0 (length l) || eqb i c.args.from) ds in
    record {
      each = ap (λ (l : List Bool). length l) new ∙ length_push old b ∙ ap (λ n. n + 1) each;
      right = λ q l.
          ap (λ (l : List Bool). get_or l q false) new ∙
          ⊎_elim
          (λ (a : q < i). get_or_append_left old (b ∷ []) false q (omega (arith, a, each)) ∙ c.loop-resource.invariant.right q a)
          (λ (a : i ≤ q).
          let e : q ≡ i = omega arith in
          ap (λ n. get_or (old ++ b ∷ []) n false) (omega (arith, e, each)) ∙ get_or-append_seam old b [] false ∙ is ∙ ap (λ n. nat_lt 0 (length (resource A n).drivers) || eqb n c.args.from) (sym e))
          (cases_lt q i);
    }
