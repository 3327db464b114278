use Rattle.std.proofs.Common.{◌≡◌, ◌+◌, ◌∷◌, ◌++◌, [], ℕ, List, length, sym, ap, ◌∙◌, subst}
use Rattle.std.proofs.lemmas.List.{length_push}
use Rattle.cg_model.specs.Kernel.{Kernel}
use Rattle.cg_simplify.specs.Merging.{AreLike, IsLike}
use Rattle.cg_simplify.proofs.Likeness.{like_more}
use Rattle.cg_simplify.proofs.pairing.paired_nodes.Goals as goal

pub loop-number-preserved : goal.loop-number-preserved
loop-number-preserved c =
    let K = c.args.kernel.now in
    let old = c.loop-number.paired.items in
    let m = c.first_paired.result in
    let n = c.loop-number.number in
    let long : length old ≡ n = c.loop-number.invariant.long in
    let more : c.push.new.self.items ≡ old ++ m ∷ [] = c.in_ok-push.ensures.items in
    let is : IsLike K n m = subst (λ (k : Kernel). IsLike k n m) c.in_ok-table.ensures c.first_paired.ensures in
    record {
      long = ap (λ (xs : List ℕ). length xs) more ∙ length_push old m ∙ ap (λ z. z + 1) long;
      like = subst (AreLike K) (sym more) (like_more K old n m c.loop-number.invariant.like long is);
    }
