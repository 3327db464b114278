use Rattle.std.proofs.Common.{◌≡◌, ◌+◌, ◌∷◌, ◌++◌, [], ℕ, List, length, sym, ap, ◌∙◌, subst, arith}
use Rattle.std.specs.Prelude.{slice_index}
use Rattle.std.proofs.lemmas.List.{length_push}
use Rattle.cg_simplify.specs.Merging.{AreLike, IsLike, target}
use Rattle.cg_simplify.proofs.Likeness.{counted_like, like_more}
use Rattle.cg_simplify.proofs.merging.like_nodes.Goals as goal

pub loop-number-preserved : goal.loop-number-preserved
loop-number-preserved c =
    let K = c.args.joins.now in
    let index = c.args.index.now in
    let old = c.loop-number.like.items in
    let like = c.push.new.self.items in
    let m = c.first_like.result in
    let n = c.loop-number.number in
    let long : length old ≡ n = c.loop-number.invariant.long in
    let more : like ≡ old ++ m ∷ [] = c.in_ok-push.ensures.items in
    let longer : length like ≡ n + 1 = ap (λ (xs : List ℕ). length xs) more ∙ length_push old m ∙ ap (λ z. z + 1) long in
    let all : AreLike K like = subst (AreLike K) (sym more) (like_more K old n m c.loop-number.invariant.like long c.first_like.ensures) in
    let before = c.loop-number.counted.items in
    let k = c.number_of.result in
    let count : k ≡ slice_index like (target like index n) =
    c.number_of.ensures
    ∙ ap (λ (xs : List ℕ). slice_index xs c.target.result) c.deref-in-loop-number-2.ensures.value
    ∙ ap (λ (x : ℕ). slice_index like x) (c.target.ensures ∙ ap (λ (xs : List ℕ). target xs index n) c.deref-in-loop-number-3.ensures.value) in
    let is : IsLike K n k = subst (IsLike K n) (sym count) (counted_like K like index n all (omega (arith, longer))) in
    let added : c.push-in-loop-number.new.self.items ≡ before ++ k ∷ [] = c.in_ok-push-2.ensures.items in
    let short : length before ≡ n = c.loop-number.invariant.counted_long in
    record {
      long = longer;
      counted_long = ap (λ (xs : List ℕ). length xs) added ∙ length_push before k ∙ ap (λ z. z + 1) short;
      like = all;
      counted = subst (AreLike K) (sym added) (like_more K before n k c.loop-number.invariant.counted short is);
    }
