use Rattle.std.proofs.Common.{◌≡◌, ◌+◌, ◌∷◌, ◌++◌, [], ℕ, List, length, sym, ap, ◌∙◌, subst}
use Rattle.cg_simplify.specs.Live.{AreNumbered}
use Rattle.cg_simplify.proofs.Numbered.{number_kept, number_left}
use Rattle.cg_simplify.proofs.number.renumber.Goals as goal
use Rattle.cg_simplify.proofs.number.renumber.Goals.{then-marks-number+in_ok-push-2, else-marks-number}

pub loop-number-preserved : goal.loop-number-preserved
loop-number-preserved c =
    let n = c.loop-number.number in
    let marks = c.args.marks.now in
    let kept = c.loop-number.kept.items in
    let numbers = c.loop-number.numbers.items in
    let new : c.push.new.self.items ≡ numbers ++ length kept ∷ [] = c.in_ok-push.ensures.items ∙ ap (λ (k : ℕ). numbers ++ k ∷ []) (c.len.ensures ∙ c.loop-number.kept.ok.0) in
    elim c.if-marks-number.branch [
      | then-marks-number+in_ok-push-2 w ↦
          let more : c.if-marks-number.kept.items ≡ kept ++ n ∷ [] = ap (λ v. v.items) w.kept-is ∙ w.in_ok-push-2.ensures.items in
          subst (λ (k : List ℕ). AreNumbered (n + 1) marks k c.push.new.self.items) (sym more)
          (subst (λ (k : List ℕ). AreNumbered (n + 1) marks (kept ++ n ∷ []) k) (sym new) (number_kept n marks kept numbers c.loop-number.invariant w.if-marks-number.true))
      | else-marks-number w ↦
          let same : c.if-marks-number.kept.items ≡ kept = ap (λ v. v.items) w.kept-is in
          subst (λ (k : List ℕ). AreNumbered (n + 1) marks k c.push.new.self.items) (sym same)
          (subst (λ (k : List ℕ). AreNumbered (n + 1) marks kept k) (sym new) (number_left n marks kept numbers c.loop-number.invariant w.if-marks-number.false))
    ]
