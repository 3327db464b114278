use Rattle.std.proofs.Common.{◌≡◌, ◌*◌, ◌≤◌, refl, arith, inl, inr}
use Rattle.std.proofs.lemmas.Result.{IfOk-weaker}
use Rattle.cg_c_forms.proofs.Computed.{added, digit_means, means_in, same_in}
use Rattle.cg_c_forms.proofs.Remainders.{last_digit}
use Rattle.cg_c_forms.proofs.digits.digit.Goals.{then-span-eq0-via-then-span-eq0, then-span-eq0-via-else-span-eq0+then-span-from}
use Rattle.cg_c_forms.proofs.digits.digit.Goals as goal

pub returns-then-span-eq0-clause-means : goal.returns-then-span-eq0-clause-means
returns-then-span-eq0-clause-means c =
    elim c.then-span-eq0.branch [
      | then-span-eq0-via-then-span-eq0 w ↦
          let zero : c.args.divisor * c.args.radix ≡ 0 = grind arith in
          IfOk-weaker c.any_quotient.result _ _ (λ v m. same_in (λ t l. last_digit c.args.divisor c.args.radix t (inl zero)) m) c.any_quotient.ensures.means
      | then-span-eq0-via-else-span-eq0+then-span-from w ↦
          let least : c.args.turns ≤ c.args.divisor * c.args.radix = grind arith in
          IfOk-weaker c.any_quotient.result _ _
          (λ v m. same_in (λ t l. last_digit c.args.divisor c.args.radix t (inr (omega arith))) m) c.any_quotient.ensures.means
    ]

pub returns-then-radix-eq3-clause-means : goal.returns-then-radix-eq3-clause-means
returns-then-radix-eq3-clause-means c =
    added _ _ c.insert.result (λ v l e. means_in (λ t b. refl) (digit_means _ v _ _ l e)) c.insert.ensures.within c.insert.ensures.added
