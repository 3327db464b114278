use Rattle.std.proofs.Common.{ℕ, ◌≤◌, length, arith}
use Rattle.cg_bound_flow.specs.Taken.{on_stay, on_pull, on_tie}
use Rattle.cg_bound_flow.proofs.Certificates.{next, whole, one_more}
use Rattle.cg_bound_flow.proofs.extract.certificate.Goals as goal

pub loop-k-preserved : goal.loop-k-preserved
loop-k-preserved c = (
  λ f. next c.args.links.now c.args.flow.now c.loop-k.k (on_stay c.args.kernel.now f) _ _ (c.loop-k.invariant.0 f) (c.in_ok-add_stay.ensures.taken f),
  λ f. next c.args.links.now c.args.flow.now c.loop-k.k (on_pull c.args.kernel.now f) _ _ (c.loop-k.invariant.1 f) (c.in_ok-add_pull.ensures.taken f),
  λ f. next c.args.links.now c.args.flow.now c.loop-k.k (on_tie c.args.kernel.now f) _ _ (c.loop-k.invariant.2 f) (c.in_ok-add_tie.ensures.taken f),
  one_more c.loop-k.k _ _ c.loop-k.invariant.3 c.in_ok-add_stay.ensures.longer,
  one_more c.loop-k.k _ _ c.loop-k.invariant.4 c.in_ok-add_pull.ensures.longer,
  one_more c.loop-k.k _ _ c.loop-k.invariant.5 c.in_ok-add_tie.ensures.longer,
)

pub returns-clause-few : goal.returns-clause-few
returns-clause-few c =
    let b = c.loop-k.auto.k-end in
    let few : (n : ℕ) → n ≤ c.loop-k.k → n ≤ length c.args.links.now = λ n l. omega arith in
    (few _ c.loop-k.invariant.3, few _ c.loop-k.invariant.4, few _ c.loop-k.invariant.5)

pub returns-clause-taken : goal.returns-clause-taken
returns-clause-taken c =
    let a = c.loop-k-test.false in
    let b = c.loop-k.auto.k-end in
    record {
      on_stays = λ f. whole c.args.links.now c.args.flow.now c.loop-k.k (on_stay c.args.kernel.now f) _ (omega arith) (c.loop-k.invariant.0 f);
      on_pulls = λ f. whole c.args.links.now c.args.flow.now c.loop-k.k (on_pull c.args.kernel.now f) _ (omega arith) (c.loop-k.invariant.1 f);
      on_ties = λ f. whole c.args.links.now c.args.flow.now c.loop-k.k (on_tie c.args.kernel.now f) _ (omega arith) (c.loop-k.invariant.2 f);
    }
