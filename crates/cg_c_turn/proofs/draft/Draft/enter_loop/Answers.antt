use Rattle.std.proofs.lemmas.Result.{IfOk-weaker}
use Rattle.std.proofs.Common.{ℕ, List, ap}
use Rattle.cg_c_values.specs.Listed.{listed}
use Rattle.cg_c_turn.specs.Draft.{draft_of}
use Rattle.cg_c_turn.proofs.Loops.{adds_then, of_turn_later, with_counters}
use Rattle.cg_c_turn.proofs.draft.Draft.enter_loop.Goals as goal

pub returns : goal.returns
returns c = IfOk-weaker c.digit.result _ _ (λ v h. record {
  counter = c.in_ok-counter.counter;
  rest = ap (λ (z : List ℕ). with_counters (record (draft_of c.args.self.now) { values = listed c.digit.new.values }) z) c.in_ok-push.ensures.items;
  adds = adds_then (listed c.args.self.now.values) (listed c.counter.new.values) (listed c.digit.new.values) c.counter.ensures.adds c.digit.ensures.adds;
  counter_is = of_turn_later (listed c.counter.new.values) (listed c.digit.new.values) c.in_ok-counter.counter _ c.digit.ensures.adds.keeps c.in_ok-counter.ensures.counter;
  index_is = h;
}) c.digit.ensures.digit
