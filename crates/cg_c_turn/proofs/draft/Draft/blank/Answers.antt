use Rattle.std.proofs.Common.{◌∙◌, List, None, ap, arith, length, refl, slice_index_or}
use Rattle.cg_c_turn.specs.Draft.{Latest}
use Rattle.cg_c_turn.proofs.WordLists.{pushed_default}
use Rattle.cg_c_turn.proofs.draft.Draft.blank.Goals as goal

pub loop-init : goal.loop-init
loop-init c = record { arrays = refl; long = ap (λ (z : List Latest). length z) c.new-latest.ensures.items; all = λ n. ap (λ (z : List Latest). slice_index_or z n (record { version = 0; stored = None })) c.new-latest.ensures.items }

pub loop-preserved : goal.loop-preserved
loop-preserved c =
    let none : Latest = record { version = 0; stored = None } in
    record {
      arrays = refl;
      long = omega (arith, c.in_ok-push.ensures.len, c.loop.invariant.long);
      all = λ n. ap (λ (z : List Latest). slice_index_or z n none) c.in_ok-push.ensures.items ∙ pushed_default c.loop.latest.items none n ∙ c.loop.invariant.all n;
    }

pub returns : goal.returns
returns c =
    record {
      arrays_are = refl;
      counters = c.new.ensures.items;
      values = c.new-2.ensures;
      effects = c.new-3.ensures.items;
      guard = refl;
      words = c.new-4.ensures.items;
      initial = c.new-5.ensures.items;
      length_is = omega (arith, c.loop.invariant.long, c.loop-test.false, c.loop.auto.counter-end);
      latest = c.loop.invariant.all;
    }
