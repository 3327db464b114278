use Rattle.std.proofs.Common.{◌≡◌, ◌<◌, List, length, get_or, take, Bool, false, refl, ap, sym, subst, ◌∙◌}
use Rattle.cg_loop_syntax.specs.Uses.{is_misplaced}
use Rattle.cg_loop_reader.specs.declared.numbering.NumberedUse.{NumberedUse}
use Rattle.cg_loop_reader.specs.Numbered.{all_uses}
use Rattle.cg_loop_reader.proofs.Meeting.{place_is, sized_more, taken_more}
use Rattle.cg_loop_reader.proofs.Steps.{found, passed, no_use}
use Rattle.cg_loop_reader.proofs.arrays.first_misplaced.Goals as goal

pub returns-then-has_no_place : goal.returns-then-has_no_place
returns-then-has_no_place c =
    let xs = c.deref-used-items.result.now in
    let us = c.args.numbered.now.uses.items in
    let same : xs ≡ us = c.deref-used-items.ensures.value in
    let i = c.loop-used.used-index in
    let within : i < length us = subst (λ (ys : List NumberedUse). i < length ys) same c.loop-used-test.true in
    let loop = c.loop-used.invariant in
    found is_misplaced us xs i no_use same within loop.left (place_is (all_uses (take i us)) c.loop-used.taken (get_or xs i no_use).role loop.length loop.sized loop.taken ∙ sym c.has_no_place.ensures ∙ c.if-has_no_place.true)

pub loop-used-preserved : goal.loop-used-preserved
loop-used-preserved c =
    let xs = c.deref-used-items.result.now in
    let us = c.args.numbered.now.uses.items in
    let same : xs ≡ us = c.deref-used-items.ensures.value in
    let i = c.loop-used.used-index in
    let within : i < length us = subst (λ (ys : List NumberedUse). i < length ys) same c.loop-used-test.true in
    let loop = c.loop-used.invariant in
    let placed = sym c.has_no_place.ensures ∙ c.if-has_no_place.false in
    record {
      left = passed is_misplaced us xs i no_use same within loop.left (place_is (all_uses (take i us)) c.loop-used.taken (get_or xs i no_use).role loop.length loop.sized loop.taken ∙ placed);
      sized = sized_more us xs i no_use c.loop-used.taken same within loop.sized placed;
      taken = taken_more us xs i no_use c.loop-used.taken c.take.new.taken same within c.take.auto.taken loop.taken c.take.ensures;
      length = c.take.auto.taken ∙ loop.length;
    }

pub loop-used-init : goal.loop-used-init
loop-used-init c =
    let memory = c.as_mut_slice-taken.ensures.value in
    record {
      left = refl;
      sized = refl;
      taken = λ word lt. ap (λ words. get_or words word false) memory ∙ c.in_ok-memory.ensures.free word;
      length = ap (λ (words : List Bool). length words) memory ∙ c.in_ok-memory.ensures.length;
    }
