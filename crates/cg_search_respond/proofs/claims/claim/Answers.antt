use Rattle.std.proofs.Common.{◌≡◌, ◌%◌, [], length, sym, ◌∙◌}
use Rattle.std.specs.Prelude.{slice_index_or}
use Rattle.std.proofs.lemmas.List.{get_or_read}
use Rattle.cg_search_respond.specs.Kept.{list_of}
use Rattle.cg_search_respond.proofs.Kept.{adds_none, adds_met, stays_kept, comes_kept}
use Rattle.cg_search_respond.proofs.claims.claim.Goals as goal

pub returns-then-is_claimed-clause-adds : goal.returns-then-is_claimed-clause-adds
returns-then-is_claimed-clause-adds c = λ before has.
    let k = c.list_of-at.result in
    let e : k ≡ list_of (length c.args.lists.now) c.args.ii c.args.stop.resource (c.args.stop.time % c.args.ii) = c.list_of-at.ensures.value in
    let held = c.as_slice-held.result.now in
    let is : held ≡ slice_index_or c.args.lists.now k [] = c.as_slice-held.ensures ∙ sym c.index-lists-at.is ∙ get_or_read c.args.lists.now k c.index-lists-at.result c.list_of-at.ensures.below c.index-lists-at.is [] in
    adds_none c.args.ii before c.args.lists.now has c.args.stop k e held is c.is_claimed.result c.is_claimed.ensures c.if-is_claimed.true

pub returns-then-is_claimed-clause-kept : goal.returns-then-is_claimed-clause-kept
returns-then-is_claimed-clause-kept c = λ before has.
    let k = c.list_of-at.result in
    let e : k ≡ list_of (length c.args.lists.now) c.args.ii c.args.stop.resource (c.args.stop.time % c.args.ii) = c.list_of-at.ensures.value in
    let held = c.as_slice-held.result.now in
    let is : held ≡ slice_index_or c.args.lists.now k [] = c.as_slice-held.ensures ∙ sym c.index-lists-at.is ∙ get_or_read c.args.lists.now k c.index-lists-at.result c.list_of-at.ensures.below c.index-lists-at.is [] in
    stays_kept c.args.ii before c.args.lists.now has c.args.stop k e held is c.is_claimed.result c.is_claimed.ensures c.if-is_claimed.true

pub returns-clause-adds : goal.returns-clause-adds
returns-clause-adds c = λ before has.
    let k = c.list_of-at.result in
    let e : k ≡ list_of (length c.args.lists.now) c.args.ii c.args.stop.resource (c.args.stop.time % c.args.ii) = c.list_of-at.ensures.value in
    let held = c.as_slice-held.result.now in
    let is : held ≡ slice_index_or c.args.lists.now k [] = c.as_slice-held.ensures ∙ sym c.index-lists-at.is ∙ get_or_read c.args.lists.now k c.index-lists-at.result c.list_of-at.ensures.below c.index-lists-at.is [] in
    adds_met c.args.ii before c.args.lists.now has c.args.stop k e held is c.is_claimed.result c.is_met-adds.result c.is_claimed.ensures c.if-is_claimed.false c.is_met-adds.ensures

pub returns-clause-kept : goal.returns-clause-kept
returns-clause-kept c = λ before has.
    let k = c.list_of-at.result in
    let e : k ≡ list_of (length c.args.lists.now) c.args.ii c.args.stop.resource (c.args.stop.time % c.args.ii) = c.list_of-at.ensures.value in
    let held = c.as_slice-held.result.now in
    let is : held ≡ slice_index_or c.args.lists.now k [] = c.as_slice-held.ensures ∙ sym c.index-lists-at.is ∙ get_or_read c.args.lists.now k c.index-lists-at.result c.list_of-at.ensures.below c.index-lists-at.is [] in
    comes_kept c.args.ii before c.args.lists.now has c.args.stop k e held is c.keep.new.lists c.list_of-at.ensures.below c.in_ok-keep.ensures
