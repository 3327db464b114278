use Rattle.std.proofs.Common.{arith, ◌≡◌, ◌<◌, length, sym, subst, ◌∙◌}
use Rattle.std.specs.Prelude.{slice_index}
use Rattle.std.proofs.lemmas.List.{get_or_read}
use Rattle.cg_model.specs.Machine.{ago, at_cycle}
use Rattle.cg_sim.specs.Run.{Run}
use Rattle.cg_sim.proofs.Cycles.{last_first, last_later}
use Rattle.cg_sim.proofs.sim.Sim.value.Goals as goal

pub returns-clause-before_the_first : goal.returns-clause-before_the_first
returns-clause-before_the_first g c =
    let R : Run = c.args.self.now in
    let words = c.self.inside.words.items in
    let r = c.args.resource in
    let is : slice_index words r ≡ (ago (at_cycle R.arch R.config R.n R.image R.done).past 1).words r =
    subst (λ (X : Run). slice_index words r ≡ (ago (at_cycle X.arch X.config X.n X.image X.done).past 1).words r) c.self.view_is (c.self.invariant.state_is.words_are r) in
    let within : r < length c.self.inside.course.arch.resources = subst (λ (X : Run). r < length X.arch.resources) (sym c.self.view_is) c.requires in
    let long : r < length words = (let e = c.self.invariant.state_is.words_long in omega arith) in
    let read : c.index.result.now ≡ slice_index words r = get_or_read words r c.index.result.now long c.index.ensures 0 in
    λ e. read ∙ is ∙ last_first R.arch R.config R.n R.image R.done r e

pub returns-clause-last : goal.returns-clause-last
returns-clause-last g c =
    let R : Run = c.args.self.now in
    let words = c.self.inside.words.items in
    let r = c.args.resource in
    let is : slice_index words r ≡ (ago (at_cycle R.arch R.config R.n R.image R.done).past 1).words r =
    subst (λ (X : Run). slice_index words r ≡ (ago (at_cycle X.arch X.config X.n X.image X.done).past 1).words r) c.self.view_is (c.self.invariant.state_is.words_are r) in
    let within : r < length c.self.inside.course.arch.resources = subst (λ (X : Run). r < length X.arch.resources) (sym c.self.view_is) c.requires in
    let long : r < length words = (let e = c.self.invariant.state_is.words_long in omega arith) in
    let read : c.index.result.now ≡ slice_index words r = get_or_read words r c.index.result.now long c.index.ensures 0 in
    λ k e. read ∙ is ∙ last_later R.arch R.config R.n R.image R.done k r e
