use Rattle.std.proofs.Common.{◌≡◌, ◌+◌, ◌<◌, ℕ, length, sym, ap, ◌∙◌, arith, rules}
use Rattle.std.specs.Prelude.{slice_index}
use Rattle.std.proofs.lemmas.List.{get_or_read}
use Rattle.cg_model.specs.Config as config
use Rattle.cg_sim.specs.declared.plan.Link.{Link}
use Rattle.cg_sim.specs.Plan.{link}
use Rattle.cg_sim.specs.Settle.{chosen, IsReadable, Follows}
use Rattle.cg_datapath.proofs.Kept.{kept_more, right_more}
use Rattle.cg_sim.proofs.settle.settle_nets.Goals as goal

pub loop-j-preserved : goal.loop-j-preserved
loop-j-preserved g c =
    let C = g.C.Contexts.config c.args.contexts.now in
    let slot = c.args.slot in
    let ls = c.args.nets.now in
    let j = c.loop-j.j in
    let W = c.loop-j.words in
    let inside : j < length ls.entries.items = search rules in
    let readable : IsReadable C slot ls (length c.args.words.now) j = c.requires.readable j inside in
    let e = c.index-entry.result.now in
    let entry_is : e ≡ link ls.entries.items j = get_or_read ls.entries.items j e inside c.index-entry.ensures (record { resource = 0; first = 0 }) in
    let first_is : e.first ≡ (link ls.entries.items j).first = ap (λ (x : Link). x.first) entry_is in
    let resource_is : e.resource ≡ (link ls.entries.items j).resource = ap (λ (x : Link). x.resource) entry_is in
    let select_is : c.select-select.result ≡ config.select C (link ls.entries.items j).resource slot = c.select-select.ensures ∙ ap (λ (r : ℕ). config.select C r slot) resource_is in
    let place_is : e.first + c.select-select.result ≡ (link ls.entries.items j).first + config.select C (link ls.entries.items j).resource slot = omega arith in
    let d = c.index-driver.result.now in
    let within : e.first + c.select-select.result < length ls.drivers.items = (let h = readable.within in omega arith) in
    let driver_is : d ≡ chosen C slot ls j = get_or_read ls.drivers.items (e.first + c.select-select.result) d within c.index-driver.ensures 0 ∙ ap (slice_index ls.drivers.items) place_is in
    let known : e.resource < length W = (let h = readable.resource in let k = c.loop-j.auto.words in omega arith) in
    let w = slice_index W d in
    let word_is : (f : ℕ → ℕ) → ((k : ℕ) → k < length ls.entries.items → Follows C slot ls c.args.words.now f k) → w ≡ f e.resource =
    λ f h. ap (slice_index W) driver_is ∙ h j inside W (c.loop-j.invariant.kept f h) (c.loop-j.invariant.right f h) ∙ ap f (sym resource_is) in
    record {
      kept = λ f h. kept_more f c.args.words.now W e.resource w known (word_is f h) (c.loop-j.invariant.kept f h);
      right = λ f h. right_more (λ (k : ℕ). (link ls.entries.items k).resource) f W j e.resource w (sym resource_is) known (word_is f h) (c.loop-j.invariant.right f h);
    }

pub returns-clause-right : goal.returns-clause-right
returns-clause-right g c = λ f h j l. c.loop-j.invariant.right f h j (search rules)
