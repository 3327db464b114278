use Rattle.std.proofs.Common.{◌≡◌, ◌<◌, ℕ, length, ◌∙◌, refl, arith, rules}
use Rattle.cg_gates.specs.Tables.{select_cell}
use Rattle.cg_gates_run.specs.Settle.{GiveSelects}
use Rattle.cg_datapath.proofs.Kept.{kept_more, right_more}
use Rattle.cg_gates_run.proofs.settle.give_selects.Goals as goal

pub loop-j-preserved : goal.loop-j-preserved
loop-j-preserved g c =
    let C = g.C.Contexts.config c.args.contexts.now in
    let slot = c.args.slot in
    let es = c.args.cells.now in
    let j = c.loop-j.j in
    let W = c.loop-j.words in
    let inside : j < length es = search rules in
    let able = c.requires j inside in
    let e = select_cell es j in
    let known : e.net < length W = (let h = able.1 in let k = c.loop-j.auto.words in omega arith) in
    let w = c.select.result in
    let word_is : (f : ℕ → ℕ) → GiveSelects C slot es f → w ≡ f e.net = λ f h. c.select.ensures ∙ h j inside in
    record {
      kept = λ f h. kept_more f c.args.words.now W e.net w known (word_is f h) (c.loop-j.invariant.kept f h);
      right = λ f h. right_more (λ (k : ℕ). (select_cell es k).net) f W j e.net w refl known (word_is f h) (c.loop-j.invariant.right f h);
    }

pub returns-clause-right : goal.returns-clause-right
returns-clause-right g c = λ f h j l. c.loop-j.invariant.right f h j (search rules)
