use Rattle.std.proofs.Common.{◌≡◌, ◌<◌, ℕ, length, sym, ap, ◌∙◌, arith, rules}
use Rattle.std.specs.Prelude.{slice_index}
use Rattle.std.proofs.lemmas.List.{get_or_read}
use Rattle.cg_gates.specs.declared.tables.Choice.{Choice}
use Rattle.cg_gates.specs.Tables.{choice}
use Rattle.cg_gates_run.specs.Settle.{IsReadable, GiveMuxes, chosen_by}
use Rattle.cg_datapath.proofs.Kept.{kept_more, right_more}
use Rattle.cg_gates_run.proofs.settle.settle_muxes.Goals as goal

pub loop-j-preserved : goal.loop-j-preserved
loop-j-preserved c =
    let t = c.args.muxes.now in
    let es = t.entries.items in
    let j = c.loop-j.j in
    let W = c.loop-j.words in
    let inside : j < length es = search rules in
    let able : IsReadable t.heard.items (length c.args.words.now) (choice es j) = c.requires.readable j inside in
    let e = c.index-entry.result.now in
    let entry_is : e ≡ choice es j = get_or_read es j e inside c.index-entry.ensures (record { net = 0; select = 0; first = 0; count = 0 }) in
    let net_is : e.net ≡ (choice es j).net = ap (λ (x : Choice). x.net) entry_is in
    let known : e.net < length W = (let h = able.net in let k = c.loop-j.auto.words in omega arith) in
    let w = c.chosen_word-word.result in
    let word_is : (f : ℕ → ℕ) → GiveMuxes t c.args.words.now f → w ≡ f e.net =
    λ f h. c.chosen_word-word.ensures ∙ ap (λ hs. chosen_by hs W e (slice_index W e.select)) c.deref.ensures.value ∙ ap (λ (x : Choice). chosen_by t.heard.items W x (slice_index W x.select)) entry_is ∙ h j inside W (c.loop-j.invariant.kept f h) (c.loop-j.invariant.right f h) ∙ ap f (sym net_is) in
    record {
      kept = λ f h. kept_more f c.args.words.now W e.net w known (word_is f h) (c.loop-j.invariant.kept f h);
      right = λ f h. right_more (λ (k : ℕ). (choice es k).net) f W j e.net w (sym net_is) known (word_is f h) (c.loop-j.invariant.right f h);
    }

pub returns-clause-right : goal.returns-clause-right
returns-clause-right c = λ f h j l. c.loop-j.invariant.right f h j (search rules)
