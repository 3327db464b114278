use Rattle.std.proofs.Common.{◌≡◌, ◌++◌, [], ◌∷◌, true, ◌&&◌, sym, ap, ◌∙◌, rules}
use Rattle.std.proofs.lemmas.Bool.{cond-true}
use Rattle.cg_word.specs.Word.{is_store}
use Rattle.cg_model.specs.Work.{stored, stores, acts}
use Rattle.cg_pad.specs.Work.{work_of}
use Rattle.cg_datapath.specs.Effects.{applied}
use Rattle.cg_datapath.specs.declared.effects.Store.{Store}
use Rattle.cg_datapath.proofs.Begun.{applied-push}
use Rattle.cg_datapath.proofs.effects.hold.Goals as goal

pub returns-then-acts-clause-stores : goal.returns-then-acts-clause-stores
unfolding stored
returns-then-acts-clause-stores c =
    let w = c.args.work in
    let a : is_store w.op ≡ true = sym c.is_store.ensures ∙ c.if-is_store.true in
    let b : acts w.op w.args ≡ true = sym c.acts.ensures ∙ c.if-acts.true in
    let both : stores (work_of w) ≡ true = ap (λ z. z && acts w.op w.args) a ∙ b in
    let s : Store = record { address = c.address.result; value = c.last_operand.result } in
    let pushed : c.push-done.new.self.items ≡ c.args.pending.now.items ++ s ∷ [] = search rules in
    λ memory. ap (applied memory) pushed ∙ applied-push memory c.args.pending.now.items s ∙ rw (c.address.ensures, c.last_operand.ensures) (sym (cond-true (stores (work_of w)) _ _ both))
