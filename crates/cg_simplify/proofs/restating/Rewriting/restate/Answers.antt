use Rattle.std.proofs.Common.{subst, sym}
use Rattle.std.specs.Prelude.{IfSome}
use Rattle.cg_model.specs.Kernel.{Kernel}
use Rattle.cg_simplify_draft.specs.Restates.{Restates}
use Rattle.cg_simplify.specs.Restating.{MayBecome}
use Rattle.cg_simplify.proofs.Drafted.{text_keeps}
use Rattle.cg_simplify.proofs.restating.Rewriting.restate.Goals as goal

pub set_text-requires-clause-fits : goal.set_text-requires-clause-fits
set_text-requires-clause-fits c =
    let r = c.args.self.now in
    let may : MayBecome r.table r.tops.items r.draft c.args.number c.in-Some.text = subst (λ z. IfSome z (MayBecome r.table r.tops.items r.draft c.args.number)) c.in-Some.is c.in_ok-text.ensures in
    may.fits

pub returns-in-Some-clause-kept : goal.returns-in-Some-clause-kept
returns-in-Some-clause-kept c = λ K good x.
    let r = c.args.self.now in
    let t = c.in-Some.text in
    let ts = r.tops.items in
    let may : MayBecome r.table ts r.draft c.args.number t = subst (λ z. IfSome z (MayBecome r.table ts r.draft c.args.number)) c.in-Some.is c.in_ok-text.ensures in
    record {
      table = x.table;
      tops = x.tops;
      restates = subst (Restates K) (sym c.set_text.ensures)
          (text_keeps K ts r.draft c.args.number t (subst (λ (k : Kernel). MayBecome k ts r.draft c.args.number t) x.table may) good x.tops x.restates);
    }
