use Rattle.std.proofs.Common.{sym, ap, ◌∙◌}
use Rattle.cg_c_values.specs.Values.{holds}
use Rattle.cg_c_forms.proofs.Computed.{added}
use Rattle.cg_c_values.proofs.Known.{inserts_keep, keeps}
use Rattle.cg_c_forms.proofs.Loading.{always, loaded, never_loaded}
use Rattle.cg_c_forms.proofs.loads.load.Goals.{in-None, in-Some+in-Some-number, in-Some+in-None-number}
use Rattle.cg_c_forms.proofs.loads.load.Goals as goal

pub returns-in-Some-eq0-clause-load : goal.returns-in-Some-eq0-clause-load
returns-in-Some-eq0-clause-load c =
    let below = rw c.in-Some.is at c.requires.guard in
    let constant = rw c.in-Some-eq0.field-0-test at c.in-Some-eq0.ensures.is in
    rw c.in-Some.is
    (added _ _ c.add.result (λ v l e. never_loaded _ _ _ _ _ _ v (keeps c.add.ensures.kept) below constant l e) c.add.ensures.within c.add.ensures.added)

pub returns-clause-load : goal.returns-clause-load
returns-clause-load c =
    elim c.match-guard.branch [
      | in-None w ↦
          added _ _ c.insert.result
          (λ v l e. loaded _ _ _ c.args.guard c.match-guard.guard _ v (λ x E f. ap (holds E) (w.guard-is ∙ sym w.in-None.is)) l e)
          c.insert.ensures.within c.insert.ensures.added
      | in-Some+in-Some-number w ↦
          let below = rw w.in-Some.is at c.requires.guard in
          added _ _ c.insert.result
          (λ v l e. loaded _ _ _ c.args.guard c.match-guard.guard _ v
          (λ x E f. ap (holds E) w.guard-is ∙ sym (ap (holds E) w.in-Some.is
          ∙ always _ _ _ _ (inserts_keep c.insert.ensures.kept) below w.in-Some-number.ensures.is w.in-Some-number.field-0-test.1 x E f)) l e)
          c.insert.ensures.within c.insert.ensures.added
      | in-Some+in-None-number w ↦
          added _ _ c.insert.result
          (λ v l e. loaded _ _ _ c.args.guard c.match-guard.guard _ v (λ x E f. ap (holds E) (w.guard-is ∙ sym w.in-Some.is)) l e)
          c.insert.ensures.within c.insert.ensures.added
    ]
