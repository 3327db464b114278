use Rattle.std.proofs.Common.{◌≡◌, ◌+◌, ◌++◌, ◌∷◌, [], None, List, Vec, Global, refl, ap, subst, arith}
use Rattle.cg_model.specs.Config.{fields}
use Rattle.cg_config.specs.declared.head.UnitHead.{UnitHead}
use Rattle.cg_origins.specs.declared.tasks.Progress.{Progress}
use Rattle.cg_origins.specs.declared.tasks.Task.{Task}
use Rattle.cg_origins.proofs.TasksSoFar.{tasks_same, tasks_skip, tasks_more}
use Rattle.cg_origins.proofs.tasks.slot_tasks.Goals.{in-Some+in-Some-task_of+in_ok-push, in_default}
use Rattle.cg_origins.proofs.tasks.slot_tasks.Goals as goal

pub loop-unit-preserved : goal.loop-unit-preserved
loop-unit-preserved g c =
    let A = c.args.slot.now.arch.now in
    let C = g.C.Contexts.config c.args.slot.now.contexts.now in
    let slot = c.args.slot.now.number in
    let inv = c.loop-unit.invariant in
    let m = c.loop-unit.unit in
    let ts : List Task = c.loop-unit.tasks.items in
    elim c.match-head.branch [
      | in-Some+in-Some-task_of+in_ok-push w ↦
          let t = w.in-Some-task_of.task in
          let more = w.task_of.new.progress.rows in
          let rows : c.match-head.progress.rows ≡ more = ap (λ (q : Progress). q.rows) w.progress-is in
          let pushed : List Task = w.push.new.self.items in
          let items : c.match-head.tasks.items ≡ pushed = ap (λ (v : Vec Task Global). v.items) w.tasks-is in
          let all = tasks_more A C slot c.loop-unit.progress.rows m ts t more w.task_of.ensures.grows w.in-Some-task_of.ensures.task w.in-Some-task_of.ensures.unit inv.tasks in
          record {
            tasks = tasks_same A C slot more _ (m + 1) pushed _ rows items
                (tasks_same A C slot more more (m + 1) (ts ++ t ∷ []) pushed refl w.in_ok-push.ensures.items all);
            grows = (let a = inv.grows in let b = w.task_of.ensures.grows in omega arith);
            few = (let b = w.task_of.ensures.few in omega arith);
          }
      | in_default w ↦
          let rows : c.match-head.progress.rows ≡ c.loop-unit.progress.rows = ap (λ (q : Progress). q.rows) w.progress-is in
          let items : c.match-head.tasks.items ≡ ts = ap (λ (v : Vec Task Global). v.items) w.tasks-is in
          let off : (fields C m slot).op ≡ None = subst (λ (h : UnitHead). h.op ≡ None) c.head.ensures w.in_default.is in
          record {
            tasks = tasks_same A C slot c.loop-unit.progress.rows _ (m + 1) ts _ rows items (tasks_skip A C slot c.loop-unit.progress.rows m ts off inv.tasks);
            grows = (let a = inv.grows in omega arith);
            few = (let b = inv.few in omega arith);
          }
    ]
