use Rattle.std.proofs.Common.{◌≡◌, ◌++◌, ◌∷◌, [], List, length, sym, ap, subst, arith}
use Rattle.std.specs.Prelude.{slice_index_or}
use Rattle.std.proofs.lemmas.List.{length_push}
use Rattle.cg_model.specs.Array.{Arch}
use Rattle.cg_origins.specs.declared.tasks.Task.{Task}
use Rattle.cg_origins.specs.Tasks.{AreTasks}
use Rattle.cg_origins.proofs.TasksSoFar.{slots_more}
use Rattle.cg_origins.proofs.tasks.tasks_of.Goals as goal

pub loop-number-preserved : goal.loop-number-preserved
loop-number-preserved g c =
    let A = c.args.arch.now in
    let C = g.C.Contexts.config c.args.contexts.now in
    let inv = c.loop-number.invariant in
    let n = c.loop-number.number in
    let rows = c.slot_tasks.new.progress.rows in
    let slots : List (List Task) = c.loop-number.slots.items in
    let row : List Task = c.new-in-loop-number.result in
    let pushed : List (List Task) = c.push.new.self.items in
    let items : pushed ≡ slots ++ row ∷ [] = c.in_ok-push.ensures.items in
    let grows = c.slot_tasks.ensures.grows in
    let made : AreTasks c.in_ok-arch.arch C n rows c.in-Some.tasks.items = rw c.in-Some.is at c.in_ok-tasks.ensures.tasks in
    let own : AreTasks A C n rows c.in-Some.tasks.items = subst (λ (B : Arch). AreTasks B C n rows c.in-Some.tasks.items) c.in_ok-arch.ensures made in
    let one : AreTasks A C n rows row = subst (λ (z : List Task). AreTasks A C n rows z) (sym c.new-in-loop-number.ensures) own in
    record {
      long = (let long = inv.long in let grown = ap length items in let by_one = length_push slots row in omega arith);
      some = (let a = inv.some in omega arith);
      few = c.slot_tasks.ensures.few;
      each = λ slot l. subst (λ (z : List (List Task)). AreTasks A C slot rows (slice_index_or z slot [])) (sym items)
          (slots_more A C n c.loop-number.progress.rows rows slots row inv.long grows inv.each one slot l);
    }

pub returns : goal.returns
returns g c =
    let inv = c.loop-number.invariant in
    let end = c.loop-number-test.false in
    let most = c.loop-number.auto.number-end in
    let ii = c.ii-number-end.ensures in
    record {
      long = (let long = inv.long in omega arith);
      some = inv.some;
      few = inv.few;
      each = λ slot l. inv.each slot (omega arith);
    }
