use Rattle.std.proofs.Common.{◌≡◌, ◌≢◌, ◌<◌, length, rules, sym, subst}
use Rattle.cg_levelize.specs.declared.walk.Mark.TheVariants.{Open}
use Rattle.cg_levelize.specs.Topological.{IsCombinationalLoop}
use Rattle.cg_levelize.specs.Walk.{IsLast, IsStep}
use Rattle.cg_levelize.proofs.Reading.{last_read, last_known, waiting_known, on_path, step_back, step_on, step_ring}
use Rattle.cg_levelize.proofs.walk.Walk.step.Goals as goal
use Rattle.cg_levelize.proofs.walk.Walk.step.Goals.{in-None+in_ok-close-in-None, in-Some+else-eq+in_ok-open-in-Some}

pub index-requires : goal.index-requires
index-requires c =
    let mid = c.next_driver.new.self in
    let known : c.in-Some.driver < length mid.marks.items = waiting_known c.args.resources.now mid c.index-last.result.now c.in-Some.driver c.requires.known c.in-Some.ensures.walk c.in-Some.ensures.waits in
    search rules

pub ring_of-requires : goal.ring_of-requires
ring_of-requires c =
    let opened : c.index.result.now ≡ Open = search rules in
    on_path c.args.resources.now c.next_driver.new.self c.deref.result.now c.index-last.result.now c.in-Some.driver c.index.result.now c.requires.known c.in-Some.ensures.walk c.in-Some.ensures.waits c.deref.ensures.value c.index.ensures opened

pub returns-then-eq-clause-ring : goal.returns-then-eq-clause-ring
returns-then-eq-clause-ring c =
    let rs = c.args.resources.now in
    let w = c.args.self.now in
    let long : c.len.result ≡ length w.path.items = search rules in
    let last : IsLast w.path.items c.index-last.result.now = last_read w.path.items c.len.result c.index-last.result.now c.requires.some long c.index-last.ensures in
    subst (IsCombinationalLoop rs) (sym c.new.ensures)
    (step_ring rs w c.next_driver.new.self c.index-last.result.now c.in-Some.driver c.deref.result.now c.in_ok-ring-in-Some.ring.items c.in-Some.ensures.alike c.in-Some.ensures.walk last c.in-Some.ensures.waits c.deref.ensures.value c.in_ok-ring-in-Some.ensures)

pub open-requires : goal.open-requires
open-requires c = waiting_known c.args.resources.now c.next_driver.new.self c.index-last.result.now c.in-Some.driver c.requires.known c.in-Some.ensures.walk c.in-Some.ensures.waits

pub returns-clause-ok : goal.returns-clause-ok
returns-clause-ok c =
    let rs = c.args.resources.now in
    let w = c.args.self.now in
    let mid = c.next_driver.new.self in
    let x = c.index-last.result.now in
    let long : c.len.result ≡ length w.path.items = search rules in
    let last : IsLast w.path.items x = last_read w.path.items c.len.result x c.requires.some long c.index-last.ensures in
    elim c.match-next_driver.branch [
      | in-None+in_ok-close-in-None b ↦
          subst (IsStep rs w) (sym b.self-is)
          (step_back rs w mid b.close.new.self x b.in-None.ensures.alike b.in-None.ensures.walk (last_known rs w x c.requires.walk last) b.in-None.ensures.none b.in_ok-close-in-None.ensures)
      | in-Some+else-eq+in_ok-open-in-Some b ↦
          let not_open : b.index.result.now ≢ Open = search rules in
          subst (IsStep rs w) (sym b.self-is)
          (step_on rs w mid b.open.new.self x b.in-Some.driver b.index.result.now c.requires.known b.in-Some.ensures.alike b.in-Some.ensures.walk last b.in-Some.ensures.waits b.index.ensures not_open b.in_ok-open-in-Some.ensures)
    ]
