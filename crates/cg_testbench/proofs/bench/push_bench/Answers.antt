use Rattle.std.proofs.Common.{◌≡◌, ◌++◌, ap}
use Rattle.cg_model.specs.Work.{Left}
use Rattle.cg_model.specs.Machine.{cycles}
use Rattle.cg_testbench.specs.Bench.{head_text, cells_text, declarations, edge_text, setup_text, run_text, bench_text}
use Rattle.cg_testbench.proofs.Steps.{renamed, joined}
use Rattle.cg_testbench.proofs.bench.push_bench.Goals as goal

pub returns : goal.returns
unfolding bench_text
returns g c =
    let run = c.args.run.now in
    let A = run.arch.now in
    let C = g.C.Contexts.config run.contexts.now in
    let n = run.turns in
    let image = run.image.now in
    let left : Left = record { image = run.end.now.image; outside = run.end.now.outside } in
    let t0 = c.args.text.now.items in
    let t1 = c.push_head.new.text.items in
    let t2 = c.push_cells.new.text.items in
    let t3 = c.push_declarations.new.text.items in
    let t4 = c.push_edge.new.text.items in
    let t5 = c.push_setup.new.text.items in
    let t6 = c.push_run.new.text.items in
    let last : t6 ≡ t5 ++ run_text (cycles C n) = renamed t5 t6 _ (run_text (cycles C n)) c.in_ok-push_run.ensures (ap run_text c.requires.cycles) in
    joined t0 (head_text A C n) t1 t6 _ c.in_ok-push_head.ensures (joined t1 (cells_text A) t2 t6 _ c.in_ok-push_cells.ensures
    (joined t2 (declarations C n image left) t3 t6 _ c.in_ok-push_declarations.ensures (joined t3 (edge_text A) t4 t6 _ c.in_ok-push_edge.ensures
    (joined t4 (setup_text A C n image left) t5 t6 (run_text (cycles C n)) c.in_ok-push_setup.ensures last))))
