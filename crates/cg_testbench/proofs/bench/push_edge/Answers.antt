use Rattle.std.proofs.Common.{◌≡◌, ◌++◌}
use Rattle.cg_testbench.specs.declared.frame.TheConstants.{TASKS, EDGE, NEXT}
use Rattle.cg_testbench.specs.Array.{trace_lines, units_text}
use Rattle.cg_testbench.proofs.Steps.{renamed, joined}
use Rattle.cg_testbench.proofs.bench.push_edge.Goals as goal

pub returns : goal.returns
returns c =
    let A = c.args.arch.now in
    let t0 = c.args.text.now.items in
    let t1 = c.extend_from_slice.new.self.items in
    let t2 = c.push_trace_lines.new.text.items in
    let t3 = c.extend_from_slice-2.new.self.items in
    let t4 = c.push_units.new.text.items in
    let t5 = c.extend_from_slice-3.new.self.items in
    let tasks : t1 ≡ t0 ++ TASKS.now = renamed t0 t1 _ TASKS.now c.in_ok-extend_from_slice.ensures.items c.as_bytes.ensures.value in
    let edge : t3 ≡ t2 ++ EDGE.now = renamed t2 t3 _ EDGE.now c.in_ok-extend_from_slice-2.ensures.items c.as_bytes-2.ensures.value in
    let next : t5 ≡ t4 ++ NEXT.now = renamed t4 t5 _ NEXT.now c.in_ok-extend_from_slice-3.ensures.items c.as_bytes-3.ensures.value in
    joined t0 TASKS.now t1 t5 _ tasks (joined t1 (trace_lines A) t2 t5 _ c.in_ok-push_trace_lines.ensures (joined t2 EDGE.now t3 t5 _ edge (joined t3 (units_text A) t4 t5 NEXT.now c.in_ok-push_units.ensures next)))
