use Rattle.std.proofs.Common.{◌≡◌, ◌++◌}
use Rattle.cg_model.specs.Work.{Left}
use Rattle.cg_testbench.specs.declared.frame.TheConstants.{START, IMAGE, LEFT}
use Rattle.cg_testbench.specs.Setup.{configuration_lines, image_lines, left_lines}
use Rattle.cg_testbench.proofs.Steps.{renamed, joined}
use Rattle.cg_testbench.proofs.bench.push_setup.Goals as goal

pub returns : goal.returns
returns g c =
    let run = c.args.run.now in
    let C = g.C.Contexts.config run.contexts.now in
    let image = run.image.now in
    let left : Left = record { image = run.end.now.image; outside = run.end.now.outside } in
    let t0 = c.args.text.now.items in
    let t1 = c.extend_from_slice.new.self.items in
    let t2 = c.push_configuration.new.text.items in
    let t3 = c.extend_from_slice-2.new.self.items in
    let t4 = c.push_image.new.text.items in
    let t5 = c.extend_from_slice-3.new.self.items in
    let t6 = c.push_left.new.text.items in
    let start : t1 ≡ t0 ++ START.now = renamed t0 t1 _ START.now c.in_ok-extend_from_slice.ensures.items c.as_bytes.ensures.value in
    let before_image : t3 ≡ t2 ++ IMAGE.now = renamed t2 t3 _ IMAGE.now c.in_ok-extend_from_slice-2.ensures.items c.as_bytes-2.ensures.value in
    let before_left : t5 ≡ t4 ++ LEFT.now = renamed t4 t5 _ LEFT.now c.in_ok-extend_from_slice-3.ensures.items c.as_bytes-3.ensures.value in
    joined t0 START.now t1 t6 _ start (joined t1 (configuration_lines run.arch.now C) t2 t6 _ c.in_ok-push_configuration.ensures
    (joined t2 IMAGE.now t3 t6 _ before_image (joined t3 (image_lines run.turns image) t4 t6 _ c.in_ok-push_image.ensures
    (joined t4 LEFT.now t5 t6 (left_lines image left) before_left c.in_ok-push_left.ensures))))
