use Rattle.std.proofs.Common.{◌≡◌, suc, ◌+◌, ◌-◌, arith}
use Rattle.cg_image_text.proofs.Running.{run_more}
use Rattle.cg_image_text.proofs.run.push_run.Goals as goal

pub loop-k-preserved : goal.loop-k-preserved
loop-k-preserved c =
    let n = c.args.run.count - c.loop-k._k in
    let k = c.args.run.count - (c.loop-k._k + 1) in
    let e : n ≡ suc k = omega arith in
    run_more c.loop-k.words c.push.new.self _ c.loop-k.word c.args.run.step n k c.in_ok-push.ensures e c.loop-k.invariant
