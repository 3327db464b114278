-- The kernel of a loop body that is small enough is a kernel.
use Rattle.std.proofs.Common.{◌≤◌, length}
use Rattle.cg_model.specs.Kernel.{IsKernel, size}
use Rattle.cg_loop_syntax.specs.declared.body.LoopBody.{LoopBody}
use Rattle.cg_loop_syntax.specs.Body.{body_of}
use Rattle.cg_loop_laws.specs.Translate.{loop_kernel_of}
use Rattle.cg_loop_laws.proofs.Rows.{well_loop}
use Rattle.cg_loop_laws.proofs.Ruled.{body_sound, body_ruled}
use Rattle.cg_loop_laws.proofs.Valid.{valid}

pub kernel_valid : (b : LoopBody) → size (loop_kernel_of (body_of b)) ≤ 1024 → length (loop_kernel_of (body_of b)).order ≤ 4096 → IsKernel (loop_kernel_of (body_of b))
kernel_valid b few few_edges =
    let h = well_loop b.decls b.stmts b.well in
    valid (body_of b) (body_sound (body_of b) h) (body_ruled (body_of b) h) few few_edges
