-- The walk of a task can begin.
use Rattle.std.proofs.Common.{◌≡◌, ℕ, List, arith}
use Rattle.cg_model.specs.Kernel.{Kernel}
use Rattle.cg_model.specs.Array.{Arch}
use Rattle.cg_walk_spec.specs.Good.{IsReady}
use Rattle.cg_walk_spec.proofs.Early.{early_soon}
use Rattle.cg_place.specs.Posed.{Posed, IsTask}

pub ready : (T : Posed) → IsTask T → IsReady T.arch T.kernel T.ii T.early
ready T t = record {
  interval = t.some;
  contexts = t.contexts;
  offered = t.offered;
  each = t.times.each;
  soon = λ v l.
      let s = early_soon T.arch T.kernel T.ii T.early t.arch t.kernel t.times.right t.free v l in
      let few = t.contexts in
      let small = t.arch.small.contexts.1 in
      omega (arith, s, few, small);
}

-- a task in its parts
pub posed : (T : Posed) (A : Arch) (K : Kernel) (ii : ℕ) (early : List ℕ) → A ≡ T.arch → K ≡ T.kernel → ii ≡ T.ii → early ≡ T.early → record { arch = A; kernel = K; ii = ii; early = early } ≡ T
posed T A K ii early a k i e =
    let same : record { arch = A; kernel = K; ii = ii; early = early } ≡ record { arch = T.arch; kernel = T.kernel; ii = T.ii; early = T.early } = cc in
    same
