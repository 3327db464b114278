-- Times whose stays fit in the registers exclude each certificate.
use Rattle.std.proofs.Common.{ℕ}
use Rattle.cg_model.specs.Kernel.{Kernel, IsKernel}
use Rattle.cg_model.specs.Array.{Arch}
use Rattle.cg_bound_registers.specs.Pressure.{HasNoPressure, IsLoose}
use Rattle.cg_bound_registers.proofs.Duality.{no_excess_loose}

pub not_loose : (A : Arch) (K : Kernel) (hops : ℕ → ℕ → ℕ) (ii : ℕ) (time lasts longest : ℕ → ℕ) → IsKernel K → IsLoose A K hops ii time lasts longest → HasNoPressure A K hops ii
not_loose A K hops ii time lasts longest good loose P p =
    no_excess_loose A K good hops ii time lasts (record { latencies = loose.latencies; edges = loose.edges; order = loose.order }) P p.balanced longest loose.stays loose.few p.excess
