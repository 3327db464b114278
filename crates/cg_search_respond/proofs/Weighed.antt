-- The faults of a mapping that isn't legal are some.
use Rattle.std.proofs.Common.{◌^◌, ◌<◌, arith}
use Rattle.cg_model.specs.Kernel.{Kernel}
use Rattle.cg_model.specs.Array.{Arch}
use Rattle.cg_model.specs.Mapping.{Mapping}
use Rattle.cg_search_respond.specs.Faults.{faults_of}

pub faults_some : (A : Arch) (K : Kernel) (M : Mapping) → 0 < faults_of A K M
unfolding faults_of
faults_some A K M = omega arith

pub faults_small : (A : Arch) (K : Kernel) (M : Mapping) → faults_of A K M < 2 ^ 32
unfolding faults_of
faults_small A K M = omega arith
