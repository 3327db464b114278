-- What a run leaves.
use Rattle.std.proofs.Common.{◌≡◌, ℕ, ◌<◌, List, [], map, ap, ◌∙◌}
use Rattle.std.specs.Prelude.{slice_index_or}
use Rattle.std.specs.List.{range_with_len}
use Rattle.std.proofs.lemmas.List.FromFn.{fill_by_all}
use Rattle.cg_model.specs.Array.{Arch}
use Rattle.cg_model.specs.Config.{Config}
use Rattle.cg_model.specs.Work.{Image}
use Rattle.cg_model.specs.Machine.{at_cycle, cycles, machine_left}
use Rattle.cg_datapath.specs.Course.{Course}
use Rattle.cg_sim.specs.State.{IsState}

pub left_is : (A : Arch) (C : Config) (n : ℕ) (image : Image) (c : ℕ) (words before : List ℕ) (k : Course) → IsState A C n image c words before k → c ≡ cycles C n →
    let i : Image = record { memory = k.memory; streams = k.streams } in i ≡ (machine_left A C n image).image
left_is A C n image c words before k s last =
    let each : (port : ℕ) → port < 16 → slice_index_or k.streams port [] ≡ (at_cycle A C n image (cycles C n)).streams port =
    λ port l. s.streams port l ∙ ap (λ (z : ℕ). (at_cycle A C n image z).streams port) last in
    let streams : k.streams ≡ map (at_cycle A C n image (cycles C n)).streams (range_with_len 0 16) = fill_by_all (at_cycle A C n image (cycles C n)).streams k.streams 16 [] s.ports each in
    let memory : k.memory ≡ (at_cycle A C n image (cycles C n)).memory = s.memory ∙ ap (λ (z : ℕ). (at_cycle A C n image z).memory) last in
    ap (λ (m : List ℕ). let i : Image = record { memory = m; streams = k.streams } in i) memory
    ∙ ap (λ (xs : List (List ℕ)). let i : Image = record { memory = (at_cycle A C n image (cycles C n)).memory; streams = xs } in i) streams
