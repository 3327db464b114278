use Rattle.std.proofs.Common.{◌≡◌, ◌≤◌, max, drop}
use Rattle.cg_model.specs.Configured.{stages_of}
use Rattle.cg_emit.proofs.emission.stages_of.Given as goal

abbrev pub invariant-loop-place : goal.invariant-loop-place
invariant-loop-place l = record {
  some : 1 ≤ l.stages;
  few : l.stages ≤ 65535;
  rest : max l.stages (stages_of l.ii (drop l.place-index l.places)) ≡ stages_of l.ii l.places;
}
