use Rattle.std.proofs.Common.{◌≡◌, ◌⊎◌, ℕ, ◌<◌, true, false}
use Rattle.std.specs.Prelude.{slice_index_or}
use Rattle.cg_model.specs.Config as configs
use Rattle.cg_model.specs.Canonical.{gives_output}
use Rattle.cg_datapath.specs.Reserved.{IsSentToIn}
use Rattle.cg_datapath.proofs.streams.mark_used.Given as goal

abbrev pub invariant-loop-x : goal.invariant-loop-x
invariant-loop-x g l = record {
  kept : (port : ℕ) → slice_index_or l.initial.used port false ≡ true → slice_index_or l.used port false ≡ true;
  marked : (x : ℕ) → x < l.x → gives_output (configs.fields (g.C.Contexts.config l.contexts) x l.slot).op ≡ true → slice_index_or l.used (configs.fields (g.C.Contexts.config l.contexts) x l.slot).port false ≡ true;
  only : (port : ℕ) → slice_index_or l.used port false ≡ true → (slice_index_or l.initial.used port false ≡ true) ⊎ IsSentToIn (g.C.Contexts.config l.contexts) l.x l.slot port;
}
