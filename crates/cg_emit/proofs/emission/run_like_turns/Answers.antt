use Rattle.std.proofs.Common.{◌≡◌, length, subst, ⊎_elim}
use Rattle.cg_model.specs.Array.{Arch, IsArch}
use Rattle.cg_model.specs.Kernel.{IsKernel}
use Rattle.cg_model.specs.Configured.{configuration_of}
use Rattle.cg_overlap.proofs.Overlap.{unaliased_without}
use Rattle.cg_arch.specs.Kept.{digest_of}
use Rattle.cg_emit.proofs.Overlapped.{is_read, one_config, does_turns}
use Rattle.cg_emit.proofs.emission.run_like_turns.Goals as goal

pub returns-clause-read : goal.returns-clause-read
returns-clause-read c = λ bytes bits.
    let A = c.args.legal.now.arch in
    let sized = subst (λ (B : Arch). length (digest_of B) ≡ 32) c.arch-2.ensures c.digest-digest.ensures in
    is_read A (configuration_of A c.args.legal.now.kernel c.args.legal.now.mapping) bytes (subst IsArch c.arch.ensures c.contexts-contexts.ensures.valid) sized bits

pub returns-clause-only : goal.returns-clause-only
returns-clause-only c = λ bytes bits C other.
    let A = c.args.legal.now.arch in
    let sized = subst (λ (B : Arch). length (digest_of B) ≡ 32) c.arch-2.ensures c.digest-digest.ensures in
    one_config A C (configuration_of A c.args.legal.now.kernel c.args.legal.now.mapping) bytes (subst IsArch c.arch.ensures c.contexts-contexts.ensures.valid) sized other bits

pub returns-clause-overlaps : goal.returns-clause-overlaps
returns-clause-overlaps c = λ bytes bits C other n image ordered.
    let A = c.args.legal.now.arch in
    let sized = subst (λ (B : Arch). length (digest_of B) ≡ 32) c.arch-2.ensures c.digest-digest.ensures in
    let K = c.args.legal.now.kernel in
    let M = c.args.legal.now.mapping in
    let valid = subst IsArch c.arch.ensures c.contexts-contexts.ensures.valid in
    let good = subst IsKernel c.kernel.ensures c.nodes-nodes.ensures.valid in
    let legal = c.mapping-mapping.ensures.legal in
    let unaliased = ⊎_elim (λ u. u) (λ never. unaliased_without K n image never) ordered in
    does_turns A K M C n image (one_config A (configuration_of A K M) C bytes valid sized bits other)
    (c.overlaps.ensures.follows A K M n image valid good legal unaliased)
    (c.overlaps.ensures.only A K M n image legal)
    (c.overlaps.ensures.leaves A K M n image valid good legal unaliased)
