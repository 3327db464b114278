-- What `clap` says of its answer, for each of the two.
use Rattle.std.proofs.Common.{◌≡◌, [], Result, Ok, Err, IfOk, IfErr}
use Rattle.clap.specs.Words.{FailsBy, HasKind, Kinds}
use Rattle.clap.specs.declared.error.Error.{Error}

pub FailsBy-ok : {T : Type 0} (ks : Kinds) (r : Result T Error) → FailsBy ks r → IfOk r (λ _. ks ≡ [])
FailsBy-ok ks (Ok x) h = h
FailsBy-ok ks (Err e) h = tt

pub FailsBy-err : {T : Type 0} (ks : Kinds) (r : Result T Error) → FailsBy ks r → IfErr r (HasKind ks)
FailsBy-err ks (Ok x) h = tt
FailsBy-err ks (Err e) h = h
