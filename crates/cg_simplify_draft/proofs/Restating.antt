-- A kernel whose nodes do what the given kernel's do leaves the same.
use Rattle.std.proofs.Common.{◌≡◌, ℕ, suc, ◌+◌, ◌*◌, ◌<◌, [], refl, sym, ◌∙◌, subst, arith}
use Rattle.cg_model.specs.Kernel.{Kernel, IsKernel, IsWired, node, size}
use Rattle.cg_model.specs.Work.{Image, IsImage, Reaches, Work}
use Rattle.cg_model.specs.Turns.{before, val, work, work_of}
use Rattle.cg_overlap.proofs.Sequence.{work_is}
use Rattle.cg_simplify_draft.specs.Follows.{Follows, RunsAlike, StandsFor}
use Rattle.cg_simplify_draft.specs.Rewritten.{IsRewritten}
use Rattle.cg_simplify_draft.specs.Restates.{DoesAs, Restates}
use Rattle.cg_simplify_draft.proofs.Turns.{runs_alike}

pub does_itself : (w : Work) → DoesAs w w
does_itself w =
    record {
      gives = λ image memory. refl;
      writes = λ memory. refl;
      appends = λ port. refl;
      misses = λ room. omega arith;
      reaches = λ a r. r;
    }

pub does_same : (w x : Work) → w ≡ x → DoesAs w x
does_same w x e = subst (DoesAs w) e (does_itself w)

pub does_twice : (w x y : Work) → DoesAs w x → DoesAs x y → DoesAs w y
does_twice w x y a b =
    record {
      gives = λ image memory. a.gives image memory ∙ b.gives image memory;
      writes = λ memory. a.writes memory ∙ b.writes memory;
      appends = λ port. a.appends port ∙ b.appends port;
      misses = λ room. let p = a.misses room in let q = b.misses room in omega arith;
      reaches = λ at r. b.reaches at (a.reaches at r);
    }

pub restates_itself : (K : Kernel) → Restates K (record { nodes = K.nodes; order = [] })
restates_itself K =
    record {
      sized = refl;
      named = λ v l. refl;
      accesses = λ v l e. e;
      stores = λ v l e. e;
      does = λ image v i words l. does_itself (work_of (node K v) i (val K image));
    }

-- what does as the node's work stands for the step
stands : (K : Kernel) (image : Image) (v i : ℕ) (w : Work) → work K image (i * size K + v) ≡ work_of (node K v) i (val K image) → DoesAs w (work_of (node K v) i (val K image))
    → StandsFor K image (i * size K + v) w (val K image v i)
stands K image v i w at d =
    let k = i * size K + v in
    let y : DoesAs w (work K image k) = subst (DoesAs w) (sym at) d in
    record { gives = y.gives image (before K image k).memory; writes = y.writes; appends = y.appends; misses = y.misses }

module _ (K L : Kernel) (good : IsKernel K) (wired : IsWired L) (re : Restates K L) where
  inside : (v : ℕ) → v < size L → v < size K
  inside v l = omega (arith, l, re.sized)

  at : (image : Image) (v i : ℕ) → v < size L → work K image (i * size K + v) ≡ work_of (node K v) i (val K image)
  at image v i l = work_is K image good.wired i v (inside v l)

  follows : (image : Image) (n : ℕ) → IsImage image → Follows K L image n (λ v. v) (val K image)
  follows image n words =
      record {
        inside = inside;
        apart = λ v w l b e. e;
        effects = λ u i l b has. (u, omega (arith, l, re.sized), refl);
        ordered = λ v w b l a c st. b;
        does = λ v i l b. stands K image v i (work_of (node L v) i (val K image)) (at image v i l) (re.does image v i words l);
      }

  alike : (image : Image) (n : ℕ) → IsImage image → RunsAlike K L image n (val K image)
  alike image n words = runs_alike K L image n (λ v. v) (val K image) good wired (follows image n words)

  reaches : (image : Image) (v i a : ℕ) → IsImage image → v < size L → Reaches (work L image (i * size L + v)) a → Reaches (work K image (i * size K + v)) a
  reaches image v i a words l r =
      let is : work L image (i * size L + v) ≡ work_of (node L v) i (val K image) = (alike image (suc i) words).works v i l (omega arith) in
      subst (λ (w : Work). Reaches w a) (sym (at image v i l)) ((re.does image v i words l).reaches a (subst (λ (w : Work). Reaches w a) is r))

  pub restated : IsRewritten K L
  restated =
      record {
        from = λ v. v;
        inside = inside;
        apart = λ v w l b e. e;
        named = re.named;
        accesses = re.accesses;
        stores = re.stores;
        ordered = λ v w b l a c st. b;
        runs = λ image n words. let h = alike image n words in record { memory = h.memory; streams = h.streams; outside = h.outside; left = h.left };
        reaches = reaches;
      }
