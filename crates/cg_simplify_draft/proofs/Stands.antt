-- What stands for a step, and that a kernel follows itself.
use Rattle.std.proofs.Common.{List, ◌∙◌, ◌≡◌, ℕ, ◌+◌, ◌*◌, refl, sym, ap, arith}
use Rattle.cg_model.specs.declared.kernel.OrderEdge.{OrderEdge}
use Rattle.cg_model.specs.Kernel.{Kernel, IsWired, node, size}
use Rattle.cg_model.specs.Work.{Image, Work, value, stored, sent, missed}
use Rattle.cg_model.specs.Turns.{before, work, work_of, val}
use Rattle.cg_overlap.proofs.Sequence.{work_is}
use Rattle.cg_simplify_draft.specs.Follows.{StandsFor, Follows}

-- two operations at work with the same value and the same effects, on every memory
pub record Alike (image : Image) (w z : Work) : Type 0 where
  pub gives : (memory : List ℕ) → value image memory w ≡ value image memory z
  pub writes : (memory : List ℕ) → stored memory w ≡ stored memory z
  pub appends : (port : ℕ) → sent port w ≡ sent port z
  pub misses : (room : ℕ) → missed room w ≡ missed room z

pub alike_stands : (K : Kernel) (image : Image) (k : ℕ) (w z : Work) → work K image k ≡ z → Alike image w z → StandsFor K image k w (value image (before K image k).memory (work K image k))
alike_stands K image k w z e a =
    record {
      gives = a.gives (before K image k).memory ∙ ap (value image (before K image k).memory) (sym e);
      writes = λ memory. a.writes memory ∙ ap (stored memory) (sym e);
      appends = λ port. a.appends port ∙ ap (sent port) (sym e);
      misses = λ room. let y = a.misses room in let x = ap (missed room) e in omega arith;
    }

-- what a step does stands for it
pub same_stands : (K : Kernel) (image : Image) (k : ℕ) (w : Work) → w ≡ work K image k → StandsFor K image k w (value image (before K image k).memory (work K image k))
same_stands K image k w e =
    alike_stands K image k w w (sym e) (record { gives = λ memory. refl; writes = λ memory. refl; appends = λ port. refl; misses = λ room. refl })

pub follows_itself : (K : Kernel) (order : List OrderEdge) (image : Image) (n : ℕ) → IsWired K → Follows K (record { nodes = K.nodes; order = order }) image n (λ v. v) (val K image)
follows_itself K order image n wired =
    record {
      inside = λ v l. l;
      apart = λ v w l b e. e;
      effects = λ u i l b has. (u, l, refl);
      ordered = λ v w b l a c st. b;
      does = λ v i l b. same_stands K image (i * size K + v) (work_of (node K v) i (val K image)) (sym (work_is K image wired i v l));
    }
