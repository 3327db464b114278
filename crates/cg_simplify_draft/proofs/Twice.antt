-- Kernels rewritten twice, and with other order edges.
use Rattle.std.proofs.Common.{List, ◌≡◌, ◌∙◌, ℕ, zero, suc, ◌+◌, ◌*◌, ◌<◌, ◌⊎◌, true, refl, ap, subst, arith, ⊎_elim, inl, inr}
use Rattle.cg_word.specs.Word.{is_access, is_store}
use Rattle.cg_model.specs.declared.kernel.OrderEdge.{OrderEdge}
use Rattle.cg_model.specs.Kernel.{Kernel, IsWired, node, size}
use Rattle.cg_model.specs.Work.{Image, IsImage, Reaches, left}
use Rattle.cg_model.specs.Turns.{Progress, before, after, work, work_at, turns}
use Rattle.cg_simplify_draft.specs.Rewritten.{LeavesAlike, IsRewritten}

module _ (K L M : Kernel) (a : IsRewritten K L) (b : IsRewritten L M) where
  abbrev through : ℕ → ℕ
  through v = a.from (b.from v)

  through_ordered : (v w : ℕ) → v < w → w < size M → is_access (node M v).op ≡ true → is_access (node M w).op ≡ true → (is_store (node M v).op ≡ true) ⊎ (is_store (node M w).op ≡ true) → through v < through w
  through_ordered v w less l c d st =
      let lv : v < size M = omega arith in
      a.ordered (b.from v) (b.from w) (b.ordered v w less l c d st) (b.inside w l) (b.accesses v lv c) (b.accesses w l d)
      (⊎_elim (λ e. inl (b.stores v lv e)) (λ e. inr (b.stores w l e)) st)

  through_runs : (image : Image) (n : ℕ) → IsImage image → LeavesAlike K M image n
  through_runs image n words =
      let x = a.runs image n words in
      let y = b.runs image n words in
      record {
        memory = y.memory ∙ x.memory;
        streams = λ port. y.streams port ∙ x.streams port;
        outside = let p = x.outside in let q = y.outside in omega arith;
        left = y.left ∙ x.left;
      }

  pub rewritten_twice : IsRewritten K M
  rewritten_twice =
      record {
        from = through;
        inside = λ v l. a.inside (b.from v) (b.inside v l);
        apart = λ v w l m e. b.apart v w l m (a.apart (b.from v) (b.from w) (b.inside v l) (b.inside w m) e);
        named = λ v l. b.named v l ∙ a.named (b.from v) (b.inside v l);
        accesses = λ v l e. a.accesses (b.from v) (b.inside v l) (b.accesses v l e);
        stores = λ v l e. a.stores (b.from v) (b.inside v l) (b.stores v l e);
        ordered = through_ordered;
        runs = through_runs;
        reaches = λ image v i at words l r. a.reaches image (b.from v) i at words (b.inside v l) (b.reaches image v i at words l r);
      }

module _ (K : Kernel) (order : List OrderEdge) where
  abbrev reordered : Kernel
  reordered = record { nodes = K.nodes; order = order }

  same_before : (image : Image) (k : ℕ) → before reordered image k ≡ before K image k
  unfolding before
  same_before image zero = refl
  same_before image (suc k) = ap (λ (p : Progress). after image (work_at K k p.values) p) (same_before image k)

  same_work : (image : Image) (k : ℕ) → work reordered image k ≡ work K image k
  same_work image k = ap (λ (p : Progress). work_at K k p.values) (same_before image k)

  same_runs : (image : Image) (n : ℕ) → LeavesAlike K reordered image n
  same_runs image n =
      let e : turns reordered n image ≡ turns K n image = same_before image (n * size K) in
      record {
        memory = ap (λ (p : Progress). p.memory) e;
        streams = λ port. ap (λ (p : Progress). p.streams port) e;
        outside = let x = ap (λ (p : Progress). p.outside) e in omega arith;
        left = ap (λ (p : Progress). (left p.memory p.streams p.outside).image) e;
      }

  pub rewritten_itself : IsWired K → IsRewritten K reordered
  rewritten_itself wired =
      record {
        from = λ v. v;
        inside = λ v l. l;
        apart = λ v w l m e. e;
        named = λ v l. refl;
        accesses = λ v l e. e;
        stores = λ v l e. e;
        ordered = λ v w less l c d st. less;
        runs = λ image n words. same_runs image n;
        reaches = λ image v i a words l r. subst (λ w. Reaches w a) (same_work image (i * size K + v)) r;
      }
