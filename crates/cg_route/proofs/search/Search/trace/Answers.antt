use Rattle.std.proofs.Common.{◌≡◌, ◌∙◌, ◌-◌, ◌+◌, ◌*◌, ◌<◌, [], ◌∷◌, ◌++◌, Some, length, sym, ap, subst, arith, ⊎_elim}
use Rattle.std.proofs.lemmas.List.{append-nil}
use Rattle.cg_model.specs.Array.{Arch, delay}
use Rattle.cg_route.specs.Layers.{Sought, IsSearch, Follows, at, layer_at, delay_into, rank, size}
use Rattle.cg_route.proofs.Ranks.{ranked, driven, opened}
use Rattle.cg_route.proofs.Grows.{follows_more, step_falls}
use Rattle.cg_route.proofs.search.Search.trace.Goals as goal

pub returns-then-k-eq0-clause-path : goal.returns-then-k-eq0-clause-path
returns-then-k-eq0-clause-path c =
    let S = c.args.self.now in
    let f = c.walk.invariant.follows in
    let to : c.walk.q ≡ S.to = c.if-q-self.true ∙ ap (λ (S : Sought). S.to) c.self.view_is in
    (f.0, f.1, subst (λ l. Follows S c.args.layers.now c.args.last c.args.from l) (append-nil f.0) (f.2 [] (to, c.if-k-eq0.true)))

pub delay_into-k-requires : goal.delay_into-k-requires
delay_into-k-requires c =
    let S = c.args.self.now in
    let to : c.self.inside.to ≡ S.to = ap (λ (S : Sought). S.to) c.self.view_is in
    let (drives, near, rest) = c.requires.leads.onward c.walk.k c.walk.q c.in-Some.step c.walk.invariant.in_layers c.walk.invariant.known (sym c.in-Some.ensures) (λ e. ⊎_elim (λ a. a.1 e.1) (λ a. a (e.0 ∙ sym to)) c.else-q-self.either) in
    let same_arch : c.self.inside.graph.now.arch ≡ S.table.arch = c.self.invariant.1 ∙ ap (λ (S : Sought). S.table.arch) c.self.view_is in
    subst (λ (A : Arch). c.in-Some.step.next < length A.resources) (sym same_arch) (driven S c.walk.q c.in-Some.step.next drives)

pub overflow_sub-k : goal.overflow_sub-k
overflow_sub-k c =
    let S = c.args.self.now in
    let to : c.self.inside.to ≡ S.to = ap (λ (S : Sought). S.to) c.self.view_is in
    let next = c.in-Some.step.next in
    let (drives, near, rest) = c.requires.leads.onward c.walk.k c.walk.q c.in-Some.step c.walk.invariant.in_layers c.walk.invariant.known (sym c.in-Some.ensures) (λ e. ⊎_elim (λ a. a.1 e.1) (λ a. a (e.0 ∙ sym to)) c.else-q-self.either) in
    let same_arch : c.self.inside.graph.now.arch ≡ S.table.arch = c.self.invariant.1 ∙ ap (λ (S : Sought). S.table.arch) c.self.view_is in
    let d : c.delay_into-k.result ≡ delay_into S next = c.delay_into-k.ensures ∙ ap (λ A. delay A next) same_arch in
    omega (arith, d, near)

pub walk-smaller : goal.walk-smaller
walk-smaller c =
    let S = c.args.self.now in
    let to : c.self.inside.to ≡ S.to = ap (λ (S : Sought). S.to) c.self.view_is in
    let next = c.in-Some.step.next in
    let (drives, near, rest) = c.requires.leads.onward c.walk.k c.walk.q c.in-Some.step c.walk.invariant.in_layers c.walk.invariant.known (sym c.in-Some.ensures) (λ e. ⊎_elim (λ a. a.1 e.1) (λ a. a (e.0 ∙ sym to)) c.else-q-self.either) in
    let search : IsSearch S = subst (λ (S : Sought). IsSearch S) c.self.view_is c.self.invariant.0 in
    let same_arch : c.self.inside.graph.now.arch ≡ S.table.arch = c.self.invariant.1 ∙ ap (λ (S : Sought). S.table.arch) c.self.view_is in
    let d : c.delay_into-k.result ≡ delay_into S next = c.delay_into-k.ensures ∙ ap (λ A. delay A next) same_arch in
    subst (λ d. (c.walk.k - d) * size S + (size S - rank S next) < c.walk.k * size S + (size S - rank S c.walk.q)) (sym d)
    (step_falls S (ranked S search) c.walk.k c.walk.q next c.walk.invariant.known.0 drives near)

pub walk-preserved : goal.walk-preserved
walk-preserved c =
    let S = c.args.self.now in
    let ls = c.args.layers.now in
    let to : c.self.inside.to ≡ S.to = ap (λ (S : Sought). S.to) c.self.view_is in
    let next = c.in-Some.step.next in
    let further : (c.walk.q ≡ S.to) × (c.walk.k ≡ 0) → ⊥ = λ e. ⊎_elim (λ a. a.1 e.1) (λ a. a (e.0 ∙ sym to)) c.else-q-self.either in
    let (drives, near, rest) = c.requires.leads.onward c.walk.k c.walk.q c.in-Some.step c.walk.invariant.in_layers c.walk.invariant.known (sym c.in-Some.ensures) further in
    let same_arch : c.self.inside.graph.now.arch ≡ S.table.arch = c.self.invariant.1 ∙ ap (λ (S : Sought). S.table.arch) c.self.view_is in
    let d : c.delay_into-k.result ≡ delay_into S next = c.delay_into-k.ensures ∙ ap (λ A. delay A next) same_arch in
    let f = c.walk.invariant.follows in
    let inside = c.walk.invariant.in_layers in
    record {
      in_layers = omega (arith, inside);
      known = opened S c.walk.q next drives;
      stands = (rest.0, subst (λ d. at (layer_at ls (c.walk.k - d)) next ≡ Some rest.0) (sym d) rest.1);
      follows = (
        f.0 ++ next ∷ [],
        c.in_ok-push-2.ensures.items ∙ ap (λ l. l ++ next ∷ []) f.1,
        λ tail p.
            follows_more S ls c.args.last c.args.from c.walk.k c.walk.q f.0 c.in-Some.step further near (sym c.in-Some.ensures) f.2 tail
            (subst (λ d. Follows S ls (c.walk.k - d) next tail) d p),
      );
    }
