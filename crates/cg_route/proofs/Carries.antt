-- The ways on through registers.
use Rattle.std.proofs.Common.{◌≡◌, ℕ, ◌+◌, ◌%◌, ◌^◌, ◌<◌, ◌≤◌, ◌≢◌, eqb, nat_lt, Bool, true, false, List, [], ◌∷◌, ◌++◌, length, get_or, set, take, replicate, Option, Some, None, refl, sym, ap, ◌∙◌, subst, arith, ⊎_elim}
use Rattle.std.specs.Prelude.{◌⊎◌, ◌||◌, ◌&&◌, if◌then◌else◌, AllPairs, Contains}
use Rattle.std.specs.List.{list_any}
use Rattle.std.proofs.lemmas.Bool.{cases_lt, cases_eq, eq-eqb, ne_eqb, lt-ltb, false≢true}
use Rattle.std.proofs.lemmas.List.{take_more, get_or_past, get_or_default, get_or-take, length-take-le, get_or-set_same, get_or-set_other, get_or-replicate, length-replicate, same_lists}
use Rattle.std.proofs.lemmas.List.Elements.{Contains-push, Contains-push_cases, Contains-append_left}
use Rattle.std.proofs.lemmas.List.FromFn.{get_or-map-range_with_len, length-map-range_with_len}
use Rattle.cg_model.specs.Mapping.{Position}
use Rattle.cg_mrrg.specs.declared.links.MNode.{MNode}
use Rattle.cg_mrrg.specs.Graph.{registers_after}
use Rattle.cg_mrrg.proofs.After.{is_after, after_is}
use Rattle.cg_congestion.specs.Claims.{same}
use Rattle.cg_congestion.specs.Table.{toll}
use Rattle.cg_route.specs.Layers.{Step, Way, Sought, Layer, size, at, Drives, IsOpen, AreOpen, drivers, delay_into, link, cost, better, way_of, way_into, ways_of, way_price, IsCheap, AreCheap, IsChoice, IsBest, IsBelow, held, no_way}
use Rattle.cg_route.proofs.Ranks.{driven}
use Rattle.cg_route.proofs.Best.{best_same, best_skip, best_more, best_price, held_some}
use Rattle.cg_route.proofs.Begins.{cost_now}
use Rattle.cg_route.proofs.Offers.{link_is, better_below}

-- what a way costs is the link and the rest
pub way_costs : (S : Sought) (s r q : ℕ) (o : Step) (w : Way) → way_of S s r (Some o) ≡ Some w → way_price S s r q w ≡ link S s r q + o.price
way_costs S s r q o w is =
    let T = S.table in
    let p : Position = record { source = S.source; resource = r; time = s; from = Some q } in
    let n : MNode = record { resource = r; slot = s % T.interval } in
    let shared : Bool = list_any (λ (p : Position). eqb p.source S.source && eqb p.resource r && eqb p.time s) T.positions in
    let claimed : Bool = list_any (same p) T.positions in
    let v : Way = record { onward = o.price; through = toll T n + o.price; shared = shared } in
    let e : v ≡ w = cc in
    let l : (if shared && claimed then 0 else toll T n) ≡ link S s r q = link_is T p n (if shared && claimed then 0 else toll T n) shared claimed refl refl refl refl in
    subst (λ w. way_price S s r q w ≡ link S s r q + o.price) e (with_rest (shared && claimed) (toll T n) o.price ∙ ap (λ c. c + o.price) l)
  where
    with_rest : (b : Bool) (t o : ℕ) → (if b then o else t + o) ≡ (if b then 0 else t) + o
    with_rest true t o = omega arith
    with_rest false t o = refl

pub way_on : (S : Sought) (s r : ℕ) (o : Step) (w : Way) → way_of S s r (Some o) ≡ Some w → w.onward ≡ o.price
way_on S s r o w is =
    let v : Way = record { onward = o.price; through = toll S.table (record { resource = r; slot = s % S.table.interval }) + o.price; shared = list_any (λ (p : Position). eqb p.source S.source && eqb p.resource r && eqb p.time s) S.table.positions } in
    let e : v ≡ w = cc in
    sym (ap (λ (w : Way). w.onward) e)

pub into_register : (S : Sought) (s : ℕ) (later : Layer) (r : ℕ) → delay_into S r ≡ 1 → way_into S s later r ≡ way_of S s r (at later r)
into_register S s later r one = rw (eq-eqb (delay_into S r) 1 one) refl

pub into_other : (S : Sought) (s : ℕ) (later : Layer) (r : ℕ) → delay_into S r ≢ 1 → way_into S s later r ≡ None
into_other S s later r other = rw (ne_eqb (delay_into S r) 1 other) refl

-- the ways on, one by one
pub ways_are : (S : Sought) (s : ℕ) (later : Layer) (ways : List (Option Way)) → length ways ≡ size S → ((r : ℕ) → r < size S → get_or ways r None ≡ way_into S s later r) → ways ≡ ways_of S s later
ways_are S s later ways all each =
    same_lists ways (ways_of S s later) (all ∙ sym (length-map-range_with_len (way_into S s later) 0 (size S)))
    (λ k d l.
    let long = length-map-range_with_len (way_into S s later) 0 (size S) in
    let inside : k < size S = omega (arith, l, all) in
    get_or_default ways k d None l ∙ each k inside ∙ sym (get_or-map-range_with_len (way_into S s later) 0 (size S) k k d inside (omega arith)))

pub way_at : (S : Sought) (s : ℕ) (later : Layer) (ways : List (Option Way)) (r : ℕ) → r < size S → delay_into S r ≡ 1 → ways ≡ ways_of S s later → get_or ways r None ≡ way_of S s r (at later r)
way_at S s later ways r l one is =
    ap (λ (v : List (Option Way)). get_or v r None) is ∙ get_or-map-range_with_len (way_into S s later) 0 (size S) r r None l (omega arith) ∙ into_register S s later r one

-- one register more
pub best_next : (S : Sought) (s q : ℕ) (later : Layer) (rs : List ℕ) (i : ℕ) (e : Option Step) → i < length rs →
    IsBest (λ x. Contains (take i rs) x) (at later) (λ x. link S s x q) e →
    ((at later (get_or rs i 0) ≡ None → IsBest (λ x. Contains (take (i + 1) rs) x) (at later) (λ x. link S s x q) e)
    × ((o : Step) → at later (get_or rs i 0) ≡ Some o → IsBest (λ x. Contains (take (i + 1) rs) x) (at later) (λ x. link S s x q) (better e (link S s (get_or rs i 0) q + o.price) (get_or rs i 0))))
best_next S s q later rs i e l h =
    let r = get_or rs i 0 in
    let U : ℕ → Type 0 = λ x. Contains (take i rs) x in
    let V : ℕ → Type 0 = λ x. Contains (take (i + 1) rs) x in
    let more : take (i + 1) rs ≡ take i rs ++ r ∷ [] = take_more rs i 0 l in
    let to : (x : ℕ) → U x → V x = λ x u. subst (λ (l : List ℕ). Contains l x) (sym more) (Contains-append_left (take i rs) (r ∷ []) x u) in
    let from : (x : ℕ) → V x → U x ⊎ (r ≡ x) = λ x v. Contains-push_cases (take i rs) r x (subst (λ (l : List ℕ). Contains l x) more v) in
    let own : V r = subst (λ (l : List ℕ). Contains l r) (sym more) (Contains-push (take i rs) r) in (
      λ none. best_skip U V (at later) (λ x. link S s x q) r to from e none h,
      λ o on. best_more U V (at later) (λ x. link S s x q) r to from o own on e h,
    )

pub best_of_none : (S : Sought) (s q : ℕ) (later : Layer) (rs : List ℕ) → IsBest (λ x. Contains (take 0 rs) x) (at later) (λ x. link S s x q) None
best_of_none S s q later rs = λ x u. let l = u.1 in absurd (omega arith)

-- the best way through a register that q drives is that through a link of one cycle
pub through_registers : (S : Sought) (t s q : ℕ) (later : Layer) (e : Option Step) → t + 1 ≡ s →
    IsBest (λ x. Contains (registers_after S.table.arch q) x) (at later) (λ x. link S s x q) e →
    IsBest (λ x. Drives S q x × (delay_into S x ≡ 1) × (x < size S)) (at later) (cost S q t) e
through_registers S t s q later e time h =
    best_price (λ x. Drives S q x × (delay_into S x ≡ 1) × (x < size S)) (at later) (λ x. link S s x q) (cost S q t) e
    (λ x u. sym (cost_now S q t s x (ap (λ d. t + d) u.1 ∙ time)))
    (best_same (λ x. Contains (registers_after S.table.arch q) x) (λ x. Drives S q x × (delay_into S x ≡ 1) × (x < size S)) (at later) (at later) (λ x. link S s x q) e
    (λ x m. let a = after_is S.table.arch q x m in (a.0, a.1, driven S q x a.0))
    (λ x u. is_after S.table.arch q x u.2 u.0 u.1) (λ x u. refl) h)

-- the mark of an open resource
pub is_met : (S : Sought) (met : List Bool) (q : ℕ) → AreOpen S.table.arch S.from met → IsOpen S q → get_or met q false ≡ true
is_met S met q h o = h.right q o.0 ∙ ⊎_elim (λ (a : q ≡ S.from). either_right (nat_lt 0 (length (drivers S q))) (eqb q S.from) (eq-eqb q S.from a)) (λ (a : 0 < length (drivers S q)). either_left (nat_lt 0 (length (drivers S q))) (eqb q S.from) (lt-ltb 0 (length (drivers S q)) a)) o.1
  where
    either_right : (a b : Bool) → b ≡ true → (a || b) ≡ true
    either_right true b h = refl
    either_right false b h = h

    either_left : (a b : Bool) → a ≡ true → (a || b) ≡ true
    either_left true b h = refl
    either_left false b h = absurd (false≢true h)

pub put_below : (high : ℕ) (layer : Layer) (i : ℕ) (e : Option Step) → i < length layer → IsBelow high layer → ((s : Step) → e ≡ Some s → s.price ≤ high) → IsBelow high (set layer i e)
put_below high layer i e known h k q s is =
    ⊎_elim (λ (a : q ≡ i). k s (sym (get_or-set_same layer i e None known) ∙ subst (λ y. at (set layer i e) y ≡ Some s) a is))
    (λ (a : q ≢ i). h q s (sym (get_or-set_other layer i q e None a) ∙ is))
    (cases_eq q i)

-- what a way that was found stands for
pub seen : (S : Sought) (s q : ℕ) (later : Layer) (ways : List (Option Way)) (r : ℕ) (w : Way) → r < size S → delay_into S r ≡ 1 → ways ≡ ways_of S s later → get_or ways r None ≡ Some w →
    (o : Step) × (at later r ≡ Some o) × (way_price S s r q w ≡ link S s r q + o.price) × (w.onward ≡ o.price)
seen S s q later ways r w known one is found = of_entry (at later r) refl (sym (way_at S s later ways r known one is) ∙ found)
  where
    of_entry : (e : Option Step) → at later r ≡ e → way_of S s r e ≡ Some w → (o : Step) × (at later r ≡ Some o) × (way_price S s r q w ≡ link S s r q + o.price) × (w.onward ≡ o.price)
    of_entry None h k = absurd (cc)
    of_entry (Some o) h k = (o, h, way_costs S s r q o w k, way_on S s r o w k)

pub unseen : (S : Sought) (s : ℕ) (later : Layer) (ways : List (Option Way)) (r : ℕ) → r < size S → delay_into S r ≡ 1 → ways ≡ ways_of S s later → get_or ways r None ≡ None → at later r ≡ None
unseen S s later ways r known one is found = of_entry (at later r) refl (sym (way_at S s later ways r known one is) ∙ found)
  where
    of_entry : (e : Option Step) → at later r ≡ e → way_of S s r e ≡ None → at later r ≡ None
    of_entry None h k = h
    of_entry (Some o) h k = absurd (cc)

pub ways_long : (S : Sought) (s : ℕ) (later : Layer) (ways : List (Option Way)) → ways ≡ ways_of S s later → length ways ≡ size S
ways_long S s later ways is = ap (λ (l : List (Option Way)). length l) is ∙ length-map-range_with_len (way_into S s later) 0 (size S)

pub put_cheap : (ways : List (Option Way)) (i : ℕ) (w : Way) → i < length ways → IsCheap w → AreCheap ways → AreCheap (set ways i (Some w))
put_cheap ways i w known cheap h r v is =
    ⊎_elim
    (λ (a : r ≡ i).
    let z : Some w ≡ Some v = sym (get_or-set_same ways i (Some w) None known) ∙ subst (λ y. get_or (set ways i (Some w)) y None ≡ Some v) a is in
    let same : w ≡ v = cc in
    subst (λ v. IsCheap v) same cheap)
    (λ (a : r ≢ i). h r v (sym (get_or-set_other ways i r (Some w) None a) ∙ is))
    (cases_eq r i)

pub none_cheap : (n : ℕ) → AreCheap (replicate n None)
none_cheap n r w is =
    let ways : List (Option Way) = replicate n None in
    ⊎_elim (λ (a : r < n). let z : get_or ways r None ≡ None = get_or-replicate n r None None a in absurd (cc))
    (λ (a : n ≤ r).
    let long : length ways ≡ n = length-replicate n None in
    let z : get_or ways r None ≡ None = get_or_past ways r None (omega (arith, a, long)) in absurd (cc))
    (cases_lt r n)

-- what is held goes to an earlier register than the next one
pub held_before : (S : Sought) (s q : ℕ) (later : Layer) (rs : List ℕ) (i price next : ℕ) → AllPairs (λ x y. x < y) rs → i < length rs → price < no_way →
    IsBest (λ x. Contains (take i rs) x) (at later) (λ x. link S s x q) (held price next) → next ≤ get_or rs i 0
held_before S s q later rs i price next ascend inside small h =
    let choice : IsChoice (λ x. Contains (take i rs) x) (at later) (λ x. link S s x q) (record { price = price; next = next }) =
    subst (λ e. IsBest (λ x. Contains (take i rs) x) (at later) (λ x. link S s x q) e) (held_some price next small) h in
    let (j, l, is) = choice.next in
    let long : length (take i rs) ≡ i = length-take-le i rs (omega arith) in
    let early : j < i = omega (arith, l, long) in
    let less : get_or rs j next < get_or rs i next = ascend j i next early inside in
    let same : get_or rs j next ≡ next = sym (get_or-take i rs j next early) ∙ is in
    let other : get_or rs i next ≡ get_or rs i 0 = get_or_default rs i next 0 inside in
    omega (arith, less, same, other)

-- the best way through one register more, where there is one
pub best_seen : (S : Sought) (s q : ℕ) (ways : List (Option Way)) (rs : List ℕ) (i p : ℕ) (old new : Option Step) (way : Way) → i < length rs → get_or rs i 0 < size S → delay_into S (get_or rs i 0) ≡ 1 →
    get_or ways (get_or rs i 0) None ≡ Some way → p ≡ way_price S s (get_or rs i 0) q way → new ≡ better old p (get_or rs i 0) → (later : Layer) → ways ≡ ways_of S s later →
    IsBest (λ x. Contains (take i rs) x) (at later) (λ x. link S s x q) old → IsBest (λ x. Contains (take (i + 1) rs) x) (at later) (λ x. link S s x q) new
best_seen S s q ways rs i p old new way inside known one found price is later v h =
    let r = get_or rs i 0 in
    let (o, on, costs, from) = seen S s q later ways r way known one v found in
    subst (λ b. IsBest (λ x. Contains (take (i + 1) rs) x) (at later) (λ x. link S s x q) b) (sym (is ∙ ap (λ p. better old p r) (price ∙ costs)))
    ((best_next S s q later rs i old inside h).1 o on)

pub below_seen : (S : Sought) (s q : ℕ) (ways : List (Option Way)) (rs : List ℕ) (i p : ℕ) (old new : Option Step) (way : Way) → get_or rs i 0 < size S → delay_into S (get_or rs i 0) ≡ 1 →
    get_or ways (get_or rs i 0) None ≡ Some way → p ≤ way.onward + 2 ^ 52 → new ≡ better old p (get_or rs i 0) → (later : Layer) (high : ℕ) → ways ≡ ways_of S s later → IsBelow high later →
    ((s : Step) → old ≡ Some s → s.price ≤ high + 2 ^ 52) → (s : Step) → new ≡ Some s → s.price ≤ high + 2 ^ 52
below_seen S s q ways rs i p old new way known one found cheap is later high v h below o b =
    let r = get_or rs i 0 in
    let (was, on, costs, from) = seen S s q later ways r way known one v found in
    let low = h r was on in
    better_below (high + 2 ^ 52) old p r (omega (arith, low, cheap, from)) below o (sym is ∙ b)

-- and where there is none
pub best_unseen : (S : Sought) (s q : ℕ) (ways : List (Option Way)) (rs : List ℕ) (i : ℕ) (old : Option Step) → i < length rs → get_or rs i 0 < size S → delay_into S (get_or rs i 0) ≡ 1 →
    get_or ways (get_or rs i 0) None ≡ None → (later : Layer) → ways ≡ ways_of S s later →
    IsBest (λ x. Contains (take i rs) x) (at later) (λ x. link S s x q) old → IsBest (λ x. Contains (take (i + 1) rs) x) (at later) (λ x. link S s x q) old
best_unseen S s q ways rs i old inside known one found later v h =
    (best_next S s q later rs i old inside h).0 (unseen S s later ways (get_or rs i 0) known one v found)
