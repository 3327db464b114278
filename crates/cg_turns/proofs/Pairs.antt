-- Looking at the last store and the loads since suffices.
use Rattle.std.proofs.Common.{◌≡◌, ℕ, ◌+◌, ◌*◌, ◌/◌, ◌%◌, ◌<◌, ◌≤◌, ◌⊎◌, inl, inr, Bool, true, false, List, length, sym, ap, ◌∙◌, subst, arith, ⊎_elim, refl, mul-le-mul_right, ◌∷◌, [], take, set, get_or, length-set, add_assoc}
use Rattle.std.specs.Prelude.{Contains, Option, Some, None, replicate, slice_index_or}
use Rattle.std.proofs.lemmas.Bool.{cases_lt, cases_eq, lt-ltb, le-ltb, false≢true}
use Rattle.std.proofs.lemmas.List.{take_more, get_or-replicate, length-replicate, get_or_read_under, get_or-set_same, get_or-set_other}
use Rattle.std.proofs.lemmas.List.Elements.{Contains-push, Contains-push_cases, Contains-append_left}
use Rattle.std.proofs.lemmas.List.Folds.{list_any_at}
use Rattle.std.proofs.lemmas.Option.{none-some, same_Some}
use Rattle.std.proofs.lemmas.Nat.{div-mul-add, mod-mul-add, div-add-mod'}
use Rattle.cg_word.specs.declared.op.Op.{Op}
use Rattle.cg_word.specs.declared.op.Op.TheVariants.{LoadIf, StoreIf}
use Rattle.cg_word.specs.Word.{is_store}
use Rattle.cg_model.specs.declared.kernel.Node.{Node}
use Rattle.cg_model.specs.Kernel.{Kernel, size, node, no_node}
use Rattle.cg_model.specs.Work.{Image, Work, Reaches, address, acts}
use Rattle.cg_model.specs.Turns.{work}
use Rattle.cg_model.specs.Order.{IsOrdered, Chain, one, more}
use Rattle.cg_pad.proofs.Args.{three, on}
use Rattle.cg_turns.specs.declared.watch.Watch.{Watch}
use Rattle.cg_turns.specs.Watched.{HasNoStore, word_of, IsUnwatched, IsWatched, IsOpen, Watches, WatchesWord, WatchesStep, IsReached}
use Rattle.cg_turns.specs.declared.pair.Access.{Access}
use Rattle.cg_turns.specs.declared.pair.UnorderedPair.{UnorderedPair}
use Rattle.cg_turns.specs.Pairs.{step_of, IsRival, IsConflict, AreOrdered, IsPair, IsPairOf}
use Rattle.cg_turns.specs.Trace.{Kept, nothing_kept, IsPairSoFar, Covers, IsUpTo, IsAccess, IsTrace, Takes, Keeps, rivals_of, IsOneOf, IsLatest, IsLooked, IsCompared, no_access, later_access, paired}

-- an access reaches one word
one_word : (w : Work) (a b : ℕ) → Reaches w a → Reaches w b → a ≡ b
one_word w a b r s = sym r.there ∙ s.there

-- what is ordered before an access in a turn is ordered in earlier turns too
pub ordered_earlier : (K : Kernel) (u i i' v j : ℕ) → i' ≤ i → IsOrdered K u i v j → IsOrdered K u i' v j
ordered_earlier K u i i' v j h o = ⊎_elim (λ e. inl (e.0, let k : i < j = e.1 in let z : i' < j = omega arith in z)) (λ c. inr (c.0, c.1, let k : i + c.0 ≤ j = c.2 in let z : i' + c.0 ≤ j = omega arith in z)) o

-- a step by its node and turn
pub step_node : (m : ℕ) (x : Access) → x.node < m → step_of m x % m ≡ x.node
step_node m x l = mod-mul-add x.turn m x.node l

pub step_turn : (m : ℕ) (x : Access) → x.node < m → step_of m x / m ≡ x.turn
step_turn m x l = div-mul-add x.turn m x.node l

pub step_ordered : (K : Kernel) (x y : Access) → x.node < size K → y.node < size K → AreOrdered K (step_of (size K) x) (step_of (size K) y) → IsOrdered K x.node x.turn y.node y.turn
step_ordered K x y l h o =
    subst (λ z. IsOrdered K x.node x.turn y.node z) (step_turn (size K) y h)
    (subst (λ z. IsOrdered K x.node x.turn z (step_of (size K) y / size K)) (step_node (size K) y h)
    (subst (λ z. IsOrdered K x.node z (step_of (size K) y % size K) (step_of (size K) y / size K)) (step_turn (size K) x l)
    (subst (λ z. IsOrdered K z (step_of (size K) x / size K) (step_of (size K) y % size K) (step_of (size K) y / size K)) (step_node (size K) x l) o)))

-- chains add up
joined : (K : Kernel) (v w f : ℕ) → Chain K v w f → (u d : ℕ) → Chain K u v d → Chain K u w (d + f)
joined K v w f c u d (one l) = more l c
joined K v w f c u y (more {v = x} {d = d} {e = e} l k) = subst (λ z. Chain K u w z) (sym (add_assoc d e f)) (more l (joined K v w f c x e k))

pub ordered_trans : (K : Kernel) (u i v j w k : ℕ) → IsOrdered K u i v j → IsOrdered K v j w k → IsOrdered K u i w k
ordered_trans K u i v j w k o q =
    ⊎_elim
    (λ a. ⊎_elim
    (λ b. inl (a.0 ∙ b.0, (let x : i < j = a.1 in let y : j < k = b.1 in let z : i < k = omega arith in z)))
    (λ b. inr (b.0, subst (λ z. Chain K z w b.0) (sym a.0) b.1, (let x : i < j = a.1 in let y : j + b.0 ≤ k = b.2 in let z : i + b.0 ≤ k = omega arith in z)))
    q)
    (λ a. ⊎_elim
    (λ b. inr (a.0, subst (λ z. Chain K u z a.0) b.0 a.1, (let x : i + a.0 ≤ j = a.2 in let y : j < k = b.1 in let z : i + a.0 ≤ k = omega arith in z)))
    (λ b. inr (a.0 + b.0, joined K v w b.0 b.1 u a.0 a.1, (let x : i + a.0 ≤ j = a.2 in let y : j + b.0 ≤ k = b.2 in let z : i + (a.0 + b.0) ≤ k = omega arith in z)))
    q)
    o

-- a step of a node is no later than an access of that node in a turn that is no earlier
listed_later : (m i : ℕ) (x : Access) → x.node ≡ i % m → i / m ≤ x.turn → i ≤ step_of m x
listed_later m i x e h = let p : i / m * m ≤ x.turn * m = mul-le-mul_right m h in let whole : i / m * m + i % m ≡ i = div-add-mod' i m in omega arith

-- an access is one before a later step too
access_next : (K : Kernel) (image : Image) (s a : ℕ) (x : Access) → IsAccess K image s a x → IsAccess K image (s + 1) a x
access_next K image s a x h = record { node = h.node; past = (let p : step_of (size K) x < s = h.past in let z : step_of (size K) x < s + 1 = omega arith in z); reach = h.reach }

-- a step that accesses no word of the memory changes nothing
pub trace_idle : (K : Kernel) (image : Image) (s a : ℕ) (kept : Kept) → (Reaches (work K image s) a → ⊥) → IsTrace K image s a kept → IsTrace K image (s + 1) a kept
trace_idle K image s a kept none t =
    let before : (k : ℕ) → k < s + 1 → Reaches (work K image k) a → k < s = λ k l r. ⊎_elim (λ b. b) (λ b. let e : k ≡ s = omega arith in absurd (none (subst (λ z. Reaches (work K image z) a) e r))) (cases_lt k s) in
    record {
      store = λ x e. let h = t.store x e in (access_next K image s a x h.0, h.1);
      loads = λ x h. access_next K image s a x (t.loads x h);
      stores = λ k l r w. t.stores k (before k l r) r w;
      whole = λ k l r. t.whole k (before k l r) r;
    }

-- a first pair stays the first
pub pair_stays : (K : Kernel) (image : Image) (s : ℕ) (p : UnorderedPair) → IsPair K image s p → IsPair K image (s + 1) p
pair_stays K image s p f =
    let within : step_of (size K) p.later < s = f.first.within in
    record {
      earlier = f.earlier;
      later = f.later;
      first = record {
        pair = f.first.pair;
        within = omega arith;
        least = λ i j h u. ⊎_elim (λ b. f.first.least i j b u) (λ b. omega arith) (cases_lt j s);
        latest = f.first.latest;
      };
    }

pub pair_idle : (K : Kernel) (image : Image) (s : ℕ) (p : Option UnorderedPair) → ((a : ℕ) → a < length image.memory → Reaches (work K image s) a → ⊥) → IsPairSoFar K image s p → IsPairSoFar K image (s + 1) p
pair_idle K image s None none f = λ k l h c. ⊎_elim (λ b. f k l b c) (λ b. let e : l ≡ s = omega arith in absurd (none c.word c.within (subst (λ z. Reaches (work K image z) c.word) e c.second))) (cases_lt l s)
pair_idle K image s (Some p) none f = pair_stays K image s p f

-- no step is a store where no node is one
no_store : (K : Kernel) → HasNoStore K → (v : ℕ) → v < size K → is_store (node K v).op ≡ true → ⊥
no_store K none v l h = false≢true (sym none ∙ list_any_at (λ (n : Node). is_store n.op) K.nodes v no_node l h)

pub mod_less : (k m : ℕ) → 0 < m → k % m < m
mod_less k m some = omega arith

pub pair_quiet : (K : Kernel) (image : Image) (s : ℕ) (p : Option UnorderedPair) → 0 < size K → HasNoStore K → IsPairSoFar K image s p → IsPairSoFar K image (s + 1) p
pair_quiet K image s None some none f = λ k l h c.
    let m = size K in
    absurd (⊎_elim {C = ⊥} (λ r. no_store K none (k % m) (mod_less k m some) r) (λ r. no_store K none (l % m) (mod_less l m some) r) c.rival)
pair_quiet K image s (Some p) some none f = pair_stays K image s p f

module _ (K : Kernel) (image : Image) (a : ℕ) (kept : Kept) (later : Access) (l : later.node < size K) (within : a < length image.memory)
    (reached : Reaches (work K image (step_of (size K) later)) a) (t : IsTrace K image (step_of (size K) later) a kept)
  where
    -- the access is one before the next step
    access_here : IsAccess K image (step_of (size K) later + 1) a later
    access_here = record { node = l; past = omega arith; reach = reached }

    -- a step up to the access is an earlier one or its own
    up_to_here : (k : ℕ) → k < step_of (size K) later + 1 → (k < step_of (size K) later) ⊎ (k ≡ step_of (size K) later)
    up_to_here k h = ⊎_elim (λ b. inl b) (λ b. inr (omega arith)) (cases_lt k (step_of (size K) later))

    node_here : (k : ℕ) → k ≡ step_of (size K) later → k % size K ≡ later.node
    node_here k e = ap (λ z. z % size K) e ∙ step_node (size K) later l

    turn_here : (k : ℕ) → k ≡ step_of (size K) later → k / size K ≡ later.turn
    turn_here k e = ap (λ z. z / size K) e ∙ step_turn (size K) later l

    -- a store is kept alone
    store_kept : is_store (node K later.node).op ≡ true → IsTrace K image (step_of (size K) later + 1) a (record { store = Some later; loads = [] })
    store_kept is =
        let m = size K in
        let all : (k : ℕ) → k < step_of m later + 1 → IsUpTo m (Some later) k = λ k h. (later, refl, (let z : k ≤ step_of m later = omega arith in z)) in
        record {
          store = λ s e. let same : later ≡ s = same_Some later s e in subst (λ z. IsAccess K image (step_of m later + 1) a z × (is_store (node K z.node).op ≡ true)) same (access_here, is);
          loads = λ x c. let none : c.0 < 0 = c.1 in absurd (omega arith);
          stores = λ k h r w. all k h;
          whole = λ k h r. inl (all k h);
        }

    -- a load is kept beside the store and the other loads
    load_kept : (new : Kept) → is_store (node K later.node).op ≡ false → new.store ≡ kept.store → Takes later kept.loads new.loads → IsTrace K image (step_of (size K) later + 1) a new
    load_kept new is e k =
        let m = size K in
        let s = step_of m later in
        record {
          store = λ x h. let c = t.store x (sym e ∙ h) in (access_next K image s a x c.0, c.1);
          loads = λ x h. ⊎_elim (λ q. subst (λ z. IsAccess K image (s + 1) a z) (sym q) access_here) (λ q. access_next K image s a x (t.loads x q)) (k.origin x h);
          stores = λ q h r w.
              ⊎_elim
              (λ b. subst (λ z. IsUpTo m z q) (sym e) (t.stores q b r w))
              (λ b. let n : is_store (node K later.node).op ≡ true = subst (λ z. is_store (node K z).op ≡ true) (node_here q b) w in absurd (false≢true (sym is ∙ n)))
              (up_to_here q h);
          whole = λ q h r.
              ⊎_elim
              (λ b. ⊎_elim
              (λ u. inl (subst (λ z. IsUpTo m z q) (sym e) u))
              (λ x. let y = k.covers x.0 x.1 in inr (y.0, y.1, y.2 ∙ x.2, (let i : q / m ≤ x.0.turn = x.3 in let j : x.0.turn ≤ y.0.turn = y.3 in let z : q / m ≤ y.0.turn = omega arith in z)))
              (t.whole q b r))
              (λ b. inr (subst (λ z. Covers new.loads z (q / m)) (sym (node_here q b)) (subst (λ z. Covers new.loads later.node z) (sym (turn_here q b)) k.has)))
              (up_to_here q h);
        }

    pub trace_keeps : (b : Bool) → is_store (node K later.node).op ≡ b → (new : Kept) → Keeps b later kept new → IsTrace K image (step_of (size K) later + 1) a new
    trace_keeps true e new k = subst (λ z. IsTrace K image (step_of (size K) later + 1) a z) (sym k) (store_kept e)
    trace_keeps false e new k = load_kept new e k.0 k.1

    ordered_here : (k : ℕ) (x : Access) → x.node ≡ k % size K → k / size K ≤ x.turn → IsOrdered K x.node x.turn later.node later.turn → AreOrdered K k (step_of (size K) later)
    ordered_here k x e h o =
        subst (λ z. IsOrdered K (k % size K) (k / size K) z (step_of (size K) later / size K)) (sym (step_node (size K) later l))
        (subst (λ z. IsOrdered K (k % size K) (k / size K) later.node z) (sym (step_turn (size K) later l))
        (subst (λ z. IsOrdered K z (k / size K) later.node later.turn) e (ordered_earlier K x.node x.turn (k / size K) later.node later.turn h o)))

    step_here : (x : Access) → x.node < size K → IsOrdered K x.node x.turn later.node later.turn → AreOrdered K (step_of (size K) x) (step_of (size K) later)
    step_here x xl o =
        let e : step_of (size K) x / size K ≡ x.turn = step_turn (size K) x xl in
        ordered_here (step_of (size K) x) x (sym (step_node (size K) x xl)) (let z : step_of (size K) x / size K ≤ x.turn = omega arith in z) o

    -- a step that accessed the word, no later than the last store, is ordered before what that store is ordered before
    ordered_by_store : IsPairSoFar K image (step_of (size K) later) None → (k : ℕ) (s : Access) → kept.store ≡ Some s → k ≤ step_of (size K) s → Reaches (work K image k) a → IsOrdered K s.node s.turn later.node later.turn → AreOrdered K k (step_of (size K) later)
    ordered_by_store before k s e h r o =
        let m = size K in
        let q = step_of m s in
        let x = t.store s e in
        let there : AreOrdered K q (step_of m later) = step_here s x.0.node o in
        ⊎_elim
        (λ b.
        let is : is_store (node K (q % m)).op ≡ true = subst (λ z. is_store (node K z).op ≡ true) (sym (step_node m s x.0.node)) x.1 in
        let c : IsConflict K image k q = record { earlier = b; word = a; within = within; first = r; second = x.0.reach; rival = inr is } in
        ordered_trans K (k % m) (k / m) (q % m) (q / m) (step_of m later % m) (step_of m later / m) (before k q x.0.past c) there)
        (λ b. let same : q ≡ k = omega arith in subst (λ z. AreOrdered K z (step_of m later)) same there)
        (cases_lt k q)

    -- what is kept of a conflict with this step: its earlier step is no later than the last store, or this is a store
    -- and a load is kept that is no earlier
    conflict_kept : (k : ℕ) → IsConflict K image k (step_of (size K) later) →
        Reaches (work K image k) a × (IsUpTo (size K) kept.store k ⊎ ((is_store (node K later.node).op ≡ true) × Covers kept.loads (k % size K) (k / size K)))
    conflict_kept k c =
        let m = size K in
        let e = one_word (work K image (step_of m later)) c.word a c.second reached in
        let r : Reaches (work K image k) a = subst (λ z. Reaches (work K image k) z) e c.first in (
          r,
          ⊎_elim
              (λ w. inl (t.stores k c.earlier r w))
              (λ w. ⊎_elim (λ u. inl u) (λ x. inr (subst (λ z. is_store (node K z).op ≡ true) (step_node m later l) w, x)) (t.whole k c.earlier r))
              c.rival,
        )

    module _ (b : Bool) (is : is_store (node K later.node).op ≡ b) (before : IsPairSoFar K image (step_of (size K) later) None) where
      -- the loads of a store are its rivals
      rival_load : is_store (node K later.node).op ≡ true → (x : Access) → Contains kept.loads x → IsOneOf kept.store (rivals_of b kept) x
      rival_load w x h = let e : true ≡ b = sym w ∙ is in inr (subst (λ z. Contains (rivals_of z kept) x) e h)

      none_found : IsLatest K later kept.store (rivals_of b kept) None → IsPairSoFar K image (step_of (size K) later + 1) None
      none_found none = λ k q h c.
          ⊎_elim (λ e. before k q e c)
          (λ e.
          let c' : IsConflict K image k (step_of (size K) later) = subst (λ z. IsConflict K image k z) e c in
          let x = conflict_kept k c' in
          subst (λ z. AreOrdered K k z) (sym e)
          (⊎_elim
          (λ u. ordered_by_store before k u.0 u.1 u.2 x.0 (none u.0 (inl u.1)))
          (λ y. ordered_here k y.1.0 y.1.2 y.1.3 (none y.1.0 (rival_load y.0 y.1.0 y.1.1)))
          x.1))
          (up_to_here q h)

      -- what is kept is an access before this one, and one of the two is a store
      rival_kept : (c : Bool) → is_store (node K later.node).op ≡ c → (y : Access) → IsOneOf kept.store (rivals_of c kept) y → IsAccess K image (step_of (size K) later) a y × IsRival K y.node later.node
      rival_kept true e y k = ⊎_elim (λ h. let x = t.store y h in (x.0, inl x.1)) (λ h. (t.loads y h, inr e)) k
      rival_kept false e y k = ⊎_elim (λ h. let x = t.store y h in (x.0, inl x.1)) (λ h. let none : h.0 < 0 = h.1 in absurd (omega arith)) k

      found : (y : Access) → IsLatest K later kept.store (rivals_of b kept) (Some y) → IsPair K image (step_of (size K) later + 1) (record { earlier = y; later = later })
      found y f =
          let m = size K in
          let x = rival_kept b is y f.0 in
          let rival : IsRival K (step_of m y % m) (step_of m later % m) =
          subst (λ z. IsRival K (step_of m y % m) z) (sym (step_node m later l)) (subst (λ z. IsRival K z later.node) (sym (step_node m y x.0.node)) x.1) in
          let last_step : step_of m later < step_of m later + 1 = omega arith in
          record {
            earlier = x.0.node;
            later = l;
            first = record {
              pair = record {
                conflict = record { earlier = x.0.past; word = a; within = within; first = x.0.reach; second = reached; rival = rival };
                unordered = λ o. f.1 (step_ordered K y later x.0.node l o);
              };
              within = last_step;
              least = λ i j h u. ⊎_elim (λ e. absurd (u.unordered (before i j e u.conflict))) (λ e. e) (cases_lt j (step_of m later));
              latest = λ i u.
                  let q = conflict_kept i u.conflict in
                  ⊎_elim
                  (λ s.
                  ⊎_elim (λ o. absurd (u.unordered (ordered_by_store before i s.0 s.1 s.2 q.0 o)))
                  (λ h. let p : i ≤ step_of m s.0 = s.2 in let z : i ≤ step_of m y = omega arith in z)
                  (f.2 s.0 (inl s.1)))
                  (λ z.
                  ⊎_elim (λ o. absurd (u.unordered (ordered_here i z.1.0 z.1.2 z.1.3 o)))
                  (λ h. let p : i ≤ step_of m z.1.0 = listed_later m i z.1.0 z.1.2 z.1.3 in let g : i ≤ step_of m y = omega arith in g)
                  (f.2 z.1.0 (rival_load z.0 z.1.0 z.1.1)))
                  q.1;
            };
          }

      pair_found : (x : Option Access) → IsLatest K later kept.store (rivals_of b kept) x → IsPairSoFar K image (step_of (size K) later + 1) (paired later x)
      pair_found None f = none_found f
      pair_found (Some y) f = found y f

      pub pair_compared : (q : Option UnorderedPair) → IsCompared K b later kept q → IsPairSoFar K image (step_of (size K) later + 1) q
      pair_compared q c = subst (λ z. IsPairSoFar K image (step_of (size K) later + 1) z) (sym c.2) (pair_found c.0 c.1)

-- nothing is kept of a word before the first step
trace_empty : (K : Kernel) (image : Image) (a : ℕ) → IsTrace K image 0 a nothing_kept
trace_empty K image a =
    record {
      store = λ s e. absurd (none-some s e);
      loads = λ x c. let none : c.0 < 0 = c.1 in absurd (omega arith);
      stores = λ k l. absurd (omega arith);
      whole = λ k l. absurd (omega arith);
    }

-- after the last step
pub pair_done : (K : Kernel) (n : ℕ) (image : Image) (p : Option UnorderedPair) → IsPairSoFar K image (n * size K) p → IsPairOf K n image p
pair_done K n image None f = λ a k l within h b first second stores. f k l b (record { earlier = h; word = a; within = within; first = first; second = second; rival = stores })
pair_done K n image (Some p) f = f

-- one access more was looked at
pub item_last : (last : List Access) (p : ℕ) (y : Access) → Contains (take (p + 1) last) y → p < length last → Contains (take p last) y ⊎ (get_or last p no_access ≡ y)
item_last last p y c h = Contains-push_cases (take p last) (get_or last p no_access) y (subst (λ z. Contains z y) (take_more last p no_access h) c)

pub item_first : (last : List Access) (p : ℕ) (y : Access) → p < length last → Contains (take p last) y → Contains (take (p + 1) last) y
item_first last p y h c = subst (λ z. Contains z y) (sym (take_more last p no_access h)) (Contains-append_left (take p last) (get_or last p no_access ∷ []) y c)

pub item_here : (last : List Access) (p : ℕ) → p < length last → Contains (take (p + 1) last) (get_or last p no_access)
item_here last p h = subst (λ z. Contains z (get_or last p no_access)) (sym (take_more last p no_access h)) (Contains-push (take p last) (get_or last p no_access))

abbrev Orders : Kernel → Access → Access → Type 0
Orders K later y = IsOrdered K y.node y.turn later.node later.turn

-- of accesses with one more, y, the latest is y or that of the others
module _ (K : Kernel) (later : Access) (store : Option Access) (old new : List Access) (y : Access)
    (split : (z : Access) → IsOneOf store new z → IsOneOf store old z ⊎ (z ≡ y)) (first : (z : Access) → IsOneOf store old z → IsOneOf store new z) (here : IsOneOf store new y)
  where
    latest_passes : (x : Option Access) → Orders K later y → IsLatest K later store old x → IsLatest K later store new x
    latest_passes None o t = λ z c. ⊎_elim (λ d. t z d) (λ e. subst (λ g. Orders K later g) (sym e) o) (split z c)
    latest_passes (Some x) o t = (first x t.0, t.1, λ z c. ⊎_elim (λ d. t.2 z d) (λ e. inl (subst (λ g. Orders K later g) (sym e) o)) (split z c))

    -- y is the latest
    latest_is : (Orders K later y → ⊥) → ((z : Access) → IsOneOf store old z → Orders K later z ⊎ (step_of (size K) z ≤ step_of (size K) y)) → IsLatest K later store new (Some y)
    latest_is open_to others = (
      here,
      open_to,
      λ z c. ⊎_elim (λ d. others z d) (λ e. inr (let q : step_of (size K) z ≡ step_of (size K) y = ap (step_of (size K)) e in let g : step_of (size K) z ≤ step_of (size K) y = omega arith in g)) (split z c),
    )

    latest_meets : (x : Option Access) → (Orders K later y → ⊥) → IsLatest K later store old x → IsLatest K later store new (later_access (size K) x y)
    latest_meets None open_to t = latest_is open_to (λ z d. inl (t z d))
    latest_meets (Some x) open_to t =
        let m = size K in
        ⊎_elim
        (λ b.
        let best : IsLatest K later store new (Some y) = latest_is open_to (λ z d. ⊎_elim (λ o. inl o) (λ h. inr (let q : step_of m z ≤ step_of m y = omega arith in q)) (t.2 z d)) in
        rw (lt-ltb (step_of m x) (step_of m y) b) best)
        (λ b.
        let best : IsLatest K later store new (Some x) = (
          first x t.0,
          t.1,
          λ z c. ⊎_elim (λ d. t.2 z d) (λ e. inr (let g : step_of m z ≡ step_of m y = ap (step_of m) e in let q : step_of m z ≤ step_of m x = omega arith in q)) (split z c),
        ) in
        rw (le-ltb (step_of m x) (step_of m y) b) best)
        (cases_lt (step_of m x) (step_of m y))

    latest_more : (x q : Option Access) → IsLooked K (size K) later y x q → IsLatest K later store old x → IsLatest K later store new q
    latest_more x q looked t =
        ⊎_elim
        (λ h. subst (λ z. IsLatest K later store new z) (sym h.1) (latest_passes x h.0 t))
        (λ h. subst (λ z. IsLatest K later store new z) (sym h.1) (latest_meets x h.0 t))
        looked

-- the store and one load more
pub latest_load : (K : Kernel) (later : Access) (store : Option Access) (loads : List Access) (p : ℕ) → p < length loads → (x q : Option Access) → IsLooked K (size K) later (get_or loads p no_access) x q →
    IsLatest K later store (take p loads) x → IsLatest K later store (take (p + 1) loads) q
latest_load K later store loads p h x q looked t =
    latest_more K later store (take p loads) (take (p + 1) loads) (get_or loads p no_access)
    (λ z c. ⊎_elim (λ e. inl (inl e)) (λ d. ⊎_elim (λ g. inl (inr g)) (λ e. inr (sym e)) (item_last loads p z d h)) c)
    (λ z c. ⊎_elim (λ e. inl e) (λ d. inr (item_first loads p z h d)) c)
    (inr (item_here loads p h))
    x q looked t

pub watched_idle : (K : Kernel) (image : Image) (s : ℕ) (w : Watch) → ((a : ℕ) → a < length image.memory → Reaches (work K image s) a → ⊥) → IsWatched K image s w → IsWatched K image (s + 1) w
watched_idle K image s w none h = record { long = h.long; traces = λ e a l i. trace_idle K image s a (word_of w a) (none a i) (h.traces e a l i); pair = pair_idle K image s w.pair none h.pair }

module _ (K : Kernel) (image : Image) (a : ℕ) (later : Access) (l : later.node < size K) (within : a < length image.memory) (r : Reaches (work K image (step_of (size K) later)) a) where
  watched_access : (w g : Watch) → IsOpen w a → Watches K a later w g → IsWatched K image (step_of (size K) later) w → IsWatched K image (step_of (size K) later + 1) g
  watched_access w g is_open k h =
      let s = step_of (size K) later in
      let b = is_store (node K later.node).op in
      let t = h.traces is_open.0 a is_open.1 within in
      record {
        long = ⊎_elim (λ e. inl (k.long ∙ e)) (λ e. inr e) h.long;
        traces = λ e c lc ic.
            ⊎_elim
            (λ q. subst (λ z. IsTrace K image (s + 1) z (word_of g z)) (sym q) (trace_keeps K image a (word_of w a) later l within r t b refl (word_of g a) k.here))
            (λ ne. subst (λ z. IsTrace K image (s + 1) c z) (sym (k.others c ne)) (trace_idle K image s c (word_of w c) (λ q. ne (one_word (work K image s) c a q r)) (h.traces is_open.0 c (let e = k.long in let z : c < length w.words.items = omega arith in z) ic)))
            (cases_eq c a);
        pair = pair_compared K image a (word_of w a) later l within r t b refl (subst (λ z. IsPairSoFar K image s z) is_open.0 h.pair) g.pair k.pair;
      }

  -- an access of a word that is not watched, since no node is a store
  watched_past : (w : Watch) → length w.words.items ≤ a → IsWatched K image (step_of (size K) later) w → IsWatched K image (step_of (size K) later + 1) w
  watched_past w past h =
      let s = step_of (size K) later in
      let none : HasNoStore K = ⊎_elim {C = HasNoStore K} (λ e. absurd (omega arith)) (λ e. e) h.long in
      let some : 0 < size K = omega arith in
      record {
        long = h.long;
        traces = λ e c lc ic. let ne : c ≡ a → ⊥ = λ q. omega arith in trace_idle K image s c (word_of w c) (λ q. ne (one_word (work K image s) c a q r)) (h.traces e c lc ic);
        pair = pair_quiet K image s w.pair some none h.pair;
      }

  -- an access after a pair is known
  watched_done : (w : Watch) (p : UnorderedPair) → w.pair ≡ Some p → IsWatched K image (step_of (size K) later) w → IsWatched K image (step_of (size K) later + 1) w
  watched_done w p is h =
      let s = step_of (size K) later in
      record {
        long = h.long;
        traces = λ e. absurd (none-some p (sym e ∙ is));
        pair = subst (λ z. IsPairSoFar K image (s + 1) z) (sym is) (pair_stays K image s p (subst (λ z. IsPairSoFar K image s z) is h.pair));
      }

  pair_cases : (p : Option UnorderedPair) → (p ≡ None) ⊎ ((q : UnorderedPair) × (p ≡ Some q))
  pair_cases None = inl refl
  pair_cases (Some q) = inr (q, refl)

  pub watched_word : (w g : Watch) → WatchesWord K a later w g → IsWatched K image (step_of (size K) later) w → IsWatched K image (step_of (size K) later + 1) g
  watched_word w g k h =
      let s = step_of (size K) later in
      ⊎_elim
      (λ none. ⊎_elim
      (λ lt. watched_access w g (none, lt) (k.0 (none, lt)) h)
      (λ past. subst (λ z. IsWatched K image (s + 1) z) (sym (k.1 (λ o. let lt : a < length w.words.items = o.1 in omega arith))) (watched_past w past h))
      (cases_lt a (length w.words.items)))
      (λ p. subst (λ z. IsWatched K image (s + 1) z) (sym (k.1 (λ o. none-some p.0 (sym o.0 ∙ p.1)))) (watched_done w p.0 p.1 h))
      (pair_cases w.pair)

pub watched_step : (K : Kernel) (image : Image) (size_is : ℕ) (w : Work) (later : Access) (o : Option ℕ) (f g : Watch) → later.node < size K → size_is ≡ length image.memory → w ≡ work K image (step_of (size K) later) → IsReached size_is w o →
    WatchesStep K o later f g → IsWatched K image (step_of (size K) later) f → IsWatched K image (step_of (size K) later + 1) g
watched_step K image n w later None f g l en ew r k h =
    subst (λ z. IsWatched K image (step_of (size K) later + 1) z) (sym k)
    (watched_idle K image (step_of (size K) later) f (λ a b q. r a (subst (λ z. a < z) (sym en) b) (subst (λ z. Reaches z a) (sym ew) q)) h)
watched_step K image n w later (Some a) f g l en ew r k h =
    watched_word K image a later l (subst (λ z. a < z) en r.0) (subst (λ z. Reaches z a) ew r.1) f g k h

-- an access was watched where what is kept of its word was read, compared with the access, and written
pub watches_made : (K : Kernel) (a : ℕ) (x : Access) (old new : Watch) (stores : Bool) (last next : Kept) (found : Option Access) → a < length old.words.items → stores ≡ is_store (node K x.node).op → last ≡ get_or old.words.items a last →
    new.words.items ≡ set old.words.items a next → Keeps stores x last next → IsLatest K x last.store (rivals_of stores last) found → new.pair ≡ paired x found → Watches K a x old new
watches_made K a x old new stores last next found l e r w k f p =
    let words : List Kept = old.words.items in
    let was : last ≡ word_of old a = get_or_read_under words a (length words) last nothing_kept r l refl in
    let is : next ≡ word_of new a = sym (ap (λ (z : List Kept). slice_index_or z a nothing_kept) w ∙ get_or-set_same words a next nothing_kept l) in
    let kept : Keeps stores x (word_of old a) (word_of new a) = subst (λ (z : Kept). Keeps stores x (word_of old a) z) is (subst (λ (z : Kept). Keeps stores x z next) was k) in
    let compared : IsCompared K stores x (word_of old a) new.pair = (found, subst (λ (z : Kept). IsLatest K x z.store (rivals_of stores z) found) was f, p) in
    record {
      long = ap (λ (z : List Kept). length z) w ∙ length-set words a next;
      here = subst (λ (z : Bool). Keeps z x (word_of old a) (word_of new a)) e kept;
      others = λ b ne. ap (λ (z : List Kept). slice_index_or z b nothing_kept) w ∙ get_or-set_other words a b next nothing_kept ne;
      pair = subst (λ (z : Bool). IsCompared K z x (word_of old a) new.pair) e compared;
    }

pub unwatched_made : (K : Kernel) (n size_is : ℕ) (w : Watch) → w.words.items ≡ replicate n nothing_kept → (n ≡ size_is) ⊎ HasNoStore K → w.pair ≡ None → IsUnwatched K size_is w
unwatched_made K n size_is w e h p =
    let long : length w.words.items ≡ n = ap (λ (z : List Kept). length z) e ∙ length-replicate n nothing_kept in
    record { long = ⊎_elim (λ q. inl (long ∙ q)) (λ q. inr q) h; words = e ∙ ap (λ (z : ℕ). replicate z nothing_kept) (sym long); pair = p }

-- before the first step
pub watched_start : (K : Kernel) (image : Image) (w : Watch) (n : ℕ) → IsUnwatched K n w → n ≡ length image.memory → IsWatched K image 0 w
watched_start K image w n u en =
    let m = length w.words.items in
    let empty : (a : ℕ) → a < m → word_of w a ≡ nothing_kept = λ a l. ap (λ (z : List Kept). slice_index_or z a nothing_kept) u.words ∙ get_or-replicate m a nothing_kept nothing_kept l in
    record {
      long = ⊎_elim (λ e. inl (e ∙ en)) (λ e. inr e) u.long;
      traces = λ e a l i. subst (λ z. IsTrace K image 0 a z) (sym (empty a l)) (trace_empty K image a);
      pair = subst (λ z. IsPairSoFar K image 0 z) (sym u.pair) (λ k l h. absurd (omega arith));
    }

-- an operation reaches what it reaches by its first three operands
pub acts-three : (op : Op) (args : List ℕ) → acts op (three args) ≡ acts op args
acts-three op args = refl

pub address-three : (op : Op) (args : List ℕ) → address op (three args) ≡ address op args
address-three LoadIf args = refl
address-three StoreIf args = refl
address-three _ args = refl

reach_three : (op : Op) (port turn a : ℕ) (args : List ℕ) → Reaches (on op port turn args) a → Reaches (on op port turn (three args)) a
reach_three op port turn a args r = record { is = r.is; acting = r.acting; there = address-three op args ∙ r.there }

three_reach : (op : Op) (port turn a : ℕ) (args : List ℕ) → Reaches (on op port turn (three args)) a → Reaches (on op port turn args) a
three_reach op port turn a args r = record { is = r.is; acting = r.acting; there = sym (address-three op args) ∙ r.there }

pub reached-three : (n : ℕ) (op : Op) (port turn : ℕ) (args : List ℕ) (o : Option ℕ) → IsReached n (on op port turn (three args)) o → IsReached n (on op port turn args) o
reached-three n op port turn args None r = λ a l q. r a l (reach_three op port turn a args q)
reached-three n op port turn args (Some a) r = (r.0, three_reach op port turn a args r.1)
