-- Values that get their nodes.
use Rattle.std.proofs.Common.{Contains, ◌≡◌, ◌≢◌, ◌⊎◌, ℕ, ◌+◌, ◌<◌, ◌≤◌, Bool, true, false, List, length, Option, Some, None, slice_get, get_or, refl, sym, ap, ◌∙◌, subst, arith, ⊎_elim, length-set, get_or-set_same, get_or-set_other}
use Rattle.std.proofs.lemmas.Option.{slice_get-get_or}
use Rattle.std.proofs.lemmas.Bool.{and_parts, cases_eq, cases_lt}
use Rattle.cg_word.specs.declared.op.Op.{Op}
use Rattle.cg_word.specs.declared.op.Op.TheVariants as ops
use Rattle.cg_word.specs.Word.{is_access, is_output}
use Rattle.cg_c_values.specs.declared.value.Value.{Value}
use Rattle.cg_c_values.specs.declared.value.Value.TheVariants as values
use Rattle.cg_c_values.specs.Values.{IsLoad, MayStand, is_plain, value_at}
use Rattle.cg_c_kernel.specs.Live.{AreClosed, has_mark}
use Rattle.cg_c_kernel.specs.Made.{Made, Sketch, Refs, Is, OnTwo, OnThree, Computes, Gains, Stands, IsLeaf, IsQuiet, Grows, AddsNode, AddsQuiet, Adds, HasLoadsBelow, IsGrownBy, IsLiveWord, One, Carried, IsReady, IsReadyAs, MayBeMade, node_in, sketch, with_place}
use Rattle.cg_c_kernel.proofs.Growing.{computes_grows, grows_twice}
use Rattle.cg_c_kernel.proofs.Making.{adds_none, adds_then, adds_twice, constant_adds}

-- ---- quiet nodes

pub plain_quiet : (op : Op) → is_plain op ≡ true → (is_access op ≡ false) × (is_output op ≡ false)
plain_quiet ops.Load e = absurd (cc)
plain_quiet ops.Store e = absurd (cc)
plain_quiet ops.Output e = absurd (cc)
plain_quiet ops.LoadIf e = absurd (cc)
plain_quiet ops.StoreIf e = absurd (cc)
plain_quiet ops.OutputIf e = absurd (cc)
plain_quiet _ e = (refl, refl)

pub quiet_at : (t : Made) (m port : ℕ) (op : Op) (rs : Refs) → Is t m op port rs → (is_access op ≡ false) × (is_output op ≡ false) → (x : Sketch) → slice_get t.nodes m ≡ Some x → IsQuiet x
quiet_at t m port op rs i q x is =
    let h = i.there in
    let e : sketch op port rs ≡ x = cc in
    subst IsQuiet e q

pub leaf_quiet : (old : List Value) (t : Made) (m : ℕ) (value : Value) → IsLeaf value → Computes old t m value → (x : Sketch) → slice_get t.nodes m ≡ Some x → IsQuiet x
leaf_quiet old t m values.Turn l c x is = quiet_at t m _ _ _ c (refl, refl) x is
leaf_quiet old t m (values.Quotient divisor) l (first, e, r) x is = quiet_at t (first + 4) _ _ _ r.quotient (refl, refl) x (rw e is)
leaf_quiet old t m (values.Digit divisor radix) l c x is = quiet_at t m _ _ _ c (refl, refl) x is
leaf_quiet old t m (values.Input port) l c x is = quiet_at t m _ _ _ c (refl, refl) x is
leaf_quiet old t m (values.Const word) l c x is = absurd l
leaf_quiet old t m (values.Carried number) l c x is = absurd l
leaf_quiet old t m (values.Loaded a v g d) l c x is = absurd l
leaf_quiet old t m (values.Two a v g) l c x is = absurd l
leaf_quiet old t m (values.Select a v g) l c x is = absurd l

-- ---- operands

pub may_less : (old : List Value) (marks : List Bool) (s : Made) (v a : ℕ) → MayBeMade old marks s v → a < v → has_mark marks a ≡ true → MayBeMade old marks s a
may_less old marks s v a may l live = record { within = omega (arith, may.within); live = live; loads = λ u le. may.loads u (omega arith) }

pub may_grows : (old : List Value) (marks : List Bool) (s t : Made) (a : ℕ) → Grows s t → MayBeMade old marks s a → MayBeMade old marks t a
may_grows old marks s t a g may =
    record { within = may.within; live = may.live; loads = λ u le is live. let h = may.loads u le is live in (h.0, g.at u h.0 h.1) }

-- ---- a value gets its node

place_at : (t : Made) (v m : ℕ) → v < length t.at → node_in (with_place t v m) v ≡ Some m
place_at t v m l = get_or-set_same t.at v (Some m) None l

place_other : (t : Made) (v m w : ℕ) → w ≢ v → node_in (with_place t v m) w ≡ node_in t w
place_other t v m w n = get_or-set_other t.at v w (Some m) None n

pub place_grows : (t : Made) (v m : ℕ) → node_in t v ≡ None → Grows t (with_place t v m)
place_grows t v m none =
    record {
      longer = omega arith;
      nodes = λ k x is. is;
      at = λ w k is. place_other t v m w (λ (e : w ≡ v). let h : node_in t v ≡ Some k = subst (λ (z : ℕ). node_in t z ≡ Some k) e is in absurd (cc)) ∙ is;
    }

-- the node is a new one
pub place_stands : (old : List Value) (marks : List Bool) (t : Made) (v m n : ℕ) → Stands old marks t → v < length old → node_in t v ≡ None → m < length t.nodes → n ≤ m →
    ((w k : ℕ) → node_in t w ≡ Some k → k < n) → Computes old t m (value_at old v) → Stands old marks (with_place t v m)
place_stands old marks t v m n st l none within fresh earlier c =
    record {
      long = simp length-set st.long;
      computed = λ w k is.
          ⊎_elim
          (λ (e : w ≡ v).
          let h : k ≡ m = at_v w k e is in
          (rw e l, rw h within, subst (λ (z : ℕ). Computes old (with_place t v m) z (value_at old w)) (sym h) (subst (λ (z : ℕ). Computes old (with_place t v m) m (value_at old z)) (sym e) (computes_grows old t (with_place t v m) m (value_at old v) g c))))
          (λ (e : w ≢ v).
          let h = st.computed w k (sym (place_other t v m w e) ∙ is) in
          (h.0, h.1, computes_grows old t (with_place t v m) k (value_at old w) g h.2)) (cases_eq w v);
      apart = λ w u k a b.
          ⊎_elim
          (λ (e : w ≡ v). ⊎_elim (λ (f : u ≡ v). e ∙ sym f) (λ (f : u ≢ v). absurd (clash w u k e f a b)) (cases_eq u v))
          (λ (e : w ≢ v). ⊎_elim (λ (f : u ≡ v). absurd (clash u w k f e b a)) (λ (f : u ≢ v). st.apart w u k (sym (place_other t v m w e) ∙ a) (sym (place_other t v m u f) ∙ b)) (cases_eq u v)) (cases_eq w v);
      used = st.used;
      met = st.met;
    }
  where
    g : Grows t (with_place t v m)
    g = place_grows t v m none

    at_v : (w k : ℕ) → w ≡ v → node_in (with_place t v m) w ≡ Some k → k ≡ m
    at_v w k e is =
        let here = place_at t v m (rw st.long l) in
        let there : node_in (with_place t v m) v ≡ Some k = subst (λ (z : ℕ). node_in (with_place t v m) z ≡ Some k) e is in
        cc

    clash : (w u k : ℕ) → w ≡ v → u ≢ v → node_in (with_place t v m) w ≡ Some k → node_in (with_place t v m) u ≡ Some k → ⊥
    clash w u k e f a b =
        let h : k ≡ m = at_v w k e a in
        let j = earlier u k (sym (place_other t v m u f) ∙ b) in
        omega arith

ready_of : (old : List Value) (s : Made) (v m : ℕ) (t : Made) (value : Value) → Computes old t m value → node_in s v ≡ Some m → IsReadyAs s v value
ready_of old s v m t values.Turn c e = (m, e)
ready_of old s v m t (values.Quotient d) c e = (m, e)
ready_of old s v m t (values.Digit d x) c e = (m, e)
ready_of old s v m t (values.Input p) c e = (m, e)
ready_of old s v m t (values.Loaded x y z w) c e = (m, e)
ready_of old s v m t (values.Two x y z) c e = (m, e)
ready_of old s v m t (values.Select x y z) c e = (m, e)
ready_of old s v m t (values.Const word) c e = tt
ready_of old s v m t (values.Carried number) c e = tt

-- v gets the node m, the last one of b to t, which is quiet
pub placed : (old : List Value) (marks : List Bool) (s b t : Made) (v m : ℕ) → AddsQuiet old marks s b → Adds old marks b t m → v < length old → node_in b v ≡ None →
    Computes old t m (value_at old v) → ((x : Sketch) → slice_get t.nodes m ≡ Some x → IsQuiet x) → AddsQuiet old marks s (with_place t v m)
placed old marks s b t v m a d l none c q =
    let g = place_grows t v m (rw d.at none) in
    record {
      stands =
          place_stands old marks t v m (length b.nodes) d.stands l (rw d.at none) (omega (arith, d.last)) d.fresh
          (λ w k is. (a.stands.computed w k (rw d.at at is)).1) c;
      grows = grows_twice s t (with_place t v m) (grows_twice s b t a.grows d.grows) g;
      quiet = λ k x n h is.
          ⊎_elim
          (λ (early : k < length b.nodes). early_quiet k x n early is)
          (λ (late : length b.nodes ≤ k).
          ⊎_elim (λ (e : k ≡ m). q x (subst (λ (z : ℕ). slice_get t.nodes z ≡ Some x) e is)) (λ (e : k ≢ m). d.quiet k x late (omega (arith, d.last)) is) (cases_eq k m))
          (cases_lt k (length b.nodes));
    }
  where
    early_quiet : (k : ℕ) (x : Sketch) → length s.nodes ≤ k → k < length b.nodes → slice_get t.nodes k ≡ Some x → IsQuiet x
    early_quiet k x n early is =
        let here = slice_get-get_or b.nodes k x early in
        let there = d.grows.nodes k (get_or b.nodes k x) here in
        let same : get_or b.nodes k x ≡ x = cc in
        a.quiet k x n early (here ∙ ap Some same)

pub placed_ready : (old : List Value) (marks : List Bool) (t : Made) (v m : ℕ) → length t.at ≡ length old → v < length old → has_mark marks v ≡ true → Computes old t m (value_at old v) → IsReady old marks (with_place t v m) v
placed_ready old marks t v m long l live c =
    record { within = l; live = live; ready = ready_of old (with_place t v m) v m t (value_at old v) c (place_at t v m (rw long l)) }

-- ---- emitting

-- the operands of a live value may be made
pub first_may : (old : List Value) (finals : List (Option ℕ)) (marks : List Bool) (s : Made) (v first second : ℕ) (op : Op) → AreClosed old finals marks → MayBeMade old marks s v →
    values.Two op first second ≡ value_at old v → MayStand v (values.Two op first second) → MayBeMade old marks s first
first_may old finals marks s v first second op closed may is st =
    let parts = and_parts _ _ (rw (sym is) at (closed v may.within may.live)) in
    may_less old marks s v first may st.1 parts.0

pub second_may : (old : List Value) (finals : List (Option ℕ)) (marks : List Bool) (s : Made) (v first second : ℕ) (op : Op) → AreClosed old finals marks → MayBeMade old marks s v →
    values.Two op first second ≡ value_at old v → MayStand v (values.Two op first second) → MayBeMade old marks s second
second_may old finals marks s v first second op closed may is st =
    let parts = and_parts _ _ (rw (sym is) at (closed v may.within may.live)) in
    may_less old marks s v second may st.2 parts.1

-- the three operands of a selection may be made
pub selected_may : (old : List Value) (finals : List (Option ℕ)) (marks : List Bool) (s : Made) (v condition chosen other : ℕ) → AreClosed old finals marks → MayBeMade old marks s v →
    values.Select condition chosen other ≡ value_at old v → MayStand v (values.Select condition chosen other) →
    MayBeMade old marks s condition × MayBeMade old marks s chosen × MayBeMade old marks s other
selected_may old finals marks s v condition chosen other closed may is st =
    let parts = and_parts _ _ (rw (sym is) at (closed v may.within may.live)) in
    let more = and_parts _ _ parts.1 in
    (may_less old marks s v condition may st.0 parts.0, may_less old marks s v chosen may st.1 more.0, may_less old marks s v other may st.2 more.1)

-- a value that has a node is ready
pub some_ready : (old : List Value) (marks : List Bool) (s : Made) (v : ℕ) → MayBeMade old marks s v → (m : ℕ) × (node_in s v ≡ Some m) → IsReady old marks s v
some_ready old marks s v may (m, e) = record { within = may.within; live = may.live; ready = by (value_at old v) }
  where
    by : (value : Value) → IsReadyAs s v value
    by values.Turn = (m, e)
    by (values.Quotient d) = (m, e)
    by (values.Digit d x) = (m, e)
    by (values.Input p) = (m, e)
    by (values.Loaded x y z w) = (m, e)
    by (values.Two x y z) = (m, e)
    by (values.Select x y z) = (m, e)
    by (values.Const word) = tt
    by (values.Carried number) = tt

-- a live word is met
pub live_met : (old : List Value) (marks : List Bool) (s t : Made) (number : ℕ) → Stands old marks s → IsLiveWord old marks number → t.nodes ≡ s.nodes → t.at ≡ s.at →
    ((n : ℕ) → Contains t.met n → Contains s.met n ⊎ (n ≡ number)) → AddsQuiet old marks s t
live_met old marks s t number st live e a met =
    let quiet = adds_none old marks s (record { nodes = t.nodes; at = t.at; met = s.met }) st e a refl in
    record {
      stands =
          record {
            long = quiet.stands.long;
            computed = λ w m h. let c = quiet.stands.computed w m h in (c.0, c.1, computes_grows old (record { nodes = t.nodes; at = t.at; met = s.met }) t m (value_at old w) (record { longer = omega arith; nodes = λ k x i. i; at = λ k x i. i }) c.2);
            apart = quiet.stands.apart;
            used = quiet.stands.used;
            met = λ n i. ⊎_elim (λ h. st.met n h) (λ (h : n ≡ number). subst (λ (z : ℕ). IsLiveWord old marks z) (sym h) live) (met n i);
          };
      grows = record { longer = quiet.grows.longer; nodes = quiet.grows.nodes; at = quiet.grows.at };
      quiet = quiet.quiet;
    }

pub met_adds : (old : List Value) (marks : List Bool) (s t : Made) (v number : ℕ) → Stands old marks s → MayBeMade old marks s v → values.Carried number ≡ value_at old v → t.nodes ≡ s.nodes → t.at ≡ s.at →
    ((n : ℕ) → Contains t.met n → Contains s.met n ⊎ (n ≡ number)) → AddsQuiet old marks s t
met_adds old marks s t v number st may is = live_met old marks s t number st (record { v = v; within = may.within; is = sym is; live = may.live })

-- a live word is copied and met
pub copied : (old : List Value) (marks : List Bool) (s t u : Made) (number : ℕ) → Stands old marks s → IsLiveWord old marks number → IsGrownBy s t (sketch ops.Const 0 (One (Carried number))) → u.nodes ≡ t.nodes → u.at ≡ t.at →
    ((n : ℕ) → Contains u.met n → Contains t.met n ⊎ (n ≡ number)) → AddsQuiet old marks s u
copied old marks s t u number st live g e a met =
    let first = constant_adds old marks s t (Carried number) st g (λ n (h : Carried number ≡ Carried n). let same : number ≡ n = cc in subst (λ (z : ℕ). IsLiveWord old marks z) same live) in
    adds_twice old marks s t u first (live_met old marks t u number first.stands live e a met)

-- v gets its node after those of its two operands
pub placed_two : (old : List Value) (marks : List Bool) (s a b t : Made) (v m first second : ℕ) (op : Op) → node_in s v ≡ None → MayBeMade old marks s v → values.Two op first second ≡ value_at old v →
    MayStand v (values.Two op first second) → AddsQuiet old marks s a → ((w : ℕ) → first < w → node_in a w ≡ node_in s w) → AddsQuiet old marks a b → ((w : ℕ) → second < w → node_in b w ≡ node_in a w) →
    Adds old marks b t m → OnTwo old t m op 0 first second → AddsQuiet old marks s (with_place t v m)
placed_two old marks s a b t v m first second op none may is stand x f y h d on =
    placed old marks s b t v m (adds_twice old marks s a b x y) d may.within (h v stand.2 ∙ f v stand.1 ∙ none) (subst (λ (z : Value). Computes old t m z) is on)
    (quiet_at t m 0 op _ on.is (plain_quiet op stand.0))

-- so does a selection after those of its three
pub placed_three : (old : List Value) (marks : List Bool) (s a b c t : Made) (v m first second third : ℕ) → node_in s v ≡ None → MayBeMade old marks s v → values.Select first second third ≡ value_at old v →
    MayStand v (values.Select first second third) → AddsQuiet old marks s a → ((w : ℕ) → first < w → node_in a w ≡ node_in s w) → AddsQuiet old marks a b → ((w : ℕ) → second < w → node_in b w ≡ node_in a w) →
    AddsQuiet old marks b c → ((w : ℕ) → third < w → node_in c w ≡ node_in b w) → Adds old marks c t m → OnThree old t m ops.Select first second third → AddsQuiet old marks s (with_place t v m)
placed_three old marks s a b c t v m first second third none may is stand x f y h z i d on =
    placed old marks s c t v m (adds_twice old marks s b c (adds_twice old marks s a b x y) z) d may.within (i v stand.2 ∙ h v stand.1 ∙ f v stand.0 ∙ none) (subst (λ (z : Value). Computes old t m z) is on)
    (quiet_at t m 0 ops.Select _ on.is (refl, refl))

-- and a leaf
pub placed_leaf : (old : List Value) (marks : List Bool) (s t : Made) (v m : ℕ) (value : Value) → Stands old marks s → node_in s v ≡ None → MayBeMade old marks s v → value ≡ value_at old v → IsLeaf value →
    Gains old marks s t m value → AddsQuiet old marks s (with_place t v m)
placed_leaf old marks s t v m value st none may is leaf g =
    placed old marks s s t v m (adds_none old marks s s st refl refl refl) g.adds may.within none (subst (λ (z : Value). Computes old t m z) is g.computes) (leaf_quiet old t m value leaf g.computes)

-- a load gets its node, the last one
pub placed_node : (old : List Value) (marks : List Bool) (s b t : Made) (v m : ℕ) → AddsQuiet old marks s b → Adds old marks b t m → v < length old → node_in b v ≡ None → Computes old t m (value_at old v) → IsLoad (value_at old v) →
    AddsNode old marks s (with_place t v m) m × IsLoad (value_at old v) × (node_in (with_place t v m) v ≡ Some m)
placed_node old marks s b t v m a d l none c load =
    let g = place_grows t v m (rw d.at none) in
    let n = adds_then old marks s b t m a d in (
      record {
        stands =
            place_stands old marks t v m (length b.nodes) d.stands l (rw d.at none) (omega (arith, d.last)) d.fresh
            (λ w k is. (a.stands.computed w k (rw d.at at is)).1) c;
        grows = grows_twice s t (with_place t v m) n.grows g;
        last = n.last;
        fresh = n.fresh;
        quiet = n.quiet;
      },
      load,
      place_at t v m (rw d.stands.long l),
    )

-- the operands of a live load may be made
pub below_may : (old : List Value) (marks : List Bool) (s : Made) (v a : ℕ) → HasLoadsBelow old marks s v → v < length old → a < v → has_mark marks a ≡ true → MayBeMade old marks s a
below_may old marks s v a loads within l live = record { within = omega arith; live = live; loads = λ u le. loads u (omega arith) }
