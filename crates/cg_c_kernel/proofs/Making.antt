-- Nodes of values whose operands have theirs.
use Rattle.std.proofs.Common.{◌≡◌, ◌⊎◌, ℕ, ◌<◌, ◌≤◌, Bool, List, [], ◌∷◌, ◌++◌, length, Option, Some, None, refl, sym, ap, ◌∙◌, subst, arith, inl, inr, length-append, ⊎_elim, get_or}
use Rattle.std.proofs.lemmas.Option.{slice_get-get_or}
use Rattle.std.proofs.lemmas.Bool.{cases_lt}
use Rattle.cg_word.specs.declared.op.Op.{Op}
use Rattle.cg_word.specs.declared.op.Op.TheVariants as ops
use Rattle.cg_c_values.specs.declared.value.Value.{Value}
use Rattle.cg_c_values.specs.declared.value.Value.TheVariants as values
use Rattle.cg_c_values.specs.Values.{value_at}
use Rattle.cg_c_kernel.specs.Made.{Made, Sketch, Ref, Refs, One, Two, Three, Word, Carried, Is, IsRef, IsRefOf, IsAt, OnOne, OnTwo, OnThree, IsLiveWord, Uses, Stands, IsQuiet, Grows, IsGrownBy, GrowsByConstant, AddsQuiet, Adds, IsReady, IsReadyAs, AddsNode, IsPushed, sketch, node_in}
use Rattle.cg_c_kernel.proofs.Growing.{stands_more, stands_same, same_grows, more_grows, grows_twice, ref_grows, comes, is_new, was}

-- ---- quiet nodes

pub adds_none : (old : List Value) (marks : List Bool) (s t : Made) → Stands old marks s → t.nodes ≡ s.nodes → t.at ≡ s.at → t.met ≡ s.met → AddsQuiet old marks s t
adds_none old marks s t st e a k =
    record { stands = stands_same old marks s t st e a k; grows = same_grows s t e a; quiet = λ i x l h is. absurd (omega (arith, ap length e)) }

pub adds_one : (old : List Value) (marks : List Bool) (s t : Made) (x : Sketch) → Stands old marks s → t.nodes ≡ s.nodes ++ x ∷ [] → t.at ≡ s.at → t.met ≡ s.met →
    ((number : ℕ) → Uses x.operands number → IsLiveWord old marks number) → IsQuiet x → AddsQuiet old marks s t
adds_one old marks s t x st e a k u q =
    record {
      stands = stands_more old marks s t x st e a k u;
      grows = more_grows s t x e a;
      quiet = λ i y l h is. subst IsQuiet (sym (is_new s.nodes x y i (rw e at is) l)) q;
    }

pub adds_twice : (old : List Value) (marks : List Bool) (s t u : Made) → AddsQuiet old marks s t → AddsQuiet old marks t u → AddsQuiet old marks s u
adds_twice old marks s t u a b =
    record {
      stands = b.stands;
      grows = grows_twice s t u a.grows b.grows;
      quiet = λ k x l h is.
          ⊎_elim
          (λ (within : k < length t.nodes).
          let here = slice_get-get_or t.nodes k x within in
          let there = b.grows.nodes k (get_or t.nodes k x) here in
          let same : get_or t.nodes k x ≡ x = cc in
          a.quiet k x l within (here ∙ ap Some same))
          (λ (past : length t.nodes ≤ k). b.quiet k x past h is) (cases_lt k (length t.nodes));
    }

pub constant_adds : (old : List Value) (marks : List Bool) (s t : Made) (r : Ref) → Stands old marks s → IsGrownBy s t (sketch ops.Const 0 (One r)) →
    ((number : ℕ) → r ≡ Carried number → IsLiveWord old marks number) → AddsQuiet old marks s t
constant_adds old marks s t r st g u = by g.nodes
  where
    by : (t.nodes ≡ s.nodes) ⊎ (t.nodes ≡ s.nodes ++ sketch ops.Const 0 (One r) ∷ []) → AddsQuiet old marks s t
    by (inl e) = adds_none old marks s t st e g.at g.met
    by (inr e) = adds_one old marks s t (sketch ops.Const 0 (One r)) st e g.at g.met u (refl, refl)

pub word_adds : (old : List Value) (marks : List Bool) (s t : Made) → Stands old marks s → GrowsByConstant s t → AddsQuiet old marks s t
word_adds old marks s t st g = constant_adds old marks s t (Word g.word) st g.grown (λ number e. absurd (cc))

-- ---- operands

pub ready_grows : (old : List Value) (marks : List Bool) (s t : Made) (a : ℕ) → Grows s t → IsReady old marks s a → IsReady old marks t a
ready_grows old marks s t a g r = record { within = r.within; live = r.live; ready = by (value_at old a) r.ready }
  where
    by : (value : Value) → IsReadyAs s a value → IsReadyAs t a value
    by (values.Const word) h = tt
    by (values.Carried number) h = tt
    by values.Turn (m, e) = (m, g.at a m e)
    by (values.Quotient d) (m, e) = (m, g.at a m e)
    by (values.Digit d x) (m, e) = (m, g.at a m e)
    by (values.Input p) (m, e) = (m, g.at a m e)
    by (values.Loaded x y z w) (m, e) = (m, g.at a m e)
    by (values.Two x y z) (m, e) = (m, g.at a m e)
    by (values.Select x y z) (m, e) = (m, g.at a m e)

not_at : (o : Option ℕ) (r : Ref) (number : ℕ) → IsAt o r → r ≡ Carried number → ⊥
not_at None r number i e = i
not_at (Some m) r number i e = absurd (cc)

-- an operand that is carried is a live word
pub ref_live : (old : List Value) (marks : List Bool) (s t : Made) (a : ℕ) (r : Ref) → IsReady old marks s a → IsRef old t a r → (number : ℕ) → r ≡ Carried number → IsLiveWord old marks number
ref_live old marks s t a r ready ref number e = by (value_at old a) refl ref.stands
  where
    by : (value : Value) → value_at old a ≡ value → IsRefOf t a value r → IsLiveWord old marks number
    by (values.Const word) is (inl h) = absurd (cc)
    by (values.Const word) is (inr (m, c, h)) = absurd (cc)
    by (values.Carried n) is h =
        let same : n ≡ number = cc in
        record { v = a; within = ready.within; is = is ∙ ap values.Carried same; live = ready.live }
    by values.Turn is h = absurd (not_at (node_in t a) r number h e)
    by (values.Quotient d) is h = absurd (not_at (node_in t a) r number h e)
    by (values.Digit d x) is h = absurd (not_at (node_in t a) r number h e)
    by (values.Input p) is h = absurd (not_at (node_in t a) r number h e)
    by (values.Loaded x y z w) is h = absurd (not_at (node_in t a) r number h e)
    by (values.Two x y z) is h = absurd (not_at (node_in t a) r number h e)
    by (values.Select x y z) is h = absurd (not_at (node_in t a) r number h e)

-- ---- one more node, after quiet ones

pub pushed_adds : (old : List Value) (marks : List Bool) (s t u : Made) (m : ℕ) (x : Sketch) → AddsQuiet old marks s t → t.at ≡ s.at → IsPushed t u m x →
    ((number : ℕ) → Uses x.operands number → IsLiveWord old marks number) → Adds old marks s u m
pushed_adds old marks s t u m x a same p live =
    let nodes = ap (λ (z : Made). z.nodes) p.added in
    let at = ap (λ (z : Made). z.at) p.added in
    let met = ap (λ (z : Made). z.met) p.added in
    let long = ap length nodes in
    let g = more_grows t u x nodes at in
    record {
      stands = stands_more old marks t u x a.stands nodes at met live;
      grows = grows_twice s t u a.grows g;
      at = at ∙ same;
      last = omega (arith, p.number, simp length-append at long);
      fresh = omega (arith, p.number, a.grows.longer);
      quiet = λ k y l h is.
          let within : k < length t.nodes = omega (arith, p.number) in
          a.quiet k y l within (was t.nodes x y k (rw nodes at is) within);
    }

pub pushed_is : (s t : Made) (m port : ℕ) (op : Op) (rs : Refs) → IsPushed s t m (sketch op port rs) → Is t m op port rs
pushed_is s t m port op rs p =
    record { there = rw (ap (λ (z : Made). z.nodes) p.added, p.number) (comes s.nodes (sketch op port rs)) }

pub pushed_grows : (s t : Made) (m : ℕ) (x : Sketch) → IsPushed s t m x → Grows s t
pushed_grows s t m x p = more_grows s t x (ap (λ (z : Made). z.nodes) p.added) (ap (λ (z : Made). z.at) p.added)

-- ---- a node with one, two or three operands

pub one_adds : (old : List Value) (marks : List Bool) (s t u : Made) (m port a : ℕ) (op : Op) (r : Ref) → Stands old marks s → IsReady old marks s a → GrowsByConstant s t → IsRef old t a r →
    IsPushed t u m (sketch op port (One r)) → Adds old marks s u m
one_adds old marks s t u m port a op r st ready g i p =
    pushed_adds old marks s t u m (sketch op port (One r)) (word_adds old marks s t st g) g.grown.at p (ref_live old marks s t a r ready i)

pub one_is : (old : List Value) (t u : Made) (m port a : ℕ) (op : Op) (r : Ref) → IsRef old t a r → IsPushed t u m (sketch op port (One r)) → OnOne old u m op port a
one_is old t u m port a op r i p =
    record { first = r; is = pushed_is t u m port op (One r) p; first_is = ref_grows old t u a r (pushed_grows t u m _ p) i }

pub two_adds : (old : List Value) (marks : List Bool) (s t u w : Made) (m port a b : ℕ) (op : Op) (r q : Ref) → Stands old marks s → IsReady old marks s a → IsReady old marks s b →
    GrowsByConstant s t → IsRef old t a r → GrowsByConstant t u → IsRef old u b q → IsPushed u w m (sketch op port (Two r q)) → Adds old marks s w m
two_adds old marks s t u w m port a b op r q st x y g i h j p =
    let c = word_adds old marks s t st g in
    pushed_adds old marks s u w m (sketch op port (Two r q)) (adds_twice old marks s t u c (word_adds old marks t u c.stands h)) (h.grown.at ∙ g.grown.at) p
    (λ number. ⊎_elim (ref_live old marks s t a r x i number) (ref_live old marks s u b q y j number))

pub two_is : (old : List Value) (t u w : Made) (m port a b : ℕ) (op : Op) (r q : Ref) → Grows t u → IsRef old t a r → IsRef old u b q →
    IsPushed u w m (sketch op port (Two r q)) → OnTwo old w m op port a b
two_is old t u w m port a b op r q g i j p =
    let last = pushed_grows u w m _ p in
    record {
      first = r;
      second = q;
      is = pushed_is u w m port op (Two r q) p;
      first_is = ref_grows old t w a r (grows_twice t u w g last) i;
      second_is = ref_grows old u w b q last j;
    }

pub three_adds : (old : List Value) (marks : List Bool) (s t u w z : Made) (m a b c : ℕ) (op : Op) (r q o : Ref) → Stands old marks s → IsReady old marks s a → IsReady old marks s b → IsReady old marks s c →
    GrowsByConstant s t → IsRef old t a r → GrowsByConstant t u → IsRef old u b q → GrowsByConstant u w → IsRef old w c o → IsPushed w z m (sketch op 0 (Three r q o)) → Adds old marks s z m
three_adds old marks s t u w z m a b c op r q o st x y v g i h j k l p =
    let f = word_adds old marks s t st g in
    let n = adds_twice old marks s t u f (word_adds old marks t u f.stands h) in
    pushed_adds old marks s w z m (sketch op 0 (Three r q o)) (adds_twice old marks s u w n (word_adds old marks u w n.stands k)) (k.grown.at ∙ h.grown.at ∙ g.grown.at) p
    (λ number. ⊎_elim (ref_live old marks s t a r x i number) (⊎_elim (ref_live old marks s u b q y j number) (ref_live old marks s w c o v l number)))

pub three_is : (old : List Value) (t u w z : Made) (m a b c : ℕ) (op : Op) (r q o : Ref) → Grows t u → Grows u w → IsRef old t a r → IsRef old u b q → IsRef old w c o →
    IsPushed w z m (sketch op 0 (Three r q o)) → OnThree old z m op a b c
three_is old t u w z m a b c op r q o g h i j k p =
    let last = pushed_grows w z m _ p in
    record {
      first = r;
      second = q;
      third = o;
      is = pushed_is w z m 0 op (Three r q o) p;
      first_is = ref_grows old t z a r (grows_twice t w z (grows_twice t u w g h) last) i;
      second_is = ref_grows old u z b q (grows_twice u w z h last) j;
      third_is = ref_grows old w z c o last k;
    }

-- a node was added after quiet ones
pub adds_then : (old : List Value) (marks : List Bool) (s b t : Made) (m : ℕ) → AddsQuiet old marks s b → Adds old marks b t m → AddsNode old marks s t m
adds_then old marks s b t m a d =
    record {
      stands = d.stands;
      grows = grows_twice s b t a.grows d.grows;
      last = d.last;
      fresh = omega (arith, a.grows.longer, d.fresh);
      quiet = λ k x n h is.
          ⊎_elim
          (λ (early : k < length b.nodes).
          let here = slice_get-get_or b.nodes k x early in
          let there = d.grows.nodes k (get_or b.nodes k x) here in
          let same : get_or b.nodes k x ≡ x = cc in
          a.quiet k x n early (here ∙ ap Some same))
          (λ (late : length b.nodes ≤ k). d.quiet k x late h is) (cases_lt k (length b.nodes));
    }
