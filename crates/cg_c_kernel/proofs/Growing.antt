-- Nodes that are added at the end.
use Rattle.std.proofs.Common.{◌≡◌, ◌⊎◌, ℕ, ◌+◌, ◌<◌, ◌≤◌, List, [], ◌∷◌, ◌++◌, length, Option, Some, None, slice_get, refl, sym, ap, ◌∙◌, subst, arith, Bool, inl, inr, length-append, ⊎_elim}
use Rattle.std.proofs.lemmas.Option.{slice_get-get_or, get_or_from_slice_get, slice_get_within}
use Rattle.std.proofs.lemmas.List.{get_or_append_left, get_or_push}
use Rattle.std.proofs.lemmas.Bool.{cases_lt}
use Rattle.cg_word.specs.declared.op.Op.{Op}
use Rattle.cg_word.specs.declared.op.Op.TheVariants as ops
use Rattle.cg_c_values.specs.declared.value.Value.{Value}
use Rattle.cg_c_values.specs.declared.value.Value.TheVariants as values
use Rattle.cg_c_values.specs.Values.{value_at}
use Rattle.cg_c_kernel.specs.Made.{Made, Sketch, Ref, Refs, Zero, One, Word, Is, IsRef, IsRefOf, IsAt, OnOne, OnTwo, OnThree, Recurs, Computes, IsLiveWord, Uses, Stands, Grows, IsGrownBy, node_in}

-- ---- lists

pub stays : {A : Type 0} → (xs : List A) (y x : A) (m : ℕ) → slice_get xs m ≡ Some x → slice_get (xs ++ y ∷ []) m ≡ Some x
stays xs y x m is =
    let l = slice_get_within xs m x is in
    slice_get-get_or (xs ++ y ∷ []) m x (simp length-append (omega arith)) ∙ ap Some (get_or_append_left xs (y ∷ []) x m l ∙ get_or_from_slice_get xs m x x is)

pub comes : {A : Type 0} → (xs : List A) (y : A) → slice_get (xs ++ y ∷ []) (length xs) ≡ Some y
comes xs y = slice_get-get_or (xs ++ y ∷ []) (length xs) y (simp length-append (omega arith)) ∙ ap Some (get_or_push xs y y (length xs) refl)

pub was : {A : Type 0} → (xs : List A) (y x : A) (m : ℕ) → slice_get (xs ++ y ∷ []) m ≡ Some x → m < length xs → slice_get xs m ≡ Some x
was xs y x m is l =
    slice_get-get_or xs m x l ∙ ap Some (sym (get_or_append_left xs (y ∷ []) x m l) ∙ get_or_from_slice_get (xs ++ y ∷ []) m x x is)

pub is_new : {A : Type 0} → (xs : List A) (y x : A) (m : ℕ) → slice_get (xs ++ y ∷ []) m ≡ Some x → length xs ≤ m → x ≡ y
is_new xs y x m is l =
    let w = slice_get_within (xs ++ y ∷ []) m x is in
    let s : m < length xs + 1 = omega (arith, simp length-append at w) in
    let e : m ≡ length xs = omega arith in
    sym (get_or_from_slice_get (xs ++ y ∷ []) m x y is) ∙ get_or_push xs y y m (sym e)

-- ---- growing

pub same_grows : (s t : Made) → t.nodes ≡ s.nodes → t.at ≡ s.at → Grows s t
same_grows s t e a = record { longer = rw e (omega arith); nodes = λ m x h. rw e h; at = λ v m h. rw a h }

pub more_grows : (s t : Made) (x : Sketch) → t.nodes ≡ s.nodes ++ x ∷ [] → t.at ≡ s.at → Grows s t
more_grows s t x e a = record { longer = rw e (simp length-append (omega arith)); nodes = λ m y h. rw e (stays s.nodes x y m h); at = λ v m h. rw a h }

pub grown : (s t : Made) (x : Sketch) → IsGrownBy s t x → Grows s t
grown s t x g = by g.nodes
  where
    by : (t.nodes ≡ s.nodes) ⊎ (t.nodes ≡ s.nodes ++ x ∷ []) → Grows s t
    by (inl e) = same_grows s t e g.at
    by (inr e) = more_grows s t x e g.at

pub grows_twice : (s t u : Made) → Grows s t → Grows t u → Grows s u
grows_twice s t u g h =
    record { longer = omega (arith, g.longer, h.longer); nodes = λ m x k. h.nodes m x (g.nodes m x k); at = λ v m k. h.at v m (g.at v m k) }

pub is_grows : (s t : Made) (m port : ℕ) (op : Op) (rs : Refs) → Grows s t → Is s m op port rs → Is t m op port rs
is_grows s t m port op rs g i = record { there = g.nodes m _ i.there }

at_grows : (s t : Made) (a : ℕ) (r : Ref) → Grows s t → IsAt (node_in s a) r → IsAt (node_in t a) r
at_grows s t a r g = by (node_in s a) (λ m. g.at a m)
  where
    by : (o : Option ℕ) → ((m : ℕ) → o ≡ Some m → node_in t a ≡ Some m) → IsAt o r → IsAt (node_in t a) r
    by None f i = absurd i
    by (Some m) f i = rw (f m refl) i

pub ref_grows : (old : List Value) (s t : Made) (a : ℕ) (r : Ref) → Grows s t → IsRef old s a r → IsRef old t a r
ref_grows old s t a r g i = record { stands = by (value_at old a) i.stands }
  where
    by : (value : Value) → IsRefOf s a value r → IsRefOf t a value r
    by (values.Const word) (inl e) = inl e
    by (values.Const word) (inr (m, c, e)) = inr (m, is_grows s t m 0 ops.Const (One (Word word)) g c, e)
    by (values.Carried number) e = e
    by values.Turn e = at_grows s t a r g e
    by (values.Quotient d) e = at_grows s t a r g e
    by (values.Digit d x) e = at_grows s t a r g e
    by (values.Input p) e = at_grows s t a r g e
    by (values.Loaded x y z w) e = at_grows s t a r g e
    by (values.Two x y z) e = at_grows s t a r g e
    by (values.Select x y z) e = at_grows s t a r g e

one_grows : (old : List Value) (s t : Made) (m port a : ℕ) (op : Op) → Grows s t → OnOne old s m op port a → OnOne old t m op port a
one_grows old s t m port a op g o =
    record { first = o.first; is = is_grows s t m port op _ g o.is; first_is = ref_grows old s t a o.first g o.first_is }

two_grows : (old : List Value) (s t : Made) (m port a b : ℕ) (op : Op) → Grows s t → OnTwo old s m op port a b → OnTwo old t m op port a b
two_grows old s t m port a b op g o =
    record {
      first = o.first;
      second = o.second;
      is = is_grows s t m port op _ g o.is;
      first_is = ref_grows old s t a o.first g o.first_is;
      second_is = ref_grows old s t b o.second g o.second_is;
    }

three_grows : (old : List Value) (s t : Made) (m a b c : ℕ) (op : Op) → Grows s t → OnThree old s m op a b c → OnThree old t m op a b c
three_grows old s t m a b c op g o =
    record {
      first = o.first;
      second = o.second;
      third = o.third;
      is = is_grows s t m 0 op _ g o.is;
      first_is = ref_grows old s t a o.first g o.first_is;
      second_is = ref_grows old s t b o.second g o.second_is;
      third_is = ref_grows old s t c o.third g o.third_is;
    }

recurs_grows : (s t : Made) (m divisor : ℕ) → Grows s t → Recurs s m divisor → Recurs t m divisor
recurs_grows s t m divisor g r =
    record {
      wraps = is_grows s t _ _ _ _ g r.wraps;
      again = is_grows s t _ _ _ _ g r.again;
      further = is_grows s t _ _ _ _ g r.further;
      remainder = is_grows s t _ _ _ _ g r.remainder;
      quotient = is_grows s t _ _ _ _ g r.quotient;
    }

pub computes_grows : (old : List Value) (s t : Made) (m : ℕ) (value : Value) → Grows s t → Computes old s m value → Computes old t m value
computes_grows old s t m values.Turn g c = is_grows s t m 0 ops.Iter Zero g c
computes_grows old s t m (values.Quotient divisor) g (first, e, r) = (first, e, recurs_grows s t first divisor g r)
computes_grows old s t m (values.Digit divisor radix) g c = is_grows s t m 0 ops.Const _ g c
computes_grows old s t m (values.Input port) g c = is_grows s t m port ops.Input Zero g c
computes_grows old s t m (values.Loaded array version None address) g c = one_grows old s t m 0 address ops.Load g c
computes_grows old s t m (values.Loaded array version (Some guard) address) g c = two_grows old s t m 0 guard address ops.LoadIf g c
computes_grows old s t m (values.Two op first second) g c = two_grows old s t m 0 first second op g c
computes_grows old s t m (values.Select condition chosen other) g c = three_grows old s t m condition chosen other ops.Select g c
computes_grows old s t m (values.Const word) g c = absurd c
computes_grows old s t m (values.Carried number) g c = absurd c

-- ---- what stands

-- nodes were added that use no words but live ones
pub stands_more : (old : List Value) (marks : List Bool) (s t : Made) (x : Sketch) → Stands old marks s → t.nodes ≡ s.nodes ++ x ∷ [] → t.at ≡ s.at → t.met ≡ s.met →
    ((number : ℕ) → Uses x.operands number → IsLiveWord old marks number) → Stands old marks t
stands_more old marks s t x st e a k u =
    let g = more_grows s t x e a in
    record {
      long = rw a st.long;
      computed = λ v m h.
          let c = st.computed v m (rw a at h) in
          (c.0, rw e (simp length-append (omega (arith, c.1))), computes_grows old s t m (value_at old v) g c.2);
      apart = λ v w m h i. st.apart v w m (rw a at h) (rw a at i);
      used = λ m number y h i. used m number y (rw e at h) i;
      met = λ number h. st.met number (rw k at h);
    }
  where
    used : (m number : ℕ) (y : Sketch) → slice_get (s.nodes ++ x ∷ []) m ≡ Some y → Uses y.operands number → IsLiveWord old marks number
    used m number y h i =
        ⊎_elim (λ l. st.used m number y (was s.nodes x y m h l) i)
        (λ l. u number (subst (λ (z : Sketch). Uses z.operands number) (is_new s.nodes x y m h l) i)) (cases_lt m (length s.nodes))

-- nothing was added
pub stands_same : (old : List Value) (marks : List Bool) (s t : Made) → Stands old marks s → t.nodes ≡ s.nodes → t.at ≡ s.at → t.met ≡ s.met → Stands old marks t
stands_same old marks s t st e a k =
    let g = same_grows s t e a in
    record {
      long = rw a st.long;
      computed = λ v m h.
          let c = st.computed v m (rw a at h) in
          (c.0, rw e c.1, computes_grows old s t m (value_at old v) g c.2);
      apart = λ v w m h i. st.apart v w m (rw a at h) (rw a at i);
      used = λ m number y h i. st.used m number y (rw e at h) i;
      met = λ number h. st.met number (rw k at h);
    }
