-- The nodes of values that are computed from no others.
use Rattle.std.proofs.Common.{◌≡◌, ℕ, ◌+◌, ◌-◌, Bool, List, length, refl, sym, ap, ◌∙◌, subst, arith, length-append, ⊎_elim}
use Rattle.cg_word.specs.declared.op.Op.{Op}
use Rattle.cg_word.specs.declared.op.Op.TheVariants as ops
use Rattle.cg_word.specs.Word.{words, apply_of}
use Rattle.cg_c_values.specs.declared.value.Value.{Value}
use Rattle.cg_c_values.specs.declared.value.Value.TheVariants as values
use Rattle.cg_c_kernel.specs.Made.{Made, Sketch, Ref, Refs, Zero, One, Two, Three, Word, Now, Carried, Rotation, Remainder, Quotient, Is, Computes, Gains, IsLiveWord, Uses, Stands, IsQuiet, AddsQuiet, IsPushed, sketch}
use Rattle.cg_c_kernel.proofs.Growing.{grows_twice, is_grows}
use Rattle.cg_c_kernel.proofs.Making.{adds_none, adds_one, adds_twice, pushed_adds, pushed_is, pushed_grows}

pushed_quiet : (old : List Value) (marks : List Bool) (s t : Made) (m : ℕ) (x : Sketch) → Stands old marks s → IsPushed s t m x → ((number : ℕ) → Uses x.operands number → IsLiveWord old marks number) → IsQuiet x → AddsQuiet old marks s t
pushed_quiet old marks s t m x st p u q =
    adds_one old marks s t x st (ap (λ (z : Made). z.nodes) p.added) (ap (λ (z : Made). z.at) p.added) (ap (λ (z : Made). z.met) p.added) u q

pub leaf_gains : (old : List Value) (marks : List Bool) (s t : Made) (m : ℕ) (x : Sketch) (value : Value) → Stands old marks s → IsPushed s t m x → ((number : ℕ) → Uses x.operands number → IsLiveWord old marks number) →
    Computes old t m value → Gains old marks s t m value
leaf_gains old marks s t m x value st p u c =
    record { adds = pushed_adds old marks s s t m x (adds_none old marks s s st refl refl refl) refl p u; computes = c }

pub turn_gains : (old : List Value) (marks : List Bool) (s t : Made) (m : ℕ) → Stands old marks s → IsPushed s t m (sketch ops.Iter 0 Zero) → Gains old marks s t m values.Turn
turn_gains old marks s t m st p = leaf_gains old marks s t m _ values.Turn st p (λ n u. absurd u) (pushed_is s t m 0 ops.Iter Zero p)

pub input_gains : (old : List Value) (marks : List Bool) (s t : Made) (m port : ℕ) → Stands old marks s → IsPushed s t m (sketch ops.Input port Zero) → Gains old marks s t m (values.Input port)
input_gains old marks s t m port st p = leaf_gains old marks s t m _ (values.Input port) st p (λ n u. absurd u) (pushed_is s t m port ops.Input Zero p)

pub digit_gains : (old : List Value) (marks : List Bool) (s t : Made) (m divisor radix : ℕ) → Stands old marks s → IsPushed s t m (sketch ops.Const 0 (One (Rotation m))) → Gains old marks s t m (values.Digit divisor radix)
digit_gains old marks s t m divisor radix st p =
    leaf_gains old marks s t m _ (values.Digit divisor radix) st p (λ n (u : Rotation m ≡ Carried n). absurd (cc)) (pushed_is s t m 0 ops.Const (One (Rotation m)) p)

moved : (t : Made) (m n port : ℕ) (op : Op) (rs qs : Refs) → m ≡ n → rs ≡ qs → Is t m op port rs → Is t n op port qs
moved t m n port op rs qs e f i = subst (λ (z : ℕ). Is t z op port qs) e (subst (λ (z : Refs). Is t m op port z) f i)

longer : (s t : Made) (m : ℕ) (x : Sketch) → IsPushed s t m x → length t.nodes ≡ length s.nodes + 1
longer s t m x p = ap (λ (z : Made). length z.nodes) p.added ∙ simp length-append

none_of_two : (old : List Value) (marks : List Bool) (a b : Ref) → ((n : ℕ) → a ≡ Carried n → ⊥) → ((n : ℕ) → b ≡ Carried n → ⊥) → (number : ℕ) → Uses (Two a b) number → IsLiveWord old marks number
none_of_two old marks a b f g number = ⊎_elim (λ e. absurd (f number e)) (λ e. absurd (g number e))

pub recurred : (old : List Value) (marks : List Bool) (s t u w y z : Made) (first wraps again further c m divisor less : ℕ) → Stands old marks s → first ≡ length s.nodes → less ≡ apply_of ops.Sub 2 divisor 0 →
    IsPushed s t wraps (sketch ops.Lts 0 (Two (Word (words - 3)) (Remainder first))) → IsPushed t u again (sketch ops.Add 0 (Two (Remainder first) (Word less))) →
    IsPushed u w further (sketch ops.Add 0 (Two (Remainder first) (Word 2))) → IsPushed w y c (sketch ops.Select 0 (Three (Now wraps) (Now again) (Now further))) →
    IsPushed y z m (sketch ops.Add 0 (Two (Quotient first) (Now wraps))) → Gains old marks s z m (values.Quotient divisor)
recurred old marks s t u w y z first wraps again further c m divisor less st e l a b d f g =
    let p = pushed_quiet old marks s t wraps _ st a (none_of_two old marks _ _ (λ n (h : Word (words - 3) ≡ Carried n). absurd (cc)) (λ n (h : Remainder first ≡ Carried n). absurd (cc))) (refl, refl) in
    let q = pushed_quiet old marks t u again _ p.stands b (none_of_two old marks _ _ (λ n (h : Remainder first ≡ Carried n). absurd (cc)) (λ n (h : Word less ≡ Carried n). absurd (cc))) (refl, refl) in
    let r = pushed_quiet old marks u w further _ q.stands d (none_of_two old marks _ _ (λ n (h : Remainder first ≡ Carried n). absurd (cc)) (λ n (h : Word 2 ≡ Carried n). absurd (cc))) (refl, refl) in
    let v =
    pushed_quiet old marks w y c _ r.stands f
    (λ n. ⊎_elim (λ (h : Now wraps ≡ Carried n). absurd (cc)) (⊎_elim (λ (h : Now again ≡ Carried n). absurd (cc)) (λ (h : Now further ≡ Carried n). absurd (cc)))) (refl, refl)
    in
    let all = adds_twice old marks s t y p (adds_twice old marks t u y q (adds_twice old marks u w y r v)) in
    let gz = pushed_grows y z m _ g in
    let gy = grows_twice w y z (pushed_grows w y c _ f) gz in
    let gw = grows_twice u w z (pushed_grows u w further _ d) gy in
    let gu = grows_twice t u z (pushed_grows t u again _ b) gw in
    let lt = longer s t wraps _ a in
    let lu = longer t u again _ b in
    let lw = longer u w further _ d in
    let ly = longer w y c _ f in
    let e0 : wraps ≡ first = omega (arith, a.number) in
    let e1 : again ≡ first + 1 = omega (arith, b.number) in
    let e2 : further ≡ first + 2 = omega (arith, d.number) in
    let e3 : c ≡ first + 3 = omega (arith, f.number) in
    let e4 : m ≡ first + 4 = omega (arith, g.number) in
    record {
      adds = pushed_adds old marks s y z m _ all (all_at) g (none_of_two old marks _ _ (λ n (h : Quotient first ≡ Carried n). absurd (cc)) (λ n (h : Now wraps ≡ Carried n). absurd (cc)));
      computes = (
        first,
        sym e4,
        record {
          wraps = moved z wraps first 0 ops.Lts _ _ e0 refl (is_grows t z _ _ _ _ gu (pushed_is s t wraps 0 ops.Lts _ a));
          again = moved z again (first + 1) 0 ops.Add _ _ e1 (ap (λ (x : ℕ). Two (Remainder first) (Word x)) l) (is_grows u z _ _ _ _ gw (pushed_is t u again 0 ops.Add _ b));
          further = moved z further (first + 2) 0 ops.Add _ _ e2 refl (is_grows w z _ _ _ _ gy (pushed_is u w further 0 ops.Add _ d));
          remainder = moved z c (first + 3) 0 ops.Select (Three (Now wraps) (Now again) (Now further)) (Three (Now first) (Now (first + 1)) (Now (first + 2))) e3 (cc) (is_grows y z _ _ _ _ gz (pushed_is w y c 0 ops.Select _ f));
          quotient = moved z m (first + 4) 0 ops.Add (Two (Quotient first) (Now wraps)) (Two (Quotient first) (Now first)) e4 (cc) (pushed_is y z m 0 ops.Add _ g);
        },
      );
    }
  where
    all_at : y.at ≡ s.at
    all_at = ap (λ (x : Made). x.at) f.added ∙ ap (λ (x : Made). x.at) d.added ∙ ap (λ (x : Made). x.at) b.added ∙ ap (λ (x : Made). x.at) a.added
