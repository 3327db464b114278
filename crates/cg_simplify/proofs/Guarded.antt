-- Guarded operations whose guard is known, and nodes that select by an `eq` with 0.
use Rattle.std.proofs.Common.{◌≡◌, ℕ, zero, suc, ◌-◌, ◌<◌, true, List, [], ◌∷◌, length, map, Option, Some, None, nat_lt, refl, sym, ap, ◌∙◌, subst, arith}
use Rattle.std.specs.Prelude.{IfSome, slice_get}
use Rattle.std.proofs.lemmas.Bool.{le-ltb, lt-ltb, ne_eqb, true≢false}
use Rattle.cg_word.specs.declared.op.Op.{Op}
use Rattle.cg_word.specs.declared.op.Op.TheVariants.{Const, Eq, Load, LoadIf, Output, OutputIf, Select, Store, StoreIf}
use Rattle.cg_word.specs.Word.{apply_of, arity, has_port, has_value, is_access, is_output, is_store, words}
use Rattle.cg_simplify_facts.specs.declared.facts.Fact.{Fact}
use Rattle.cg_model.specs.declared.kernel.Operand.{Operand}
use Rattle.cg_model.specs.declared.kernel.Operand.TheVariants.{Const as Constant, Edge}
use Rattle.cg_model.specs.Kernel.{Kernel, HasOperand, IsKernel, node, size}
use Rattle.cg_model.specs.Work.{Image, IsImage, Work, missed, sent, stored, value_by}
use Rattle.cg_model.specs.Turns.{operand, val, work_of}
use Rattle.cg_simplify_draft.specs.Restates.{DoesAs, Restates}
use Rattle.cg_simplify_draft.specs.Settings.{FitsEdge, FitsText}
use Rattle.cg_simplify_draft.proofs.Drafts.{fits_edge}
use Rattle.cg_simplify_draft.proofs.Restating.{does_same, does_twice}
use Rattle.cg_simplify_draft.proofs.Written.{const_fits}
use Rattle.cg_simplify_facts.specs.Suits.{AreTops, IsFactOf, IsOfWords}
use Rattle.cg_simplify_facts.proofs.Words.{of_words}
use Rattle.cg_simplify.specs.Guards.{IsEqOf, unguarded}
use Rattle.cg_simplify.specs.Restating.{IsConstantText, MayBecome}
use Rattle.cg_simplify.specs.declared.restating.Text.{Text}
use Rattle.cg_simplify.proofs.Drafted.{suits, value_is}

abbrev does : Op → ℕ → ℕ → List ℕ → Work
does op port turn args = record { op = op; port = port; turn = turn; args = args }

-- a guarded operation does nothing where its guard is 0
skips : (op plain : Op) (port turn : ℕ) (rest : List ℕ) → unguarded op ≡ Some plain → DoesAs (does Const 0 turn (0 ∷ [])) (does op port turn (0 ∷ rest))
unfolding value_by apply_of stored sent missed
skips LoadIf plain port turn rest e = record { gives = λ image memory. refl; writes = λ memory. refl; appends = λ at. refl; misses = λ room. omega arith; reaches = λ at r. absurd (true≢false (sym r.is)) }
skips StoreIf plain port turn rest e = record { gives = λ image memory. refl; writes = λ memory. refl; appends = λ at. refl; misses = λ room. omega arith; reaches = λ at r. absurd (true≢false (sym r.is)) }
skips OutputIf plain port turn rest e = record { gives = λ image memory. refl; writes = λ memory. refl; appends = λ at. refl; misses = λ room. omega arith; reaches = λ at r. absurd (true≢false (sym r.is)) }
skips _ plain port turn rest e = absurd (cc)

-- and what it does without the guard where that isn't 0
acts_plainly : (op plain : Op) (port turn g : ℕ) (rest : List ℕ) → unguarded op ≡ Some plain → nat_lt 0 g ≡ true → DoesAs (does plain port turn rest) (does op port turn (g ∷ rest))
unfolding value_by apply_of stored sent missed
acts_plainly LoadIf plain port turn g rest e l =
    let same : Load ≡ plain = cc in
    subst (λ (op : Op). DoesAs (does op port turn rest) (does LoadIf port turn (g ∷ rest))) same
    (record { gives = λ image memory. rw l refl; writes = λ memory. refl; appends = λ at. refl; misses = λ room. rw l (omega arith); reaches = λ at r. record { is = refl; acting = l; there = r.there } })
acts_plainly StoreIf plain port turn g rest e l =
    let same : Store ≡ plain = cc in
    subst (λ (op : Op). DoesAs (does op port turn rest) (does StoreIf port turn (g ∷ rest))) same
    (record { gives = λ image memory. refl; writes = λ memory. rw l refl; appends = λ at. refl; misses = λ room. rw l (omega arith); reaches = λ at r. record { is = refl; acting = l; there = r.there } })
acts_plainly OutputIf plain port turn g rest e l =
    let same : Output ≡ plain = cc in
    subst (λ (op : Op). DoesAs (does op port turn rest) (does OutputIf port turn (g ∷ rest))) same
    (record { gives = λ image memory. refl; writes = λ memory. refl; appends = λ at. rw l refl; misses = λ room. omega arith; reaches = λ at r. absurd (true≢false (sym r.is)) })
acts_plainly _ plain port turn g rest e l = absurd (cc)

-- `select` the other way
other_way : (port turn e x a b : ℕ) → e ≡ apply_of Eq x 0 0 → DoesAs (does Select port turn (x ∷ b ∷ a ∷ [])) (does Select port turn (e ∷ a ∷ b ∷ []))
unfolding value_by apply_of stored sent missed
other_way port turn e zero a b is = record { gives = λ image memory. rw is refl; writes = λ memory. refl; appends = λ at. refl; misses = λ room. omega arith; reaches = λ at r. absurd (true≢false (sym r.is)) }
other_way port turn e (suc x) a b is = record { gives = λ image memory. rw (is, ne_eqb (suc x) 0 (λ z. absurd (omega (arith, z))), lt-ltb 0 (suc x) (omega arith)) refl; writes = λ memory. refl; appends = λ at. refl; misses = λ room. omega arith; reaches = λ at r. absurd (true≢false (sym r.is)) }

-- a list of three items
pub three_items : (xs : List Operand) (a b c : Operand) → length xs ≡ 3 → slice_get xs 0 ≡ Some a → slice_get xs 1 ≡ Some b → slice_get xs 2 ≡ Some c → xs ≡ a ∷ b ∷ c ∷ []
three_items [] a b c long x y z = absurd (omega (arith, long))
three_items (p ∷ []) a b c long x y z = absurd (omega (arith, long))
three_items (p ∷ (q ∷ [])) a b c long x y z = absurd (omega (arith, long))
three_items (p ∷ (q ∷ (r ∷ []))) a b c long x y z =
    let e : p ≡ a = cc in let f : q ≡ b = cc in let g : r ≡ c = cc in rw (e, f, g) refl
three_items (p ∷ (q ∷ (r ∷ (s ∷ xs)))) a b c long x y z = absurd (omega (arith, long))

-- ---- texts

-- what holds of a guarded operation and of the one without a guard
record IsPair (op plain : Op) : Type 0 where
  pub valued : has_value op ≡ true → has_value plain ≡ true
  pub skipped : has_value op ≡ true → has_value Const ≡ true
  pub fewer : arity op ≡ suc (arity plain)
  pub access : is_access plain ≡ true → is_access op ≡ true
  pub store : is_store plain ≡ true → is_store op ≡ true
  pub output : is_output plain ≡ true → is_output op ≡ true
  pub port : has_port plain ≡ has_port op

pair_of : (op plain : Op) → unguarded op ≡ Some plain → IsPair op plain
pair_of LoadIf plain e = let same : Load ≡ plain = cc in subst (IsPair LoadIf) same (record { valued = λ h. refl; skipped = λ h. refl; fewer = refl; access = λ h. refl; store = λ h. absurd (true≢false (sym h)); output = λ h. absurd (true≢false (sym h)); port = refl })
pair_of StoreIf plain e = let same : Store ≡ plain = cc in subst (IsPair StoreIf) same (record { valued = λ h. h; skipped = λ h. refl; fewer = refl; access = λ h. refl; store = λ h. refl; output = λ h. absurd (true≢false (sym h)); port = refl })
pair_of OutputIf plain e = let same : Output ≡ plain = cc in subst (IsPair OutputIf) same (record { valued = λ h. h; skipped = λ h. refl; fewer = refl; access = λ h. absurd (true≢false (sym h)); store = λ h. absurd (true≢false (sym h)); output = λ h. refl; port = refl })
pair_of _ plain e = absurd (cc)

module _ (tops : List ℕ) (D : Kernel) (v : ℕ) (valid : IsKernel D) (l : v < size D) (plain : Op) (g : Operand) (rest : List Operand) (f : Fact) (k : ℕ) (guarded : unguarded (node D v).op ≡ Some plain)
    (split : (node D v).operands ≡ g ∷ rest) (fact : IsOfWords g → IsFactOf D.nodes tops g f) (known : f.word ≡ Some k) where
  guard_at : HasOperand D v 0 g
  guard_at = ap (λ (os : List Operand). slice_get os 0) split

  -- the word of the guard
  guard_is : (K : Kernel) (image : Image) (i : ℕ) → IsKernel K → AreTops K tops → Restates K D → IsImage image → operand (val K image) i g ≡ k
  guard_is K image i good are re words =
      subst (λ (o : Option ℕ). IfSome o (λ (w : ℕ). operand (val K image) i g ≡ w)) known
      ((fact (of_words D valid v l 0 g guard_at) (val K image) i (suits tops K D good are re image words)).word)

  -- the work of the node
  given : (K : Kernel) (image : Image) (i : ℕ) → IsKernel K → AreTops K tops → Restates K D → IsImage image
      → work_of (node D v) i (val K image) ≡ does (node D v).op (node D v).port i (k ∷ map (operand (val K image) i) rest)
  given K image i good are re words =
      ap (λ (os : List Operand). does (node D v).op (node D v).port i (map (operand (val K image) i) os)) split
      ∙ ap (λ (w : ℕ). does (node D v).op (node D v).port i (w ∷ map (operand (val K image) i) rest)) (guard_is K image i good are re words)

  rest_at : (p : ℕ) (o : Operand) → slice_get rest p ≡ Some o → HasOperand D v (suc p) o
  rest_at p o h = ap (λ (os : List Operand). slice_get os (suc p)) split ∙ h

  pub skips_text : (K : Kernel) (t : Text) → IsConstantText 0 t → k ≡ 0 → MayBecome K tops D v t
  skips_text K t is none =
      record {
        inside = l;
        fits = subst (λ (op : Op). FitsText D v op t.port t.operands) (sym is.op) (subst (λ (port : ℕ). FitsText D v Const port t.operands) (sym is.port) (const_fits D v 0 t.operands (omega arith) is.operands));
        accesses = λ e. absurd (true≢false (sym e ∙ ap is_access is.op));
        stores = λ e. absurd (true≢false (sym e ∙ ap is_store is.op));
        does = λ image i good are re words.
            subst (λ (w : Work). DoesAs (work_of (record (node D v) { op = t.op; port = t.port; operands = t.operands }) i (val K image)) w) (sym (given K image i good are re words))
            (subst (λ (z : ℕ). DoesAs (work_of (record (node D v) { op = t.op; port = t.port; operands = t.operands }) i (val K image)) (does (node D v).op (node D v).port i (z ∷ map (operand (val K image) i) rest))) (sym none)
            (does_twice (work_of (record (node D v) { op = t.op; port = t.port; operands = t.operands }) i (val K image)) (does Const 0 i (0 ∷ [])) (does (node D v).op (node D v).port i (0 ∷ map (operand (val K image) i) rest))
            (does_same _ _ (rw (is.op, is.port, is.operands) refl))
            (skips (node D v).op plain (node D v).port i (map (operand (val K image) i) rest) guarded)));
      }

  rest_fits : FitsText D v plain (node D v).port rest
  rest_fits =
      let pair = pair_of (node D v).op plain guarded in
      record {
        long = let a = valid.arities v l in let b = pair.fewer in let c : length (node D v).operands ≡ suc (length rest) = ap (λ (os : List Operand). length os) split in omega (arith, a, b, c);
        valued = pair.valued;
        edges = λ p u d init h. fits_edge D v (suc p) u d init valid l (rest_at p (Edge u d init) h);
        constants = λ p c h. valid.wired.constants v (suc p) c l (rest_at p (Constant c) h);
        one_constant = λ p q a b s h. let z = valid.one_constant v (suc p) (suc q) a b l (rest_at p (Constant a) s) (rest_at q (Constant b) h) in omega (arith, z);
        port_small = valid.ports v l;
        no_port = λ e. valid.no_ports v l (sym pair.port ∙ e);
        output = λ e. (pair.output e, refl);
      }

  pub acts_text : (K : Kernel) (t : Text) → t.op ≡ plain → t.port ≡ (node D v).port → t.operands ≡ rest → nat_lt 0 k ≡ true → MayBecome K tops D v t
  acts_text K t op port operands some =
      let pair = pair_of (node D v).op plain guarded in
      record {
        inside = l;
        fits = rw (op, port, operands) rest_fits;
        accesses = λ e. pair.access (sym (ap is_access op) ∙ e);
        stores = λ e. pair.store (sym (ap is_store op) ∙ e);
        does = λ image i good are re words.
            subst (λ (w : Work). DoesAs (work_of (record (node D v) { op = t.op; port = t.port; operands = t.operands }) i (val K image)) w) (sym (given K image i good are re words))
            (does_twice (work_of (record (node D v) { op = t.op; port = t.port; operands = t.operands }) i (val K image)) (does plain (node D v).port i (map (operand (val K image) i) rest)) (does (node D v).op (node D v).port i (k ∷ map (operand (val K image) i) rest))
            (does_same _ _ (rw (op, port, operands) refl))
            (acts_plainly (node D v).op plain (node D v).port i k (map (operand (val K image) i) rest) guarded some));
      }

-- ---- selections

-- an edge of distance 0
this_turn : (V : ℕ → ℕ → ℕ) (i u : ℕ) (init : List ℕ) → operand V i (Edge u 0 init) ≡ V u i
this_turn V i u init = rw (le-ltb i 0 (omega arith)) (ap (V u) (let e : i - 0 ≡ i = omega arith in e))

module _ (tops : List ℕ) (D : Kernel) (v : ℕ) (valid : IsKernel D) (l : v < size D) (op : (node D v).op ≡ Select) (by first second x : Operand) (three : (node D v).operands ≡ by ∷ first ∷ second ∷ [])
    (is : IsEqOf tops D by x) where
  at : (p : ℕ) (o : Operand) → slice_get (by ∷ first ∷ second ∷ []) p ≡ Some o → HasOperand D v p o
  at p o h = ap (λ (os : List Operand). slice_get os p) three ∙ h

  -- what decides is the value of the `eq`
  decides : (K : Kernel) (image : Image) (i : ℕ) → IsKernel K → AreTops K tops → Restates K D → IsImage image → operand (val K image) i by ≡ apply_of Eq (operand (val K image) i x) 0 0
  decides K image i good are re words =
      ap (operand (val K image) i) is.is
      ∙ this_turn (val K image) i is.from is.init
      ∙ value_is tops K D good are re image words is.from i is.node.inside is.node.compares.computing
      ∙ is.node.compares.value (val K image) i (of_words D valid is.from is.node.inside) (suits tops K D good are re image words)
      ∙ ap (λ (o : Op). apply_of o (operand (val K image) i x) 0 0) is.node.op

  from_earlier : is.from < v
  from_earlier = valid.wired.forward v 0 is.from is.init l (at 0 (Edge is.from 0 is.init) (ap (λ (o : Operand). Some o) is.is))

  x_edge : (u d : ℕ) (init : List ℕ) → x ≡ Edge u d init → FitsEdge D v u d init
  x_edge u d init e =
      let c = is.node.compares in
      let h : HasOperand D is.from c.place (Edge u d init) = subst (λ (o : Operand). HasOperand D is.from c.place o) e c.there in
      let f = fits_edge D is.from c.place u d init valid is.node.inside h in
      record { known = f.known; valued = f.valued; earlier = λ z. let a = f.earlier z in let b = from_earlier in omega (arith, a, b); near = f.near; long = f.long; init_words = f.init_words }

  edge_in : (p u d : ℕ) (init : List ℕ) → slice_get (x ∷ second ∷ first ∷ []) p ≡ Some (Edge u d init) → FitsEdge D v u d init
  edge_in zero u d init h = x_edge u d init (let e : x ≡ Edge u d init = cc in e)
  edge_in (suc zero) u d init h = fits_edge D v 2 u d init valid l (at 2 (Edge u d init) h)
  edge_in (suc (suc zero)) u d init h = fits_edge D v 1 u d init valid l (at 1 (Edge u d init) h)
  edge_in (suc (suc (suc p))) u d init h = let bad : None ≡ Some (Edge u d init) = h in absurd (cc)

  constant_in : (p c : ℕ) → slice_get (x ∷ second ∷ first ∷ []) p ≡ Some (Constant c) → c < words
  constant_in zero c h = absurd (is.node.compares.is_edge c (let e : x ≡ Constant c = cc in e))
  constant_in (suc zero) c h = valid.wired.constants v 2 c l (at 2 (Constant c) h)
  constant_in (suc (suc zero)) c h = valid.wired.constants v 1 c l (at 1 (Constant c) h)
  constant_in (suc (suc (suc p))) c h = let bad : None ≡ Some (Constant c) = h in absurd (cc)

  one_in : (p q a b : ℕ) → slice_get (x ∷ second ∷ first ∷ []) p ≡ Some (Constant a) → slice_get (x ∷ second ∷ first ∷ []) q ≡ Some (Constant b) → p ≡ q
  one_in zero q a b g h = absurd (is.node.compares.is_edge a (let e : x ≡ Constant a = cc in e))
  one_in (suc p) zero a b g h = absurd (is.node.compares.is_edge b (let e : x ≡ Constant b = cc in e))
  one_in (suc zero) (suc zero) a b g h = refl
  one_in (suc (suc zero)) (suc (suc zero)) a b g h = refl
  one_in (suc zero) (suc (suc zero)) a b g h = let z = valid.one_constant v 2 1 a b l (at 2 (Constant a) g) (at 1 (Constant b) h) in absurd (omega (arith, z))
  one_in (suc (suc zero)) (suc zero) a b g h = let z = valid.one_constant v 1 2 a b l (at 1 (Constant a) g) (at 2 (Constant b) h) in absurd (omega (arith, z))
  one_in (suc (suc (suc p))) (suc q) a b g h = let bad : None ≡ Some (Constant a) = g in absurd (cc)
  one_in (suc p) (suc (suc (suc q))) a b g h = let bad : None ≡ Some (Constant b) = h in absurd (cc)

  select_fits : FitsText D v Select (node D v).port (x ∷ second ∷ first ∷ [])
  select_fits =
      record {
        long = refl;
        valued = λ h. refl;
        edges = edge_in;
        constants = constant_in;
        one_constant = one_in;
        port_small = valid.ports v l;
        no_port = λ e. valid.no_ports v l (ap has_port op);
        output = λ e. absurd (true≢false (sym e));
      }

  pub select_text : (K : Kernel) (t : Text) → t.op ≡ Select → t.port ≡ (node D v).port → t.operands ≡ x ∷ second ∷ first ∷ [] → MayBecome K tops D v t
  select_text K t same port operands =
      record {
        inside = l;
        fits = rw (same, port, operands) select_fits;
        accesses = λ e. absurd (true≢false (sym e ∙ ap is_access same));
        stores = λ e. absurd (true≢false (sym e ∙ ap is_store same));
        does = λ image i good are re words.
            let f : Operand → ℕ = operand (val K image) i in
            does_twice (work_of (record (node D v) { op = t.op; port = t.port; operands = t.operands }) i (val K image)) (does Select (node D v).port i (f x ∷ f second ∷ f first ∷ [])) (work_of (node D v) i (val K image))
            (does_same _ _ (rw (same, port, operands) refl))
            (does_twice (does Select (node D v).port i (f x ∷ f second ∷ f first ∷ [])) (does Select (node D v).port i (f by ∷ f first ∷ f second ∷ [])) (work_of (node D v) i (val K image))
            (other_way (node D v).port i (f by) (f x) (f first) (f second) (decides K image i good are re words))
            (does_same _ _ (rw (op, three) refl)));
      }
