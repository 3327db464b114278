-- Elements of arrays, by the translations of their indices.
use Rattle.std.proofs.Common.{◌≡◌, ℕ, zero, suc, ◌+◌, ◌<◌, ◌≤◌, true, Bool, List, [], ◌∷◌, ◌++◌, length, map, drop, drop-cons, get_or, Contains, Option, Some, None, refl, sym, ap, ap₂, ◌∙◌, arith, append-nil, append_assoc, subst, inl, inr}
use Rattle.std.proofs.Math.ListN.{drop_of_length-le}
use Rattle.std.proofs.lemmas.List.Elements.{Contains-append_cases}
use Rattle.cg_c_syntax.specs.declared.statement.Signedness.{Signedness}
use Rattle.cg_c_check.specs.declared.program.Array.{Array}
use Rattle.cg_c_check.specs.declared.program.Expr.{Expr as MadeExpr}
use Rattle.cg_c_check.specs.Program.{Expr, Exprs, Element, NoExprs}
use Rattle.cg_c_check.specs.Written.{expr_of, exprs_of}
use Rattle.cg_c_values.specs.Values.{Words}
use Rattle.cg_c_meaning.specs.Meaning.{State, Context, Run, ◌>>=◌, onward, give, defined, with_state, loaded, array_at, address_in, value, values}
use Rattle.cg_c_meaning.specs.Typed.{AreApart, IsTypedExpr, IsTypedExprs, inputs, inputs_of}
use Rattle.cg_c_turn.specs.Draft.{Draft, Effect}
use Rattle.cg_c_turn.specs.Leads.{IsInside, array_of}
use Rattle.cg_c_turn.specs.Stands.{TheWord, Agrees, AreBelow, AreReady, IsFormed, Translates}
use Rattle.cg_c_turn.specs.Pieces.{Addresses, AreTranslated, Leaves, Loads, Yields}
use Rattle.cg_c_turn.proofs.Growing.{apart_first, apart_second, leaves_all, leaves_by, steps_refl, steps_then}
use Rattle.cg_c_turn.proofs.Yielding.{TakesOnly, steps_of, translates_by, yields_pure, yields_then, yields_weaker}
use Rattle.cg_c_turn.proofs.Composing.{under_word, takes_value}
use Rattle.cg_c_meaning.proofs.Taking.{indices_take}

pub takes_values : (arrays : List Array) (each : Bool) (es : Exprs) → IsTypedExprs arrays each es → TakesOnly (λ c. values c es) (inputs_of es)
takes_values arrays each es typed = record { takes = λ c s t ws goes. leaves_by s t (inputs_of es) (indices_take arrays each c es s t ws typed goes) }

-- ---- what is there

record There (o : Option ℕ) (s t : State) (a : ℕ) : Type 0 where
  is : o ≡ Some a
  same : s ≡ t

number_in : Option (ℕ × State) → Option ℕ
number_in None = None
number_in (Some r) = Some r.0

state_in : State → Option (ℕ × State) → State
state_in s None = s
state_in s (Some r) = r.1

there_of : (o : Option ℕ) (s t : State) (a : ℕ) → with_state s o ≡ Some (a, t) → There o s t a
unfolding number_in state_in
there_of None s t a h = absurd (cc)
there_of (Some b) s t a h = record { is = ap number_in h; same = ap (state_in s) h }

pub takes_defined : (address : Context → Option ℕ) → TakesOnly (λ c. defined (address c)) []
takes_defined address = record { takes = λ c s t a goes. subst (λ (z : State). Leaves s z []) (there_of (address c) s t a goes).same (leaves_all s []) }

-- ---- elements

pub addresses_yield : (b d : Draft) (array : ℕ) (vs : List ℕ) (v : ℕ) (ws : List ℕ) → IsFormed b → Addresses b d array vs v
    → Yields b d [] (λ E. Unit {0} × (map E vs ≡ ws)) (λ c. defined (address_in (array_at c array) ws)) [] (λ E a. (E v ≡ a) × IsInside b.arrays array a)
addresses_yield b d array vs v ws formed h =
    yields_pure b d (λ E. Unit {0} × (map E vs ≡ ws)) (λ c. defined (address_in (array_at c array) ws)) [] (λ E a. (E v ≡ a) × IsInside b.arrays array a) formed h.steps
    (λ x E m c s t a runs sound holding k matches ready goes.
    let found = (there_of (address_in (array_at c array) ws) s t a goes).is in
    let here : address_in (array_of b.arrays array) (map E vs) ≡ Some a =
    ap₂ (λ (y : List Array) (z : List ℕ). address_in (array_of y array) z) (sym matches.arrays) k.1 ∙ found in
    h.is x E a runs.fits here)

loads_yield : (b d n : Draft) (fs : List Effect) (array address v at : ℕ) (H : Words → Type 0) → d.arrays ≡ b.arrays → Loads d n fs array address v
    → Yields d n fs (λ E. H E × ((E address ≡ at) × IsInside b.arrays array at)) (λ c. loaded at) [] (λ E w. E v ≡ w)
loads_yield b d n fs array address v at H same l =
    yields_weaker d n fs (λ E. (E address ≡ at) × IsInside d.arrays array at) (λ E. H E × ((E address ≡ at) × IsInside b.arrays array at)) (λ c. loaded at) (λ c. loaded at) [] [] (λ E w. E v ≡ w) (λ E w. E v ≡ w)
    (λ x E fits h. (h.1.0, subst (λ (z : List Array). IsInside z array at) (sym same) h.1.1)) (λ x E c s t w fits h k. k) (λ x s h. h) (λ x E w fits h. h) (l.yields at)

pub element_is : (arrays : List Array) (a b d n : Draft) (es fs : List Effect) (array place : ℕ) (s : Signedness) (is : Exprs) (vs : List ℕ) (address v : ℕ) → IsTypedExprs arrays true is → AreApart (inputs_of is)
    → AreTranslated a b es is vs → Addresses b d array vs address → Loads d n fs array address v → Translates a n (es ++ ([] ++ fs)) (Element array place s is) TheWord v
unfolding value inputs
element_is arrays a b d n es fs array place s is vs address v typed apart t h l =
    let rest = steps_then b d n [] fs h.steps l.steps in
    let nil = append-nil (inputs_of is) in
    translates_by a n (es ++ ([] ++ fs)) (Element array place s is) TheWord v (steps_then a b n es ([] ++ fs) t.steps rest) l.within
    (subst (λ (z : List ℕ). Yields a n (es ++ ([] ++ fs)) (λ E. Unit {0}) (λ c. value c (Element array place s is)) z (λ E w. Agrees TheWord (E v) w)) nil
    (yields_then a b n es ([] ++ fs) (λ E. Unit {0}) (λ c. values c is) (inputs_of is) (λ E ws. map E vs ≡ ws) (λ ws c. defined (address_in (array_at c array) ws) >>= (λ at. loaded at)) [] (λ E w. E v ≡ w) []
    t.steps rest (takes_values arrays true is typed) (subst AreApart (sym nil) apart) t.yields
    (λ ws. yields_then b d n [] fs (λ E. Unit {0} × (map E vs ≡ ws)) (λ c. defined (address_in (array_at c array) ws)) [] (λ E at. (E address ≡ at) × IsInside b.arrays array at) (λ at c. loaded at) [] (λ E w. E v ≡ w) 0
    h.steps l.steps (takes_defined (λ c. address_in (array_at c array) ws)) tt (addresses_yield b d array vs address ws t.steps.formed h)
    (λ at. loads_yield b d n fs array address v at (λ E. Unit {0} × (map E vs ≡ ws)) h.steps.grows.arrays l))))

-- ---- one more expression

onward_three : (o : Option (ℕ × State)) (w : ℕ) (ws : List ℕ) → onward (λ (u : List ℕ). give (w ∷ u)) (onward (λ (z : ℕ). give (ws ++ z ∷ [])) o) ≡ onward (λ (z : ℕ). give (w ∷ (ws ++ z ∷ []))) o
onward_three None w ws = refl
onward_three (Some r) w ws = refl

onward_two : (c : Context) (e : Expr) (o : Option (List ℕ × State)) (w : ℕ)
    → onward (λ (u : List ℕ). give (w ∷ u)) (onward (λ (ws : List ℕ). value c e >>= (λ z. give (ws ++ z ∷ []))) o) ≡ onward (λ (ws : List ℕ). value c e >>= (λ z. give (ws ++ z ∷ []))) (onward (λ (u : List ℕ). give (w ∷ u)) o)
onward_two c e None w = refl
onward_two c e (Some r) w = onward_three (value c e r.1) w r.0

abbrev and_one : Context → Expr → Run (List ℕ) → Run (List ℕ)
and_one c e run = run >>= (λ ws. value c e >>= (λ z. give (ws ++ z ∷ [])))

values_step : (c : Context) (e : Expr) (more less : Run (List ℕ)) (o : Option (ℕ × State)) → ((t : State) → more t ≡ and_one c e less t)
    → onward (λ (w : ℕ). more >>= (λ u. give (w ∷ u))) o ≡ onward (λ (ws : List ℕ). value c e >>= (λ z. give (ws ++ z ∷ []))) (onward (λ (w : ℕ). less >>= (λ u. give (w ∷ u))) o)
values_step c e more less None same = refl
values_step c e more less (Some r) same = ap (onward (λ (u : List ℕ). give (r.0 ∷ u))) (same r.1) ∙ onward_two c e (less r.1) r.0

values_more : (c : Context) (xs : List MadeExpr) (x : MadeExpr) (s : State) → values c (exprs_of (xs ++ x ∷ [])) s ≡ and_one c (expr_of x) (values c (exprs_of xs)) s
unfolding values
values_more c [] x s = refl
values_more c (y ∷ ys) x s = values_step c (expr_of x) (values c (exprs_of (ys ++ x ∷ []))) (values c (exprs_of ys)) (value c (expr_of y) s) (values_more c ys x)

inputs_append : (xs ys : List MadeExpr) → inputs_of (exprs_of (xs ++ ys)) ≡ inputs_of (exprs_of xs) ++ inputs_of (exprs_of ys)
unfolding inputs_of
inputs_append [] ys = refl
inputs_append (x ∷ xs) ys = ap (λ (z : List ℕ). inputs (expr_of x) ++ z) (inputs_append xs ys) ∙ sym (append_assoc (inputs (expr_of x)) (inputs_of (exprs_of xs)) (inputs_of (exprs_of ys)))

inputs_one : (x : MadeExpr) → inputs_of (exprs_of (x ∷ [])) ≡ inputs (expr_of x)
unfolding inputs_of
inputs_one x = append-nil (inputs (expr_of x))

inputs_first : (x : MadeExpr) (xs : List MadeExpr) → inputs_of (exprs_of (x ∷ xs)) ≡ inputs (expr_of x) ++ inputs_of (exprs_of xs)
unfolding inputs_of
inputs_first x xs = refl

typed_parts : (arrays : List Array) (xs ys : List MadeExpr) → IsTypedExprs arrays true (exprs_of (xs ++ ys)) → IsTypedExprs arrays true (exprs_of xs) × IsTypedExprs arrays true (exprs_of ys)
unfolding IsTypedExprs
typed_parts arrays [] ys h = (tt, h)
typed_parts arrays (x ∷ xs) ys h = let r = typed_parts arrays xs ys h.1 in ((h.0, r.0), r.1)

typed_first : (arrays : List Array) (x : MadeExpr) (xs : List MadeExpr) → IsTypedExprs arrays true (exprs_of (x ∷ xs)) → IsTypedExpr arrays true (expr_of x)
unfolding IsTypedExprs
typed_first arrays x xs h = h.0

map_more : (E : Words) (vs : List ℕ) (v : ℕ) → map E (vs ++ v ∷ []) ≡ map E vs ++ E v ∷ []
map_more E [] v = refl
map_more E (u ∷ us) v = ap (λ (z : List ℕ). E u ∷ z) (map_more E us v)

one_below : (n v u : ℕ) → v < n → Contains (v ∷ []) u → u < n
one_below n v u h (zero, k, e) = omega arith
one_below n v u h (suc i, k, e) = absurd (omega arith)

below_more : (m n : ℕ) (vs : List ℕ) (v : ℕ) → m ≤ n → AreBelow m vs → v < n → AreBelow n (vs ++ v ∷ [])
below_more m n vs v h all one = λ u there.
    elim (Contains-append_cases vs (v ∷ []) u there) [ inl old ↦ omega (arith, all u old) | inr new ↦ one_below n v u one new ]

abbrev list_in : Option (List ℕ × State) → List ℕ
list_in None = []
list_in (Some r) = r.0

pub translated_more : (arrays : List Array) (a b d : Draft) (es fs : List Effect) (xs : List MadeExpr) (x : MadeExpr) (vs : List ℕ) (v : ℕ) → IsTypedExprs arrays true (exprs_of xs) → IsTypedExpr arrays true (expr_of x) → AreApart (inputs_of (exprs_of xs) ++ inputs (expr_of x))
    → AreTranslated a b es (exprs_of xs) vs → Translates b d fs (expr_of x) TheWord v → AreTranslated a d (es ++ (fs ++ [])) (exprs_of (xs ++ x ∷ [])) (vs ++ v ∷ [])
translated_more arrays a b d es fs xs x vs v typed one apart t k =
    let e = expr_of x in
    let q = steps_of b d fs e TheWord v k in
    let l = steps_refl d k.formed in
    let rest = steps_then b d d fs [] q l in
    let nil = append-nil (inputs e) in
    record {
      steps = steps_then a b d es (fs ++ []) t.steps rest;
      within = below_more (length b.values) (length d.values) vs v k.grows.values.longer t.within k.within;
      yields = yields_weaker a d (es ++ (fs ++ [])) (λ E. Unit {0}) (λ E. Unit {0}) (λ c. and_one c e (values c (exprs_of xs))) (λ c. values c (exprs_of (xs ++ x ∷ []))) (inputs_of (exprs_of xs) ++ (inputs e ++ [])) (inputs_of (exprs_of (xs ++ x ∷ []))) (λ E ws. map E (vs ++ v ∷ []) ≡ ws) (λ E ws. map E (vs ++ v ∷ []) ≡ ws)
          (λ y E fits h. h) (λ y E c s o ws fits h goes. sym (values_more c xs x s) ∙ goes)
          (λ y s ready. subst (AreReady y s) (inputs_append xs (x ∷ []) ∙ ap (λ (z : List ℕ). inputs_of (exprs_of xs) ++ z) (inputs_one x ∙ sym nil)) ready) (λ y E ws fits h. h)
          (yields_then a b d es (fs ++ []) (λ E. Unit {0}) (λ c. values c (exprs_of xs)) (inputs_of (exprs_of xs)) (λ E ws. map E vs ≡ ws) (λ ws c. value c e >>= (λ z. give (ws ++ z ∷ []))) (inputs e ++ []) (λ E ws. map E (vs ++ v ∷ []) ≡ ws) []
          t.steps rest (takes_values arrays true (exprs_of xs) typed) (subst (λ (z : List ℕ). AreApart (inputs_of (exprs_of xs) ++ z)) (sym nil) apart) t.yields
          (λ ws. yields_then b d d fs [] (λ E. Unit {0} × (map E vs ≡ ws)) (λ c. value c e) (inputs e) (λ E z. Agrees TheWord (E v) z) (λ z c. give (ws ++ z ∷ [])) [] (λ E us. map E (vs ++ v ∷ []) ≡ us) 0
          q l (takes_value arrays true e one) (subst AreApart (sym nil) (apart_second (inputs_of (exprs_of xs)) (inputs e) apart)) (under_word b d fs e TheWord v (λ E. Unit {0} × (map E vs ≡ ws)) k)
          (λ z. yields_pure d d (λ E. (Unit {0} × (map E vs ≡ ws)) × (E v ≡ z)) (λ c. give (ws ++ z ∷ [])) [] (λ E us. map E (vs ++ v ∷ []) ≡ us) k.formed l
          (λ y E m c s o us runs sound holding h matches ready goes.
          map_more E vs v ∙ ap₂ (λ (i : List ℕ) (j : ℕ). i ++ j ∷ []) h.0.1 h.1 ∙ ap (list_in) goes))));
    }

-- ---- lists of expressions

-- the first i of these are translated
pub record ListedTo (a d : Draft) (es : List MadeExpr) (i : ℕ) (vs : List ℕ) : Type 0 where
  pub front : List MadeExpr
  pub same : front ++ drop i es ≡ es
  pub added : List Effect
  pub is : AreTranslated a d added (exprs_of front) vs

pub listed_none : (a : Draft) (es : List MadeExpr) (vs : List ℕ) → IsFormed a → vs ≡ [] → ListedTo a a es 0 vs
unfolding values inputs_of
listed_none a es vs formed none = record {
  front = [];
  same = refl;
  added = [];
  is = subst (λ (z : List ℕ). AreTranslated a a [] NoExprs z) (sym none) (record {
    steps = steps_refl a formed;
    within = λ v there. absurd (omega (arith, there.1));
    yields = yields_pure a a (λ E. Unit {0}) (λ c. values c NoExprs) [] (λ E ws. [] ≡ ws) formed (steps_refl a formed) (λ x E m c s t ws runs sound holding h matches ready goes. ap list_in goes);
  });
}

-- what is known of the next
pub record NextListed (arrays : List Array) (front : List MadeExpr) (x : MadeExpr) : Type 0 where
  pub before : IsTypedExprs arrays true (exprs_of front)
  pub typed : IsTypedExpr arrays true (expr_of x)
  pub apart : AreApart (inputs_of (exprs_of front) ++ inputs (expr_of x))
  pub alone : AreApart (inputs (expr_of x))

split_at : (es : List MadeExpr) (i : ℕ) (x : MadeExpr) → i < length es → x ≡ get_or es i x → drop i es ≡ x ∷ drop (i + 1) es
split_at es i x h e =
    let one : suc i ≡ i + 1 = omega arith in
    drop-cons es i x h ∙ ap₂ (λ (y : MadeExpr) (z : ℕ). y ∷ drop z es) (sym e) one

apart_middle : (ps qs rs : List ℕ) → AreApart (ps ++ (qs ++ rs)) → AreApart (ps ++ qs)
apart_middle ps qs rs h = apart_first (ps ++ qs) rs (subst AreApart (sym (append_assoc ps qs rs)) h)

next_in : (arrays : List Array) (front : List MadeExpr) (x : MadeExpr) (back : List MadeExpr) → IsTypedExprs arrays true (exprs_of (front ++ x ∷ back)) → AreApart (inputs_of (exprs_of (front ++ x ∷ back))) → NextListed arrays front x
next_in arrays front x back t k =
    let parts = typed_parts arrays front (x ∷ back) t in
    let apart = apart_middle (inputs_of (exprs_of front)) (inputs (expr_of x)) (inputs_of (exprs_of back)) (subst AreApart (inputs_append front (x ∷ back) ∙ ap (λ (z : List ℕ). inputs_of (exprs_of front) ++ z) (inputs_first x back)) k) in
    record { before = parts.0; typed = typed_first arrays x back parts.1; apart = apart; alone = apart_second (inputs_of (exprs_of front)) (inputs (expr_of x)) apart }

pub next_listed : (arrays : List Array) (es front : List MadeExpr) (i : ℕ) (x : MadeExpr) → i < length es → x ≡ get_or es i x → front ++ drop i es ≡ es → IsTypedExprs arrays true (exprs_of es) → AreApart (inputs_of (exprs_of es)) → NextListed arrays front x
next_listed arrays es front i x h e same t k =
    let whole = sym same ∙ ap (λ (z : List MadeExpr). front ++ z) (split_at es i x h e) in
    next_in arrays front x (drop (i + 1) es) (subst (λ (z : List MadeExpr). IsTypedExprs arrays true (exprs_of z)) whole t) (subst (λ (z : List MadeExpr). AreApart (inputs_of (exprs_of z))) whole k)

pub listed_more : (a b d : Draft) (fs : List Effect) (es : List MadeExpr) (i : ℕ) (x : MadeExpr) (vs us : List ℕ) (v : ℕ) → i < length es → x ≡ get_or es i x → us ≡ vs ++ v ∷ [] → IsTypedExprs a.arrays true (exprs_of es) → AreApart (inputs_of (exprs_of es))
    → ListedTo a b es i vs → Translates b d fs (expr_of x) TheWord v → ListedTo a d es (i + 1) us
listed_more a b d fs es i x vs us v h e pushed t k l n =
    let y = next_listed a.arrays es l.front i x h e l.same t k in
    record {
      front = l.front ++ x ∷ [];
      same = append_assoc l.front (x ∷ []) (drop (i + 1) es) ∙ ap (λ (z : List MadeExpr). l.front ++ z) (sym (split_at es i x h e)) ∙ l.same;
      added = l.added ++ (fs ++ []);
      is = subst (λ (z : List ℕ). AreTranslated a d (l.added ++ (fs ++ [])) (exprs_of (l.front ++ x ∷ [])) z) (sym pushed) (translated_more a.arrays a b d l.added fs l.front x vs v y.before y.typed y.apart l.is n);
    }

pub listed_all : (a d : Draft) (es : List MadeExpr) (i : ℕ) (vs : List ℕ) → length es ≤ i → ListedTo a d es i vs → (added : List Effect) × AreTranslated a d added (exprs_of es) vs
listed_all a d es i vs h l =
    let whole = sym (append-nil l.front) ∙ ap (λ (z : List MadeExpr). l.front ++ z) (sym (drop_of_length-le es h)) ∙ l.same in
    (l.added, subst (λ (z : List MadeExpr). AreTranslated a d l.added (exprs_of z) vs) whole l.is)
