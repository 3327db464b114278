-- Expressions of several parts, by the translations of those.
use Rattle.std.proofs.Common.{◌≡◌, ℕ, ◌<◌, ◌&&◌, ◌||◌, nat_lt, not, if◌then◌else◌, Bool, true, false, List, [], ◌∷◌, ◌++◌, length, Option, Some, None, refl, sym, ap, ap₂, ◌∙◌, arith, append-nil, append_assoc, suc, ◌+◌, ◌≤◌, get_or, drop, drop-cons, subst}
use Rattle.std.proofs.Math.ListN.{drop_of_length-le}
use Rattle.std.proofs.lemmas.Bool.{not-true}
use Rattle.cg_word.specs.Word.{one_if, apply_of}
use Rattle.cg_word.specs.declared.op.Op.TheVariants as ops
use Rattle.cg_c_syntax.specs.declared.expression.Binary.{Binary}
use Rattle.cg_c_syntax.specs.declared.expression.Binary.TheVariants.{OrElse, AndThen}
use Rattle.cg_c_syntax.specs.declared.expression.Cast.{Cast}
use Rattle.cg_c_syntax.specs.declared.expression.Pick.{Pick}
use Rattle.cg_c_syntax.specs.declared.expression.Sign.{Sign}
use Rattle.cg_c_syntax.specs.declared.statement.Signedness.{Signedness}
use Rattle.cg_c_check.specs.declared.program.Array.{Array}
use Rattle.cg_c_check.specs.Rules.{is_conditional, is_true, two_words, signed_word, cast_word}
use Rattle.cg_c_check.specs.Program.{Expr, Literal, Word, Counter, Element, Signed, Converted, Input, Picked, Two, Choice, Exprs, NoExprs, MoreExprs}
use Rattle.cg_c_values.specs.declared.value.Value.{Value}
use Rattle.cg_c_values.specs.Values.{Moment, Words, Fits, Extends, Means}
use Rattle.cg_c_values.proofs.Known.{fits_kept}
use Rattle.cg_c_meaning.specs.Meaning.{State, Context, ◌>>=◌, onward, give, is_settled, pick_op, value}
use Rattle.cg_c_meaning.specs.Typed.{AreApart, IsTypedExpr, IsTypedExprs, inputs}
use Rattle.cg_c_check.specs.declared.program.Link.{Link}
use Rattle.cg_c_check.specs.Written.{expr_of, linked}
use Rattle.cg_c_turn.specs.Draft.{Draft, Effect}
use Rattle.cg_c_turn.specs.Stands.{Wanted, TheWord, ACondition, Agrees, AreReady, Grows, IsFormed, Translates}
use Rattle.cg_c_turn.specs.Pieces.{Leaves, Yields, Guards, Joins, Links, Maps, Settles, IsLed, Enters, wanted_of, side_of, under, only_if, rest_of_two}
use Rattle.cg_c_turn.proofs.Growing.{steps_with, steps_then, leaves_by, leaves_all, ready_first, ready_second, apart_first, apart_second, fits_back}
use Rattle.cg_c_turn.proofs.Yielding.{TakesOnly, yields_of, steps_of, translates_by, yields_then, yields_pure, yields_weaker}
use Rattle.cg_c_turn.proofs.Guarding.{back_under, guards_by}
use Rattle.cg_c_turn.proofs.Operating.{agrees_with, lt_is_true}
use Rattle.cg_c_turn.proofs.Leaves.{with_values, result_of}
use Rattle.cg_c_meaning.proofs.Taking.{expressions_take}

state_after : State → Option (ℕ × State) → State
state_after s None = s
state_after s (Some r) = r.1

pub takes_value : (arrays : List Array) (each : Bool) (e : Expr) → IsTypedExpr arrays each e → TakesOnly (λ c. value c e) (inputs e)
takes_value arrays each e typed = record { takes = λ c s t w goes. leaves_by s t (inputs e) (expressions_take arrays each c e s t w typed goes) }

takes_if : (arrays : List Array) (each go : Bool) (e : Expr) → IsTypedExpr arrays each e → TakesOnly (λ c. only_if go (value c e)) (inputs e)
unfolding state_after
takes_if arrays each true e typed = takes_value arrays each e typed
takes_if arrays each false e typed = record { takes = λ c s t w goes. let same : s ≡ t = ap (state_after s) goes in subst (λ (z : State). Leaves s z (inputs e)) same (leaves_all s (inputs e)) }

apart_alone : (ps : List ℕ) → AreApart ps → AreApart (ps ++ [])
apart_alone ps h = subst AreApart (sym (append-nil ps)) h

-- ---- what a word is made into

pub mapped : (arrays : List Array) (a b : Draft) (vs : List Value) (es : List Effect) (e whole : Expr) (inner outer : Wanted) (v r : ℕ) (f : ℕ → ℕ)
    → IsTypedExpr arrays true e → AreApart (inputs e) → Translates a b es e inner v → Maps b.values vs inner v outer r f
    → ((c : Context) (s : State) → value c whole s ≡ (value c e >>= (λ w. give (f w))) s) → inputs whole ≡ inputs e
    → Translates a (with_values b vs) (es ++ []) whole outer r
mapped arrays a b vs es e whole inner outer v r f typed apart t m same ports =
    let p = steps_of a b es e inner v t in
    let q = steps_with b vs t.formed m.kept in
    translates_by a (with_values b vs) (es ++ []) whole outer r (steps_then a b (with_values b vs) es [] p q) m.within
    (yields_weaker a (with_values b vs) (es ++ []) (λ E. Unit {0}) (λ E. Unit {0}) (λ c. value c e >>= (λ w. give (f w))) (λ c. value c whole) (inputs e ++ []) (inputs whole) (λ E w. Agrees outer (E r) w) (λ E w. Agrees outer (E r) w)
    (λ x E fits u. u) (λ x E c s t w fits u h. sym (same c s) ∙ h) (λ x s ready. subst (AreReady x s) (ports ∙ sym (append-nil (inputs e))) ready) (λ x E w fits h. h)
    (yields_then a b (with_values b vs) es [] (λ E. Unit {0}) (λ c. value c e) (inputs e) (λ E w. Agrees inner (E v) w) (λ w c. give (f w)) [] (λ E w. Agrees outer (E r) w) 0
    p q (takes_value arrays true e typed) (apart_alone (inputs e) apart) (yields_of a b es e inner v t)
    (λ w. yields_pure b (with_values b vs) (λ E. Unit {0} × Agrees inner (E v) w) (λ c. give (f w)) [] (λ E u. Agrees outer (E r) u) t.formed q
    (λ x E o c s t u runs sound holding h matches ready goes. agrees_with outer (E r) (f w) u (m.is x E w runs.fits h.1) (ap result_of goes)))))

pub sign_is : (arrays : List Array) (a b : Draft) (vs : List Value) (es : List Effect) (sign : Sign) (s : Signedness) (e : Expr) (outer : Wanted) (v r : ℕ) → IsTypedExpr arrays true e → AreApart (inputs e)
    → Translates a b es e (under sign) v → Maps b.values vs (under sign) v outer r (signed_word sign) → Translates a (with_values b vs) (es ++ []) (Signed sign s e) outer r
unfolding value inputs
sign_is arrays a b vs es sign s e outer v r typed apart t m = mapped arrays a b vs es e (Signed sign s e) (under sign) outer v r (signed_word sign) typed apart t m (λ c u. refl) refl

pub cast_is : (arrays : List Array) (a b : Draft) (vs : List Value) (es : List Effect) (to : Cast) (e : Expr) (outer : Wanted) (v r : ℕ) → IsTypedExpr arrays true e → AreApart (inputs e)
    → Translates a b es e TheWord v → Maps b.values vs TheWord v outer r (cast_word to) → Translates a (with_values b vs) (es ++ []) (Converted to e) outer r
unfolding value inputs
cast_is arrays a b vs es to e outer v r typed apart t m = mapped arrays a b vs es e (Converted to e) TheWord outer v r (cast_word to) typed apart t m (λ c u. refl) refl

-- ---- operators

pub two_is : (arrays : List Array) (a b d : Draft) (es fs : List Effect) (op : Binary) (s : Signedness) (e f : Expr) (wanted : Wanted) (v r : ℕ) → IsTypedExpr arrays true e → AreApart (inputs e ++ inputs f)
    → Translates a b es e (side_of op) v → Links b d fs op s v f wanted r → Translates a d (es ++ fs) (Two op s e f) wanted r
unfolding value inputs
two_is arrays a b d es fs op s e f wanted v r typed apart t l =
    let p = steps_of a b es e (side_of op) v t in
    translates_by a d (es ++ fs) (Two op s e f) wanted r (steps_then a b d es fs p l.steps) l.within
    (yields_then a b d es fs (λ E. Unit {0}) (λ c. value c e) (inputs e) (λ E w. Agrees (side_of op) (E v) w) (λ w c. rest_of_two c op s f w) (inputs f) (λ E w. Agrees wanted (E r) w) 0
    p l.steps (takes_value arrays true e typed) apart (yields_of a b es e (side_of op) v t)
    (λ w. yields_weaker b d fs (λ E. Agrees (side_of op) (E v) w) (λ E. Unit {0} × Agrees (side_of op) (E v) w) (λ c. rest_of_two c op s f w) (λ c. rest_of_two c op s f w) (inputs f) (inputs f) (λ E u. Agrees wanted (E r) u) (λ E u. Agrees wanted (E r) u)
    (λ x E fits h. h.1) (λ x E c s t u fits h k. k) (λ x s h. h) (λ x E u fits h. h) (l.yields w)))

settled_rest : (c : Context) (op : Binary) (s : Signedness) (f : Expr) (left w : ℕ) (u t : State) (b : Bool) → b ≡ true → (if b then give (one_if (is_true left)) else (value c f >>= (λ z. give (two_words op s left z)))) u ≡ Some (w, t) → one_if (is_true left) ≡ w
settled_rest c op s f left w u t true e h = ap result_of h
settled_rest c op s f left w u t false e h = absurd (cc)

pub links_settled : (b : Draft) (vs : List Value) (op : Binary) (s : Signedness) (first word : ℕ) (f : Expr) (wanted : Wanted) (r : ℕ) → IsFormed b → Settles b.values op first word → Extends b.values vs → Means vs r (λ x E. word) → ((w : ℕ) → word ≡ w → Agrees wanted word w)
    → Links b (with_values b vs) [] op s first f wanted r
links_settled b vs op s first word f wanted r formed settles kept means same = record {
  steps = steps_with b vs formed kept;
  within = means.within;
  yields = λ left. yields_pure b (with_values b vs) (λ E. Agrees (side_of op) (E first) left) (λ c. rest_of_two c op s f left) (inputs f) (λ E w. Agrees wanted (E r) w) formed (steps_with b vs formed kept)
      (λ x E m c u t w runs sound holding h matches ready goes.
      let fits = fits_back b.values vs x E kept runs.fits in
      let e = settles.is x E left fits h ∙ settled_rest c op s f left w u t (is_settled op left) (settles.settled x E left fits h) goes in
      subst (λ z. Agrees wanted z w) (sym (means.is x E runs.fits)) (same w e));
}

two_if : (c : Context) (op : Binary) (s : Signedness) (f : Expr) (left w : ℕ) (t v : State) (b : Bool) → (b ≡ true → one_if (is_true left) ≡ two_words op s left 0)
    → (if b then give (one_if (is_true left)) else (value c f >>= (λ z. give (two_words op s left z)))) t ≡ Some (w, v) → (only_if (not b) (value c f) >>= (λ z. give (two_words op s left z))) t ≡ Some (w, v)
two_if c op s f left w t v true e h = ap (λ z. Some (z, t)) (sym (e refl)) ∙ h
two_if c op s f left w t v false e h = h

settled_word : (op : Binary) (s : Signedness) (left : ℕ) → is_settled op left ≡ true → one_if (is_true left) ≡ two_words op s left 0
settled_word OrElse s left h = ap one_if (h ∙ sym (ap (λ z. z || is_true 0) h))
settled_word AndThen s left h = ap one_if (not-true (is_true left) h ∙ sym (ap (λ z. z && is_true 0) (not-true (is_true left) h)))
settled_word op s left h = absurd (cc)

two_runs : (c : Context) (op : Binary) (s : Signedness) (f : Expr) (left w : ℕ) (t v : State) → rest_of_two c op s f left t ≡ Some (w, v) → (only_if (not (is_settled op left)) (value c f) >>= (λ z. give (two_words op s left z))) t ≡ Some (w, v)
two_runs c op s f left w t v h = two_if c op s f left w t v (is_settled op left) (settled_word op s left) h

pub links_by : (arrays : List Array) (b d : Draft) (vs : List Value) (fs : List Effect) (op : Binary) (s : Signedness) (first u : ℕ) (f : Expr) (wanted : Wanted) (r : ℕ) → IsTypedExpr arrays true f → AreApart (inputs f) → IsFormed d
    → Guards b d fs (λ E w. Agrees (side_of op) (E first) w) (λ w. not (is_settled op w)) f (side_of op) u → Joins d.values vs op s first u wanted r
    → Links b (with_values d vs) (fs ++ []) op s first f wanted r
links_by arrays b d vs fs op s first u f wanted r typed apart formed g j = record {
  steps = steps_then b d (with_values d vs) fs [] g.steps (steps_with d vs formed j.kept);
  within = j.within;
  yields = λ left.
      yields_weaker b (with_values d vs) (fs ++ []) (λ E. Agrees (side_of op) (E first) left) (λ E. Agrees (side_of op) (E first) left)
      (λ c. only_if (not (is_settled op left)) (value c f) >>= (λ w. give (two_words op s left w))) (λ c. rest_of_two c op s f left) (inputs f ++ []) (inputs f) (λ E w. Agrees wanted (E r) w) (λ E w. Agrees wanted (E r) w)
      (λ x E fits h. h) (λ x E c t v w fits h goes. two_runs c op s f left w t v goes) (λ x t ready. subst (AreReady x t) (sym (append-nil (inputs f))) ready) (λ x E w fits h. h)
      (yields_then b d (with_values d vs) fs [] (λ E. Agrees (side_of op) (E first) left) (λ c. only_if (not (is_settled op left)) (value c f)) (inputs f) (λ E w. not (is_settled op left) ≡ true → Agrees (side_of op) (E u) w) (λ w c. give (two_words op s left w)) [] (λ E w. Agrees wanted (E r) w) 0
      g.steps (steps_with d vs formed j.kept) (takes_if arrays true (not (is_settled op left)) f typed) (apart_alone (inputs f) apart) (g.yields left)
      (λ w. yields_pure d (with_values d vs) (λ E. Agrees (side_of op) (E first) left × (not (is_settled op left) ≡ true → Agrees (side_of op) (E u) w)) (λ c. give (two_words op s left w)) [] (λ E z. Agrees wanted (E r) z) formed (steps_with d vs formed j.kept)
      (λ x E o c t v z runs sound holding h matches ready goes.
      agrees_with wanted (E r) (two_words op s left w) z (j.is x E left w runs.fits h.0 (λ e. h.1 (ap not e))) (ap result_of goes))));
}

-- ---- chains

mutual
  unfolding IsTypedExpr IsTypedExprs

  typed_from : (arrays : List Array) (each : Bool) (e : Expr) → IsTypedExpr arrays false e → IsTypedExpr arrays each e
  typed_from arrays each (Literal c) h = tt
  typed_from arrays each (Word n s) h = tt
  typed_from arrays each (Counter depth) h = tt
  typed_from arrays each (Element array place s es) h = (h.0, typed_all arrays each es h.1)
  typed_from arrays each (Signed sign s e) h = typed_from arrays each e h
  typed_from arrays each (Converted to e) h = typed_from arrays each e h
  typed_from arrays each (Input port) h = let e : false ≡ true = h.0 in absurd (cc)
  typed_from arrays each (Picked pick a b) h = (typed_from arrays each a h.0, typed_from arrays each b h.1)
  typed_from arrays each (Two op s a b) h = (typed_from arrays each a h.0, typed_from arrays (each && not (is_conditional op)) b h.1)
  typed_from arrays each (Choice s c a b) h = (typed_from arrays each c h.0, h.1, h.2)

  typed_all : (arrays : List Array) (each : Bool) (es : Exprs) → IsTypedExprs arrays false es → IsTypedExprs arrays each es
  typed_all arrays each NoExprs h = tt
  typed_all arrays each (MoreExprs e es) h = (typed_from arrays each e h.0, typed_all arrays each es h.1)

pub typed_true : (arrays : List Array) (each : Bool) (e : Expr) → IsTypedExpr arrays each e → IsTypedExpr arrays true e
typed_true arrays true e h = h
typed_true arrays false e h = typed_from arrays true e h

pub typed_right : (arrays : List Array) (op : Binary) (s : Signedness) (e f : Expr) → IsTypedExpr arrays true (Two op s e f) → IsTypedExpr arrays true f
unfolding IsTypedExpr
typed_right arrays op s e f h = typed_true arrays (true && not (is_conditional op)) f h.1

pub typed_left : (arrays : List Array) (op : Binary) (s : Signedness) (e f : Expr) → IsTypedExpr arrays true (Two op s e f) → IsTypedExpr arrays true e
unfolding IsTypedExpr
typed_left arrays op s e f h = h.0

typed_linked : (arrays : List Array) (e : Expr) (ls : List Link) → IsTypedExpr arrays true (linked e ls) → IsTypedExpr arrays true e
typed_linked arrays e [] h = h
typed_linked arrays e (l ∷ ls) h = typed_left arrays l.op l.reading e (expr_of l.operand) (typed_linked arrays (Two l.op l.reading e (expr_of l.operand)) ls h)

two_inputs : (op : Binary) (s : Signedness) (e f : Expr) → AreApart (inputs (Two op s e f)) → AreApart (inputs e ++ inputs f)
unfolding inputs
two_inputs op s e f h = h

apart_linked : (e : Expr) (ls : List Link) → AreApart (inputs (linked e ls)) → AreApart (inputs e)
apart_linked e [] h = h
apart_linked e (l ∷ ls) h = apart_first (inputs e) (inputs (expr_of l.operand)) (two_inputs l.op l.reading e (expr_of l.operand) (apart_linked (Two l.op l.reading e (expr_of l.operand)) ls h))

-- what is known of the next operator and operand
pub record Next (arrays : List Array) (part : Expr) (l : Link) : Type 0 where
  pub left : IsTypedExpr arrays true part
  pub right : IsTypedExpr arrays true (expr_of l.operand)
  pub apart : AreApart (inputs part ++ inputs (expr_of l.operand))
  pub apart_right : AreApart (inputs (expr_of l.operand))

pub next_of : (start : Draft) (whole : Expr) (d : Draft) (l : Link) (ls : List Link) (wanted : Wanted) (first : ℕ) (h : IsLed start whole d (l ∷ ls) wanted first) → Next start.arrays h.part l
next_of start whole d l ls wanted first h =
    let two = Two l.op l.reading h.part (expr_of l.operand) in
    let typed = typed_linked start.arrays two ls (subst (IsTypedExpr start.arrays true) (sym h.same) h.typed) in
    let apart = two_inputs l.op l.reading h.part (expr_of l.operand) (apart_linked two ls (subst (λ z. AreApart (inputs z)) (sym h.same) h.apart)) in
    record {
      left = typed_left start.arrays l.op l.reading h.part (expr_of l.operand) typed;
      right = typed_right start.arrays l.op l.reading h.part (expr_of l.operand) typed;
      apart = apart;
      apart_right = apart_second (inputs h.part) (inputs (expr_of l.operand)) apart;
    }

pub led_on : (start : Draft) (whole : Expr) (d n : Draft) (fs : List Effect) (l : Link) (ls : List Link) (wanted : Wanted) (first r : ℕ)
    → IsLed start whole d (l ∷ ls) (side_of l.op) first → Links d n fs l.op l.reading first (expr_of l.operand) wanted r → IsLed start whole n ls wanted r
led_on start whole d n fs l ls wanted first r h k =
    let x = next_of start whole d l ls (side_of l.op) first h in
    record {
      arrays = k.steps.grows.arrays ∙ h.arrays;
      typed = h.typed;
      apart = h.apart;
      part = Two l.op l.reading h.part (expr_of l.operand);
      same = h.same;
      added = h.added ++ fs;
      is = two_is start.arrays start d n h.added fs l.op l.reading h.part (expr_of l.operand) wanted first r x.left x.apart h.is k;
    }

pub links_through : (arrays : List Array) (a e b : Draft) (kept : Option ℕ) (vs : List Value) (fs : List Effect) (op : Binary) (s : Signedness) (first u : ℕ) (f : Expr) (wanted side : Wanted) (r : ℕ) → IsTypedExpr arrays true f → AreApart (inputs f) → IsFormed a
    → Enters a e (λ E w. Agrees (side_of op) (E first) w) (λ w. not (is_settled op w)) → side ≡ side_of op → Translates e b fs f side u → kept ≡ a.guard → Joins b.values vs op s first u wanted r
    → Links a (record b { values = vs; guard = kept }) (fs ++ []) op s first f wanted r
links_through arrays a e b kept vs fs op s first u f wanted side r typed apart formed n is t same j =
    let g = guards_by a e (λ E w. Agrees (side_of op) (E first) w) (λ w. not (is_settled op w)) b fs f (side_of op) u formed n (subst (λ (z : Wanted). Translates e b fs f z u) is t) in
    subst (λ (z : Option ℕ). Links a (record b { values = vs; guard = z }) (fs ++ []) op s first f wanted r) (sym same)
    (links_by arrays a (back_under b a.guard) vs fs op s first u f wanted r typed apart g.steps.formed g j)

split_links : (rest : List Link) (index : ℕ) (l : Link) → index < length rest → l ≡ get_or rest index l → drop index rest ≡ l ∷ drop (index + 1) rest
split_links rest index l h e =
    let one : suc index ≡ index + 1 = omega arith in
    drop-cons rest index l h ∙ ap₂ (λ (y : Link) (z : ℕ). y ∷ drop z rest) (sym e) one

pub led_here : (start : Draft) (whole : Expr) (d : Draft) (rest : List Link) (index : ℕ) (l : Link) (wanted : Wanted) (first : ℕ) → index < length rest → l ≡ get_or rest index l
    → IsLed start whole d (drop index rest) (wanted_of wanted (drop index rest)) first → IsLed start whole d (l ∷ drop (index + 1) rest) (side_of l.op) first
led_here start whole d rest index l wanted first h e k = subst (λ (z : List Link). IsLed start whole d z (wanted_of wanted z) first) (split_links rest index l h e) k

pub led_next : (start : Draft) (whole : Expr) (d n : Draft) (fs : List Effect) (rest : List Link) (index : ℕ) (l : Link) (wanted before : Wanted) (first r : ℕ) → index < length rest → l ≡ get_or rest index l → before ≡ wanted_of wanted (drop (index + 1) rest)
    → IsLed start whole d (drop index rest) (wanted_of wanted (drop index rest)) first → Links d n fs l.op l.reading first (expr_of l.operand) before r
    → IsLed start whole n (drop (index + 1) rest) (wanted_of wanted (drop (index + 1) rest)) r
led_next start whole d n fs rest index l wanted before first r h e b k links =
    led_on start whole d n fs l (drop (index + 1) rest) (wanted_of wanted (drop (index + 1) rest)) first r (led_here start whole d rest index l wanted first h e k)
    (subst (λ (z : Wanted). Links d n fs l.op l.reading first (expr_of l.operand) z r) b links)

led_all : (start : Draft) (whole : Expr) (d : Draft) (wanted : Wanted) (first : ℕ) → IsLed start whole d [] wanted first → (added : List Effect) × Translates start d added whole wanted first
led_all start whole d wanted first k = (k.added, subst (λ (z : Expr). Translates start d k.added z wanted first) k.same k.is)

pub led_end : (start : Draft) (whole : Expr) (d : Draft) (rest : List Link) (index : ℕ) (wanted : Wanted) (first : ℕ) → length rest ≤ index → IsLed start whole d (drop index rest) (wanted_of wanted (drop index rest)) first → (added : List Effect) × Translates start d added whole wanted first
led_end start whole d rest index wanted first h k = led_all start whole d wanted first (subst (λ (z : List Link). IsLed start whole d z (wanted_of wanted z) first) (drop_of_length-le rest h) k)

pub begun_wanted : (wanted before : Wanted) (r q items : List Link) → before ≡ wanted_of wanted r → r ≡ items → q ≡ items → before ≡ wanted_of wanted q
begun_wanted wanted before r q items h e k = h ∙ ap (wanted_of wanted) (e ∙ sym k)

pub led_begun : (a b : Draft) (es : List Effect) (e whole : Expr) (rest : List Link) (wanted before : Wanted) (v : ℕ) → before ≡ wanted_of wanted rest → whole ≡ linked e rest → IsTypedExpr a.arrays true whole → AreApart (inputs whole) → Translates a b es e before v → IsLed a whole b rest (wanted_of wanted rest) v
led_begun a b es e whole rest wanted before v h k typed apart t = record {
  arrays = t.grows.arrays;
  typed = typed;
  apart = apart;
  part = e;
  same = sym k;
  added = es;
  is = subst (λ (z : Wanted). Translates a b es e z v) h t;
}

pub typed_first : (arrays : List Array) (whole e : Expr) (ls : List Link) → whole ≡ linked e ls → IsTypedExpr arrays true whole → IsTypedExpr arrays true e
typed_first arrays whole e ls h t = typed_linked arrays e ls (subst (IsTypedExpr arrays true) h t)

pub apart_chain : (whole e : Expr) (ls : List Link) → whole ≡ linked e ls → AreApart (inputs whole) → AreApart (inputs e)
apart_chain whole e ls h t = apart_linked e ls (subst (λ (z : Expr). AreApart (inputs z)) h t)

-- ---- two words

pub under_word : (b d : Draft) (fs : List Effect) (f : Expr) (wanted : Wanted) (u : ℕ) (H : Words → Type 0) → Translates b d fs f wanted u → Yields b d fs H (λ c. value c f) (inputs f) (λ E z. Agrees wanted (E u) z)
under_word b d fs f wanted u H t =
    yields_weaker b d fs (λ E. Unit {0}) H (λ c. value c f) (λ c. value c f) (inputs f) (inputs f) (λ E z. Agrees wanted (E u) z) (λ E z. Agrees wanted (E u) z)
    (λ x E fits h. tt) (λ x E c s v r fits h k. k) (λ x s h. h) (λ x E r fits h. h) (yields_of b d fs f wanted u t)

pub pick_is : (arrays : List Array) (a b d : Draft) (vs : List Value) (es fs : List Effect) (pick : Pick) (e f : Expr) (wanted : Wanted) (v u r : ℕ) → IsTypedExpr arrays true e → IsTypedExpr arrays true f → AreApart (inputs e ++ inputs f)
    → Translates a b es e TheWord v → Translates b d fs f TheWord u → Extends d.values vs → r < length vs → ((x : Moment) (E : Words) → Fits vs x E → Agrees wanted (E r) (apply_of (pick_op pick) (E v) (E u) 0))
    → Translates a (with_values d vs) (es ++ (fs ++ [])) (Picked pick e f) wanted r
unfolding value inputs
pick_is arrays a b d vs es fs pick e f wanted v u r te tf apart t k kept within agrees =
    let p = steps_of a b es e TheWord v t in
    let q = steps_of b d fs f TheWord u k in
    let l = steps_with d vs k.formed kept in
    let n = with_values d vs in
    let rest = steps_then b d n fs [] q l in
    let nil = append-nil (inputs f) in
    translates_by a n (es ++ (fs ++ [])) (Picked pick e f) wanted r (steps_then a b n es (fs ++ []) p rest) within
    (yields_then a b n es (fs ++ []) (λ E. Unit {0}) (λ c. value c e) (inputs e) (λ E w. Agrees TheWord (E v) w) (λ w c. value c f >>= (λ z. give (apply_of (pick_op pick) w z 0))) (inputs f) (λ E w. Agrees wanted (E r) w) 0
    p rest (takes_value arrays true e te) apart (yields_of a b es e TheWord v t)
    (λ w. yields_weaker b n (fs ++ []) (λ E. Unit {0} × (E v ≡ w)) (λ E. Unit {0} × (E v ≡ w)) (λ c. value c f >>= (λ z. give (apply_of (pick_op pick) w z 0))) (λ c. value c f >>= (λ z. give (apply_of (pick_op pick) w z 0))) (inputs f ++ []) (inputs f) (λ E z. Agrees wanted (E r) z) (λ E z. Agrees wanted (E r) z)
    (λ x E fits h. h) (λ x E c s o y fits h g. g) (λ x s ready. subst (AreReady x s) (sym nil) ready) (λ x E y fits h. h)
    (yields_then b d n fs [] (λ E. Unit {0} × (E v ≡ w)) (λ c. value c f) (inputs f) (λ E z. Agrees TheWord (E u) z) (λ z c. give (apply_of (pick_op pick) w z 0)) [] (λ E z. Agrees wanted (E r) z) 0
    q l (takes_value arrays true f tf) (apart_alone (inputs f) (apart_second (inputs e) (inputs f) apart)) (under_word b d fs f TheWord u (λ E. Unit {0} × (E v ≡ w)) k)
    (λ z. yields_pure d n (λ E. (Unit {0} × (E v ≡ w)) × (E u ≡ z)) (λ c. give (apply_of (pick_op pick) w z 0)) [] (λ E y. Agrees wanted (E r) y) k.formed l
    (λ x E o c s i y runs sound holding h matches ready goes.
    agrees_with wanted (E r) (apply_of (pick_op pick) (E v) (E u) 0) y (agrees x E runs.fits) (ap₂ (λ (g j : ℕ). apply_of (pick_op pick) g j 0) h.0.1 h.1 ∙ ap result_of goes))))))

-- ---- choices that a constant decides

arm_of : (c : Context) (e f : Expr) (w r : ℕ) (s t : State) (b : Bool) → is_true w ≡ b → (if is_true w then value c e else value c f) s ≡ Some (r, t) → (if b then value c e else value c f) s ≡ Some (r, t)
arm_of c e f w r s t b h g = subst (λ (z : Bool). (if z then value c e else value c f) s ≡ Some (r, t)) h g

decided_word : (x : Moment) (E : Words) (b d : Draft) (fs : List Effect) (condition w : ℕ) (holding : Bool) → Grows b d fs → ((y : Moment) (F : Words) → Fits b.values y F → nat_lt 0 (F condition) ≡ holding) → Fits d.values x E → Agrees ACondition (E condition) w → is_true w ≡ holding
decided_word x E b d fs condition w holding g decided fits h = sym (lt_is_true w) ∙ sym h ∙ decided x E (fits_kept b.values d.values x E g.values fits)

pub chosen_is : (arrays : List Array) (a b d : Draft) (es fs : List Effect) (s : Signedness) (k e f : Expr) (wanted : Wanted) (condition v : ℕ) → IsTypedExpr arrays true k → AreApart (inputs k ++ (inputs e ++ inputs f))
    → Translates a b es k ACondition condition → ((y : Moment) (F : Words) → Fits b.values y F → nat_lt 0 (F condition) ≡ true) → Translates b d fs e wanted v → Translates a d (es ++ fs) (Choice s k e f) wanted v
unfolding value inputs
chosen_is arrays a b d es fs s k e f wanted condition v typed apart t decided u =
    let p = steps_of a b es k ACondition condition t in
    let q = steps_of b d fs e wanted v u in
    translates_by a d (es ++ fs) (Choice s k e f) wanted v (steps_then a b d es fs p q) u.within
    (subst (λ (z : List ℕ). Yields a d (es ++ fs) (λ E. Unit {0}) (λ c. value c (Choice s k e f)) z (λ E w. Agrees wanted (E v) w)) (sym (append_assoc (inputs k) (inputs e) (inputs f)))
    (yields_then a b d es fs (λ E. Unit {0}) (λ c. value c k) (inputs k) (λ E w. Agrees ACondition (E condition) w) (λ w c. if is_true w then value c e else value c f) (inputs e ++ inputs f) (λ E w. Agrees wanted (E v) w) 0
    p q (takes_value arrays true k typed) apart (yields_of a b es k ACondition condition t)
    (λ w. yields_weaker b d fs (λ E. Unit {0}) (λ E. Unit {0} × Agrees ACondition (E condition) w) (λ c. value c e) (λ c. if is_true w then value c e else value c f) (inputs e) (inputs e ++ inputs f) (λ E z. Agrees wanted (E v) z) (λ E z. Agrees wanted (E v) z)
    (λ x E fits h. tt) (λ x E c o i r fits h goes. arm_of c e f w r o i true (decided_word x E b d fs condition w true u.grows decided fits h.1) goes) (λ x o ready. ready_first x o (inputs e) (inputs f) ready) (λ x E r fits h. h) (yields_of b d fs e wanted v u))))

pub other_is : (arrays : List Array) (a b d : Draft) (es fs : List Effect) (s : Signedness) (k e f : Expr) (wanted : Wanted) (condition v : ℕ) → IsTypedExpr arrays true k → AreApart (inputs k ++ (inputs e ++ inputs f))
    → Translates a b es k ACondition condition → ((y : Moment) (F : Words) → Fits b.values y F → nat_lt 0 (F condition) ≡ false) → Translates b d fs f wanted v → Translates a d (es ++ fs) (Choice s k e f) wanted v
unfolding value inputs
other_is arrays a b d es fs s k e f wanted condition v typed apart t decided u =
    let p = steps_of a b es k ACondition condition t in
    let q = steps_of b d fs f wanted v u in
    translates_by a d (es ++ fs) (Choice s k e f) wanted v (steps_then a b d es fs p q) u.within
    (subst (λ (z : List ℕ). Yields a d (es ++ fs) (λ E. Unit {0}) (λ c. value c (Choice s k e f)) z (λ E w. Agrees wanted (E v) w)) (sym (append_assoc (inputs k) (inputs e) (inputs f)))
    (yields_then a b d es fs (λ E. Unit {0}) (λ c. value c k) (inputs k) (λ E w. Agrees ACondition (E condition) w) (λ w c. if is_true w then value c e else value c f) (inputs e ++ inputs f) (λ E w. Agrees wanted (E v) w) 0
    p q (takes_value arrays true k typed) apart (yields_of a b es k ACondition condition t)
    (λ w. yields_weaker b d fs (λ E. Unit {0}) (λ E. Unit {0} × Agrees ACondition (E condition) w) (λ c. value c f) (λ c. if is_true w then value c e else value c f) (inputs f) (inputs e ++ inputs f) (λ E z. Agrees wanted (E v) z) (λ E z. Agrees wanted (E v) z)
    (λ x E fits h. tt) (λ x E c o i r fits h goes. arm_of c e f w r o i false (decided_word x E b d fs condition w false u.grows decided fits h.1) goes) (λ x o ready. ready_second x o (inputs e) (inputs f) ready) (λ x E r fits h. h) (yields_of b d fs f wanted v u))))

-- ---- choices between two arms

arm_if : (c : Context) (e f : Expr) (r : ℕ) (s t : State) (b : Bool) → (if b then value c e else value c f) s ≡ Some (r, t)
    → (only_if b (value c e) >>= (λ y. only_if (not b) (value c f) >>= (λ z. give (if b then y else z)))) s ≡ Some (r, t)
arm_if c e f r s t true h = ap (onward (λ (y : ℕ). only_if false (value c f) >>= (λ (z : ℕ). give y))) h
arm_if c e f r s t false h = ap (onward (λ (z : ℕ). give z)) h

chosen_word : (p q y z : ℕ) (n : ℕ) (b : Bool) → nat_lt 0 n ≡ b → (b ≡ true → p ≡ y) → (not b ≡ true → q ≡ z) → apply_of ops.Select n p q ≡ (if b then y else z)
unfolding apply_of
chosen_word p q y z n true h e f = ap (λ (t : Bool). if t then p else q) h ∙ e refl
chosen_word p q y z n false h e f = ap (λ (t : Bool). if t then p else q) h ∙ f refl

abbrev pub IsCondition : ℕ → Words → ℕ → Type 0
IsCondition condition E w = Agrees ACondition (E condition) w

under_condition : (b d : Draft) (fs : List Effect) (go : ℕ → Bool) (condition p w : ℕ) (f : Expr) (H : Words → Type 0) → ((E : Words) → H E → IsCondition condition E w) → Guards b d fs (IsCondition condition) go f TheWord p
    → Yields b d fs H (λ c. only_if (go w) (value c f)) (inputs f) (λ E z. go w ≡ true → Agrees TheWord (E p) z)
under_condition b d fs go condition p w f H known g =
    yields_weaker b d fs (λ E. IsCondition condition E w) H (λ c. only_if (go w) (value c f)) (λ c. only_if (go w) (value c f)) (inputs f) (inputs f) (λ E z. go w ≡ true → Agrees TheWord (E p) z) (λ E z. go w ≡ true → Agrees TheWord (E p) z)
    (λ x E fits h. known E h) (λ x E c s v r fits h k. k) (λ x s h. h) (λ x E r fits h. h) (g.yields w)

arms_yield : (arrays : List Array) (b d n : Draft) (vs : List Value) (fs gs : List Effect) (e f : Expr) (wanted : Wanted) (condition p q word r w : ℕ) → IsTypedExpr arrays true e → IsTypedExpr arrays true f → AreApart (inputs e ++ inputs f) → IsFormed n
    → Guards b d fs (IsCondition condition) is_true e TheWord p → Guards d n gs (IsCondition condition) (λ u. not (is_true u)) f TheWord q
    → (kept : Extends n.values vs) → Means vs word (λ x E. apply_of ops.Select (E condition) (E p) (E q)) → ((x : Moment) (E : Words) → Fits vs x E → Agrees wanted (E r) (E word))
    → Yields b (with_values n vs) (fs ++ (gs ++ [])) (λ E. Unit {0} × IsCondition condition E w) (λ c. only_if (is_true w) (value c e) >>= (λ y. only_if (not (is_true w)) (value c f) >>= (λ z. give (if is_true w then y else z)))) (inputs e ++ (inputs f ++ [])) (λ E z. Agrees wanted (E r) z)
arms_yield arrays b d n vs fs gs e f wanted condition p q word r w te tf apart formed g h kept means agrees =
    let l = steps_with n vs formed kept in
    let m = with_values n vs in
    let some = λ (E : Words). Unit {0} × IsCondition condition E w in
    let more = λ (E : Words) (y : ℕ). is_true w ≡ true → Agrees TheWord (E p) y in
    yields_then b d m fs (gs ++ []) some (λ c. only_if (is_true w) (value c e)) (inputs e) more (λ y c. only_if (not (is_true w)) (value c f) >>= (λ z. give (if is_true w then y else z))) (inputs f ++ []) (λ E z. Agrees wanted (E r) z) 0
    g.steps (steps_then d n m gs [] h.steps l) (takes_if arrays true (is_true w) e te) (subst (λ (z : List ℕ). AreApart (inputs e ++ z)) (sym (append-nil (inputs f))) apart) (under_condition b d fs is_true condition p w e some (λ E k. k.1) g)
    (λ y. yields_then d n m gs [] (λ E. some E × more E y) (λ c. only_if (not (is_true w)) (value c f)) (inputs f) (λ E z. not (is_true w) ≡ true → Agrees TheWord (E q) z) (λ z c. give (if is_true w then y else z)) [] (λ E z. Agrees wanted (E r) z) 0
    h.steps l (takes_if arrays true (not (is_true w)) f tf) (apart_alone (inputs f) (apart_second (inputs e) (inputs f) apart)) (under_condition d n gs (λ u. not (is_true u)) condition q w f (λ E. some E × more E y) (λ E k. k.0.1) h)
    (λ z. yields_pure n m (λ E. (some E × more E y) × (not (is_true w) ≡ true → Agrees TheWord (E q) z)) (λ c. give (if is_true w then y else z)) [] (λ E u. Agrees wanted (E r) u) formed l
    (λ x E o c s t u runs sound holding k matches ready goes.
    agrees_with wanted (E r) (E word) u (agrees x E runs.fits)
    (means.is x E runs.fits ∙ chosen_word (E p) (E q) y z (E condition) (is_true w) (k.0.0.1 ∙ lt_is_true w) k.0.1 k.1 ∙ ap result_of goes))))

pub choice_is : (arrays : List Array) (a b d n : Draft) (vs : List Value) (es fs gs : List Effect) (s : Signedness) (k e f : Expr) (wanted : Wanted) (condition p q word r : ℕ) → IsTypedExpr arrays true k → IsTypedExpr arrays true e → IsTypedExpr arrays true f
    → AreApart (inputs k ++ (inputs e ++ inputs f)) → IsFormed n
    → Translates a b es k ACondition condition → Guards b d fs (IsCondition condition) is_true e TheWord p → Guards d n gs (IsCondition condition) (λ u. not (is_true u)) f TheWord q
    → Extends n.values vs → Means vs word (λ x E. apply_of ops.Select (E condition) (E p) (E q)) → r < length vs → ((x : Moment) (E : Words) → Fits vs x E → Agrees wanted (E r) (E word))
    → Translates a (with_values n vs) (es ++ (fs ++ (gs ++ []))) (Choice s k e f) wanted r
unfolding value inputs
choice_is arrays a b d n vs es fs gs s k e f wanted condition p q word r tk te tf apart formed t g h kept means within agrees =
    let l = steps_with n vs formed kept in
    let m = with_values n vs in
    let first = steps_of a b es k ACondition condition t in
    let rest = steps_then b d m fs (gs ++ []) g.steps (steps_then d n m gs [] h.steps l) in
    let ports = ap (λ (z : List ℕ). inputs e ++ z) (append-nil (inputs f)) in
    translates_by a m (es ++ (fs ++ (gs ++ []))) (Choice s k e f) wanted r (steps_then a b m es (fs ++ (gs ++ [])) first rest) within
    (subst (λ (z : List ℕ). Yields a m (es ++ (fs ++ (gs ++ []))) (λ E. Unit {0}) (λ c. value c (Choice s k e f)) z (λ E w. Agrees wanted (E r) w)) (sym (append_assoc (inputs k) (inputs e) (inputs f)))
    (yields_then a b m es (fs ++ (gs ++ [])) (λ E. Unit {0}) (λ c. value c k) (inputs k) (λ E w. IsCondition condition E w) (λ w c. if is_true w then value c e else value c f) (inputs e ++ inputs f) (λ E w. Agrees wanted (E r) w) 0
    first rest (takes_value arrays true k tk) apart (yields_of a b es k ACondition condition t)
    (λ w. yields_weaker b m (fs ++ (gs ++ [])) (λ E. Unit {0} × IsCondition condition E w) (λ E. Unit {0} × IsCondition condition E w) (λ c. only_if (is_true w) (value c e) >>= (λ y. only_if (not (is_true w)) (value c f) >>= (λ z. give (if is_true w then y else z)))) (λ c. if is_true w then value c e else value c f)
    (inputs e ++ (inputs f ++ [])) (inputs e ++ inputs f) (λ E z. Agrees wanted (E r) z) (λ E z. Agrees wanted (E r) z)
    (λ x E fits u. u) (λ x E c o i z fits u goes. arm_if c e f z o i (is_true w) goes) (λ x o ready. subst (AreReady x o) (sym ports) ready) (λ x E z fits u. u)
    (arms_yield arrays b d n vs fs gs e f wanted condition p q word r w te tf (apart_second (inputs k) (inputs e ++ inputs f) apart) formed g h kept means agrees))))

-- an arm, after which the guard is that of before
pub arm_guards : (a e b : Draft) (kept : Option ℕ) (H : Words → ℕ → Type 0) (go : ℕ → Bool) (fs : List Effect) (f : Expr) (wanted : Wanted) (u : ℕ) → IsFormed a → Enters a e H go → Translates e b fs f wanted u → kept ≡ a.guard → Guards a (record b { guard = kept }) fs H go f wanted u
arm_guards a e b kept H go fs f wanted u formed n t same =
    subst (λ (z : Option ℕ). Guards a (record b { guard = z }) fs H go f wanted u) (sym same) (guards_by a e H go b fs f wanted u formed n t)

-- ---- words for conditions

pub served : (a b : Draft) (es : List Effect) (e : Expr) (wanted : Wanted) (v r : ℕ) → r < length b.values → ((x : Moment) (E : Words) → Fits b.values x E → Agrees wanted (E r) (E v)) → Translates a b es e TheWord v → Translates a b es e wanted r
served a b es e wanted v r within agrees t =
    translates_by a b es e wanted r (steps_of a b es e TheWord v t) within
    (yields_weaker a b es (λ E. Unit {0}) (λ E. Unit {0}) (λ c. value c e) (λ c. value c e) (inputs e) (inputs e) (λ E w. Agrees TheWord (E v) w) (λ E w. Agrees wanted (E r) w)
    (λ x E fits h. h) (λ x E c s o w fits h k. k) (λ x s h. h) (λ x E w fits h. agrees_with wanted (E r) (E v) w (agrees x E fits) h) (yields_of a b es e TheWord v t))
