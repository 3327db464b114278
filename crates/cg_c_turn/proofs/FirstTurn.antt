-- Statements of the first turn, as the code walks through them.
use Rattle.std.proofs.Common.{◌≡◌, ℕ, ◌+◌, ◌<◌, ◌≤◌, ◌==◌, nat_lt, if◌then◌else◌, Bool, true, false, List, [], ◌∷◌, ◌++◌, length, map, drop, get_or, Option, Some, None, refl, sym, ap, ◌∙◌, subst}
use Rattle.std.proofs.lemmas.Bool.{and_parts, eqb-true}
use Rattle.std.proofs.Math.ListN.{drop_of_length-le}
use Rattle.cg_word.specs.Word.{one_if}
use Rattle.cg_c_check.specs.declared.program.Array.{Array}
use Rattle.cg_c_check.specs.declared.program.Initial.{Initial as MadeInitial}
use Rattle.cg_c_check.specs.declared.program.Stmt.{Stmt as MadeStmt}
use Rattle.cg_c_check.specs.Program.{Initial, Stmt, Words as WordsStmt, MoreStmts}
use Rattle.cg_c_check.specs.Written.{expr_of, initial_of, stmt_of, stmts_of}
use Rattle.cg_c_values.specs.declared.value.Value.{Value}
use Rattle.cg_c_values.specs.Values.{Moment, Words, Fits, Extends, Means, holds}
use Rattle.cg_c_values.proofs.Known.{keeps}
use Rattle.cg_c_meaning.specs.Meaning.{State, Context, ◌>>◌, onward, give, set_word, declared, value, stmt, stmts}
use Rattle.cg_c_meaning.specs.Typed.{AreTypedInitials, AreTypedStmts, IsTypedExpr, IsTypedStmt, initial_inputs, inputs, stmt_inputs, stmt_outputs, stmts_inputs, stmts_outputs}
use Rattle.cg_c_meaning.specs.Taken.{Takes}
use Rattle.cg_c_meaning.proofs.Taking.{statements_take}
use Rattle.cg_c_turn.specs.Draft.{Draft, Effect, initial_in}
use Rattle.cg_c_turn.specs.Stands.{IsFormed, Performs, Any, Grows, Runs, Sends, begun}
use Rattle.cg_c_turn.specs.Branched.{Begins}
use Rattle.cg_c_turn.specs.Nested.{IsAtFirst, IsFirst, IsOfTurn}
use Rattle.cg_c_turn.proofs.Prefixes.{fits_before}
use Rattle.cg_c_turn.proofs.Doing.{Step, KeepsStreams, in_turn, does_nothing}
use Rattle.cg_c_turn.proofs.Listed.{front}
use Rattle.cg_c_turn.proofs.EdgesGuarded.{BeginsAlike, Nothing}
use Rattle.cg_c_turn.proofs.Sent.{sends_idle, sends_then}

-- ---- runs

-- a run that does the same in each state
run_same : {a b : Draft} {es : List Effect} {f g : Context → Step} → ((x : Context) (s : State) → g x s ≡ f x s) → Performs a b es Any f [] → Performs a b es Any g []
run_same same h =
    record {
      grows = h.grows;
      formed = h.formed;
      leads = λ x E m c end r sound does.
          h.leads x E m c end r sound
          (λ on. let run = (does on).1 in (tt, record { before = run.before; matches = run.matches; ready = run.ready; runs = sym (same c run.before) ∙ run.runs }));
    }

nil_first : (p q : List ℕ) → p ++ q ≡ [] → p ≡ []
nil_first [] q h = refl
nil_first (k ∷ ks) q h = absurd (cc)

nil_rest : (p q : List ℕ) → p ++ q ≡ [] → q ≡ []
nil_rest [] q h = h
nil_rest (k ∷ ks) q h = absurd (cc)

-- a statement without inputs takes no words
takes_none : (arrays : List Array) (s : Stmt) → IsTypedStmt arrays true s → stmt_inputs s ≡ [] → KeepsStreams (λ x. stmt x s) []
takes_none arrays s typed none x before after runs = subst (λ (p : List ℕ). Takes before after p) none (statements_take arrays true x s before after tt typed runs)

after_one : (i : Initial) (is : List Initial) (x : Context) (r : Option (ℕ × State)) → onward (λ word. set_word i.number word >> declared x is) r ≡ onward (λ _. declared x is) (onward (λ word. set_word i.number word >> Nothing x) r)
after_one i is x None = refl
after_one i is x (Some r) = refl

-- ---- one part after another

-- a part is done of what is done in the first turn
pub record Follows (d0 d : Draft) (whole rest : Context → Step) (outs unsent : List ℕ) : Type 0 where
  pub formed : IsFormed d
  pub first : IsAtFirst d
  pub arrays : d.arrays ≡ d0.arrays
  pub ends : (e : Draft) (fs : List Effect) → Performs d e fs Any rest [] → Sends d e unsent → IsFirst d0 e whole outs

still_first : {d e : Draft} {es : List Effect} → Grows d e es → IsAtFirst d → IsAtFirst e
still_first grows h = record { first = λ x E f on. h.first x E (fits_before grows.values f) (ap (λ (z : Option ℕ). holds E z) (sym grows.guard) ∙ on) }

follows_none : (d : Draft) (run : Context → Step) (outs : List ℕ) → IsFormed d → IsAtFirst d → Follows d d run run outs outs
follows_none d run outs formed first = record { formed = formed; first = first; arrays = refl; ends = λ e fs h sent. record { added = fs; performs = h; sends = sent } }

follows_one : {d0 d e : Draft} {whole whole_rest f rest : Context → Step} {outs p q : List ℕ} → IsFirst d e f p → KeepsStreams f [] → ((x : Context) (s : State) → whole_rest x s ≡ (f x >> rest x) s) → Follows d0 d whole whole_rest outs (p ++ q) → Follows d0 e whole rest outs q
follows_one {d = d} {e = e} {f = f} {rest = rest} {p = p} {q = q} one keeps same h =
    record {
      formed = one.performs.formed;
      first = still_first one.performs.grows h.first;
      arrays = one.performs.grows.arrays ∙ h.arrays;
      ends = λ c fs later sent. h.ends c (one.added ++ fs) (run_same same (in_turn Any one.performs later tt keeps)) (sends_then d e c p q one.sends sent);
    }

follows_all : {d0 d : Draft} {whole : Context → Step} {outs : List ℕ} → Follows d0 d whole (λ x. give tt) outs [] → IsFirst d0 d whole outs
follows_all {d = d} h = h.ends d [] (does_nothing d Any h.formed) (sends_idle d [])

-- ---- statements

-- from the k-th statement on
pub record FirstStmts (d0 d : Draft) (all : List MadeStmt) (k : ℕ) : Type 0 where
  pub follows : Follows d0 d (λ x. stmts x (stmts_of all)) (λ x. stmts x (stmts_of (drop k all))) (stmts_outputs (stmts_of all)) (stmts_outputs (stmts_of (drop k all)))
  pub typed : AreTypedStmts d.arrays true (stmts_of (drop k all))
  pub none : stmts_inputs (stmts_of (drop k all)) ≡ []

pub stmts_begin : (d : Draft) (all : List MadeStmt) → IsFormed d → IsAtFirst d → AreTypedStmts d.arrays true (stmts_of all) → stmts_inputs (stmts_of all) ≡ [] → FirstStmts d d all 0
stmts_begin d all formed first typed none = record { follows = follows_none d (λ x. stmts x (stmts_of all)) (stmts_outputs (stmts_of all)) formed first; typed = typed; none = none }

-- what is known of the next statement, and of those behind it
pub record NextStmt (d0 d : Draft) (all : List MadeStmt) (k : ℕ) (s : MadeStmt) : Type 0 where
  pub formed : IsFormed d
  pub first : IsAtFirst d
  pub typed : IsTypedStmt d.arrays true (stmt_of s)
  pub none : stmt_inputs (stmt_of s) ≡ []
  pub follows : Follows d0 d (λ x. stmts x (stmts_of all)) (λ x. stmts x (MoreStmts (stmt_of s) (stmts_of (drop (k + 1) all)))) (stmts_outputs (stmts_of all)) (stmts_outputs (MoreStmts (stmt_of s) (stmts_of (drop (k + 1) all))))
  pub typed_rest : AreTypedStmts d.arrays true (stmts_of (drop (k + 1) all))
  pub none_rest : stmts_inputs (stmts_of (drop (k + 1) all)) ≡ []

pub stmts_next : {d0 d : Draft} (all : List MadeStmt) (k : ℕ) (s : MadeStmt) → k < length all → s ≡ get_or all k s → FirstStmts d0 d all k → NextStmt d0 d all k s
unfolding AreTypedStmts stmts_inputs
stmts_next {d0 = d0} {d = d} all k s lt is h =
    let rest = drop (k + 1) all in
    let e : drop k all ≡ s ∷ rest = front all k s lt is in
    let typed : AreTypedStmts d.arrays true (MoreStmts (stmt_of s) (stmts_of rest)) = subst (λ (z : List MadeStmt). AreTypedStmts d.arrays true (stmts_of z)) e h.typed in
    let none : stmts_inputs (MoreStmts (stmt_of s) (stmts_of rest)) ≡ [] = subst (λ (z : List MadeStmt). stmts_inputs (stmts_of z) ≡ []) e h.none in
    record {
      formed = h.follows.formed;
      first = h.follows.first;
      typed = typed.0;
      none = nil_first (stmt_inputs (stmt_of s)) (stmts_inputs (stmts_of rest)) none;
      follows = subst (λ (z : List MadeStmt). Follows d0 d (λ x. stmts x (stmts_of all)) (λ x. stmts x (stmts_of z)) (stmts_outputs (stmts_of all)) (stmts_outputs (stmts_of z))) e h.follows;
      typed_rest = typed.1;
      none_rest = nil_rest (stmt_inputs (stmt_of s)) (stmts_inputs (stmts_of rest)) none;
    }

pub stmts_go_on : {d0 d e : Draft} (all : List MadeStmt) (k : ℕ) (s : MadeStmt) → k < length all → s ≡ get_or all k s → FirstStmts d0 d all k → IsFirst d e (λ x. stmt x (stmt_of s)) (stmt_outputs (stmt_of s)) → FirstStmts d0 e all (k + 1)
unfolding stmts stmts_outputs
stmts_go_on {d = d} all k s lt is h one =
    let n = stmts_next all k s lt is h in
    let rest = stmts_of (drop (k + 1) all) in
    record {
      follows = follows_one one (takes_none d.arrays (stmt_of s) n.typed n.none) (λ x u. refl) n.follows;
      typed = subst (λ (z : List Array). AreTypedStmts z true rest) (sym one.performs.grows.arrays) n.typed_rest;
      none = n.none_rest;
    }

pub stmts_end : {d0 d : Draft} (all : List MadeStmt) (k : ℕ) → length all ≤ k → FirstStmts d0 d all k → IsFirst d0 d (λ x. stmts x (stmts_of all)) (stmts_outputs (stmts_of all))
unfolding stmts stmts_outputs
stmts_end {d0 = d0} {d = d} all k le h =
    follows_all (subst (λ (z : List MadeStmt). Follows d0 d (λ x. stmts x (stmts_of all)) (λ x. stmts x (stmts_of z)) (stmts_outputs (stmts_of all)) (stmts_outputs (stmts_of z))) (drop_of_length-le all le) h.follows)

-- ---- declarations

-- from the k-th declaration on
pub record FirstInitials (d0 d : Draft) (all : List MadeInitial) (k : ℕ) : Type 0 where
  pub follows : Follows d0 d (λ x. declared x (map initial_of all)) (λ x. declared x (map initial_of (drop k all))) [] []
  pub typed : AreTypedInitials d.arrays true (map initial_of (drop k all))
  pub none : initial_inputs (map initial_of (drop k all)) ≡ []

pub initials_begin : (d : Draft) (all : List MadeInitial) → IsFormed d → IsAtFirst d → AreTypedInitials d.arrays true (map initial_of all) → initial_inputs (map initial_of all) ≡ [] → FirstInitials d d all 0
initials_begin d all formed first typed none = record { follows = follows_none d (λ x. declared x (map initial_of all)) [] formed first; typed = typed; none = none }

-- what is known of the next declaration, and of those behind it
pub record NextInitial (d0 d : Draft) (all : List MadeInitial) (k : ℕ) (i : MadeInitial) : Type 0 where
  pub formed : IsFormed d
  pub first : IsAtFirst d
  pub typed : IsTypedExpr d.arrays true (expr_of i.value)
  pub none : inputs (expr_of i.value) ≡ []
  pub follows : Follows d0 d (λ x. declared x (map initial_of all)) (λ x. declared x (initial_of i ∷ map initial_of (drop (k + 1) all))) [] []
  pub typed_rest : AreTypedInitials d.arrays true (map initial_of (drop (k + 1) all))
  pub none_rest : initial_inputs (map initial_of (drop (k + 1) all)) ≡ []

pub initials_next : {d0 d : Draft} (all : List MadeInitial) (k : ℕ) (i : MadeInitial) → k < length all → i ≡ get_or all k i → FirstInitials d0 d all k → NextInitial d0 d all k i
initials_next {d0 = d0} {d = d} all k i lt is h =
    let rest = drop (k + 1) all in
    let e : drop k all ≡ i ∷ rest = front all k i lt is in
    let typed : AreTypedInitials d.arrays true (initial_of i ∷ map initial_of rest) = subst (λ (z : List MadeInitial). AreTypedInitials d.arrays true (map initial_of z)) e h.typed in
    let none : initial_inputs (initial_of i ∷ map initial_of rest) ≡ [] = subst (λ (z : List MadeInitial). initial_inputs (map initial_of z) ≡ []) e h.none in
    record {
      formed = h.follows.formed;
      first = h.follows.first;
      typed = typed.0;
      none = nil_first (inputs (expr_of i.value)) (initial_inputs (map initial_of rest)) none;
      follows = subst (λ (z : List MadeInitial). Follows d0 d (λ x. declared x (map initial_of all)) (λ x. declared x (map initial_of z)) [] []) e h.follows;
      typed_rest = typed.1;
      none_rest = nil_rest (inputs (expr_of i.value)) (initial_inputs (map initial_of rest)) none;
    }

declaration_takes_none : (arrays : List Array) (i : Initial) → IsTypedExpr arrays true i.value → inputs i.value ≡ [] → KeepsStreams (λ x. declared x (i ∷ [])) []
unfolding IsTypedStmt stmt_inputs stmt
declaration_takes_none arrays i typed none = takes_none arrays (WordsStmt (i ∷ [])) (typed, tt) (ap (λ (p : List ℕ). p ++ []) none)

pub initials_go_on : {d0 d e : Draft} (all : List MadeInitial) (k : ℕ) (i : MadeInitial) → k < length all → i ≡ get_or all k i → FirstInitials d0 d all k → IsFirst d e (λ x. declared x (initial_of i ∷ [])) [] → FirstInitials d0 e all (k + 1)
initials_go_on {d = d} all k i lt is h one =
    let n = initials_next all k i lt is h in
    let rest = map initial_of (drop (k + 1) all) in
    record {
      follows = follows_one one (declaration_takes_none d.arrays (initial_of i) n.typed n.none) (λ x u. after_one (initial_of i) rest x (value x (expr_of i.value) u)) n.follows;
      typed = subst (λ (z : List Array). AreTypedInitials z true rest) (sym one.performs.grows.arrays) n.typed_rest;
      none = n.none_rest;
    }

pub initials_end : {d0 d : Draft} (all : List MadeInitial) (k : ℕ) → length all ≤ k → FirstInitials d0 d all k → IsFirst d0 d (λ x. declared x (map initial_of all)) []
initials_end {d0 = d0} {d = d} all k le h =
    follows_all (subst (λ (z : List MadeInitial). Follows d0 d (λ x. declared x (map initial_of all)) (λ x. declared x (map initial_of z)) [] []) (drop_of_length-le all le) h.follows)

-- ---- the arm

-- in the arm of a condition that holds in the first turn only
pub arm_first : {d d1 : Draft} {c n : ℕ} {g : Option ℕ} {ws : List (Option ℕ)} → Means d.values c (λ x E. one_if (x.turn == 0)) → Begins d d1 c n g ws → IsAtFirst d1
arm_first {d = d} {d1 = d1} {c = c} means b =
    record {
      first = λ x E f on.
          let f0 : Fits b.first.values x E = fits_before (keeps b.enters.same.values) f in
          turn_zero x.turn (E c) (means.is x E (fits_before (keeps b.same.values) f0)) ((and_parts (holds E b.first.guard) (nat_lt 0 (E c)) (sym (b.enters.both x E f) ∙ on)).1);
    }
  where
    by_test : (n w : ℕ) (t : Bool) → (n == 0) ≡ t → w ≡ one_if t → nat_lt 0 w ≡ true → n ≡ 0
    by_test n w true e is positive = eqb-true n 0 e
    by_test n w false e is positive = absurd (let h : nat_lt 0 0 ≡ true = subst (λ z. nat_lt 0 z ≡ true) is positive in cc)

    turn_zero : (n w : ℕ) → w ≡ one_if (n == 0) → nat_lt 0 w ≡ true → n ≡ 0
    turn_zero n w is positive = by_test n w (n == 0) refl is positive

-- where the condition doesn't hold the turn is a later one
pub later_begins : (d d2 : Draft) (c : ℕ) → Means d.values c (λ x E. one_if (x.turn == 0)) → ((x : Moment) (E : Words) → Runs d2 x E → Fits d.values x E) → BeginsAlike d d2 c
later_begins d d2 c means fits x E r off number = alike (x.turn == 0) refl (means.is x E (fits x E r))
  where
    alike : (t : Bool) → (x.turn == 0) ≡ t → E c ≡ one_if (x.turn == 0) → begun x d2 number ≡ begun x d number
    alike true e is = absurd (let h : nat_lt 0 1 ≡ false = subst (λ z. nat_lt 0 z ≡ false) (is ∙ ap (λ (b : Bool). one_if b) e) off in cc)
    alike false e is = ap (λ (b : Bool). if b then initial_in d2 number else x.carried number) e ∙ sym (ap (λ (b : Bool). if b then initial_in d number else x.carried number) e)

pub arm_fits : {d d1 d2 : Draft} {c n : ℕ} {g : Option ℕ} {ws : List (Option ℕ)} {es : List Effect} → Begins d d1 c n g ws → Grows d1 d2 es → (x : Moment) (E : Words) → Runs d2 x E → Fits d.values x E
arm_fits b grows x E r = fits_before (keeps b.same.values) (fits_before (keeps b.enters.same.values) (fits_before grows.values r.fits))

-- the index is the number of the turn
pub turn_test : {old new : List Value} {index c : ℕ} → IsOfTurn old index (λ t. t) → Extends old new → Means new c (λ x E. one_if (E index == 0)) → Means new c (λ x E. one_if (x.turn == 0))
turn_test index kept means = record { within = means.within; is = λ x E f. means.is x E f ∙ ap (λ z. one_if (z == 0)) (index.is x E (fits_before (keeps kept) f)) }

-- ---- the steps of the code

pub words_shape : (s : MadeStmt) (items now : List MadeInitial) → stmt_of s ≡ WordsStmt (map initial_of items) → now ≡ items → stmt_of s ≡ WordsStmt (map initial_of now)
words_shape s items now is same = is ∙ ap (λ (z : List MadeInitial). WordsStmt (map initial_of z)) (sym same)

pub words_first : {d e : Draft} (s : Stmt) (initials : List Initial) → s ≡ WordsStmt initials → IsFirst d e (λ c. declared c initials) [] → IsFirst d e (λ c. stmt c s) (stmt_outputs s)
unfolding stmt stmt_outputs
words_first {d = d} {e = e} s initials is h = subst (λ (z : Stmt). IsFirst d e (λ c. stmt c z) (stmt_outputs z)) (sym is) h

pub words_typed : (arrays : List Array) (s : Stmt) (initials : List Initial) → s ≡ WordsStmt initials → IsTypedStmt arrays true s → AreTypedInitials arrays true initials
unfolding IsTypedStmt
words_typed arrays s initials is typed = subst (λ (z : Stmt). IsTypedStmt arrays true z) is typed

pub words_none : (s : Stmt) (initials : List Initial) → s ≡ WordsStmt initials → stmt_inputs s ≡ [] → initial_inputs initials ≡ []
unfolding stmt_inputs
words_none s initials is none = subst (λ (z : Stmt). stmt_inputs z ≡ []) is none
