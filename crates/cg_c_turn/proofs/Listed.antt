-- Statements one after another, as the code walks through them.
use Rattle.std.proofs.Common.{◌≡◌, ℕ, suc, ◌+◌, ◌<◌, ◌≤◌, true, List, [], ◌∷◌, ◌++◌, length, map, drop, get_or, refl, sym, ap, ◌∙◌, subst, add-zero, drop-cons, add-one}
use Rattle.cg_c_check.specs.declared.program.Array.{Array}
use Rattle.cg_c_check.specs.Program.{Stmts, MoreStmts, Stmt, Initial}
use Rattle.cg_c_meaning.specs.Meaning.{State, Context, give, set_word, declared, stmt, stmts}
use Rattle.cg_c_meaning.specs.Typed.{AreApart, IsTypedExpr, AreTypedInitials, AreTypedStmts, IsTypedStmt, inputs, initial_inputs, stmt_inputs, stmt_outputs, stmts_inputs, stmts_outputs}
use Rattle.cg_c_meaning.proofs.Taking.{statements_take}
use Rattle.std.proofs.Math.ListN.{drop_of_length-le}
use Rattle.cg_c_check.specs.declared.program.Stmt.{Stmt as MadeStmt}
use Rattle.cg_c_check.specs.declared.program.Initial.{Initial as MadeInitial}
use Rattle.cg_c_check.specs.Written.{expr_of, initial_of, stmt_of, stmts_of}
use Rattle.cg_c_turn.specs.Draft.{Draft, Effect}
use Rattle.cg_c_turn.specs.Translated.{IsTranslated}
use Rattle.cg_c_turn.specs.Stands.{TheWord, Agrees, IsFormed, Performs, Any, Sends, Translates}
use Rattle.cg_c_turn.proofs.Doing.{Step, same_end, does_nothing, in_turn, given_more, apart_first, apart_rest}
use Rattle.cg_c_turn.proofs.Evaluating.{value_then}
use Rattle.cg_c_turn.proofs.Sent.{sends_idle, sends_nothing, sends_then}

-- what is done of a list, where the rest is still to be done: with whatever the rest is translated to, all is. `left` are the
-- ports of the inputs of the rest, and `unsent` those of its outputs
pub record Behind (d0 d : Draft) (whole rest : Context → Step) (all left outs unsent : List ℕ) : Type 0 where
  pub formed : IsFormed d
  pub arrays : d.arrays ≡ d0.arrays
  pub initial : d.initial ≡ d0.initial
  pub then : (e : Draft) (fs : List Effect) → Performs d e fs Any rest left → (es : List Effect) × Performs d0 e es Any whole all
  pub sends : (e : Draft) → Sends d e unsent → Sends d0 e outs

pub at_start : (d : Draft) (run : Context → Step) (ports outs : List ℕ) → IsFormed d → Behind d d run run ports ports outs outs
at_start d run ports outs formed = record { formed = formed; arrays = refl; initial = refl; then = λ e fs h. (fs, h); sends = λ e h. h }

pub at_end : {d0 d : Draft} {whole : Context → Step} {all outs : List ℕ} → Behind d0 d whole (λ x. give tt) all [] outs [] → (es : List Effect) × Performs d0 d es Any whole all
at_end {d = d} h = h.then d [] (does_nothing d Any h.formed)

-- ---- statements

pub one_stmt : {d0 d e : Draft} {es : List Effect} {whole : Context → Step} {all outs : List ℕ} (s : Stmt) (ss : Stmts) → AreTypedStmts d.arrays true (MoreStmts s ss) → AreApart (stmts_inputs (MoreStmts s ss)) → Performs d e es Any (λ x. stmt x s) (stmt_inputs s) → e.initial ≡ d.initial → Sends d e (stmt_outputs s)
    → Behind d0 d whole (λ x. stmts x (MoreStmts s ss)) all (stmts_inputs (MoreStmts s ss)) outs (stmts_outputs (MoreStmts s ss)) → Behind d0 e whole (λ x. stmts x ss) all (stmts_inputs ss) outs (stmts_outputs ss)
unfolding stmts stmts_inputs stmts_outputs AreTypedStmts
one_stmt {d = d} {e = e} {es = es} s ss typed apart one initial sent h =
    record {
      formed = one.formed;
      arrays = one.grows.arrays ∙ h.arrays;
      initial = initial ∙ h.initial;
      then = λ f fs rest. h.then f (es ++ fs) (in_turn Any one rest apart (λ x before after runs. statements_take d.arrays true x s before after tt typed.0 runs));
      sends = λ f rest. h.sends f (sends_then d e f (stmt_outputs s) (stmts_outputs ss) sent rest);
    }

-- ---- declarations

pub one_initial : {d0 d b e : Draft} {es : List Effect} {whole : Context → Step} {all outs : List ℕ} {v : ℕ} (i : Initial) (is : List Initial) → AreTypedInitials d.arrays true (i ∷ is) → AreApart (initial_inputs (i ∷ is)) → Translates d b es i.value TheWord v → ((w : ℕ) → Performs b e [] (λ E. Agrees TheWord (E v) w) (λ x. set_word i.number w) []) → e.initial ≡ b.initial
    → Behind d0 d whole (λ x. declared x (i ∷ is)) all (initial_inputs (i ∷ is)) outs [] → Behind d0 e whole (λ x. declared x is) all (initial_inputs is) outs []
one_initial {d = d} {b = b} {e = e} {es = es} {v = v} i is typed apart one set initial h =
    record {
      formed = (set 0).formed;
      arrays = (set 0).grows.arrays ∙ one.grows.arrays ∙ h.arrays;
      initial = initial ∙ one.initial ∙ h.initial;
      then = λ f fs rest.
          h.then f (es ++ fs)
          (value_then d.arrays true typed.0 one
          (λ w. in_turn (λ E. Agrees TheWord (E v) w) (set w) (given_more Any (λ E. Agrees TheWord (E v) w) (λ E k. tt) rest) (apart_rest (inputs i.value) (initial_inputs is) apart) (λ x before after runs port. ap (λ (z : State). z.taken port) (sym (same_end _ after runs)) ∙ sym (add-zero (before.taken port)))) apart);
      sends = λ f rest. h.sends f (sends_then d b f [] [] (sends_nothing d b es one.grows.effects one.silent) (sends_then b e f [] [] (sends_nothing b e [] (set 0).grows.effects refl) rest));
    }

-- ---- lists of the code

pub front : {X : Type 0} (xs : List X) (i : ℕ) (x : X) → i < length xs → x ≡ get_or xs i x → drop i xs ≡ x ∷ drop (i + 1) xs
front xs i x lt is = drop-cons xs i x lt ∙ ap (λ z. z ∷ drop (suc i) xs) (sym is) ∙ ap (λ n. x ∷ drop n xs) (sym (add-one i))

-- from the k-th statement on
pub record LeftStmts (d0 d : Draft) (all : List MadeStmt) (k : ℕ) : Type 0 where
  pub behind : Behind d0 d (λ x. stmts x (stmts_of all)) (λ x. stmts x (stmts_of (drop k all))) (stmts_inputs (stmts_of all)) (stmts_inputs (stmts_of (drop k all))) (stmts_outputs (stmts_of all)) (stmts_outputs (stmts_of (drop k all)))
  pub typed : AreTypedStmts d.arrays true (stmts_of (drop k all))
  pub apart : AreApart (stmts_inputs (stmts_of (drop k all)))

pub stmts_start : (d : Draft) (all : List MadeStmt) → IsFormed d → AreTypedStmts d.arrays true (stmts_of all) → AreApart (stmts_inputs (stmts_of all)) → LeftStmts d d all 0
stmts_start d all formed typed apart = record { behind = at_start d (λ x. stmts x (stmts_of all)) (stmts_inputs (stmts_of all)) (stmts_outputs (stmts_of all)) formed; typed = typed; apart = apart }

pub record Next (d : Draft) (s : MadeStmt) : Type 0 where
  pub formed : IsFormed d
  pub typed : IsTypedStmt d.arrays true (stmt_of s)
  pub apart : AreApart (stmt_inputs (stmt_of s))

as_front : {d0 d : Draft} (all : List MadeStmt) (k : ℕ) (s : MadeStmt) (rest : List MadeStmt) → drop k all ≡ s ∷ rest → LeftStmts d0 d all k → Behind d0 d (λ x. stmts x (stmts_of all)) (λ x. stmts x (MoreStmts (stmt_of s) (stmts_of rest))) (stmts_inputs (stmts_of all)) (stmts_inputs (MoreStmts (stmt_of s) (stmts_of rest))) (stmts_outputs (stmts_of all)) (stmts_outputs (MoreStmts (stmt_of s) (stmts_of rest))) × AreTypedStmts d.arrays true (MoreStmts (stmt_of s) (stmts_of rest)) × AreApart (stmts_inputs (MoreStmts (stmt_of s) (stmts_of rest)))
as_front {d0 = d0} {d = d} all k s rest is h = (
  subst (λ (z : List MadeStmt). Behind d0 d (λ x. stmts x (stmts_of all)) (λ x. stmts x (stmts_of z)) (stmts_inputs (stmts_of all)) (stmts_inputs (stmts_of z)) (stmts_outputs (stmts_of all)) (stmts_outputs (stmts_of z))) is h.behind,
  subst (λ (z : List MadeStmt). AreTypedStmts d.arrays true (stmts_of z)) is h.typed,
  subst (λ (z : List MadeStmt). AreApart (stmts_inputs (stmts_of z))) is h.apart,
)

pub next_stmt : {d0 d : Draft} (all : List MadeStmt) (k : ℕ) (s : MadeStmt) → k < length all → s ≡ get_or all k s → LeftStmts d0 d all k → Next d s
unfolding AreTypedStmts stmts_inputs
next_stmt all k s lt is h =
    let f = as_front all k s (drop (k + 1) all) (front all k s lt is) h in
    record { formed = h.behind.formed; typed = f.1.0; apart = apart_first (stmt_inputs (stmt_of s)) (stmts_inputs (stmts_of (drop (k + 1) all))) f.2 }

pub stmts_step : {d0 d e : Draft} (all : List MadeStmt) (k : ℕ) (s : MadeStmt) → k < length all → s ≡ get_or all k s → LeftStmts d0 d all k → IsTranslated d e (λ x. stmt x (stmt_of s)) (stmt_inputs (stmt_of s)) (stmt_outputs (stmt_of s)) → LeftStmts d0 e all (k + 1)
unfolding AreTypedStmts stmts_inputs
stmts_step {e = e} all k s lt is h one =
    let rest = stmts_of (drop (k + 1) all) in
    let f = as_front all k s (drop (k + 1) all) (front all k s lt is) h in
    record {
      behind = one_stmt (stmt_of s) rest f.1 f.2 one.performs one.initial one.sends f.0;
      typed = subst (λ (z : List Array). AreTypedStmts z true rest) (sym one.performs.grows.arrays) f.1.1;
      apart = apart_rest (stmt_inputs (stmt_of s)) (stmts_inputs rest) f.2;
    }

pub stmts_done : {d0 d : Draft} (all : List MadeStmt) (k : ℕ) → length all ≤ k → LeftStmts d0 d all k → IsTranslated d0 d (λ x. stmts x (stmts_of all)) (stmts_inputs (stmts_of all)) (stmts_outputs (stmts_of all))
unfolding stmts stmts_inputs stmts_outputs
stmts_done {d0 = d0} {d = d} all k le h =
    let none : drop k all ≡ [] = drop_of_length-le all le in
    let behind = subst (λ (z : List MadeStmt). Behind d0 d (λ x. stmts x (stmts_of all)) (λ x. stmts x (stmts_of z)) (stmts_inputs (stmts_of all)) (stmts_inputs (stmts_of z)) (stmts_outputs (stmts_of all)) (stmts_outputs (stmts_of z))) none h.behind in
    let end = at_end behind in
    record { added = end.0; performs = end.1; initial = h.behind.initial; sends = behind.sends d (sends_idle d []) }

-- from the k-th declaration on
pub record LeftInitials (d0 d : Draft) (all : List MadeInitial) (k : ℕ) : Type 0 where
  pub behind : Behind d0 d (λ x. declared x (map initial_of all)) (λ x. declared x (map initial_of (drop k all))) (initial_inputs (map initial_of all)) (initial_inputs (map initial_of (drop k all))) [] []
  pub typed : AreTypedInitials d.arrays true (map initial_of (drop k all))
  pub apart : AreApart (initial_inputs (map initial_of (drop k all)))

pub initials_start : (d : Draft) (all : List MadeInitial) → IsFormed d → AreTypedInitials d.arrays true (map initial_of all) → AreApart (initial_inputs (map initial_of all)) → LeftInitials d d all 0
initials_start d all formed typed apart = record { behind = at_start d (λ x. declared x (map initial_of all)) (initial_inputs (map initial_of all)) [] formed; typed = typed; apart = apart }

pub record NextInitial (d : Draft) (i : MadeInitial) : Type 0 where
  pub formed : IsFormed d
  pub typed : IsTypedExpr d.arrays true (expr_of i.value)
  pub apart : AreApart (inputs (expr_of i.value))

initials_front : {d0 d : Draft} (all : List MadeInitial) (k : ℕ) (i : MadeInitial) (rest : List MadeInitial) → drop k all ≡ i ∷ rest → LeftInitials d0 d all k → Behind d0 d (λ x. declared x (map initial_of all)) (λ x. declared x (initial_of i ∷ map initial_of rest)) (initial_inputs (map initial_of all)) (initial_inputs (initial_of i ∷ map initial_of rest)) [] [] × AreTypedInitials d.arrays true (initial_of i ∷ map initial_of rest) × AreApart (initial_inputs (initial_of i ∷ map initial_of rest))
initials_front {d0 = d0} {d = d} all k i rest is h = (
  subst (λ (z : List MadeInitial). Behind d0 d (λ x. declared x (map initial_of all)) (λ x. declared x (map initial_of z)) (initial_inputs (map initial_of all)) (initial_inputs (map initial_of z)) [] []) is h.behind,
  subst (λ (z : List MadeInitial). AreTypedInitials d.arrays true (map initial_of z)) is h.typed,
  subst (λ (z : List MadeInitial). AreApart (initial_inputs (map initial_of z))) is h.apart,
)

pub next_initial : {d0 d : Draft} (all : List MadeInitial) (k : ℕ) (i : MadeInitial) → k < length all → i ≡ get_or all k i → LeftInitials d0 d all k → NextInitial d i
next_initial all k i lt is h =
    let f = initials_front all k i (drop (k + 1) all) (front all k i lt is) h in
    record { formed = h.behind.formed; typed = f.1.0; apart = apart_first (inputs (expr_of i.value)) (initial_inputs (map initial_of (drop (k + 1) all))) f.2 }

pub initials_step : {d0 d b e : Draft} {es : List Effect} {v : ℕ} (all : List MadeInitial) (k : ℕ) (i : MadeInitial) → k < length all → i ≡ get_or all k i → LeftInitials d0 d all k → Translates d b es (expr_of i.value) TheWord v → ((w : ℕ) → Performs b e [] (λ E. Agrees TheWord (E v) w) (λ x. set_word i.number w) []) → e.initial ≡ b.initial → LeftInitials d0 e all (k + 1)
initials_step {e = e} all k i lt is h one set initial =
    let rest = map initial_of (drop (k + 1) all) in
    let f = initials_front all k i (drop (k + 1) all) (front all k i lt is) h in
    record {
      behind = one_initial (initial_of i) rest f.1 f.2 one set initial f.0;
      typed = subst (λ (z : List Array). AreTypedInitials z true rest) (sym ((set 0).grows.arrays ∙ one.grows.arrays)) f.1.1;
      apart = apart_rest (inputs (expr_of i.value)) (initial_inputs rest) f.2;
    }

pub initials_done : {d0 d : Draft} (all : List MadeInitial) (k : ℕ) → length all ≤ k → LeftInitials d0 d all k → IsTranslated d0 d (λ x. declared x (map initial_of all)) (initial_inputs (map initial_of all)) []
initials_done {d0 = d0} {d = d} all k le h =
    let none : drop k all ≡ [] = drop_of_length-le all le in
    let end = at_end (subst (λ (z : List MadeInitial). Behind d0 d (λ x. declared x (map initial_of all)) (λ x. declared x (map initial_of z)) (initial_inputs (map initial_of all)) (initial_inputs (map initial_of z)) [] []) none h.behind) in
    record { added = end.0; performs = end.1; initial = h.behind.initial; sends = h.behind.sends d (sends_idle d []) }
