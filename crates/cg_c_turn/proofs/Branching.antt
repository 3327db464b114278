-- The branches of an `if`.
use Rattle.std.proofs.Common.{◌≡◌, ℕ, ◌<◌, nat_lt, not, if◌then◌else◌, Bool, true, false, List, [], ◌++◌, length, Option, Some, None, slice_index_or, slice_index, refl, sym, ap, ◌∙◌, subst, arith, append-nil}
use Rattle.cg_word.specs.Word.{one_if}
use Rattle.cg_c_check.specs.Program.{Expr, Stmt, If, IfElse}
use Rattle.cg_c_values.specs.declared.value.Value.{Value}
use Rattle.cg_c_values.specs.declared.value.Value.TheVariants.{Const}
use Rattle.cg_c_values.specs.Values.{Moment, Words, Fits, Keeps, IsBelow, IsWordOf, Means, holds, value_at}
use Rattle.cg_c_meaning.specs.Meaning.{Context, ◌>>=◌, give, value, stmt}
use Rattle.cg_c_meaning.specs.Typed.{AreApart, IsTypedExpr, inputs, stmt_inputs, stmt_outputs}
use Rattle.cg_c_values.proofs.Known.{keeps}
use Rattle.cg_c_turn.specs.Draft.{Draft, Effect, assigned_in}
use Rattle.cg_c_turn.specs.Stands.{ACondition, Agrees, IsFormed, IsDone, Performs, Any, Sends, Translates}
use Rattle.cg_c_turn.specs.Conditions.{IsElsewhere, EntersArm, IsMerged, with_point}
use Rattle.cg_c_turn.specs.Branched.{Begins, Switches, Ends}
use Rattle.cg_c_turn.specs.Translated.{IsTranslated, IsBranched, branch_outputs, branch_run}
use Rattle.cg_c_turn.specs.Words.{Merges}
use Rattle.cg_c_turn.proofs.Prefixes.{begun_same, keeps_on, fits_before}
use Rattle.cg_c_turn.proofs.Growing.{below_on}
use Rattle.cg_c_turn.proofs.Doing.{Step, does_nothing, moved_arrays}
use Rattle.cg_c_turn.proofs.Evaluating.{value_then}
use Rattle.cg_c_turn.proofs.Sending.{without_ports}
use Rattle.cg_c_turn.proofs.Arms.{Arms, Either, arms, other_arm, no_other, elsewhere_on, with_point_elsewhere, sound_elsewhere, formed_elsewhere, matches_at, words_as, true_is}
use Rattle.cg_c_turn.proofs.Sent.{sends_idle, sends_moved, sends_nothing, sends_then}

-- ---- from a point with fewer values on

pub from_before : {d d0 e : Draft} {es : List Effect} {G : Words → Type 0} {run : Context → Step} {p : List ℕ} → IsFormed d → IsElsewhere d d0 → d0.guard ≡ d.guard → d0.words ≡ d.words → Performs d0 e es G run p → Performs d e es G run p
from_before {d = d} {d0 = d0} {e = e} {es = es} formed same guard words h =
    record {
      grows =
          record {
            arrays = h.grows.arrays ∙ same.arrays;
            counters = h.grows.counters ∙ same.counters;
            guard = h.grows.guard ∙ guard;
            values = keeps_on (keeps same.values) h.grows.values;
            effects = h.grows.effects ∙ ap (λ (z : List Effect). z ++ es) same.effects;
            initial = λ n t. h.grows.initial n (t.0, omega (arith, t.1, same.values.longer), same.values.kept t.0 t.1 ∙ t.2) ∙ ap (λ (z : List ℕ). slice_index z n) same.initial;
          };
      formed = h.formed;
      leads = λ x E m c end r sound does.
          moved_arrays d.arrays d0.arrays E es m (IsDone e x E m c end) same.arrays
          (h.leads x E m c end r (sound_elsewhere d d0 E m formed same sound)
          (λ on.
          let run = does (ap (λ (z : Option ℕ). holds E z) (sym guard) ∙ on) in
          (run.0, record { before = run.1.before; matches = matches_at same.arrays same.counters refl (λ number. words_as x E d d0 number words (sym (begun_same x d d0 number same.initial))) run.1.matches; ready = run.1.ready; runs = run.1.runs })));
    }

-- ---- a condition that is a constant

constant_is : (d : Draft) (c k : ℕ) → c < length d.values → value_at d.values c ≡ Const k → (x : Moment) (E : Words) → Fits d.values x E → E c ≡ k
unfolding IsWordOf
constant_is d c k within is x E f = let h : IsWordOf x E (Const k) (E c) = subst (λ (z : Value). IsWordOf x E z (E c)) is (f.is c within) in h

pub settled : {d e : Draft} {es : List Effect} {p : List ℕ} (c k : ℕ) (first second run : Context → Step) (t : Bool) → c < length d.values → value_at d.values c ≡ Const k → nat_lt 0 k ≡ t → ((x : Context) → (if t then first x else second x) ≡ run x) → Performs d e es Any run p → (w : ℕ) → Performs d e es (λ E. Agrees ACondition (E c) w) (Either first second w) p
settled {d = d} c k first second run t within is positive same h w =
    record {
      grows = h.grows;
      formed = h.formed;
      leads = λ x E m ctx end r sound does.
          h.leads x E m ctx end r sound
          (λ on.
          let known = does on in
          let truth : nat_lt 0 w ≡ t = sym known.0 ∙ ap (λ z. nat_lt 0 z) (constant_is d c k within is x E (fits_before h.grows.values r.fits)) ∙ positive in
          let chosen : Either first second w ctx ≡ run ctx = ap (λ (b : Bool). if b then first ctx else second ctx) (true_is w t truth) ∙ same ctx in
          (tt, record { before = known.1.before; matches = known.1.matches; ready = known.1.ready; runs = sym (ap (λ (z : Step). z known.1.before) chosen) ∙ known.1.runs }));
    }

-- ---- two branches

pub at_point : (a b : Draft) (guard : Option ℕ) (words : List (Option ℕ)) → b ≡ with_point a guard words → IsElsewhere a b
at_point a b guard words is = subst (λ (z : Draft). IsElsewhere a z) (sym is) (with_point_elsewhere a guard words)

-- back at the point before a part
pub formed_back : (a d b : Draft) → IsFormed a → IsFormed d → Keeps a.values d.values → IsElsewhere d b → b.guard ≡ a.guard → b.words ≡ a.words → IsFormed b
formed_back a d b fa fd longer same guard words =
    formed_elsewhere d b fd same
    (subst (λ (g : Option ℕ). IsBelow (length b.values) g) (sym guard) (below_on (length a.values) (length b.values) a.guard (omega (arith, longer.longer, same.values.longer)) fa.guard))
    (λ n. subst (λ (z : List (Option ℕ)). IsBelow (length b.values) (slice_index_or z n None)) (sym words) (below_on (length a.values) (length b.values) (assigned_in a n) (omega (arith, longer.longer, same.values.longer)) (fa.words n)))

pub no_ports : {a b : Draft} {es : List Effect} {G : Words → Type 0} {run : Context → Step} {p : List ℕ} → p ≡ [] → Performs a b es G run p → Performs a b es G run []
no_ports {a = a} {b = b} {es = es} {G = G} {run = run} none h = subst (λ (q : List ℕ). Performs a b es G run q) none h

pub both_is : (d d0 d1 d2 d3 d4 d5 d6 d7 : Draft) (c n : ℕ) (g h : Option ℕ) (ws us : List (Option ℕ)) (chosen other : Stmt) → IsFormed d → IsElsewhere d d0 → d0.guard ≡ d.guard → d0.words ≡ d.words → Means d0.values n (λ x E. one_if (not (nat_lt 0 (E c))))
    → EntersArm d0 d1 c → g ≡ d0.guard → ws ≡ d0.words → IsTranslated d1 d2 (λ x. stmt x chosen) (stmt_inputs chosen) (stmt_outputs chosen) → stmt_inputs chosen ≡ []
    → d3 ≡ with_point d2 g ws → EntersArm d3 d4 n → h ≡ d3.guard → us ≡ d3.words → IsTranslated d4 d5 (λ x. stmt x other) (stmt_inputs other) (stmt_outputs other) → stmt_inputs other ≡ []
    → d6 ≡ with_point d5 h us → IsMerged d6 d7 c d2.words d5.words → IsBranched d d7 c chosen (Some other)
both_is d d0 d1 d2 d3 d4 d5 d6 d7 c n g h ws us chosen other formed same guard words negation enter1 g_is ws_is first none1 is3 enter2 h_is us_is second none2 is6 merged =
    let to3 : IsElsewhere d2 d3 = at_point d2 d3 g ws is3 in
    let to6 : IsElsewhere d5 d6 = at_point d5 d6 h us is6 in
    let guard3 : d3.guard ≡ d0.guard = ap (λ (z : Draft). z.guard) is3 ∙ g_is in
    let words3 : d3.words ≡ d0.words = ap (λ (z : Draft). z.words) is3 ∙ ws_is in
    let formed0 : IsFormed d0 = formed_back d d d0 formed formed (record { longer = omega arith; kept = λ v w. refl }) same guard words in
    let longer : Keeps d0.values d3.values = keeps_on (keeps enter1.same.values) (keeps_on first.performs.grows.values (keeps to3.values)) in
    let parts : Arms d0 d1 d2 d4 d5 d7 first.added second.added c (λ x. stmt x chosen) (λ x. stmt x other) =
    record {
      enters = enter1;
      chosen = no_ports none1 first.performs;
      elsewhere = elsewhere_on to3 enter2.same;
      back = enter2.words ∙ words3;
      other = other_arm enter2 guard3 (λ x E f. negation.is x E (fits_before longer f)) (no_ports none2 second.performs) second.initial;
      merges = elsewhere_on to6 merged.same;
      guard = merged.guard ∙ ap (λ (z : Draft). z.guard) is6 ∙ h_is ∙ guard3;
      each = merged.each;
      begins = λ x E r t number. sym (begun_same x d0 d2 number (first.initial ∙ enter1.same.initial));
    } in
    record {
      added = first.added ++ second.added;
      performs = λ w. from_before formed same guard words (arms parts formed0 w);
      initial = merged.same.initial ∙ to6.initial ∙ second.initial ∙ enter2.same.initial ∙ to3.initial ∙ first.initial ∙ enter1.same.initial ∙ same.initial;
      sends = sends_then d d2 d7 (stmt_outputs chosen) (stmt_outputs other)
          (sends_moved d d1 d2 d2 (stmt_outputs chosen) (enter1.same.effects ∙ same.effects) first.sends refl)
          (sends_moved d2 d4 d5 d7 (stmt_outputs other) (enter2.same.effects ∙ to3.effects) second.sends (merged.same.effects ∙ to6.effects));
    }

pub one_is : (d d0 d1 d2 d3 d7 : Draft) (c : ℕ) (g : Option ℕ) (ws us : List (Option ℕ)) (chosen : Stmt) → IsFormed d → IsElsewhere d d0 → d0.guard ≡ d.guard → d0.words ≡ d.words
    → EntersArm d0 d1 c → g ≡ d0.guard → ws ≡ d0.words → IsTranslated d1 d2 (λ x. stmt x chosen) (stmt_inputs chosen) (stmt_outputs chosen) → stmt_inputs chosen ≡ []
    → d3 ≡ with_point d2 g ws → us ≡ d3.words → IsMerged d3 d7 c d2.words us → IsBranched d d7 c chosen None
one_is d d0 d1 d2 d3 d7 c g ws us chosen formed same guard words enter1 g_is ws_is first none1 is3 us_is merged =
    let to3 : IsElsewhere d2 d3 = at_point d2 d3 g ws is3 in
    let guard3 : d3.guard ≡ d0.guard = ap (λ (z : Draft). z.guard) is3 ∙ g_is in
    let words3 : d3.words ≡ d0.words = ap (λ (z : Draft). z.words) is3 ∙ ws_is in
    let formed0 : IsFormed d0 = formed_back d d d0 formed formed (record { longer = omega arith; kept = λ v w. refl }) same guard words in
    let longer : Keeps d0.values d2.values = keeps_on (keeps enter1.same.values) first.performs.grows.values in
    let formed3 : IsFormed d3 = formed_back d0 d2 d3 formed0 first.performs.formed longer to3 guard3 words3 in
    let parts : Arms d0 d1 d2 d3 d3 d7 first.added [] c (λ x. stmt x chosen) (λ x. give tt) =
    record {
      enters = enter1;
      chosen = no_ports none1 first.performs;
      elsewhere = to3;
      back = words3;
      other = no_other c formed3;
      merges = merged.same;
      guard = merged.guard ∙ guard3;
      each = λ n. subst (λ (z : List (Option ℕ)). Merges d7 c n (slice_index_or d2.words n None) (slice_index_or z n None) (assigned_in d7 n)) us_is (merged.each n);
      begins = λ x E r t number. sym (begun_same x d0 d2 number (first.initial ∙ enter1.same.initial));
    } in
    record {
      added = first.added ++ [];
      performs = λ w. from_before formed same guard words (arms parts formed0 w);
      initial = merged.same.initial ∙ to3.initial ∙ first.initial ∙ enter1.same.initial ∙ same.initial;
      sends = sends_moved d d1 d2 d7 (stmt_outputs chosen) (enter1.same.effects ∙ same.effects) first.sends (merged.same.effects ∙ to3.effects);
    }

-- ---- the statement

abbrev pub if_stmt : Expr → Stmt → Option Stmt → Stmt
if_stmt c a None = If c a
if_stmt c a (Some b) = IfElse c a b

abbrev pub HasNoInputs : Stmt → Option Stmt → Type 0
HasNoInputs a None = stmt_inputs a ≡ []
HasNoInputs a (Some b) = (stmt_inputs a ≡ []) × (stmt_inputs b ≡ [])

if_inputs : (c : Expr) (a : Stmt) (o : Option Stmt) → HasNoInputs a o → inputs c ≡ stmt_inputs (if_stmt c a o)
unfolding stmt_inputs
if_inputs c a None h = sym (ap (λ (z : List ℕ). inputs c ++ z) h ∙ append-nil (inputs c))
if_inputs c a (Some b) h = sym (ap (λ (z : List ℕ). (inputs c ++ z) ++ stmt_inputs b) h.0 ∙ ap (λ (z : List ℕ). (inputs c ++ []) ++ z) h.1 ∙ append-nil (inputs c ++ []) ∙ append-nil (inputs c))

if_outputs : (c : Expr) (chosen : Stmt) (other : Option Stmt) → branch_outputs chosen other ≡ stmt_outputs (if_stmt c chosen other)
unfolding stmt_outputs
if_outputs c chosen None = refl
if_outputs c chosen (Some other) = refl

as_stmt : {a e : Draft} {es : List Effect} (c : Expr) (chosen : Stmt) (other : Option Stmt) → Performs a e es Any (λ x. value x c >>= (λ w. branch_run chosen other w x)) (inputs c) → Performs a e es Any (λ x. stmt x (if_stmt c chosen other)) (inputs c)
unfolding stmt
as_stmt c chosen None h = h
as_stmt c chosen (Some other) h = h

pub if_is : {a b e : Draft} {es : List Effect} {v : ℕ} (c : Expr) (chosen : Stmt) (other : Option Stmt) → IsTypedExpr a.arrays true c → HasNoInputs chosen other → AreApart (inputs c) → Translates a b es c ACondition v → IsBranched b e v chosen other → IsTranslated a e (λ x. stmt x (if_stmt c chosen other)) (stmt_inputs (if_stmt c chosen other)) (stmt_outputs (if_stmt c chosen other))
if_is {a = a} {b = b} {e = e} {es = es} c chosen other typed none apart one two =
    let all = as_stmt c chosen other (without_ports (inputs c) (value_then a.arrays true typed one two.performs (subst (λ (q : List ℕ). AreApart q) (sym (append-nil (inputs c))) apart))) in
    record {
      added = es ++ two.added;
      performs = subst (λ (q : List ℕ). Performs a e (es ++ two.added) Any (λ x. stmt x (if_stmt c chosen other)) q) (if_inputs c chosen other none) all;
      initial = two.initial ∙ one.initial;
      sends = subst (λ (q : List ℕ). Sends a e q) (if_outputs c chosen other)
          (sends_then a b e [] (branch_outputs chosen other) (sends_nothing a b es one.grows.effects one.silent) two.sends);
    }

-- ---- the steps of the code

pub begun_formed : {d d1 d2 : Draft} {c n : ℕ} {g : Option ℕ} {ws : List (Option ℕ)} → IsFormed d → Begins d d1 c n g ws → Keeps d1.values d2.values → IsFormed d2 → IsFormed (with_point d2 g ws)
begun_formed {d = d} {d2 = d2} {g = g} {ws = ws} formed b longer f2 =
    formed_back d d2 (with_point d2 g ws) formed f2 (keeps_on (keeps b.same.values) (keeps_on (keeps b.enters.same.values) longer)) (with_point_elsewhere d2 g ws) (b.guard_is ∙ b.guard) (b.words_are ∙ b.words)

pub arms_are : {d d1 d2 d4 d5 d7 : Draft} {c n : ℕ} {g h : Option ℕ} {ws us cs : List (Option ℕ)} (chosen other : Stmt) → IsFormed d → Begins d d1 c n g ws → IsTranslated d1 d2 (λ x. stmt x chosen) (stmt_inputs chosen) (stmt_outputs chosen) → stmt_inputs chosen ≡ [] → Switches d2 d4 n g ws h us → cs ≡ d2.words → IsTranslated d4 d5 (λ x. stmt x other) (stmt_inputs other) (stmt_outputs other) → stmt_inputs other ≡ [] → Ends d5 d7 c h us cs d5.words → IsBranched d d7 c chosen (Some other)
arms_are {d = d} {d1 = d1} {d2 = d2} {d4 = d4} {d5 = d5} {d7 = d7} {c = c} {n = n} {g = g} {h = h} {ws = ws} {us = us} chosen other formed b first none1 s cs_is second none2 e =
    both_is d b.first d1 d2 s.between d4 d5 e.between d7 c n g h ws us chosen other formed b.same b.guard b.words b.negation b.enters b.guard_is b.words_are first none1 s.is s.enters s.guard_is s.words_are second none2 e.is
    (subst (λ (z : List (Option ℕ)). IsMerged e.between d7 c z d5.words) cs_is e.merged)

pub arm_is : {d d1 d2 d7 : Draft} {c n : ℕ} {g : Option ℕ} {ws : List (Option ℕ)} (chosen : Stmt) → IsFormed d → Begins d d1 c n g ws → IsTranslated d1 d2 (λ x. stmt x chosen) (stmt_inputs chosen) (stmt_outputs chosen) → stmt_inputs chosen ≡ [] → Ends d2 d7 c g ws d2.words ws → IsBranched d d7 c chosen None
arm_is {d = d} {d1 = d1} {d2 = d2} {d7 = d7} {c = c} {g = g} {ws = ws} chosen formed b first none1 e =
    one_is d b.first d1 d2 e.between d7 c g ws ws chosen formed b.same b.guard b.words b.enters b.guard_is b.words_are first none1 e.is (sym (ap (λ (z : Draft). z.words) e.is)) e.merged

-- the condition is a constant
pub known_first : {d e : Draft} (c k : ℕ) (chosen : Stmt) (other : Option Stmt) → c < length d.values → value_at d.values c ≡ Const k → nat_lt 0 k ≡ true → stmt_inputs chosen ≡ [] → IsTranslated d e (λ x. stmt x chosen) (stmt_inputs chosen) (stmt_outputs chosen) → IsBranched d e c chosen other
known_first {d = d} {e = e} c k chosen None within is positive none one =
    record { added = one.added; performs = settled c k (λ x. stmt x chosen) (λ x. give tt) (λ x. stmt x chosen) true within is positive (λ x. refl) (no_ports none one.performs); initial = one.initial; sends = one.sends }
known_first {d = d} {e = e} c k chosen (Some other) within is positive none one =
    record { added = one.added; performs = settled c k (λ x. stmt x chosen) (λ x. stmt x other) (λ x. stmt x chosen) true within is positive (λ x. refl) (no_ports none one.performs); initial = one.initial; sends = sends_then d e e (stmt_outputs chosen) (stmt_outputs other) one.sends (sends_idle e (stmt_outputs other)) }

pub known_second : {d e : Draft} (c : ℕ) (chosen other : Stmt) → c < length d.values → value_at d.values c ≡ Const 0 → stmt_inputs other ≡ [] → IsTranslated d e (λ x. stmt x other) (stmt_inputs other) (stmt_outputs other) → IsBranched d e c chosen (Some other)
known_second {d = d} {e = e} c chosen other within is none one =
    record { added = one.added; performs = settled c 0 (λ x. stmt x chosen) (λ x. stmt x other) (λ x. stmt x other) false within is refl (λ x. refl) (no_ports none one.performs); initial = one.initial; sends = sends_then d d e (stmt_outputs chosen) (stmt_outputs other) (sends_idle d (stmt_outputs chosen)) one.sends }

pub known_none : {d : Draft} (c : ℕ) (chosen : Stmt) → IsFormed d → c < length d.values → value_at d.values c ≡ Const 0 → IsBranched d d c chosen None
known_none {d = d} c chosen formed within is =
    record { added = []; performs = settled c 0 (λ x. stmt x chosen) (λ x. give tt) (λ x. give tt) false within is refl (λ x. refl) (does_nothing d Any formed); initial = refl; sends = sends_idle d (stmt_outputs chosen) }
