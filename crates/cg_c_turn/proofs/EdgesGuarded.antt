-- Parts that are done under a condition, and in one turn.
use Rattle.std.proofs.Common.{◌≡◌, ℕ, ◌<◌, ◌==◌, nat_lt, Bool, true, false, List, [], ◌∷◌, ◌++◌, length, Option, None, zero, suc, slice_index_or, refl, sym, ap, ◌∙◌, subst, arith}
use Rattle.std.proofs.lemmas.Bool.{lt-ltb}
use Rattle.cg_word.specs.Word.{one_if, apply_of}
use Rattle.cg_word.specs.declared.op.Op.TheVariants as ops
use Rattle.cg_c_check.specs.declared.program.Stmt.{Stmt as MadeStmt}
use Rattle.cg_c_check.specs.Written.{stmts_of}
use Rattle.cg_c_check.specs.Rules.{is_true}
use Rattle.cg_c_values.specs.declared.value.Value.{Value}
use Rattle.cg_c_values.specs.declared.value.Value.TheVariants.{Const}
use Rattle.cg_c_values.specs.Values.{Moment, Words, Extends, IsBelow, Keeps, Means, value_at}
use Rattle.cg_c_values.proofs.Known.{keeps}
use Rattle.cg_c_meaning.specs.Meaning.{Context, give, stmts}
use Rattle.cg_c_meaning.specs.Turns.{when}
use Rattle.cg_c_meaning.specs.Typed.{stmts_outputs}
use Rattle.cg_c_turn.specs.Draft.{Draft, Effect, assigned_in}
use Rattle.cg_c_turn.specs.Stands.{ACondition, Agrees, Runs, IsFormed, Performs, Any, Sends, begun}
use Rattle.cg_c_turn.specs.Conditions.{IsElsewhere}
use Rattle.cg_c_turn.specs.Branched.{Begins, Ends}
use Rattle.cg_c_turn.specs.Translated.{IsTranslated}
use Rattle.cg_c_turn.specs.Nested.{IsEdge, IsGuarded}
use Rattle.cg_c_turn.specs.Words.{Merges, with_values}
use Rattle.cg_c_turn.proofs.Prefixes.{begun_same, extends_same, keeps_on, fits_before}
use Rattle.cg_c_turn.proofs.Doing.{Step, does_nothing}
use Rattle.cg_c_turn.proofs.Growing.{below_on, formed_with}
use Rattle.cg_c_turn.proofs.Arms.{Arms, arms, elsewhere_on, formed_elsewhere, no_other}
use Rattle.cg_c_turn.proofs.Branching.{from_before, settled, at_point, formed_back, no_ports}
use Rattle.cg_c_turn.proofs.Sent.{sends_idle, sends_moved}

-- ---- what is known of the words

-- what follows from what is known of words that fit
pub known_where : {a b : Draft} {es : List Effect} {run : Context → Step} {p : List ℕ} (G H : Words → Type 0) → ((x : Moment) (E : Words) → Runs b x E → H E → G E) → Performs a b es G run p → Performs a b es H run p
known_where G H weaker h = record { grows = h.grows; formed = h.formed; leads = λ x E m c end r s does. h.leads x E m c end r s (λ t. (weaker x E r (does t).0, (does t).1)) }

-- ---- under a condition

abbrev pub Nothing : Context → Step
Nothing x = give tt

-- behind a part that isn't done words are as they were
abbrev pub BeginsAlike : Draft → Draft → ℕ → Type 0
BeginsAlike d d2 c = (x : Moment) (E : Words) → Runs d2 x E → nat_lt 0 (E c) ≡ false → (number : ℕ) → begun x d2 number ≡ begun x d number

pub arm_guards : {d d1 d2 d7 : Draft} {c n : ℕ} {g : Option ℕ} {ws : List (Option ℕ)} {run : Context → Step} {es : List Effect} {outs : List ℕ} → IsFormed d → Begins d d1 c n g ws → Performs d1 d2 es Any run [] → Sends d1 d2 outs → BeginsAlike d d2 c → Ends d2 d7 c g ws d2.words ws → IsGuarded d d7 c run outs
arm_guards {d = d} {d1 = d1} {d2 = d2} {d7 = d7} {c = c} {g = g} {ws = ws} {run = run} {es = es} {outs = outs} formed b first sent alike e =
    let d0 = b.first in
    let d3 = e.between in
    let to3 : IsElsewhere d2 d3 = at_point d2 d3 g ws e.is in
    let guard3 : d3.guard ≡ d0.guard = ap (λ (z : Draft). z.guard) e.is ∙ b.guard_is in
    let words3 : d3.words ≡ d0.words = ap (λ (z : Draft). z.words) e.is ∙ b.words_are in
    let us_is : ws ≡ d3.words = sym (ap (λ (z : Draft). z.words) e.is) in
    let formed0 : IsFormed d0 = formed_back d d d0 formed formed (keeps (extends_same d.values)) b.same b.guard b.words in
    let longer : Keeps d0.values d2.values = keeps_on (keeps b.enters.same.values) first.grows.values in
    let formed3 : IsFormed d3 = formed_back d0 d2 d3 formed0 first.formed longer to3 guard3 words3 in
    let parts : Arms d0 d1 d2 d3 d3 d7 es [] c run Nothing =
    record {
      enters = b.enters;
      chosen = first;
      elsewhere = to3;
      back = words3;
      other = no_other c formed3;
      merges = e.merged.same;
      guard = e.merged.guard ∙ guard3;
      each = λ n. subst (λ (z : List (Option ℕ)). Merges d7 c n (slice_index_or d2.words n None) (slice_index_or z n None) (assigned_in d7 n)) us_is (e.merged.each n);
      begins = λ x E r t number. alike x E r t number ∙ begun_same x d d0 number b.same.initial;
    } in
    record {
      added = es ++ [];
      performs = λ w. from_before formed b.same b.guard b.words (arms parts formed0 w);
      sends = sends_moved d d1 d2 d7 outs (b.enters.same.effects ∙ b.same.effects) sent (e.merged.same.effects ∙ to3.effects);
    }

-- a part that leaves what words have when the first turn begins
pub same_begins : {d d1 d2 : Draft} {c n : ℕ} {g : Option ℕ} {ws : List (Option ℕ)} → Begins d d1 c n g ws → d2.initial ≡ d1.initial → BeginsAlike d d2 c
same_begins {d = d} {d2 = d2} b initial x E r t number = sym (begun_same x d d2 number (initial ∙ b.enters.same.initial ∙ b.same.initial))

-- the condition is a constant
pub always_guards : {d e : Draft} {c k : ℕ} {run : Context → Step} {p outs : List ℕ} → c < length d.values → value_at d.values c ≡ Const k → (k ≡ 0 → ⊥) → p ≡ [] → IsTranslated d e run p outs → IsGuarded d e c run outs
always_guards {c = c} {k = k} {run = run} within is other none one =
    record { added = one.added; performs = settled c k run Nothing run true within is (positive k other) (λ x. refl) (no_ports none one.performs); sends = one.sends }
  where
    positive : (k : ℕ) → (k ≡ 0 → ⊥) → nat_lt 0 k ≡ true
    positive zero other = absurd (other refl)
    positive (suc k) other = lt-ltb 0 (suc k) (omega arith)

pub never_guards : {d : Draft} {c : ℕ} (run : Context → Step) (outs : List ℕ) → IsFormed d → c < length d.values → value_at d.values c ≡ Const 0 → IsGuarded d d c run outs
never_guards {d = d} {c = c} run outs formed within is =
    record { added = []; performs = settled c 0 run Nothing Nothing false within is refl (λ x. refl) (does_nothing d Any formed); sends = sends_idle d outs }

-- ---- in one turn

as_when : {a b : Draft} {es : List Effect} {G : Words → Type 0} (run : Context → Step) (holds : Bool) → Performs a b es G (λ x. when (is_true (one_if holds)) (run x)) [] → Performs a b es G (λ x. when holds (run x)) []
as_when run true h = h
as_when run false h = h

-- what is done under the condition that the index is `at`, from a draft with fewer values on
pub edge_is : {d d1 e : Draft} {index c at : ℕ} {run : Context → Step} {outs : List ℕ} → IsFormed d → d1 ≡ with_values d d1 → Extends d.values d1.values → Means d1.values c (λ x E. one_if (E index == at)) → IsGuarded d1 e c run outs → IsEdge d e index at run outs
edge_is {d = d} {d1 = d1} {e = e} {index = index} {c = c} {at = at} {run = run} {outs = outs} formed same kept means one =
    record {
      added = one.added;
      performs = λ t. as_when run (t == at)
          (from_before formed elsewhere (ap (λ (z : Draft). z.guard) same) (ap (λ (z : Draft). z.words) same)
          (known_where (λ E. Agrees ACondition (E c) (one_if (t == at))) (λ E. E index ≡ t)
          (λ x E r is. ap (λ z. nat_lt 0 z) (means.is x E (fits_before (one.performs 0).grows.values r.fits) ∙ ap (λ z. one_if (z == at)) is))
          (one.performs (one_if (t == at)))));
      sends = sends_moved d d1 e e outs elsewhere.effects one.sends refl;
    }
  where
    elsewhere : IsElsewhere d d1
    elsewhere = record { arrays = ap (λ (z : Draft). z.arrays) same; counters = ap (λ (z : Draft). z.counters) same; values = kept; effects = ap (λ (z : Draft). z.effects) same; initial = ap (λ (z : Draft). z.initial) same; latest = ap (λ (z : Draft). z.latest) same }

-- there is nothing to do
edge_none : (d : Draft) (index at : ℕ) (outs : List ℕ) → IsFormed d → IsEdge d d index at Nothing outs
edge_none d index at outs formed =
    record { added = []; performs = λ t. idle t (t == at); sends = sends_idle d outs }
  where
    idle : (t : ℕ) (holds : Bool) → Performs d d [] (λ E. E index ≡ t) (λ x. when holds (Nothing x)) []
    idle t true = does_nothing d (λ E. E index ≡ t) formed
    idle t false = does_nothing d (λ E. E index ≡ t) formed

pub none_left : {d : Draft} {index at : ℕ} (all : List MadeStmt) → length all ≡ 0 → IsFormed d → IsEdge d d index at (λ x. stmts x (stmts_of all)) (stmts_outputs (stmts_of all))
unfolding stmts
none_left {d = d} {index = index} {at = at} [] none formed = edge_none d index at (stmts_outputs (stmts_of [])) formed
none_left (s ∷ ss) none formed = absurd (omega (arith, none))

-- ---- the steps of the code

-- the value of a comparison with a constant
pub equal_is : (b d : List Value) (index word c at : ℕ) → Means b word (λ x E. at) → Extends b d → Means d c (λ x E. apply_of ops.Eq (E index) (E word) 0) → Means d c (λ x E. one_if (E index == at))
unfolding apply_of
equal_is b d index word c at constant kept equal =
    record { within = equal.within; is = λ x E f. equal.is x E f ∙ ap (λ z. one_if (E index == z)) (constant.is x E (fits_before (keeps kept) f)) }

pub formed_more : {d e : Draft} → IsFormed d → e ≡ with_values d e → Extends d.values e.values → IsFormed e
formed_more {d = d} {e = e} formed same kept = subst (λ (z : Draft). IsFormed z) (sym same) (formed_with d e.values d.guard formed kept (below_on (length d.values) (length e.values) d.guard kept.longer formed.guard))

pub arm_formed : {d d1 : Draft} {c n : ℕ} {g : Option ℕ} {ws : List (Option ℕ)} → IsFormed d → Begins d d1 c n g ws → IsFormed d1
arm_formed {d = d} {d1 = d1} formed b =
    let same : IsElsewhere d d1 = elsewhere_on b.same b.enters.same in
    formed_elsewhere d d1 formed same b.enters.below
    (λ n. subst (λ (z : List (Option ℕ)). IsBelow (length d1.values) (slice_index_or z n None)) (sym (b.enters.words ∙ b.words)) (below_on (length d.values) (length d1.values) (assigned_in d n) same.values.longer (formed.words n)))
