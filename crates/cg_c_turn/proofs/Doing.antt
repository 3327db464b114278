-- Parts of a program one after another.
use Rattle.std.proofs.Common.{◌≡◌, ℕ, ◌+◌, ◌==◌, if◌then◌else◌, Bool, true, false, List, [], ◌∷◌, ◌++◌, Contains, Option, Some, None, refl, sym, ap, ◌∙◌, subst, arith, ne_eqb}
use Rattle.std.proofs.lemmas.Option.{same_Some, none-some}
use Rattle.std.proofs.lemmas.List.Elements.{Contains-append_left, Contains-append_right}
use Rattle.cg_c_check.specs.declared.program.Array.{Array}
use Rattle.cg_c_values.specs.Values.{Moment, Words, holds}
use Rattle.cg_c_meaning.specs.Meaning.{State, Run, Context, onward, ◌>>◌, give}
use Rattle.cg_c_meaning.specs.Typed.{AreApart}
use Rattle.cg_c_meaning.specs.Taken.{times, Takes}
use Rattle.cg_c_turn.specs.Draft.{Draft, Effect}
use Rattle.cg_c_turn.specs.Leads.{Outcome, Leads}
use Rattle.cg_c_turn.specs.Stands.{Grows, Runs, IsFormed, IsSound, Matches, AreReady, Does, IsDone, Performs}
use Rattle.cg_c_turn.proofs.Leading.{leads_weaker, leads_append}
use Rattle.cg_c_turn.proofs.Prefixes.{runs_before, grows_on, grows_same}

abbrev pub Step : Type 0
Step = Run (Unit {0})

-- ---- runs

-- the first part of a run that came to its end, and the rest
pub record Split {A : Type 0} (first : Option (A × State)) (next : A → Step) (end : State) : Type 0 where
  pub given : A
  pub middle : State
  pub before : first ≡ Some (given, middle)
  pub after : next given middle ≡ Some (tt, end)

pub split : {A : Type 0} (first : Option (A × State)) (next : A → Step) (end : State) → onward next first ≡ Some (tt, end) → Split first next end
split None next end h = absurd (none-some _ h)
split (Some r) next end h = record { given = r.0; middle = r.1; before = refl; after = h }

-- ---- streams

-- a port that is not among these has no word taken by them
pub not_taken : (p q : List ℕ) (port : ℕ) → AreApart (p ++ q) → Contains q port → times port p ≡ 0
not_taken [] q port apart there = refl
not_taken (k ∷ ks) q port apart there =
    let other : (k == port) ≡ false = ne_eqb k port (λ same. apart.0 (Contains-append_right ks q k (subst (λ z. Contains q z) (sym same) there))) in
    let later = not_taken ks q port apart.1 there in
    ap (λ (b : Bool). (if b then 1 else 0) + times port ks) other ∙ omega (arith, later)

-- the streams of later ports stand as they stood
pub still_ready : (x : Moment) (before middle : State) (p q : List ℕ) → AreApart (p ++ q) → AreReady x before (p ++ q) → Takes before middle p → AreReady x middle q
still_ready x before middle p q apart ready takes port there =
    takes port ∙ ap (λ n. before.taken port + n) (not_taken p q port apart there) ∙ omega (arith, ready port (Contains-append_right p q port there))

pub ready_first : (x : Moment) (before : State) (p q : List ℕ) → AreReady x before (p ++ q) → AreReady x before p
ready_first x before p q ready port there = ready port (Contains-append_left p q port there)

pub apart_first : (p q : List ℕ) → AreApart (p ++ q) → AreApart p
apart_first [] q apart = tt
apart_first (k ∷ ks) q apart = (λ c. apart.0 (Contains-append_left ks q k c), apart_first ks q apart.1)

pub apart_rest : (p q : List ℕ) → AreApart (p ++ q) → AreApart q
apart_rest [] q apart = apart
apart_rest (k ∷ ks) q apart = apart_rest ks q apart.1

-- ---- a guard holds or not

pub not_both : {A : Type 0} (b : Bool) → b ≡ false → b ≡ true → A
not_both b off on = absurd (cc)

-- ---- parts

abbrev pub KeepsStreams : (Context → Step) → List ℕ → Type 0
KeepsStreams run p = (x : Context) (before after : State) → run x before ≡ Some (tt, after) → Takes before after p

pub same_end : (before end : State) → ◌≡◌ {A = Option (Unit {0} × State)} (Some (tt, before)) (Some (tt, end)) → before ≡ end
same_end before end h = ap (λ (r : Unit {0} × State). r.1) (same_Some (tt, before) (tt, end) h)

-- nothing is done
pub does_nothing : (d : Draft) (given : Words → Type 0) → IsFormed d → Performs d d [] given (λ x. give tt) []
unfolding Leads
does_nothing d given formed =
    record {
      grows = grows_same d;
      formed = formed;
      leads = λ x E m c end r s does.
          record {
            sound = s;
            idle = λ h. refl;
            matches = λ h. let does' = (does h).1 in subst (λ (z : State). Matches d x E m c z) (same_end does'.before end does'.runs) does'.matches;
          };
    }

pub given_more : {a b : Draft} {es : List Effect} {run : Context → Step} {p : List ℕ} (G H : Words → Type 0) → ((E : Words) → H E → G E) → Performs a b es G run p → Performs a b es H run p
given_more G H weaker h = record { grows = h.grows; formed = h.formed; leads = λ x E m c end r s does. h.leads x E m c end r s (λ t. (weaker E (does t).0, (does t).1)) }

-- one part after another
abbrev InTurn : Draft → Draft → Draft → List Effect → List Effect → (Words → Type 0) → (f g : Context → Step) → (p q : List ℕ) → Bool → Moment → Words → Outcome → Context → State → Type 0
InTurn a b c es fs G f g p q on x E m ctx end =
    (holds E a.guard ≡ on) → Leads a.arrays E es m (λ n. Leads a.arrays E fs n (IsDone c x E m ctx end))

pub rest_done : {b c : Draft} {fs : List Effect} {G : Words → Type 0} {g : Context → Step} {q : List ℕ} (x : Moment) (E : Words) (m n : Outcome) (ctx : Context) (end : State) → Performs b c fs G g q → Runs c x E → IsSound b E n → (holds E b.guard ≡ true → G E × Does b x E n ctx (g ctx) q end) → (holds E b.guard ≡ false → n ≡ m) → Leads b.arrays E fs n (IsDone c x E m ctx end)
rest_done {b = b} {c = c} {fs = fs} x E m n ctx end part r sound does idle =
    leads_weaker b.arrays E fs n (IsDone c x E n ctx end) (IsDone c x E m ctx end)
    (λ o (done : IsDone c x E n ctx end o). record { sound = done.sound; idle = λ h. done.idle h ∙ idle (ap (λ z. holds E z) (sym part.grows.guard) ∙ h); matches = done.matches })
    (part.leads x E n ctx end r sound does)

pub moved_arrays : (A B : List Array) (E : Words) (fs : List Effect) (n : Outcome) (Q : Outcome → Type 0) → B ≡ A → Leads B E fs n Q → Leads A E fs n Q
moved_arrays A B E fs n Q same h = subst (λ (z : List Array). Leads z E fs n Q) same h

pub at_guard : {a b : Draft} {es : List Effect} (E : Words) (on : Bool) → Grows a b es → holds E b.guard ≡ on → holds E a.guard ≡ on
at_guard E on grows h = ap (λ z. holds E z) (sym grows.guard) ∙ h

in_turn_on : {a b c : Draft} {es fs : List Effect} {f g : Context → Step} {p q : List ℕ} (G : Words → Type 0) → Performs a b es G f p → Performs b c fs G g q → AreApart (p ++ q) → KeepsStreams f p → (x : Moment) (E : Words) (m : Outcome) (ctx : Context) (end : State) → Runs c x E → IsSound a E m → G E → Does a x E m ctx (f ctx >> g ctx) (p ++ q) end → InTurn a b c es fs G f g p q true x E m ctx end
in_turn_on {a = a} {b = b} {c = c} {es = es} {fs = fs} {f = f} {g = g} {p = p} {q = q} G one two apart keeps x E m ctx end r s known does on =
    let two_parts = split (f ctx does.before) (λ _. g ctx) end does.runs in
    let middle = two_parts.middle in
    leads_weaker a.arrays E es m (IsDone b x E m ctx middle) (λ n. Leads a.arrays E fs n (IsDone c x E m ctx end))
    (λ n (done : IsDone b x E m ctx middle n).
    moved_arrays a.arrays b.arrays E fs n (IsDone c x E m ctx end) one.grows.arrays
    (rest_done x E m n ctx end two r done.sound
    (λ h. (known, record { before = middle; matches = done.matches h; ready = still_ready x does.before middle p q apart does.ready (keeps ctx does.before middle two_parts.before); runs = two_parts.after }))
    done.idle))
    (one.leads x E m ctx middle (runs_before two.grows r) s
    (λ h. (known, record { before = does.before; matches = does.matches; ready = ready_first x does.before p q does.ready; runs = two_parts.before })))

in_turn_off : {a b c : Draft} {es fs : List Effect} {f g : Context → Step} {p q : List ℕ} (G : Words → Type 0) → Performs a b es G f p → Performs b c fs G g q → (x : Moment) (E : Words) (m : Outcome) (ctx : Context) (end : State) → Runs c x E → IsSound a E m → InTurn a b c es fs G f g p q false x E m ctx end
in_turn_off {a = a} {b = b} {c = c} {es = es} {fs = fs} G one two x E m ctx end r s off =
    leads_weaker a.arrays E es m (IsDone b x E m ctx end) (λ n. Leads a.arrays E fs n (IsDone c x E m ctx end))
    (λ n (done : IsDone b x E m ctx end n).
    moved_arrays a.arrays b.arrays E fs n (IsDone c x E m ctx end) one.grows.arrays
    (rest_done x E m n ctx end two r done.sound (λ h. not_both (holds E a.guard) off (at_guard E true one.grows h)) done.idle))
    (one.leads x E m ctx end (runs_before two.grows r) s (λ h. not_both (holds E a.guard) off h))

pub by_guard : {A : Type 0} (b : Bool) → (b ≡ true → A) → (b ≡ false → A) → A
by_guard true on off = on refl
by_guard false on off = off refl

pub in_turn : {a b c : Draft} {es fs : List Effect} {f g : Context → Step} {p q : List ℕ} (G : Words → Type 0) → Performs a b es G f p → Performs b c fs G g q → AreApart (p ++ q) → KeepsStreams f p → Performs a c (es ++ fs) G (λ x. f x >> g x) (p ++ q)
in_turn {a = a} {b = b} {c = c} {es = es} {fs = fs} {f = f} {g = g} {p = p} {q = q} G one two apart keeps =
    record {
      grows = grows_on one.grows two.grows;
      formed = two.formed;
      leads = λ x E m ctx end r s does.
          leads_append a.arrays E es fs m (IsDone c x E m ctx end)
          (by_guard (holds E a.guard)
          (λ on. in_turn_on G one two apart keeps x E m ctx end r s (does on).0 (does on).1 on)
          (λ off. in_turn_off {f = f} {g = g} {p = p} {q = q} G one two x E m ctx end r s off));
    }
