-- Parts of a run, one after another.
use Rattle.std.proofs.Common.{◌≡◌, ℕ, ◌<◌, Bool, true, false, List, [], ◌++◌, length, Option, Some, None, refl, sym, ap, ◌∙◌, append-nil, subst}
use Rattle.cg_c_check.specs.declared.program.Array.{Array}
use Rattle.cg_c_check.specs.Program.{Expr}
use Rattle.cg_c_values.specs.Values.{Moment, Words, Fits, holds}
use Rattle.cg_c_meaning.specs.Meaning.{State, Context, Run, ◌>>=◌, onward, value}
use Rattle.cg_c_meaning.specs.Typed.{AreApart, inputs}
use Rattle.cg_c_turn.specs.Draft.{Draft, Effect}
use Rattle.cg_c_turn.specs.Leads.{Outcome, Leads}
use Rattle.cg_c_turn.specs.Stands.{Wanted, Agrees, IsEvaluated, IsFormed, IsSound, Matches, AreReady, Runs, Translates}
use Rattle.cg_c_turn.specs.Pieces.{Leaves, Steps, Goes, IsLeft, Yields}
use Rattle.cg_c_turn.proofs.Leading.{leads_weaker, leads_append}
use Rattle.cg_c_turn.proofs.Growing.{runs_back, matches_on, apart_ready, ready_first, sound_on}

-- ---- expressions are parts of a run

pub yields_of : (a b : Draft) (es : List Effect) (e : Expr) (wanted : Wanted) (v : ℕ) → Translates a b es e wanted v → Yields a b es (λ E. Unit {0}) (λ c. value c e) (inputs e) (λ E w. Agrees wanted (E v) w)
yields_of a b es e wanted v t = record {
  leads = λ x E m w runs sound goes.
      leads_weaker a.arrays E es m (IsEvaluated b E m wanted v w) (IsLeft b E m (Agrees wanted (E v) w))
      (λ n h. record { same = h.same; sound = h.sound; agrees = h.agrees })
      (t.leads x E m w runs sound (λ holding.
      let g = (goes holding).1 in
      record { context = g.context; before = g.before; after = g.after; matches = g.matches; ready = g.ready; runs = g.runs }));
}

pub steps_of : (a b : Draft) (es : List Effect) (e : Expr) (wanted : Wanted) (v : ℕ) → Translates a b es e wanted v → Steps a b es
steps_of a b es e wanted v t = record { grows = t.grows; formed = t.formed; words = t.words; initial = t.initial; latest = t.latest; silent = t.silent }

pub translates_by : (a b : Draft) (es : List Effect) (e : Expr) (wanted : Wanted) (v : ℕ) → Steps a b es → v < length b.values → Yields a b es (λ E. Unit {0}) (λ c. value c e) (inputs e) (λ E w. Agrees wanted (E v) w) → Translates a b es e wanted v
translates_by a b es e wanted v p within y = record {
  grows = p.grows;
  formed = p.formed;
  words = p.words;
  initial = p.initial;
  latest = p.latest;
  silent = p.silent;
  within = within;
  leads = λ x E m w runs sound goes.
      leads_weaker a.arrays E es m (IsLeft b E m (Agrees wanted (E v) w)) (IsEvaluated b E m wanted v w)
      (λ n h. record { same = h.same; sound = h.sound; agrees = h.agrees })
      (y.leads x E m w runs sound (λ holding.
      let g = goes holding in
      (tt, record { context = g.context; before = g.before; after = g.after; matches = g.matches; ready = g.ready; runs = g.runs })));
}

-- ---- one after another

-- a run that changes nothing but the streams of these ports
pub record TakesOnly {A : Type 0} (run : Context → Run A) (ports : List ℕ) : Type 0 where
  pub takes : (c : Context) (s t : State) (a : A) → run c s ≡ Some (a, t) → Leaves s t ports

-- what comes of the first part where both have a result
record Halves {A B : Type 0} (first : Option (A × State)) (next : A → Run B) (b : B) (t : State) : Type 0 where
  result : A
  middle : State
  is : first ≡ Some (result, middle)
  goes : next result middle ≡ Some (b, t)

halves : {A B : Type 0} (first : Option (A × State)) (next : A → Run B) (b : B) (t : State) → onward next first ≡ Some (b, t) → Halves first next b t
halves None next b t h = absurd (cc)
halves (Some r) next b t h = record { result = r.0; middle = r.1; is = refl; goes = h }

second_leads : {A B : Type 0} (a b c : Draft) (es fs : List Effect) (H : Words → Type 0) (Q : Words → A → Type 0) (next : A → Context → Run B) (qs : List ℕ) (R : Words → B → Type 0) (x : Moment) (E : Words) (m n : Outcome) (r : A) (s : B)
    → Steps a b es → Yields b c fs (λ F. H F × Q F r) (next r) qs R → Runs c x E → IsLeft b E m (Q E r) n
    → (holds E b.guard ≡ true → H E × Goes b x E m (next r) qs s)
    → Leads a.arrays E fs n (IsLeft c E m (R E s))
second_leads a b c es fs H Q next qs R x E m n r s p y runs h goes =
    subst (λ (z : List Array). Leads z E fs n (IsLeft c E m (R E s))) p.grows.arrays
    (leads_weaker b.arrays E fs n (IsLeft c E n (R E s)) (IsLeft c E m (R E s))
    (λ o l. record { same = l.same ∙ h.same; sound = l.sound; agrees = l.agrees })
    (y.leads x E n s runs h.sound (λ holding.
    let g = goes holding in
    let k = g.1 in
    ((g.0, h.agrees holding), record { context = k.context; before = k.before; after = k.after; matches = subst (λ (z : Outcome). Matches b x E z k.context k.before) (sym h.same) k.matches; ready = k.ready; runs = k.runs }))))

then_holding : {A B : Type 0} (a b c : Draft) (es fs : List Effect) (H : Words → Type 0) (run : Context → Run A) (ps : List ℕ) (Q : Words → A → Type 0) (next : A → Context → Run B) (qs : List ℕ) (R : Words → B → Type 0) (x : Moment) (E : Words) (m : Outcome) (s : B)
    → Steps a b es → Steps b c fs → TakesOnly run ps → AreApart (ps ++ qs)
    → Yields a b es H run ps Q → ((r : A) → Yields b c fs (λ F. H F × Q F r) (next r) qs R) → Runs c x E → IsSound a E m
    → H E → Goes a x E m (λ ctx. run ctx >>= (λ r. next r ctx)) (ps ++ qs) s
    → Leads a.arrays E (es ++ fs) m (IsLeft c E m (R E s))
then_holding a b c es fs H run ps Q next qs R x E m s p q take apart y z runs sound h g =
    let k = halves (run g.context g.before) (λ r. next r g.context) s g.after g.runs in
    let took = take.takes g.context g.before k.middle k.result k.is in
    leads_append a.arrays E es fs m (IsLeft c E m (R E s))
    (leads_weaker a.arrays E es m (IsLeft b E m (Q E k.result)) (λ n. Leads a.arrays E fs n (IsLeft c E m (R E s)))
    (λ n l. second_leads a b c es fs H Q next qs R x E m n k.result s p (z k.result) runs l
    (λ holding. (
      h,
      record {
        context = g.context;
        before = k.middle;
        after = g.after;
        matches = matches_on a b es x E m g.context g.before k.middle ps p took g.matches;
        ready = apart_ready x g.before k.middle ps qs apart took g.ready;
        runs = k.goes;
      },
    )))
    (y.leads x E m k.result (runs_back b c fs x E q.grows runs) sound
    (λ holding. (h, record { context = g.context; before = g.before; after = k.middle; matches = g.matches; ready = ready_first x g.before ps qs g.ready; runs = k.is }))))

then_idle : {A B : Type 0} (a b c : Draft) (es fs : List Effect) (H : Words → Type 0) (run : Context → Run A) (ps : List ℕ) (Q : Words → A → Type 0) (next : A → Context → Run B) (qs : List ℕ) (R : Words → B → Type 0) (x : Moment) (E : Words) (m : Outcome) (r : A) (s : B)
    → Steps a b es → Steps b c fs
    → Yields a b es H run ps Q → ((r : A) → Yields b c fs (λ F. H F × Q F r) (next r) qs R) → Runs c x E → IsSound a E m
    → (holds E a.guard ≡ true → ⊥)
    → Leads a.arrays E (es ++ fs) m (IsLeft c E m (R E s))
then_idle a b c es fs H run ps Q next qs R x E m r s p q y z runs sound idle =
    leads_append a.arrays E es fs m (IsLeft c E m (R E s))
    (leads_weaker a.arrays E es m (IsLeft b E m (Q E r)) (λ n. Leads a.arrays E fs n (IsLeft c E m (R E s)))
    (λ n l. second_leads a b c es fs H Q next qs R x E m n r s p (z r) runs l
    (λ holding. absurd (idle (ap (holds E) (sym p.grows.guard) ∙ holding))))
    (y.leads x E m r (runs_back b c fs x E q.grows runs) sound (λ holding. absurd (idle holding))))

holding_or_not : {X : Type 0} (b : Bool) → (b ≡ true → X) → ((b ≡ true → ⊥) → X) → X
holding_or_not true holding idle = holding refl
holding_or_not false holding idle = idle (λ h. absurd (cc))

-- one part of a run after another
pub yields_then : {A B : Type 0} (a b c : Draft) (es fs : List Effect) (H : Words → Type 0) (run : Context → Run A) (ps : List ℕ) (Q : Words → A → Type 0) (next : A → Context → Run B) (qs : List ℕ) (R : Words → B → Type 0) (any : A)
    → Steps a b es → Steps b c fs → TakesOnly run ps → AreApart (ps ++ qs)
    → Yields a b es H run ps Q → ((r : A) → Yields b c fs (λ F. H F × Q F r) (next r) qs R)
    → Yields a c (es ++ fs) H (λ ctx. run ctx >>= (λ r. next r ctx)) (ps ++ qs) R
yields_then a b c es fs H run ps Q next qs R any p q take apart y z = record {
  leads = λ x E m s runs sound goes.
      holding_or_not (holds E a.guard)
      (λ holding. let g = goes holding in then_holding a b c es fs H run ps Q next qs R x E m s p q take apart y z runs sound g.0 g.1)
      (λ idle. then_idle a b c es fs H run ps Q next qs R x E m any s p q y z runs sound idle);
}

-- ---- parts of a run that add values alone

pub yields_pure : {A : Type 0} (a b : Draft) (H : Words → Type 0) (run : Context → Run A) (ports : List ℕ) (Q : Words → A → Type 0)
    → IsFormed a → Steps a b []
    → ((x : Moment) (E : Words) (m : Outcome) (c : Context) (s t : State) (r : A) → Runs b x E → IsSound a E m → holds E a.guard ≡ true → H E → Matches a x E m c s → AreReady x s ports → run c s ≡ Some (r, t) → Q E r)
    → Yields a b [] H run ports Q
unfolding Leads
yields_pure a b H run ports Q formed p claim = record {
  leads = λ x E m r runs sound goes. record {
    same = refl;
    sound = sound_on a b E m formed p.grows.arrays p.latest (p.grows.effects ∙ append-nil a.effects) p.grows.values sound;
    agrees = λ holding.
        let g = goes (ap (holds E) (sym p.grows.guard) ∙ holding) in
        claim x E m g.1.context g.1.before g.1.after r runs sound (ap (holds E) (sym p.grows.guard) ∙ holding) g.0 g.1.matches g.1.ready g.1.runs;
  };
}

-- ---- weaker claims

pub yields_weaker : {A : Type 0} (a b : Draft) (es : List Effect) (H I : Words → Type 0) (run other : Context → Run A) (ps qs : List ℕ) (Q R : Words → A → Type 0)
    → ((x : Moment) (E : Words) → Fits b.values x E → I E → H E)
    → ((x : Moment) (E : Words) (c : Context) (s t : State) (r : A) → Fits b.values x E → I E → other c s ≡ Some (r, t) → run c s ≡ Some (r, t))
    → ((x : Moment) (s : State) → AreReady x s qs → AreReady x s ps)
    → ((x : Moment) (E : Words) (r : A) → Fits b.values x E → Q E r → R E r)
    → Yields a b es H run ps Q → Yields a b es I other qs R
yields_weaker a b es H I run other ps qs Q R before runs ready after y = record {
  leads = λ x E m r now sound goes.
      leads_weaker a.arrays E es m (IsLeft b E m (Q E r)) (IsLeft b E m (R E r))
      (λ n l. record { same = l.same; sound = l.sound; agrees = λ holding. after x E r now.fits (l.agrees holding) })
      (y.leads x E m r now sound (λ holding.
      let g = goes holding in
      let k = g.1 in
      (before x E now.fits g.0, record { context = k.context; before = k.before; after = k.after; matches = k.matches; ready = ready x k.before k.ready; runs = runs x E k.context k.before k.after r now.fits g.0 k.runs })));
}
