-- Loops in one another, in a turn.
use Rattle.std.proofs.Common.{◌≡◌, ℕ, zero, suc, ◌+◌, ◌-◌, ◌*◌, ◌/◌, ◌%◌, ◌<◌, ◌≤◌, ◌==◌, nat_lt, Bool, true, false, List, [], ◌∷◌, ◌++◌, length, Contains, Some, slice_get, slice_index, refl, sym, ap, ap₂, ◌∙◌, subst, arith, append-nil, add-zero, mul-pos, suc-mul, take, inl, inr, eq-eqb, ne_eqb, eqb→eq, true≢false, ltb-true, length-append, ⊎_elim}
use Rattle.std.proofs.lemmas.Bool.{and_parts, cases_lt}
use Rattle.std.proofs.Math.Seq.{take-append_seam}
use Rattle.std.proofs.lemmas.List.Elements.{Contains-append_cases}
use Rattle.std.proofs.lemmas.Float.{T_from_true}
use Rattle.std.proofs.Math.Arith.{mod-mul}
use Rattle.std.proofs.Math.Nat.{div-one, mod-eq_of_lt, mod-lt}
use Rattle.std.proofs.lemmas.Nat.{div-mul-add, mod-mul-add}
use Rattle.cg_c_check.specs.declared.program.Array.{Array}
use Rattle.cg_c_check.specs.declared.program.Range.{Range}
use Rattle.cg_c_check.specs.Program.{Level, Stmts}
use Rattle.cg_c_values.specs.declared.value.Value.{Value}
use Rattle.cg_c_values.specs.Values.{Moment, Words, Keeps, IsLoad, holds}
use Rattle.cg_c_values.proofs.Known.{fits_kept}
use Rattle.cg_c_meaning.specs.Meaning.{State, Context, inside, counter, stmts, ◌>>◌}
use Rattle.cg_c_meaning.specs.Turns.{all_turn, turn, turns_of, when}
use Rattle.cg_c_meaning.specs.Typed.{AreApart, AreTypedStmts, nest_outputs, stmts_inputs, stmts_outputs}
use Rattle.cg_c_turn.specs.Draft.{Draft, Effect, assigned_in, latest_in}
use Rattle.cg_c_turn.specs.Leads.{Outcome}
use Rattle.cg_c_turn.specs.Nested.{AddsNoLoad, AreQuiet, EntersLoop, IsEdge, IsIndex, IsNested, IsOfTurn}
use Rattle.cg_c_turn.specs.Translated.{IsTranslated}
use Rattle.cg_c_turn.specs.Stands.{Any, Grows, IsDone, IsFormed, IsSound, Matches, Performs, Runs, word_or}
use Rattle.cg_c_turn.proofs.EdgesGuarded.{known_where}
use Rattle.cg_c_turn.proofs.Leading.{leads_weaker}
use Rattle.cg_c_turn.proofs.Growing.{below_on, contains_one, sound_on, stored_on}
use Rattle.cg_c_turn.proofs.History.{history_with}
use Rattle.cg_c_turn.proofs.Prefixes.{keeps_on}
use Rattle.cg_c_meaning.specs.Taken.{Takes}
use Rattle.cg_c_meaning.proofs.Taking.{blocks_take}
use Rattle.cg_c_turn.proofs.Doing.{Step, in_turn, moved_arrays, same_end, split}
use Rattle.cg_c_turn.proofs.Sent.{sends_moved, sends_then}

-- ---- the counters around

one_get : (E : Words) (v w depth : ℕ) → E v ≡ w → word_or E 0 (slice_get (v ∷ []) depth) ≡ slice_index (w ∷ []) depth
one_get E v w zero h = h
one_get E v w (suc depth) h = refl

pushed_counter : (E : Words) (vs ws : List ℕ) (v w : ℕ) → length ws ≡ length vs → E v ≡ w → ((depth : ℕ) → word_or E 0 (slice_get vs depth) ≡ slice_index ws depth) → (depth : ℕ) → word_or E 0 (slice_get (vs ++ v ∷ []) depth) ≡ slice_index (ws ++ w ∷ []) depth
pushed_counter E [] [] v w long h each depth = one_get E v w depth h
pushed_counter E (x ∷ vs) [] v w long h each depth = absurd (omega (arith, long))
pushed_counter E [] (y ∷ ws) v w long h each depth = absurd (omega (arith, long))
pushed_counter E (x ∷ vs) (y ∷ ws) v w long h each zero = each zero
pushed_counter E (x ∷ vs) (y ∷ ws) v w long h each (suc depth) = pushed_counter E vs ws v w (omega (arith, long)) h (λ k. each (suc k)) depth

-- the draft with other counters
abbrev pub with_counters : Draft → List ℕ → Draft
with_counters d counters = record d { counters = counters }

enters_matches : {a b : Draft} {r : Range} {span index : ℕ} (l : EntersLoop a b r span index) (x : Moment) (E : Words) (m : Outcome) (c : Context) (s : State) (w : ℕ) → E l.counter ≡ w → Matches a x E m c s → Matches b x E m (inside c w) s
enters_matches {a = a} {b = b} l x E m c s w is h =
    subst (λ (z : Draft). Matches z x E m (inside c w) s) (sym l.rest)
    (record {
      arrays = h.arrays;
      streams = h.streams;
      memory = h.memory;
      outputs = h.outputs;
      words = h.words;
      counters = pushed_counter E a.counters c.counters l.counter w h.loops is h.counters;
      loops = length-append c.counters (w ∷ []) ∙ ap (λ n. n + 1) h.loops ∙ sym (length-append a.counters (l.counter ∷ []));
    })

enters_sound : {a b : Draft} {r : Range} {span index : ℕ} (l : EntersLoop a b r span index) (E : Words) (m : Outcome) → IsFormed a → IsSound a E m → IsSound b E m
enters_sound {a = a} {b = b} l E m formed sound =
    sound_on a b E m formed (ap (λ (z : Draft). z.arrays) l.rest) (ap (λ (z : Draft). z.latest) l.rest) (ap (λ (z : Draft). z.effects) l.rest) l.adds.keeps sound

pub entered_formed : {a b : Draft} {r : Range} {span index : ℕ} → EntersLoop a b r span index → IsFormed a → IsFormed b
entered_formed {a = a} {b = b} l f =
    subst IsFormed (sym l.rest)
    (record {
      arranged = f.arranged;
      counters = below;
      guard = below_on (length a.values) (length b.values) a.guard l.adds.keeps.longer f.guard;
      words = λ n. below_on (length a.values) (length b.values) (assigned_in a n) l.adds.keeps.longer (f.words n);
      latest = f.latest;
      stored = λ n. stored_on (length a.values) (length b.values) (latest_in a n).stored l.adds.keeps.longer (f.stored n);
      loads = λ guard array address value place h.
          let o = f.loads guard array address value place h in
          record { version = o.version; within = omega (arith, o.within, l.adds.keeps.longer); is = l.adds.keeps.kept value o.within ∙ o.is; so_far = o.so_far };
      history = history_with a (record a { values = b.values; counters = a.counters ++ l.counter ∷ [] }) refl refl l.adds.keeps l.adds.none f.history;
    })
  where
    below : (v : ℕ) → Contains (a.counters ++ l.counter ∷ []) v → v < length b.values
    below v h =
        elim (Contains-append_cases a.counters (l.counter ∷ []) v h) [
          | inl old ↦ omega (arith, f.counters v old, l.adds.keeps.longer)
          | inr new ↦ subst (λ z. z < length b.values) (contains_one l.counter v new) l.counter_is.within
        ]

-- behind the loop
left_grows : {a b d : Draft} {es : List Effect} {r : Range} {span index : ℕ} → EntersLoop a b r span index → Grows b d es → Grows a (with_counters d a.counters) es
left_grows {a = a} {b = b} {d = d} {es = es} l g =
    record {
      arrays = g.arrays ∙ ap (λ (z : Draft). z.arrays) l.rest;
      counters = refl;
      guard = g.guard ∙ ap (λ (z : Draft). z.guard) l.rest;
      values = keeps_on l.adds.keeps g.values;
      effects = g.effects ∙ ap (λ (z : Draft). z.effects ++ es) l.rest;
      initial = λ n t.
          g.initial n (t.0, omega (arith, t.1, l.adds.keeps.longer), l.adds.keeps.kept t.0 t.1 ∙ t.2)
          ∙ ap (λ (z : Draft). slice_index z.initial n) l.rest;
    }

pub with_counters_formed : (a d : Draft) → IsFormed a → IsFormed d → Keeps a.values d.values → IsFormed (with_counters d a.counters)
with_counters_formed a d fa fd values =
    record {
      arranged = fd.arranged;
      counters = λ v h. omega (arith, fa.counters v h, values.longer);
      guard = fd.guard;
      words = fd.words;
      latest = fd.latest;
      stored = fd.stored;
      loads = λ guard array address value place h. let o = fd.loads guard array address value place h in record { version = o.version; within = o.within; is = o.is; so_far = o.so_far };
      history = record { counted = fd.history.counted; numbered = fd.history.numbered; loaded = fd.history.loaded; usable = fd.history.usable };
    }

-- these are the words of the counters around
abbrev AreAround : Draft → Words → Context → Type 0
AreAround d E c = ((depth : ℕ) → word_or E 0 (slice_get d.counters depth) ≡ slice_index c.counters depth) × (length c.counters ≡ length d.counters)

left_done : (a d : Draft) (x : Moment) (E : Words) (m n : Outcome) (c : Context) (w : ℕ) (end : State) → d.guard ≡ a.guard → (holds E a.guard ≡ true → AreAround a E c) → IsDone d x E m (inside c w) end n → IsDone (with_counters d a.counters) x E m c end n
left_done a d x E m n c w end guard begins h =
    record {
      sound = record { room = h.sound.room; tables = h.sound.tables; loaded = h.sound.loaded; stored = h.sound.stored };
      idle = h.idle;
      matches = λ on.
          let inner = h.matches on in
          let outer = begins (ap (λ z. holds E z) (sym guard) ∙ on) in
          record {
            arrays = inner.arrays;
            streams = inner.streams;
            memory = inner.memory;
            outputs = inner.outputs;
            words = inner.words;
            counters = outer.0;
            loops = outer.1;
          };
    }

-- what is done in the loop, whose counter has the word w
pub in_loop : {a b d : Draft} {es : List Effect} {r : Range} {span index : ℕ} {run : Context → Step} {p : List ℕ} (G H : Words → Type 0) (w : ℕ) (l : EntersLoop a b r span index) → IsFormed a → Performs b d es G run p
    → ((x : Moment) (E : Words) → Runs d x E → H E → G E × (E l.counter ≡ w)) → Performs a (with_counters d a.counters) es H (λ c. run (inside c w)) p
in_loop {a = a} {b = b} {d = d} {es = es} {run = run} {p = p} G H w l formed h known =
    record {
      grows = left_grows l h.grows;
      formed = with_counters_formed a d formed h.formed (keeps_on l.adds.keeps h.grows.values);
      leads = λ x E m c end r sound does.
          let runs : Runs d x E = record { fits = record { word = r.fits.word; is = r.fits.is }; first = r.first } in
          moved_arrays a.arrays b.arrays E es m (IsDone (with_counters d a.counters) x E m c end) (ap (λ (z : Draft). z.arrays) l.rest)
          (leads_weaker b.arrays E es m (IsDone d x E m (inside c w) end) (IsDone (with_counters d a.counters) x E m c end)
          (λ n done. left_done a d x E m n c w end (h.grows.guard ∙ ap (λ (z : Draft). z.guard) l.rest) (λ on. let k = does on in (k.1.matches.counters, k.1.matches.loops)) done)
          (h.leads x E m (inside c w) end runs (enters_sound l E m formed sound)
          (λ on.
          let run_of = does (ap (λ z. holds E z) (sym (ap (λ (z : Draft). z.guard) l.rest)) ∙ on) in
          let k = known x E runs run_of.0 in
          (k.0, record { before = run_of.1.before; matches = enters_matches l x E m c run_of.1.before w k.1 run_of.1.matches; ready = run_of.1.ready; runs = run_of.1.runs }))));
    }

-- ---- the words of the turn

pub adds_then : (a b c : List Value) → AddsNoLoad a b → AddsNoLoad b c → AddsNoLoad a c
adds_then a b c h k =
    record {
      keeps = keeps_on h.keeps k.keeps;
      none = λ v from below load.
          ⊎_elim
          (λ (old : v < length b). h.none v from old (subst IsLoad (k.keeps.kept v old) load))
          (λ (new : length b ≤ v). k.none v new below load)
          (cases_lt v (length b));
    }

pub of_turn_later : (a b : List Value) (v : ℕ) (word : ℕ → ℕ) → Keeps a b → IsOfTurn a v word → IsOfTurn b v word
of_turn_later a b v word values h = record { within = omega (arith, h.within, values.longer); is = λ x E f. h.is x E (fits_kept a b x E values f) }

digit_after : (x trips below : ℕ) → 0 < trips → 0 < below → x / 1 % below ≡ x % (trips * below) % below
digit_after x trips below some few = ap (λ z. z % below) (div-one x) ∙ sym (ap (λ z. z % below) (mod-mul x some few) ∙ mod-mul-add (x / below % trips) below (x % below) (mod-lt x few))

iteration_after : (x trips below : ℕ) → 0 < trips → 0 < below → x / below % trips ≡ x % (trips * below) / below
iteration_after x trips below some few = sym (ap (λ z. z / below) (mod-mul x some few) ∙ div-mul-add (x / below % trips) below (x % below) (mod-lt x few))

-- ---- the whole

take_none : (arrays : List Array) (ss : Stmts) (c : Context) (holding : Bool) (before after : State) → AreTypedStmts arrays true ss → stmts_inputs ss ≡ [] → when holding (stmts c ss) before ≡ Some (tt, after) → Takes before after []
take_none arrays ss c true before after typed none h = subst (λ z. Takes before after z) none (blocks_take arrays true c ss before after tt typed h)
take_none arrays ss c false before after typed none h = λ port. ap (λ (z : State). z.taken port) (sym (same_end before after h)) ∙ sym (add-zero (before.taken port))

-- loops take the inputs of what is in them
pub turn_takes : (arrays : List Array) (levels : List Level) (body : Stmts) (c : Context) (t : ℕ) (before after : State) → AreQuiet arrays levels → AreTypedStmts arrays true body → turn c levels body t before ≡ Some (tt, after) → Takes before after (stmts_inputs body)
unfolding turn
turn_takes arrays [] body c t before after quiet typed h = blocks_take arrays true c body before after tt typed h
turn_takes arrays (l ∷ ls) body c t before after quiet typed h =
    let one = split (when (t == 0) (stmts c l.before) before) (λ _. turn (inside c (counter l.range (t / turns_of ls))) ls body (t % turns_of ls) >> when (t + 1 == turns_of (l ∷ ls)) (stmts c l.after)) after h in
    let two = split (turn (inside c (counter l.range (t / turns_of ls))) ls body (t % turns_of ls) one.middle) (λ _. when (t + 1 == turns_of (l ∷ ls)) (stmts c l.after)) after one.after in
    let first = take_none arrays l.before c (t == 0) before one.middle quiet.0 quiet.2 one.before in
    let inner = turn_takes arrays ls body (inside c (counter l.range (t / turns_of ls))) (t % turns_of ls) one.middle two.middle quiet.4 typed two.before in
    let last = take_none arrays l.after c (t + 1 == turns_of (l ∷ ls)) two.middle after quiet.1 quiet.3 two.after in
    λ port. last port ∙ omega (arith, first port, inner port)

edge_at : (t span : ℕ) → 0 < span → (t == span - 1) ≡ (t + 1 == span)
edge_at t span some = by (t == span - 1) refl
  where
    by : (q : Bool) → (t == span - 1) ≡ q → (t == span - 1) ≡ (t + 1 == span)
    by true e = e ∙ sym (eq-eqb (t + 1) span (let h : t ≡ span - 1 = eqb→eq t (span - 1) (T_from_true (t == span - 1) e) in omega (arith, h, some)))
    by false e = e ∙ sym (ne_eqb (t + 1) span (λ same. let h : t ≡ span - 1 = omega (arith, same) in true≢false (sym (eq-eqb t (span - 1) h) ∙ e)))

-- the number of the turn in an iteration, and the counter
loop_words : (a : Draft) {b c d : Draft} {fs : List Effect} {index inner : ℕ} (l : Level) (ls : List Level) (t : ℕ) → IsIndex a.values index (turns_of (l ∷ ls)) → 0 < l.range.trips → 0 < turns_of ls → Keeps a.values b.values → (enters : EntersLoop b c l.range (turns_of ls) inner) → Grows c d fs → t < turns_of (l ∷ ls)
    → (x : Moment) (E : Words) → Runs d x E → E index ≡ t → (E inner ≡ t % turns_of ls) × (E enters.counter ≡ counter l.range (t / turns_of ls))
loop_words a {b = b} {c = c} {d = d} {index = index} l ls t at some few values enters grows lt x E r known =
    let fits_c = fits_kept c.values d.values x E grows.values r.fits in
    let fits_a = fits_kept a.values c.values x E (keeps_on values enters.adds.keeps) fits_c in
    let turn_is : x.turn % turns_of (l ∷ ls) ≡ t = sym (at.is x E fits_a (subst (λ z. z < turns_of (l ∷ ls)) (sym known) lt)) ∙ known in (
      enters.index_is.is x E fits_c ∙ digit_after x.turn l.range.trips (turns_of ls) some few ∙ ap (λ z. z % turns_of ls) turn_is,
      enters.counter_is.is x E fits_c ∙ ap (counter l.range) (iteration_after x.turn l.range.trips (turns_of ls) some few ∙ ap (λ z. z / turns_of ls) turn_is),
    )

-- the statements before a loop, what is in it, and the statements after it
pub nested_is : {a b c d e : Draft} {index inner : ℕ} (l : Level) (ls : List Level) (body : Stmts) → IsFormed a → IsIndex a.values index (turns_of (l ∷ ls)) → 0 < l.range.trips → 0 < turns_of ls → AreQuiet a.arrays (l ∷ ls) → AreTypedStmts a.arrays true body → AreApart (stmts_inputs body)
    → IsEdge a b index 0 (λ x. stmts x l.before) (stmts_outputs l.before) → EntersLoop b c l.range (turns_of ls) inner → IsNested c d inner ls body → IsEdge (with_counters d b.counters) e index (turns_of (l ∷ ls) - 1) (λ x. stmts x l.after) (stmts_outputs l.after) → IsNested a e index (l ∷ ls) body
unfolding turn
nested_is {a = a} {b = b} {c = c} {d = d} {e = e} {index = index} {inner = inner} l ls body formed at some few quiet typed apart one enters two three =
    record {
      added = one.added ++ (two.added ++ three.added);
      performs = λ t lt.
          let span = turns_of (l ∷ ls) in
          let G : Words → Type 0 = λ E. E index ≡ t in
          let first = one.performs t in
          let formed_b = first.formed in
          let rest = t % turns_of ls in
          let word = counter l.range (t / turns_of ls) in
          let middle : Performs b (with_counters d b.counters) two.added G (λ x. turn (inside x word) ls body rest) (stmts_inputs body) =
          in_loop (λ E. E inner ≡ rest) G word enters formed_b (two.performs rest (mod-lt t few)) (loop_words a l ls t at some few first.grows.values enters (two.performs rest (mod-lt t few)).grows lt) in
          let last : Performs (with_counters d b.counters) e three.added G (λ x. when (t + 1 == span) (stmts x l.after)) [] =
          subst (λ (z : Bool). Performs (with_counters d b.counters) e three.added G (λ x. when z (stmts x l.after)) []) (edge_at t span (mul-pos some few)) (three.performs t) in
          let back = in_turn G middle last (subst AreApart (sym (append-nil (stmts_inputs body))) apart) (λ x before after h. turn_takes a.arrays ls body (inside x word) rest before after quiet.4 typed h) in
          in_turn G first (subst (λ (z : List ℕ). Performs b e (two.added ++ three.added) G (λ x. turn (inside x word) ls body rest >> when (t + 1 == span) (stmts x l.after)) z) (append-nil (stmts_inputs body)) back) apart
          (λ x before after h. take_none a.arrays l.before x (t == 0) before after quiet.0 quiet.2 h);
      sends = sends_then a d e (stmts_outputs l.before ++ nest_outputs ls body) (stmts_outputs l.after)
          (sends_then a b d (stmts_outputs l.before) (nest_outputs ls body) one.sends (sends_moved b c d d (nest_outputs ls body) (ap (λ (z : Draft). z.effects) enters.rest) two.sends refl))
          (sends_moved d (with_counters d b.counters) e e (stmts_outputs l.after) refl three.sends refl);
    }

-- no loop is left
pub bare : {a b : Draft} (index : ℕ) (body : Stmts) → IsTranslated a b (λ x. stmts x body) (stmts_inputs body) (stmts_outputs body) → IsNested a b index [] body
unfolding turn
bare index body h = record { added = h.added; performs = λ t lt. known_where Any (λ E. E index ≡ t) (λ x E r k. tt) h.performs; sends = h.sends }

pub positive : (levels : List Level) → all_turn levels ≡ true → 0 < turns_of levels
positive [] h = omega arith
positive (l ∷ ls) h = let p = and_parts (nat_lt 0 l.range.trips) (all_turn ls) h in mul-pos (ltb-true 0 l.range.trips p.0) (positive ls p.1)

pub first_trips : (l : Level) (ls : List Level) → all_turn (l ∷ ls) ≡ true → 0 < l.range.trips
first_trips l ls h = ltb-true 0 l.range.trips ((and_parts (nat_lt 0 l.range.trips) (all_turn ls) h).0)

pub inner_few : (l : Level) (ls : List Level) (most : ℕ) → all_turn (l ∷ ls) ≡ true → turns_of (l ∷ ls) ≤ most → turns_of ls ≤ most
inner_few l ls most turn h = omega (arith, h, le-mul (turns_of ls) l.range.trips (first_trips l ls turn))
  where
    le-mul : (n k : ℕ) → 0 < k → n ≤ k * n
    le-mul n zero some = absurd (omega (arith, some))
    le-mul n (suc k) some = omega (arith, suc-mul k n)

pub fewer : {X : Type 0} (xs ys : List X) (n : ℕ) → length xs + 1 ≡ length ys → length ys ≡ n → length xs < n
fewer xs ys n h at = omega (arith, h, at)

-- a counter that was pushed and popped
pub popped : (new old around : List ℕ) (counter : ℕ) {n : ℕ} → new ≡ take (n - 1) old → n ≡ length old → old ≡ around ++ counter ∷ [] → new ≡ around
popped new old around counter {n = n} is len pushed =
    let count : n - 1 ≡ length around = let k = ap (λ (z : List ℕ). length z) pushed ∙ length-append around (counter ∷ []) in omega (arith, len, k) in
    is ∙ ap₂ (λ (k : ℕ) (z : List ℕ). take k z) count pushed ∙ take-append_seam around (counter ∷ [])

pub inner_turns : (l : Level) (ls : List Level) → all_turn (l ∷ ls) ≡ true → all_turn ls ≡ true
inner_turns l ls h = (and_parts (nat_lt 0 l.range.trips) (all_turn ls) h).1

-- the number of the turn is the one among those of all loops
pub whole_index : (values : List Value) (index span : ℕ) → IsOfTurn values index (λ t. t) → IsIndex values index span
whole_index values index span h =
    record { within = h.within; is = λ x E f b. let e = h.is x E f in e ∙ sym (mod-eq_of_lt (subst (λ z. z < span) e b)) }

-- the number of the turn among those of an iteration
pub index_in : (values : List Value) (index span : ℕ) → IsOfTurn values index (λ t. t / 1 % span) → IsIndex values index span
index_in values index span h = record { within = h.within; is = λ x E f b. h.is x E f ∙ ap (λ z. z % span) (div-one x.turn) }
