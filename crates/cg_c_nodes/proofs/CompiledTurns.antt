-- A run of a program, turn by turn, beside the turns of a kernel.
use Rattle.std.proofs.Common.{◌≡◌, ℕ, zero, suc, ◌+◌, ◌*◌, ◌<◌, ◌≤◌, ◌==◌, if◌then◌else◌, Bool, List, [], ◌∷◌, length, drop, Contains, Option, Some, None, slice_index, refl, sym, ap, ap₂, ◌∙◌, subst, arith, zero-mul, eq-eqb, ne_eqb, suc-ne-zero}
use Rattle.std.proofs.lemmas.List.{get_or-drop, get_or-take}
use Rattle.cg_model.specs.Kernel.{Kernel, size}
use Rattle.cg_model.specs.Turns.{Progress, before, turns}
use Rattle.cg_model.specs.Work.{Image}
use Rattle.cg_c_check.specs.declared.program.Array.{Array}
use Rattle.cg_c_check.specs.Arrays.{size_of}
use Rattle.cg_c_check.specs.Program.{Program}
use Rattle.cg_c_values.specs.Values.{Words, holds}
use Rattle.cg_c_meaning.specs.Meaning.{Holds, HasTable as HoldsTable, State, Run, beginning, context_of, give, repeated}
use Rattle.cg_c_meaning.specs.Taken.{times}
use Rattle.cg_c_meaning.specs.Turns.{turn, turns_of}
use Rattle.cg_c_meaning.specs.Typed.{AreApart, AreArranged, HasTableWords, IsTyped, stmts_inputs}
use Rattle.cg_c_order.specs.declared.access.Access.{Access}
use Rattle.cg_c_turn.specs.declared.effect.Effect.{Effect}
use Rattle.cg_c_turn.specs.declared.effect.Effect.TheVariants.{Load, Store, Send}
use Rattle.cg_c_turn.specs.Draft.{Draft}
use Rattle.cg_c_turn.specs.Leads.{Leads, Outcome, sent_to, stored_at}
use Rattle.cg_c_turn.specs.Stands.{HasTable}
use Rattle.cg_c_turn.specs.Turn.{HasArrays, IsTurnEnd, Starts, Turns, outside_loops}
use Rattle.cg_c_turn.proofs.Leading.{leads_weaker}
use Rattle.cg_c_turn.proofs.Loops.{turn_takes}
use Rattle.cg_c_turn.proofs.Quiet.{quiet_levels}
use Rattle.cg_c_nodes.specs.Beside.{DoesTurn, LeadTo, RunsBeside, Whatever, outcome}

-- ---- effects

-- an outcome of which Q holds, and which is this one
pub record Ends (Q : Outcome → Type 0) (n : Outcome) : Type 0 where
  pub end : Outcome
  pub is : Q end
  pub memory : n.memory ≡ end.memory
  pub outputs : (port : ℕ) → n.outputs port ≡ end.outputs port

pub leads_end : (arrays : List Array) (E : Words) (es : List Effect) (m n : Outcome) (Q : Outcome → Type 0) → Leads arrays E es m Q → LeadTo E es m n → Ends Q n
unfolding Leads LeadTo
leads_end arrays E [] m n Q leads to = record { end = m; is = leads; memory = to.0; outputs = to.1 }
leads_end arrays E (Load guard array address value place ∷ es) m n Q leads to = leads_end arrays E es m n Q (leads.1 to.0) to.1
leads_end arrays E (Store guard array address word place ∷ es) m n Q leads to = leads_end arrays E es (if holds E guard then stored_at m (E address) (E word) else m) n Q leads.1 to
leads_end arrays E (Send guard port word ∷ es) m n Q leads to = leads_end arrays E es (if holds E guard then sent_to m port (E word) else m) n Q leads to

-- ---- images

same_size : (ds : List ℕ) → Rattle.cg_c_meaning.specs.Meaning.size_of ds ≡ size_of ds
same_size [] = refl
same_size (d ∷ ds) = ap (λ n. d * n) (same_size ds)

table_is : (image : Image) (a : Array) (o : Option (List ℕ)) → HoldsTable image a o → HasTableWords a o → HasTable image.memory a o
table_is image a None h k = tt
table_is image a (Some table) h k = (
  k,
  λ i lt.
      sym (get_or-drop a.start image.memory i 0) ∙ sym (get_or-take (length table) (drop a.start image.memory) i 0 lt) ∙ ap (λ (z : List ℕ). slice_index z i) h,
)

-- an element of a list is its first one or one of the others
first_or : {X : Type 0} (x y : X) (xs : List X) (P : X → Type 0) → P x → ((z : X) → Contains xs z → P z) → Contains (x ∷ xs) y → P y
first_or x y xs P first others (zero, lt, is) = subst P is first
first_or x y xs P first others (suc k, lt, is) = others y (k, omega (arith, lt), is)

table_words : (start : ℕ) (arrays : List Array) → AreArranged start arrays → (a : Array) → Contains arrays a → HasTableWords a a.table
table_words start [] h a there = absurd (omega (arith, there.1))
table_words start (x ∷ xs) h a there = first_or x a xs (λ z. HasTableWords z z.table) h.2 (table_words (start + size_of x.dimensions) xs h.3) there

-- ---- inputs

times_zero : (port : ℕ) (ps : List ℕ) → (Contains ps port → ⊥) → times port ps ≡ 0
times_zero port [] none = refl
times_zero port (q ∷ ps) none =
    ap₂ (λ (t : Bool) (n : ℕ). (if t then 1 else 0) + n) (ne_eqb q port (λ same. none (0, omega arith, same))) (times_zero port ps (λ h. none (suc h.0, omega (arith, h.1), h.2)))

-- each input takes one word
times_one : (port : ℕ) (ps : List ℕ) → AreApart ps → Contains ps port → times port ps ≡ 1
times_one port [] apart there = absurd (omega (arith, there.1))
times_one port (q ∷ ps) apart (zero, lt, same) =
    ap₂ (λ (t : Bool) (n : ℕ). (if t then 1 else 0) + n) (eq-eqb q port same) (times_zero port ps (λ h. apart.0 (subst (Contains ps) (sym same) h)))
times_one port (q ∷ ps) apart (suc k, lt, is) =
    ap₂ (λ (t : Bool) (n : ℕ). (if t then 1 else 0) + n) (ne_eqb q port (λ same. apart.0 (subst (Contains ps) (sym same) (k, omega (arith, lt), is)))) (times_one port ps apart.1 (k, omega (arith, lt), is))

pub has_arrays : (p : Program) (image : Image) → IsTyped p → Holds p image → HasArrays p.arrays image.memory
has_arrays p image typed holding =
    record {
      room = λ a there. subst (λ n. a.start + n ≤ length image.memory) (same_size a.dimensions) (holding.room a there);
      tables = λ a there. table_is image a a.table (holding.tables a there) (table_words 0 p.arrays typed.arranged a there);
    }

-- ---- turns

abbrev the_turn : Program → Image → ℕ → Run (Unit {0})
the_turn p image t = turn (context_of p image) p.levels p.body t

-- a run of the program is behind t turns
pub record IsBehind (p : Program) (d : Draft) (K : Kernel) (image : Image) (accesses : List Access) (b : RunsBeside d K image accesses (turns_of p.levels)) (t : ℕ) (s : State) : Type 0 where
  pub memory : s.memory ≡ (turns K t image).memory
  pub outputs : (port : ℕ) → s.outputs port ≡ (turns K t image).streams port
  pub words : (number : ℕ) → s.words number ≡ (if t == 0 then 0 else (b.moment t).carried number)
  pub ready : (port : ℕ) → Contains (stmts_inputs p.body) port → s.taken port ≡ t
  pub arrays : HasArrays p.arrays (turns K t image).memory
  pub outside : (turns K t image).outside ≡ 0

module _ (p : Program) (d : Draft) (K : Kernel) (image : Image) (accesses : List Access) (typed : IsTyped p) (does : Turns p d) (b : RunsBeside d K image accesses (turns_of p.levels)) where
  first_turn : turns K 0 image ≡ before K image 0
  first_turn = ap (before K image) (zero-mul (size K))

  pub begins : Holds p image → IsBehind p d K image accesses b 0 (beginning image)
  unfolding before
  begins holding =
      record {
        memory = ap (λ (q : Progress). q.memory) (sym first_turn);
        outputs = λ port. ap (λ (q : Progress). q.streams port) (sym first_turn);
        words = λ number. refl;
        ready = λ port there. refl;
        arrays = subst (λ (q : Progress). HasArrays p.arrays q.memory) (sym first_turn) (has_arrays p image typed holding);
        outside = ap (λ (q : Progress). q.outside) first_turn;
      }

  starts : (t : ℕ) (s : State) → IsBehind p d K image accesses b t s → Starts p (b.moment t) (outcome K image t) s
  starts t s h =
      record {
        memory = h.memory;
        outputs = h.outputs;
        words = λ number. h.words number ∙ ap (λ n. if n == 0 then 0 else (b.moment t).carried number) (sym (b.turn t));
        ready = λ port there. h.ready port there ∙ sym (b.turn t);
      }

  turn_at : (t : ℕ) (s end : State) → the_turn p image t s ≡ Some (tt, end) → turn (outside_loops p (b.moment t)) p.levels p.body (b.moment t).turn s ≡ Some (tt, end)
  turn_at t s end h =
      subst (λ n. turn (outside_loops p (b.moment t)) p.levels p.body n s ≡ Some (tt, end)) (sym (b.turn t))
      (subst (λ (z : List (List ℕ)). turn (record { arrays = p.arrays; streams = z; counters = [] }) p.levels p.body t s ≡ Some (tt, end)) (sym (b.streams t)) h)

  turn_leads : (t : ℕ) (s end : State) → t < turns_of p.levels → IsBehind p d K image accesses b t s → the_turn p image t s ≡ Some (tt, end) → Leads d.arrays (b.words t) d.effects (outcome K image t) (IsTurnEnd d (b.moment t) (b.words t) end)
  turn_leads t s end lt h runs =
      subst (λ (z : List Array). Leads z (b.words t) d.effects (outcome K image t) (IsTurnEnd d (b.moment t) (b.words t) end)) (sym does.arrays)
      (does.leads (b.moment t) (b.words t) (outcome K image t) s end (subst (λ n. n < turns_of p.levels) (sym (b.turn t)) lt) (b.runs t lt) h.arrays (starts t s h) (turn_at t s end runs))

  -- a turn of the kernel does the effects of the draft
  pub does_turn : (t : ℕ) (s end : State) → t < turns_of p.levels → IsBehind p d K image accesses b t s → the_turn p image t s ≡ Some (tt, end) → DoesTurn d K image accesses t (b.words t)
  does_turn t s end lt h runs =
      b.does t lt (subst (λ (z : List Array). HasArrays z (turns K t image).memory) (sym does.arrays) h.arrays)
      (leads_weaker d.arrays (b.words t) d.effects (outcome K image t) (IsTurnEnd d (b.moment t) (b.words t) end) Whatever (λ n _. tt) (turn_leads t s end lt h runs))

  -- behind one more turn
  pub one_turn : (t : ℕ) (s end : State) → t < turns_of p.levels → IsBehind p d K image accesses b t s → the_turn p image t s ≡ Some (tt, end) → IsBehind p d K image accesses b (suc t) end
  one_turn t s end lt h runs =
      let D = does_turn t s end lt h runs in
      let e = leads_end d.arrays (b.words t) d.effects (outcome K image t) (outcome K image (suc t)) (IsTurnEnd d (b.moment t) (b.words t) end) (turn_leads t s end lt h runs) D.leads in
      let taken = turn_takes p.arrays p.levels p.body (context_of p image) t s end (quiet_levels p.arrays p.levels typed.levels) typed.body runs in
      record {
        memory = e.is.memory ∙ sym e.memory;
        outputs = λ port. e.is.outputs port ∙ sym (e.outputs port);
        words = λ number. e.is.words number ∙ sym (b.next t number) ∙ sym (ap (λ (z : Bool). if z then 0 else (b.moment (suc t)).carried number) (ne_eqb (suc t) 0 (suc-ne-zero t)));
        ready = λ port there. let once = times_one port (stmts_inputs p.body) typed.taken_once there in let before = h.ready port there in taken port ∙ omega (arith, once, before);
        arrays = subst (λ (z : List Array). HasArrays z (turns K (suc t) image).memory) does.arrays (subst (λ (z : List ℕ). HasArrays d.arrays z) (sym e.memory) e.is.arrays);
        outside = D.outside ∙ h.outside;
      }
