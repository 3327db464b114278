-- A stream has at most n words: each port has one output field, which is active in n rounds.
use Rattle.std.proofs.Common.{◌≡◌, eqb-true, ℕ, zero, suc, ◌+◌, ◌-◌, ◌/◌, ◌%◌, ◌<◌, ◌≤◌, ◌⊎◌, List, [], ◌∷◌, ◌++◌, length, Option, Some, None, Bool, true, false, refl, sym, ap, ◌∙◌, subst, arith, ⊎_elim, inl, inr, append-nil, length-append}
use Rattle.std.proofs.lemmas.Bool.{cases_eq, leb-true, ltb-true, and_parts, cond_both, cond-false}
use Rattle.std.proofs.lemmas.Nat.{mod_below}
use Rattle.std.proofs.lemmas.Option.{cond_some}
use Rattle.cg_word.specs.declared.op.Op.{Op}
use Rattle.cg_model.specs.declared.config.UnitFields.{UnitFields}
use Rattle.cg_model.specs.Array.{Arch}
use Rattle.cg_model.specs.Config.{Config, fields}
use Rattle.cg_model.specs.Canonical.{IsCanonical, gives_output}
use Rattle.cg_model.specs.Work.{Work, last_operand, sends, sent}
use Rattle.cg_model.specs.Machine.{begun, begun_by, active, sent_after, sent_by_units}
use Rattle.cg_overlap.proofs.Streams.{Sends, none_by_units, one_by_units}
use Rattle.cg_datapath.proofs.Facts.{one_output}
use Rattle.cg_datapath.specs.Reserved.{comings}
use Rattle.cg_datapath.proofs.Slots.{comings_here, comings_rise}

-- what is begun is what the fields say, while they are active
record IsBegun (f : UnitFields) (n round : ℕ) (w : Work) : Type 0 where
  op : f.op ≡ Some w.op
  port : w.port ≡ f.port
  from : f.stage ≤ round
  to : round < f.stage + n

begun_op : (f : UnitFields) (n round : ℕ) (on_port : ℕ → ℕ) (w : Work) (o : Option Op) → f.op ≡ o → begun_by f n round on_port o ≡ Some w → IsBegun f n round w
begun_op f n round on_port w None e h = absurd (cc)
begun_op f n round on_port w (Some op) e h =
    let parts = cond_some (active f n round) _ w h in
    let both = and_parts _ _ parts.0 in
    record {
      op = e ∙ ap (λ (x : Work). Some x.op) parts.1;
      port = sym (ap (λ (x : Work). x.port) parts.1);
      from = leb-true f.stage round both.0;
      to = ltb-true round (f.stage + n) both.1;
    }

begun_from : (f : UnitFields) (n round : ℕ) (on_port : ℕ → ℕ) (w : Work) → begun f n round on_port ≡ Some w → IsBegun f n round w
begun_from f n round on_port w h = begun_op f n round on_port w f.op refl h

sent_few : (port : ℕ) (w : Work) → length (sent port w) ≤ 1
unfolding sent
sent_few port w = cond_both (sends port w) (last_operand w.op w.args ∷ []) [] (λ z. length z ≤ 1) (λ t. omega arith) (λ f. omega arith)

-- each of these works is begun from the fields of its unit in cycle c
abbrev pub AreBegun : Config → ℕ → ℕ → (ℕ → Option Work) → Type 0
AreBegun C n c works = (x : ℕ) → (on_port : ℕ → ℕ) × (works x ≡ begun (fields C x (c % C.ii)) n (c / C.ii) on_port)

-- so it says what its fields say
begun_of : (C : Config) (n c : ℕ) (works : ℕ → Option Work) → AreBegun C n c works → (y : ℕ) (w : Work) → works y ≡ Some w → IsBegun (fields C y (c % C.ii)) n (c / C.ii) w
begun_of C n c works are y w e = let (on_port, is) = are y in begun_from (fields C y (c % C.ii)) n (c / C.ii) on_port w (sym is ∙ e)

module _ (A : Arch) (C : Config) (n c : ℕ) (works : ℕ → Option Work) (are : AreBegun C n c works) (good : IsCanonical A C) (x slot : ℕ) (lx : x < length A.units) (ls : slot < C.ii) (out : gives_output (fields C x slot).op ≡ true) where
  -- another unit, or this one at another slot, sends nothing to the port
  alone : (y : ℕ) (w : Work) → y < length A.units → works y ≡ Some w → Sends (fields C x slot).port w.port w.op → (y ≡ x) × (c % C.ii ≡ slot)
  alone y w ly e s =
      let b = begun_of C n c works are y w e in
      let lc : c % C.ii < C.ii = mod_below c C.ii good.interval in
      one_output A C good y (c % C.ii) x slot ly lc lx ls (ap gives_output b.op ∙ s.0) out (sym b.port ∙ s.1)

  none_before : sent_by_units works (fields C x slot).port x ≡ []
  none_before = none_by_units works (fields C x slot).port x (λ y w l e s. let z = (alone y w (omega arith) e s).0 in omega arith)

  -- a cycle in which the unit does not send
  quiet : ((w : Work) → works x ≡ Some w → Sends (fields C x slot).port w.port w.op → ⊥) → sent_by_units works (fields C x slot).port (length A.units) ≡ []
  quiet h = none_by_units works (fields C x slot).port (length A.units)
      (λ y w l e s. let z = (alone y w l e s).0 in h w (subst (λ v. works v ≡ Some w) z e) s)

  loud : (w : Work) → works x ≡ Some w → length (sent_by_units works (fields C x slot).port (length A.units)) ≤ 1
  loud w e =
      let one = one_by_units works (fields C x slot).port (length A.units) x w lx e (λ y v l f s. (alone y v l f s).0) in
      subst (λ (z : List ℕ). length z ≤ 1) (sym one) (sent_few (fields C x slot).port w)

  begun_here : (o : Option Work) → works x ≡ o → c % C.ii ≡ slot →
      (length (sent_by_units works (fields C x slot).port (length A.units)) ≡ 0) ⊎ ((length (sent_by_units works (fields C x slot).port (length A.units)) ≤ 1) × ((fields C x slot).stage ≤ c / C.ii))
  begun_here None e h = inl (ap length (quiet (λ w f s. let z : Some w ≡ None = sym f ∙ e in absurd (cc))))
  begun_here (Some w) e h =
      let b = begun_of C n c works are x w e in
      inr (loud w e, subst (λ (z : ℕ). (fields C x z).stage ≤ c / C.ii) h b.from)

  module _ (had : List ℕ) (few : length had ≤ comings C.ii slot c - (fields C x slot).stage) where
    -- the stream of the port after the cycle
    pub few_next : length (had ++ sent_by_units works (fields C x slot).port (length A.units)) ≤ comings C.ii slot (suc c) - (fields C x slot).stage
    few_next =
        let p = (fields C x slot).port in
        let st = (fields C x slot).stage in
        let now = few in
        let grown : length (had ++ sent_by_units works p (length A.units)) ≡ length had + length (sent_by_units works p (length A.units)) = length-append had (sent_by_units works p (length A.units)) in
        let rise : comings C.ii slot c ≤ comings C.ii slot (suc c) = comings_rise C.ii slot c good.interval ls in
        ⊎_elim
        (λ h.
        let here = comings_here C.ii slot c good.interval (sym h) in
        let a : comings C.ii slot c ≡ c / C.ii = here.0 in
        let b : comings C.ii slot (suc c) ≡ suc (c / C.ii) = here.1 in
        ⊎_elim (λ q. omega arith) (λ q. let q0 = q.0 in let q1 = q.1 in omega arith) (begun_here (works x) refl h))
        (λ h.
        let none : length (sent_by_units works p (length A.units)) ≡ 0 = ap length (quiet (λ w e s. h (alone x w lx e s).1)) in
        omega arith)
        (cases_eq (c % C.ii) slot)

    early : length (had ++ sent_by_units works (fields C x slot).port x) ≡ length had
    early = ap (λ z. length (had ++ z)) none_before ∙ ap length (append-nil had)

    -- in a cycle in which the unit is active there is still room
    pub room_left : c % C.ii ≡ slot → (fields C x slot).stage ≤ c / C.ii → c / C.ii < (fields C x slot).stage + n →
        length (had ++ sent_by_units works (fields C x slot).port x) < n
    room_left h from to =
        let now : length had ≤ comings C.ii slot c - (fields C x slot).stage = few in
        let here = comings_here C.ii slot c good.interval (sym h) in
        let a : comings C.ii slot c ≡ c / C.ii = here.0 in
        let same = early in
        omega arith

    -- and afterwards there is room for what it sends
    full : c % C.ii ≡ slot → (fields C x slot).stage ≤ c / C.ii → c / C.ii < (fields C x slot).stage + n → (o : Option Work) → works x ≡ o →
        length (had ++ sent_by_units works (fields C x slot).port (length A.units)) ≤ n
    full h from to None e =
        let p = (fields C x slot).port in
        let before : length (had ++ sent_by_units works p x) < n = room_left h from to in
        let same = early in
        let none : sent_by_units works p (length A.units) ≡ [] = quiet (λ w f s. let z : Some w ≡ None = sym f ∙ e in absurd (cc)) in
        let now : length (had ++ sent_by_units works p (length A.units)) ≡ length had = ap (λ z. length (had ++ z)) none ∙ ap length (append-nil had) in
        omega arith
    full h from to (Some w) e =
        let p = (fields C x slot).port in
        let before : length (had ++ sent_by_units works p x) < n = room_left h from to in
        let same = early in
        let one : length (sent_by_units works p (length A.units)) ≤ 1 = loud w e in
        let now : length (had ++ sent_by_units works p (length A.units)) ≡ length had + length (sent_by_units works p (length A.units)) = length-append had (sent_by_units works p (length A.units)) in
        omega arith

-- ---- every stream has at most a word a turn

-- the units send nothing to a port, or one of them does
abbrev Sender : (ℕ → Option Work) → ℕ → ℕ → Type 0
Sender works port x = (y : ℕ) × (y < x) × (w : Work) × (works y ≡ Some w) × Sends port w.port w.op

later_sender : (works : ℕ → Option Work) (port x : ℕ) → Sender works port x → Sender works port (suc x)
later_sender works port x s = (s.0, (let l : s.0 < x = s.1 in omega arith), s.2, s.3, s.4)

sender_by : (works : ℕ → Option Work) (port x : ℕ) (o : Option Work) → works x ≡ o → (sent_after port o ≡ []) ⊎ Sender works port (suc x)
unfolding sent
sender_by works port x None e = inl refl
sender_by works port x (Some w) e = by (sends port w) refl
  where
    by : (b : Bool) → sends port w ≡ b → (sent_after port (Some w) ≡ []) ⊎ Sender works port (suc x)
    by true t = let both = and_parts _ _ t in let rest = and_parts _ _ both.1 in let l : x < suc x = omega arith in inr (x, l, w, e, (both.0, eqb-true _ _ rest.1))
    by false f = inl (cond-false (sends port w) _ _ f)

sender : (works : ℕ → Option Work) (port x : ℕ) → (sent_by_units works port x ≡ []) ⊎ Sender works port x
unfolding sent_by_units
sender works port zero = inl refl
sender works port (suc x) =
    ⊎_elim
    (λ none. ⊎_elim (λ here. let a : sent_by_units works port x ≡ [] = none in let b : sent_after port (works x) ≡ [] = here in inl (rw (a, b) refl)) (λ s. inr s) (sender_by works port x (works x) refl))
    (λ s. inr (later_sender works port x s))
    (sender works port x)

-- a stream of at most n words has at most n after the cycle
pub stream_few : (A : Arch) (C : Config) (n c : ℕ) (works : ℕ → Option Work) → AreBegun C n c works → IsCanonical A C →
    (streams : ℕ → List ℕ) →
    ((x slot : ℕ) → x < length A.units → slot < C.ii → gives_output (fields C x slot).op ≡ true → length (streams (fields C x slot).port) ≤ comings C.ii slot c - (fields C x slot).stage) →
    (port : ℕ) → length (streams port) ≤ n → length (streams port ++ sent_by_units works port (length A.units)) ≤ n
stream_few A C n c works are good streams sent port now =
    ⊎_elim
    (λ none. subst (λ z. length (streams port ++ z) ≤ n) (sym none) (subst (λ z. length z ≤ n) (sym (append-nil (streams port))) now))
    (λ s.
    let x = s.0 in
    let slot = c % C.ii in
    let low : slot < C.ii = mod_below c C.ii good.interval in
    let b = begun_of C n c works are x s.2 s.3 in
    let out : gives_output (fields C x slot).op ≡ true = ap gives_output b.op ∙ s.4.0 in
    let same : (fields C x slot).port ≡ port = sym b.port ∙ s.4.1 in
    subst (λ p. length (streams p ++ sent_by_units works p (length A.units)) ≤ n) same
    (full A C n c works are good x slot s.1 low out (streams (fields C x slot).port) (sent x slot s.1 low out) refl b.from b.to (Some s.2) s.3))
    (sender works port (length A.units))
