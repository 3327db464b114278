-- A table that is right for its grammar finds the files, and otherwise the first token that no file goes on with.
use Rattle.std.proofs.Common.{◌≡◌, List, [], ◌∷◌, ◌++◌, Option, Some, None, refl, sym, ◌∙◌, ap, subst, append_assoc, append-nil}
use Rattle.cg_tokens.specs.Faults.{Ends, FaultAt}
use Rattle.cg_tokens.specs.Table.{going, run, Spelled, none, next, IsTable}

module _ {S T : Type 0} (Spells : S → List T → Type 0) where
  pub spelled_append : (a b : List S) (u v : List T) → Spelled Spells a u → Spelled Spells b v → Spelled Spells (a ++ b) (u ++ v)
  spelled_append [] b [] v none w = w
  spelled_append [] b (t ∷ u) v p w = elim p [ ]
  spelled_append (s ∷ a) b u v (next _ front rest e p q) w = next (u ++ v) front (rest ++ v) (ap (λ (x : List T). x ++ v) e ∙ append_assoc front rest v) p (spelled_append a b rest v q w)

  pub spelled_split : (a b : List S) (w : List T) → Spelled Spells (a ++ b) w → (u : List T) × (v : List T) × (w ≡ u ++ v) × Spelled Spells a u × Spelled Spells b v
  spelled_split [] b w p = ([], w, refl, none, p)
  spelled_split (s ∷ a) b w (next _ front rest e p h) =
      let q = spelled_split a b rest h in
      (front ++ q.0, q.1, e ∙ ap (λ (x : List T). front ++ x) q.2 ∙ sym (append_assoc front q.0 q.1), next (front ++ q.0) front q.0 refl p q.3, q.4)

module _ {S T : Type 0} (rule : S → T → Option (List S)) (Spells : S → List T → Type 0) (table : IsTable rule Spells) where
  pub stack_some : (s : S) (stack : List S) → Spelled Spells (s ∷ stack) [] → ⊥
  stack_some s stack (next _ [] rest e p w) = table.some s p
  stack_some s stack (next _ (x ∷ front) rest e p w) = cc

  pub stack_sound : (s : S) (t : T) (new stack : List S) (w : List T) → rule s t ≡ Some new → Spelled Spells (new ++ stack) w → Spelled Spells (s ∷ stack) (t ∷ w)
  stack_sound s t new stack w e p =
      let q = spelled_split Spells new stack w p in
      next (t ∷ w) (t ∷ q.0) q.1 (ap (λ (x : List T). t ∷ x) q.2) (table.sound s t new q.0 e q.3) q.4

  pub stack_complete : (s : S) (t : T) (stack : List S) (w : List T) → Spelled Spells (s ∷ stack) (t ∷ w) → (new : List S) × (rule s t ≡ Some new) × Spelled Spells (new ++ stack) w
  stack_complete s t stack w (next _ [] rest e p q) = absurd (table.some s p)
  stack_complete s t stack w (next _ (x ∷ front) rest e p q) =
      let head : t ≡ x = cc in
      let tail : w ≡ front ++ rest = cc in
      let r = table.complete s t front (subst (λ (y : T). Spells s (y ∷ front)) (sym head) p) in
      (r.0, r.1, subst (λ (y : List T). Spelled Spells (r.0 ++ stack) y) (sym tail) (spelled_append Spells r.0 stack front rest r.2 q))

  pub stack_filled : (stack : List S) → (w : List T) × Spelled Spells stack w
  stack_filled [] = ([], none)
  stack_filled (s ∷ stack) =
      let p = table.filled s in
      let q = stack_filled stack in
      (p.0 ++ q.0, next (p.0 ++ q.0) p.0 q.0 refl p.1 q.1)

  run_on : (s : S) (t : T) (new stack : List S) (w : List T) → rule s t ≡ Some new → run rule (s ∷ stack) (t ∷ w) ≡ run rule (new ++ stack) w
  run_on s t new stack w e = ap (λ (o : Option (List S)). going o (λ x. run rule (x ++ stack) w) (t ∷ w)) e

  -- what a stack spells uses it up
  pub accepted : (stack : List S) (w : List T) → Spelled Spells stack w → run rule stack w ≡ None
  accepted [] [] p = refl
  accepted [] (t ∷ w) p = elim p [ ]
  accepted (s ∷ stack) [] p = absurd (stack_some s stack p)
  accepted (s ∷ stack) (t ∷ w) p =
      let q = stack_complete s t stack w p in
      run_on s t q.0 stack w q.1 ∙ accepted (q.0 ++ stack) w q.2

  -- what symbols spell is run through, whatever follows
  pub through : (a stack : List S) (u w : List T) → Spelled Spells a u → run rule (a ++ stack) (u ++ w) ≡ run rule stack w
  through [] stack [] w p = refl
  through [] stack (t ∷ u) w p = elim p [ ]
  through (s ∷ a) stack [] w p = absurd (stack_some s a p)
  through (s ∷ a) stack (t ∷ u) w p =
      let q = stack_complete s t a u p in
      run_on s t q.0 (a ++ stack) (u ++ w) q.1
      ∙ ap (λ (x : List S). run rule x (u ++ w)) (sym (append_assoc q.0 a stack))
      ∙ through (q.0 ++ a) stack u w q.2

  accepts_at : (s : S) (t : T) (stack : List S) (w : List T) (o : Option (List S)) → rule s t ≡ o → going o (λ x. run rule (x ++ stack) w) (t ∷ w) ≡ None
      → ((new : List S) → run rule (new ++ stack) w ≡ None → Spelled Spells (new ++ stack) w) → Spelled Spells (s ∷ stack) (t ∷ w)
  accepts_at s t stack w None e h on = cc
  accepts_at s t stack w (Some new) e h on = stack_sound s t new stack w e (on new h)

  -- what uses the stack up is what it spells
  pub accepts : (stack : List S) (w : List T) → run rule stack w ≡ None → Spelled Spells stack w
  accepts [] [] h = none
  accepts [] (t ∷ w) h = cc
  accepts (s ∷ stack) [] h = cc
  accepts (s ∷ stack) (t ∷ w) h = accepts_at s t stack w (rule s t) refl h (λ new. accepts (new ++ stack) w)

  ends_on : (s : S) (t : T) (new stack : List S) (front rest : List T) → rule s t ≡ Some new → Ends (Spelled Spells (new ++ stack)) front rest → Ends (Spelled Spells (s ∷ stack)) (t ∷ front) rest
  ends_on s t new stack front [] e h = λ p.
      let q = stack_complete s t stack front p in
      let same : q.0 ≡ new = cc in
      h (subst (λ (x : List S). Spelled Spells (x ++ stack) front) same q.2)
  ends_on s t new stack front (r ∷ rest) e h = λ p.
      let q = stack_complete s t stack ((front ++ r ∷ []) ++ p.0) p.1 in
      let same : q.0 ≡ new = cc in
      h (p.0, subst (λ (x : List S). Spelled Spells (x ++ stack) ((front ++ r ∷ []) ++ p.0)) same q.2)

  fault_at : (s : S) (t : T) (stack : List S) (w rest : List T) (o : Option (List S)) → rule s t ≡ o → going o (λ x. run rule (x ++ stack) w) (t ∷ w) ≡ Some rest
      → ((new : List S) → run rule (new ++ stack) w ≡ Some rest → FaultAt (Spelled Spells (new ++ stack)) w rest) → FaultAt (Spelled Spells (s ∷ stack)) (t ∷ w) rest
  fault_at s t stack w rest None e h on =
      let same : t ∷ w ≡ rest = cc in
      subst (λ (x : List T). FaultAt (Spelled Spells (s ∷ stack)) (t ∷ w) x) same
      (record { front = []; whole = refl; before = stack_filled (s ∷ stack); after = λ p. let q = stack_complete s t stack p.0 p.1 in cc })
  fault_at s t stack w rest (Some new) e h on =
      let f = on new h in
      record { front = t ∷ f.front; whole = ap (λ (x : List T). t ∷ x) f.whole; before = (f.before.0, stack_sound s t new stack (f.front ++ f.before.0) e f.before.1); after = ends_on s t new stack f.front rest e f.after }

  -- where the stack does not go on is the first token that nothing it spells goes on with
  pub fault : (stack : List S) (w rest : List T) → run rule stack w ≡ Some rest → FaultAt (Spelled Spells stack) w rest
  fault [] [] rest h = cc
  fault [] (t ∷ w) rest h =
      let same : t ∷ w ≡ rest = cc in
      subst (λ (x : List T). FaultAt (Spelled Spells []) (t ∷ w) x) same
      (record { front = []; whole = refl; before = ([], none); after = λ p. elim p.1 [ ] })
  fault (s ∷ stack) [] rest h =
      let same : [] ≡ rest = cc in
      subst (λ (x : List T). FaultAt (Spelled Spells (s ∷ stack)) [] x) same
      (record { front = []; whole = refl; before = stack_filled (s ∷ stack); after = stack_some s stack })
  fault (s ∷ stack) (t ∷ w) rest h = fault_at s t stack w rest (rule s t) refl h (λ new. fault (new ++ stack) w rest)

-- the fault in one way to say what a file is, is that in another
module _ {T : Type 0} (P Q : List T → Type 0) (to : (w : List T) → P w → Q w) (back : (w : List T) → Q w → P w) where
  same_ends : (front rest : List T) → Ends P front rest → Ends Q front rest
  same_ends front [] h = λ q. h (back front q)
  same_ends front (t ∷ rest) h = λ q. h (q.0, back ((front ++ t ∷ []) ++ q.0) q.1)

  pub same_fault : (w rest : List T) → FaultAt P w rest → FaultAt Q w rest
  same_fault w rest f = record { front = f.front; whole = f.whole; before = (f.before.0, to (f.front ++ f.before.0) f.before.1); after = same_ends f.front rest f.after }

-- what has a fault is no file
pub no_file : {T : Type 0} (P : List T → Type 0) (w rest front : List T) → w ≡ front ++ rest → Ends P front rest → P w → ⊥
no_file {T} P w [] front e h p = h (subst P (e ∙ append-nil front) p)
no_file {T} P w (t ∷ rest) front e h p = h (rest, subst P (e ∙ sym (append_assoc front (t ∷ []) rest)) p)
