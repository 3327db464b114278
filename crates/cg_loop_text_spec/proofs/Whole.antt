-- From a run to the fault in the tokens.
use Rattle.std.proofs.Common.{◌≡◌, ℕ, zero, suc, ◌+◌, ◌<◌, true, false, cond, Option, List, [], ◌∷◌, ◌++◌, length, Some, None, refl, sym, ◌∙◌, ap, subst, append_assoc, append-nil, arith}
use Rattle.std.specs.List.{All, AllByRecursion}
use Rattle.std.proofs.lemmas.List.{append_cancel_right}
use Rattle.std.proofs.lemmas.List.Elements.{All-from_recursion, recursion_from_All}
use Rattle.cg_tokens.specs.Faults.{Begins, Ends, FaultAt}
use Rattle.cg_tokens.specs.Table.{run, Spelled}
use Rattle.cg_tokens.specs.Tokens.{Placed, is_blank, more_of, first_token, tokens_from, tokens_of}
use Rattle.cg_tokens.proofs.Stacks as stacks
use Rattle.cg_loop_text_spec.specs.Grammar.{Is, IsFile}
use Rattle.cg_loop_text_spec.specs.Rules.{Symbol, rule, start, Spells}
use Rattle.cg_loop_text_spec.specs.Read.{IsSolid, Reads}
use Rattle.cg_loop_text_spec.proofs.Exact.{table, spelled_file, file_ended, file_spelled}
use Rattle.cg_loop_text_spec.proofs.Bodies.{stops_before_end}

-- what symbols spell is read as them, whatever follows
pub spelled_read : (a : List Symbol) (u w : List Placed) → Spelled Spells a u → Reads a (u ++ w) w
spelled_read a u w p = record { ran = λ stack. stacks.through rule Spells table a stack u w p }

-- the tokens of bytes have bytes
pub solid_from : (double : Option ℕ) (n p : ℕ) (bytes : List ℕ) → AllByRecursion IsSolid (tokens_from double n p bytes)
solid_from double n p [] = tt
solid_from double (suc n) p (b ∷ bytes) = solid_from double n (p + 1) bytes
solid_from double zero p (b ∷ bytes) =
    elim (is_blank b) as (λ x. AllByRecursion IsSolid (cond x (tokens_from double 0 (p + 1) bytes) (first_token double b bytes p ∷ tokens_from double (more_of double b bytes) (p + 1) bytes)))
    [ true ↦ solid_from double 0 (p + 1) bytes | false ↦ (omega arith, solid_from double (more_of double b bytes) (p + 1) bytes) ]

pub solid : (double : Option ℕ) (bytes : List ℕ) → All IsSolid (tokens_of double bytes)
solid double bytes = All-from_recursion IsSolid (tokens_of double bytes) (solid_from double 0 0 bytes)

-- ---- a whole file

module _ (tokens : List Placed) (e : Placed) (he : Is e []) where
  pub whole_file : run rule start (tokens ++ e ∷ []) ≡ None → IsFile tokens
  whole_file h = file_spelled tokens e (stacks.accepts rule Spells table start (tokens ++ e ∷ []) h)

  pub file_none : IsFile tokens → run rule start (tokens ++ e ∷ []) ≡ None
  file_none p = stacks.accepted rule Spells table start (tokens ++ e ∷ []) (spelled_file tokens e he p)

  -- a run that stops has not taken the last token
  pub rest_ends : All IsSolid tokens → (r : List Placed) → run rule start (tokens ++ e ∷ []) ≡ Some r → (rest : List Placed) × (r ≡ rest ++ e ∷ [])
  rest_ends hs r h = stops_before_end e tokens start r he (recursion_from_All IsSolid tokens hs) refl h

-- ---- where a file goes on

-- lists that end in the same element, where one goes on with more
ended_front : (front more file : List Placed) (e : Placed) → AllByRecursion IsSolid front → Is e [] → front ++ more ≡ file ++ e ∷ [] → (rest : List Placed) × (file ≡ front ++ rest)
ended_front [] more file e hs he h = (file, refl)
ended_front (t ∷ front) more [] e hs he h =
    let same : t ≡ e = cc in
    let none : length t.text ≡ 0 = ap length (ap (λ (x : Placed). x.text) same ∙ he) in
    absurd (omega (arith, hs.0, none))
ended_front (t ∷ front) more (u ∷ file) e hs he h =
    let head : t ≡ u = cc in
    let tail : front ++ more ≡ file ++ e ∷ [] = cc in
    let r = ended_front front more file e hs.1 he tail in
    (r.0, ap (λ (x : Placed). x ∷ file) (sym head) ∙ ap (λ (x : List Placed). t ∷ x) r.1)

begins_file : (front : List Placed) → AllByRecursion IsSolid front → Begins (Spelled Spells start) front → Begins IsFile front
begins_file front hs b =
    let f = file_ended (front ++ b.0) b.1 in
    let r = ended_front front b.0 f.0 f.1 hs f.2 f.4 in
    (r.0, subst IsFile r.1 f.3)

ends_file : (front rest : List Placed) (e : Placed) → Is e [] → Ends (Spelled Spells start) front (rest ++ e ∷ []) → Ends IsFile front rest
ends_file front [] e he h = λ p. h ([], subst (Spelled Spells start) (sym (append-nil (front ++ e ∷ []))) (spelled_file front e he p))
ends_file front (t ∷ rest) e he h = λ p. h (p.0 ++ e ∷ [], subst (Spelled Spells start) (append_assoc (front ++ t ∷ []) p.0 (e ∷ [])) (spelled_file ((front ++ t ∷ []) ++ p.0) e he p.1))

front_solid : (front rest : List Placed) → AllByRecursion IsSolid (front ++ rest) → AllByRecursion IsSolid front
front_solid [] rest h = tt
front_solid (t ∷ front) rest h = (h.0, front_solid front rest h.1)

-- where the run stops, the tokens have their fault
pub whole_fault : (tokens rest : List Placed) (e : Placed) → Is e [] → All IsSolid tokens → run rule start (tokens ++ e ∷ []) ≡ Some (rest ++ e ∷ []) → FaultAt IsFile tokens rest
whole_fault tokens rest e he hs stops =
    let f = stacks.fault rule Spells table start (tokens ++ e ∷ []) (rest ++ e ∷ []) stops in
    let parts : tokens ≡ f.front ++ rest = append_cancel_right tokens (f.front ++ rest) (e ∷ []) (f.whole ∙ sym (append_assoc f.front rest (e ∷ []))) in
    let all = front_solid f.front rest (subst (AllByRecursion IsSolid) parts (recursion_from_All IsSolid tokens hs)) in
    record { front = f.front; whole = parts; before = begins_file f.front all f.before; after = ends_file f.front rest e he f.after }

-- ---- one fault

-- tokens with a fault are no file
pub no_file : (tokens rest : List Placed) → FaultAt IsFile tokens rest → IsFile tokens → ⊥
no_file tokens rest f p = stacks.no_file IsFile tokens rest f.front f.whole f.after p

-- a front goes on with the first token behind another
abbrev Ahead : List Placed → List Placed → List Placed → Type 0
Ahead a b r = (t : Placed) × (more : List Placed) × (rest : List Placed) × (r ≡ t ∷ rest) × (b ≡ (a ++ t ∷ []) ++ more)

more_ahead : (x y : Placed) (a b r : List Placed) → x ≡ y → Ahead a b r → Ahead (y ∷ a) (x ∷ b) r
more_ahead x y a b r h (t, more, rest, e, f) = (t, more, rest, e, ap (λ (z : Placed). z ∷ b) h ∙ ap (λ (z : List Placed). y ∷ z) f)

ahead : (a b r s : List Placed) → a ++ r ≡ b ++ s → length a < length b → Ahead a b r
ahead [] [] r s e lt = absurd (omega arith)
ahead [] (x ∷ b) r s e lt = (x, b, b ++ s, e, refl)
ahead (y ∷ a) [] r s e lt = absurd (omega arith)
ahead (y ∷ a) (x ∷ b) r s e lt =
    let head : x ≡ y = cc in
    let tail : a ++ r ≡ b ++ s = cc in
    more_ahead x y a b r head (ahead a b r s tail (omega arith))

-- no file begins as far as a fault's token
not_ahead : {P : List Placed → Type 0} (tokens r s : List Placed) (f : FaultAt P tokens r) (g : FaultAt P tokens s) → length f.front < length g.front → ⊥
not_ahead {P} tokens r s f g lt =
    let w = ahead f.front g.front r s (sym f.whole ∙ g.whole) lt in
    let after : Begins P (f.front ++ w.0 ∷ []) → ⊥ = subst (Ends P f.front) w.3 f.after in
    after (w.1 ++ g.before.0, subst P (ap (λ (x : List Placed). x ++ g.before.0) w.4 ∙ append_assoc (f.front ++ w.0 ∷ []) w.1 g.before.0) g.before.1)

same_rest : (a b r s : List Placed) → length a ≡ length b → a ++ r ≡ b ++ s → r ≡ s
same_rest [] [] r s n e = e
same_rest [] (x ∷ b) r s n e = absurd (omega arith)
same_rest (x ∷ a) [] r s n e = absurd (omega arith)
same_rest (x ∷ a) (y ∷ b) r s n e = let tail : a ++ r ≡ b ++ s = cc in same_rest a b r s (omega arith) tail

-- there is one fault
pub one_fault : (tokens r s : List Placed) → FaultAt IsFile tokens r → FaultAt IsFile tokens s → r ≡ s
one_fault tokens r s f g =
    let size : length f.front ≡ length g.front = omega (arith, not_ahead tokens r s f g, not_ahead tokens s r g f) in
    same_rest f.front g.front r s size (sym f.whole ∙ g.whole)
