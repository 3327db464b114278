-- One value more has a new one.
use Rattle.std.proofs.Common.{◌≡◌, ℕ, ◌+◌, ◌<◌, nat_lt, List, [], ◌∷◌, ◌++◌, Option, None, Some, length, refl, sym, ap, ◌∙◌, subst, arith, inl, inr, length-append, below_more}
use Rattle.std.proofs.Math.ListN.{get_or-append}
use Rattle.std.proofs.Math.Seq.{get_or-append_seam}
use Rattle.cg_c_values.specs.declared.value.Value.{Value}
use Rattle.cg_c_values.specs.declared.value.Value.TheVariants.{Const, Turn, Quotient, Digit, Carried, Input, Loaded, Two, Select}
use Rattle.cg_c_values.specs.Values.{Keeps, IsBelow, IsWordOf, MayStand, Moment, Words, holds, value_at}
use Rattle.cg_c_forms.specs.Forms.{IsForm, IsLoadOf, MayAct, behind, renamed}
use Rattle.cg_c_forms.specs.Remade.{Adds, AddsLoadAt, AddsLoadFor, IsNew, RenamesFirst}
use Rattle.cg_c_forms.proofs.Adding.{adds_keep}
use Rattle.cg_c_values.proofs.Known.{fits_kept}
use Rattle.cg_c_forms.proofs.Making.{Agrees, all_made_more, forms_more, made_more}

-- ---- maps that agree

same_word : (map map' : List ℕ) (x : Moment) (E : Words) (k : ℕ) (value : Value) (w : ℕ) → Agrees map map' k → MayStand k value →
    IsWordOf x (behind E map) value w → IsWordOf x (behind E map') value w
unfolding IsWordOf
same_word map map' x E k (Const word) w h s p = p
same_word map map' x E k Turn w h s p = p
same_word map map' x E k (Quotient divisor) w h s p = p
same_word map map' x E k (Digit divisor radix) w h s p = p
same_word map map' x E k (Carried number) w h s p = p
same_word map map' x E k (Input port) w h s p = p
same_word map map' x E k (Loaded array version guard address) w h s p = p
same_word map map' x E k (Two op first second) w h s p = rw (h first s.1, h second s.2) p
same_word map map' x E k (Select condition chosen other) w h s p = rw (h condition s.0, h chosen s.1, h other s.2) p

same_guard : (map map' : List ℕ) (E : Words) (k : ℕ) (guard : Option ℕ) → Agrees map map' k → IsBelow k guard → holds (behind E map') guard ≡ holds (behind E map) guard
same_guard map map' E k None h l = refl
same_guard map map' E k (Some g) h l = ap (λ j. nat_lt 0 (E j)) (h g l)

same_act : (old a b : List Value) (turns : ℕ) (map map' : List ℕ) (array version : ℕ) (guard : Option ℕ) (address : ℕ) (guard' : Option ℕ) (k : ℕ) →
    Agrees map map' k → IsBelow k guard → Keeps a b → MayAct old a turns map array version guard address guard' →
    MayAct old b turns map' array version guard address guard'
same_act old a b turns map map' array version guard address guard' k h s e (inl back) =
    inl (λ x E f l y. same_guard map map' E k guard h s ∙ back x E (fits_kept a b x E e f) l y)
same_act old a b turns map map' array version guard address guard' k h s e (inr other) = inr other

same_load : (old a b : List Value) (turns : ℕ) (map map' : List ℕ) (array version : ℕ) (guard : Option ℕ) (address k : ℕ) (value : Value) →
    Agrees map map' k → MayStand k (Loaded array version guard address) → Keeps a b →
    IsLoadOf old a turns map array version guard address value → IsLoadOf old b turns map' array version guard address value
unfolding IsLoadOf
same_load old a b turns map map' array version guard address k (Loaded a' s' guard' b') h s e p = (
  p.0,
  p.1,
  p.2 ∙ sym (h address s.1),
  λ x E f l y. p.3 x E (fits_kept a b x E e f) l (sym (same_guard map map' E k guard h s.0) ∙ y),
  same_act old a b turns map map' array version guard address guard' k h s.0 e p.4,
)
same_load old a b turns map map' array version guard address k (Const word) h s e p =
    λ x E f l. same_guard map map' E k guard h s.0 ∙ p x E (fits_kept a b x E e f) l
same_load old a b turns map map' array version guard address k Turn h s e p = absurd p
same_load old a b turns map map' array version guard address k (Quotient divisor) h s e p = absurd p
same_load old a b turns map map' array version guard address k (Digit divisor radix) h s e p = absurd p
same_load old a b turns map map' array version guard address k (Carried number) h s e p = absurd p
same_load old a b turns map map' array version guard address k (Input port) h s e p = absurd p
same_load old a b turns map map' array version guard address k (Two op first second) h s e p = absurd p
same_load old a b turns map map' array version guard address k (Select condition chosen other) h s e p = absurd p

-- ---- one more

keeps_itself : (a : List Value) → Keeps a a
keeps_itself a = record { longer = omega arith; kept = λ v l. refl }

before : (map : List ℕ) (n k : ℕ) → k < length map → renamed (map ++ n ∷ []) k ≡ renamed map k
before map n k l = get_or-append map (n ∷ []) 0 k l

last : (map : List ℕ) (n : ℕ) → renamed (map ++ n ∷ []) (length map) ≡ n
last map n = get_or-append_seam map n [] 0

pub first_more : (old a b : List Value) (turns : ℕ) (map : List ℕ) (n count : ℕ) → RenamesFirst old a turns map count → Adds (IsForm turns) a b →
    AddsLoadFor a b (value_at old count) → AddsLoadAt a b n → MayStand count (value_at old count) → IsNew old b turns map (value_at old count) n → RenamesFirst old b turns (map ++ n ∷ []) (count + 1)
first_more old a b turns map n count r e load place s m =
    record {
      long = omega (arith, length-append map (n ∷ []), r.long);
      stand = below_more _ _ r.stand s;
      within = below_more _ _
          (λ v l. let h = e.longer in let w = r.within v l in let i = agrees v l in omega arith)
          (let w = m.within in let i = newest in omega arith);
      is = λ x E t f. below_more _ _
          (λ v l. rw (agrees v l) (same_word map more x E v (value_at old v) (E (renamed map v)) (λ j i. agrees j (omega arith)) (r.stand v l) (r.is x E t (fits_kept a b x E k f) v l)))
          (rw newest (same_word map more x E count (value_at old count) (E n) agrees s (m.is x E t f)));
      loads = λ v array version address guard l. below_more
          (λ v. value_at old v ≡ Loaded array version guard address → IsLoadOf old b turns more array version guard address (value_at b (renamed more v))) _
          (λ v l i. rw (agrees v l, e.kept (renamed map v) (r.within v l))
          (same_load old a b turns map more array version guard address v (value_at a (renamed map v)) (λ j k. agrees j (omega arith))
          (subst (MayStand v) i (r.stand v l)) k (r.loads v array version address guard l i)))
          (λ i. rw newest
          (same_load old b b turns map more array version guard address count (value_at b n) agrees
          (subst (MayStand count) i s) (keeps_itself b) (m.load array version address guard i)))
          v l;
      forms = forms_more turns a b e r.forms;
      made = λ u w l. made_more old a b map more n count agrees newest k load place r.within m.within (λ w l u. r.made u w l) r.all_made w l u;
      all_made = all_made_more old a b map more n count agrees newest k load place r.all_made;
    }
  where
    k : Keeps a b
    k = adds_keep e

    more : List ℕ
    more = map ++ n ∷ []

    agrees : Agrees map more count
    agrees j l = before map n j (let h = r.long in omega arith)

    newest : renamed more count ≡ n
    newest = rw (← r.long) (last map n)
