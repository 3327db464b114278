-- The faults of the header, and what holds where there are none.
use Rattle.std.proofs.Common.{◌≡◌, ℕ, zero, suc, ◌+◌, ◌*◌, ◌/◌, ◌<◌, ◌≤◌, not, ◌||◌, eqb, ltb, leb, cond, Bool, true, false, List, [], ◌∷◌, ◌++◌, length, Some, Result, Ok, Err, refl, sym, ap, ◌∙◌, arith}
use Rattle.std.proofs.Math.Dec.{eqb-suc-zero}
use Rattle.std.proofs.lemmas.Bool.{ltb-false, leb-true, or_parts, not-true}
use Rattle.cg_model.specs.Array.{Arch}
use Rattle.cg_bits.specs.declared.format.Format.{Format}
use Rattle.cg_bits.specs.declared.fault.BitsFault.{BitsFault}
use Rattle.cg_bits.specs.declared.fault.BitsFault.TheVariants.{Truncated, BadHeader}
use Rattle.std.specs.Prelude.{bytes_eq}
use Rattle.cg_bits.specs.Reading.{ii_in, stages_in, config_in}
use Rattle.cg_bits.specs.Faults as Faults
use Rattle.cg_bits.specs.Faults.{first, unless}
use Rattle.cg_bits.specs.Checks.{Checks, start_faults}
use Rattle.cg_bits.specs.Format.{slot_len}
use Rattle.cg_bits.proofs.Breaches.{skip}
use Rattle.cg_bits.proofs.None.{none_both, none_unless, none_guard, both_none}
use Rattle.cg_bits.specs.Ranges.{IsFormat}
use Rattle.cg_bits.proofs.Linked.{faults_are}

-- the header's end, after its first bytes: too short, or a fault of the header, or too short for the slots
abbrev pub after : Bool → Bool → BitsFault → List BitsFault → List BitsFault
after short enough t header = cond short (t ∷ []) (cond (eqb (length header) 0) (unless enough t) []) ++ header

pub after_header : (short enough : Bool) (t f : BitsFault) (header : List BitsFault) → short ≡ false → first header ≡ Some f → first (after short enough t header) ≡ Some f
after_header true enough t f header e h = absurd cc
after_header false enough t f [] e h = absurd cc
after_header false enough t f (x ∷ xs) e h = ap (λ b. first (cond b (unless enough t) [] ++ (x ∷ xs))) (eqb-suc-zero (length xs)) ∙ h

pub after_long : (short enough : Bool) (t : BitsFault) (header : List BitsFault) → short ≡ false → header ≡ [] → enough ≡ false → first (after short enough t header) ≡ Some t
after_long true enough t header e h g = absurd cc
after_long false true t header e h g = absurd cc
after_long false false t [] e h g = refl
after_long false false t (x ∷ xs) e h g = absurd cc

pub after_none : (short enough : Bool) (t : BitsFault) (header : List BitsFault) → short ≡ false → header ≡ [] → enough ≡ true → after short enough t header ≡ []
after_none true enough t header e h g = absurd cc
after_none false false t header e h g = absurd cc
after_none false true t [] e h g = refl
after_none false true t (x ∷ xs) e h g = absurd cc

-- ---- the tests of the header

pub same_digest : (ne : Bool) (f a x y : List ℕ) → ne ≡ not (bytes_eq f a) → ne ≡ false → f ≡ x → a ≡ y → bytes_eq x y ≡ true
same_digest ne f a x y e h g k = ap (λ z. bytes_eq z y) (sym g) ∙ ap (bytes_eq f) (sym k) ∙ not_false _ (sym e ∙ h)
  where
    not_false : (b : Bool) → not b ≡ false → b ≡ true
    not_false true e = refl
    not_false false e = absurd cc

pub header_test : (r : Bool) (c k i j s t : ℕ) → r ≡ (eqb i 0 || (ltb c i || eqb s 0)) → c ≡ k → i ≡ j → s ≡ t → r ≡ (eqb j 0 || (ltb k j || eqb t 0))
header_test r c k i j s t e f g h =
    e ∙ ap (λ z. eqb i 0 || (ltb z i || eqb s 0)) f ∙ ap (λ z. eqb z 0 || (ltb k z || eqb s 0)) g ∙ ap (λ z. eqb j 0 || (ltb k j || eqb z 0)) h

-- ---- two checks, one after the other

pub checks_then : {X : Type 0} (r : Result X BitsFault) (xs ys : List BitsFault) → xs ≡ [] → Checks r ys → Checks r (xs ++ ys)
checks_then (Ok x) xs ys e h = both_none xs ys e h
checks_then (Err f) xs ys e h = skip xs ys (Some f) e h

-- ---- what a right header says

pub record IsStarted (F : Format) (A : Arch) (bytes : List ℕ) : Type 0 where
  pub header : 40 ≤ length bytes
  pub some : 0 < ii_in bytes
  pub contexts : ii_in bytes ≤ A.contexts
  pub whole : 40 + (ii_in bytes * slot_len F A + 7) / 8 ≤ length bytes

some_of : (n : ℕ) → (eqb n 0 ≡ false) → 0 < n
some_of zero e = absurd cc
some_of (suc n) e = omega arith

long_enough : (b short : Bool) (t : BitsFault) → cond b (unless short t) [] ≡ [] → b ≡ true → short ≡ true
long_enough true short t e h = none_unless short t e
long_enough false short t e h = absurd cc

pub started : (F : Format) (A : Arch) (digest bytes : List ℕ) → start_faults F A digest bytes ≡ [] → IsStarted F A bytes
unfolding config_in
started F A digest bytes e =
    let D = Faults.other_digest F A digest bytes in
    let H = Faults.bad_header F A digest bytes in
    let a = none_both (Faults.wrong_magic F A digest bytes) _ e in
    let b = none_both (Faults.too_short F A digest bytes) (D ++ H) a.1 in
    let d = none_both D H b.1 in
    let s = unless (leb (Faults.size F A digest bytes) (length bytes)) (Truncated (length bytes)) in
    let long = none_guard (ltb (length bytes) 40) (Truncated (length bytes)) (cond (eqb (length (D ++ H)) 0) s []) b.0 in
    let right = or_parts (eqb (ii_in bytes) 0) (ltb A.contexts (ii_in bytes) || eqb (stages_in bytes) 0) (not-true _ (none_unless _ (BadHeader (ii_in bytes) (stages_in bytes)) d.1)) in
    let few = or_parts (ltb A.contexts (ii_in bytes)) (eqb (stages_in bytes) 0) right.1 in
    let empty : eqb (length (D ++ H)) 0 ≡ true = ap (λ (xs : List BitsFault). eqb (length xs) 0) b.1 in
    record {
      header = ltb-false _ _ long.0;
      some = some_of (ii_in bytes) right.0;
      contexts = ltb-false _ _ few.0;
      whole = leb-true _ _ (long_enough (eqb (length (D ++ H)) 0) (leb (Faults.size F A digest bytes) (length bytes)) (Truncated (length bytes)) long.1 empty);
    }

-- no fault at all, so none of the header
pub none_started : (F : Format) → IsFormat F → (A : Arch) (digest bytes : List ℕ) → Faults.faults F A digest bytes ≡ [] → IsStarted F A bytes
none_started F is A digest bytes e = started F A digest bytes (none_both (start_faults F A digest bytes) _ (sym (faults_are F is A digest bytes) ∙ e)).0
