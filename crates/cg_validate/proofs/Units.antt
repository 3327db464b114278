-- The units of elements, and the numbers of their resources.
use Rattle.std.proofs.Common.{◌≡◌, ℕ, zero, suc, ◌+◌, List, [], ◌∷◌, length, Some, None, refl, ap, sym, ◌∙◌, arith, count_by, cond}
use Rattle.std.proofs.lemmas.List.Recursion.{is_count_by}
use Rattle.std.specs.Prelude.{slice_get}
use Rattle.std.specs.List.{range_with_len}
use Rattle.cg_word.specs.declared.op.Op.{Op}
use Rattle.cg_model.specs.declared.array.Unit.{Unit}
use Rattle.cg_parts.specs.declared.parts.Element.{Element}
use Rattle.cg_parts.specs.declared.parts.Element.TheVariants as element
use Rattle.cg_parts.specs.Parts.{entries_of}
use Rattle.cg_parts.specs.Rules.{is_unit}
use Rattle.cg_validate.specs.Flat.{units_of, units_from}
use Rattle.cg_validate.proofs.Places.{start}

-- the unit whose resources begin with number `first`
abbrev pub unit_at : ℕ → List ℕ → List Op → ℕ → List (List (List ℕ)) → Unit
unit_at first name ops latency ports = record { name = name; ops = ops; latency = latency; ports = range_with_len first (length ports); out = first + length ports }

-- how many units stand before element i
abbrev pub units_before : List Element → ℕ → ℕ
units_before es i = start (units_of 0) es i

-- unit x is element i
pub record IsUnitPlace (first : ℕ) (es : List Element) (x : ℕ) (u : Unit) : Type 0 where
  pub i : ℕ
  pub name : List ℕ
  pub ops : List Op
  pub latency : ℕ
  pub ports : List (List (List ℕ))
  pub at : slice_get es i ≡ Some (element.Unit name ops latency ports)
  pub number : x ≡ units_before es i
  pub is : u ≡ unit_at (first + start entries_of es i) name ops latency ports

moved : (a b : ℕ) (name : List ℕ) (ops : List Op) (latency : ℕ) (ports : List (List (List ℕ))) → a ≡ b → unit_at a name ops latency ports ≡ unit_at b name ops latency ports
moved a b name ops latency ports e = ap (λ first. unit_at first name ops latency ports) e

-- one element more before them
later : (first : ℕ) (e : Element) (es : List Element) (x n : ℕ) (u : Unit) → length (units_of 0 e) ≡ n → IsUnitPlace (first + length (entries_of e)) es x u → IsUnitPlace first (e ∷ es) (n + x) u
later first e es x n u one p = record {
  i = suc p.i;
  name = p.name;
  ops = p.ops;
  latency = p.latency;
  ports = p.ports;
  at = p.at;
  number = let number = p.number in omega (arith, number, one);
  is = p.is ∙ moved (first + length (entries_of e) + start entries_of es p.i) (first + (length (entries_of e) + start entries_of es p.i)) p.name p.ops p.latency p.ports (omega arith);
}

renumbered : (first : ℕ) (es : List Element) (x y : ℕ) (u : Unit) → x ≡ y → IsUnitPlace first es x u → IsUnitPlace first es y u
renumbered first es x y u e p = record { i = p.i; name = p.name; ops = p.ops; latency = p.latency; ports = p.ports; at = p.at; number = sym e ∙ p.number; is = p.is }

pub unit_place : (first : ℕ) (es : List Element) (x : ℕ) (u : Unit) → slice_get (units_from first es) x ≡ Some u → IsUnitPlace first es x u
unit_place first [] x u e = let bad : None ≡ Some u = e in absurd (cc)
unit_place first (element.Wire name drivers ∷ es) x u e =
    renumbered first (element.Wire name drivers ∷ es) (0 + x) x u (omega arith) (later first (element.Wire name drivers) es x 0 u refl (unit_place (first + length (entries_of (element.Wire name drivers))) es x u e))
unit_place first (element.Register name drivers ∷ es) x u e =
    renumbered first (element.Register name drivers ∷ es) (0 + x) x u (omega arith) (later first (element.Register name drivers) es x 0 u refl (unit_place (first + length (entries_of (element.Register name drivers))) es x u e))
unit_place first (element.Unit name ops latency ports ∷ es) zero u e = record {
  i = zero;
  name = name;
  ops = ops;
  latency = latency;
  ports = ports;
  at = refl;
  number = refl;
  is = let same : unit_at first name ops latency ports ≡ u = cc in sym same ∙ moved first (first + 0) name ops latency ports (omega arith);
}
unit_place first (element.Unit name ops latency ports ∷ es) (suc x) u e =
    renumbered first (element.Unit name ops latency ports ∷ es) (1 + x) (suc x) u (omega arith) (later first (element.Unit name ops latency ports) es x 1 u refl (unit_place (first + length (entries_of (element.Unit name ops latency ports))) es x u e))

pub unit_get : (first : ℕ) (es : List Element) (i : ℕ) (name : List ℕ) (ops : List Op) (latency : ℕ) (ports : List (List (List ℕ))) → slice_get es i ≡ Some (element.Unit name ops latency ports)
    → slice_get (units_from first es) (units_before es i) ≡ Some (unit_at (first + start entries_of es i) name ops latency ports)
unit_get first [] i name ops latency ports at = let bad : None ≡ Some (element.Unit name ops latency ports) = at in absurd (cc)
unit_get first (e ∷ es) zero name ops latency ports at =
    let same : e ≡ element.Unit name ops latency ports = cc in
    ap (λ d. slice_get (units_from first (d ∷ es)) 0) same ∙ ap Some (moved first (first + 0) name ops latency ports (omega arith))
unit_get first (element.Wire n d ∷ es) (suc i) name ops latency ports at =
    let same : 0 + units_before es i ≡ units_before es i = omega arith in
    ap (slice_get (units_from (first + length (entries_of (element.Wire n d))) es)) same ∙ unit_get (first + length (entries_of (element.Wire n d))) es i name ops latency ports at
    ∙ ap Some (moved (first + length (entries_of (element.Wire n d)) + start entries_of es i) (first + (length (entries_of (element.Wire n d)) + start entries_of es i)) name ops latency ports (omega arith))
unit_get first (element.Register n d ∷ es) (suc i) name ops latency ports at =
    let same : 0 + units_before es i ≡ units_before es i = omega arith in
    ap (slice_get (units_from (first + length (entries_of (element.Register n d))) es)) same ∙ unit_get (first + length (entries_of (element.Register n d))) es i name ops latency ports at
    ∙ ap Some (moved (first + length (entries_of (element.Register n d)) + start entries_of es i) (first + (length (entries_of (element.Register n d)) + start entries_of es i)) name ops latency ports (omega arith))
unit_get first (element.Unit n o l p ∷ es) (suc i) name ops latency ports at =
    let same : 1 + units_before es i ≡ suc (units_before es i) = omega arith in
    ap (slice_get (units_from first (element.Unit n o l p ∷ es))) same ∙ unit_get (first + length (entries_of (element.Unit n o l p))) es i name ops latency ports at
    ∙ ap Some (moved (first + length (entries_of (element.Unit n o l p)) + start entries_of es i) (first + (length (entries_of (element.Unit n o l p)) + start entries_of es i)) name ops latency ports (omega arith))

-- ---- their number

abbrev counted : List Element → ℕ
counted [] = 0
counted (e ∷ es) = cond (is_unit e) (1 + counted es) (counted es)

units_counted : (first : ℕ) (es : List Element) → length (units_from first es) ≡ counted es
units_counted first [] = refl
units_counted first (element.Wire name drivers ∷ es) = units_counted (first + length (entries_of (element.Wire name drivers))) es
units_counted first (element.Register name drivers ∷ es) = units_counted (first + length (entries_of (element.Register name drivers))) es
units_counted first (element.Unit name ops latency ports ∷ es) =
    let rest = units_counted (first + length (entries_of (element.Unit name ops latency ports))) es in omega (arith, rest)

pub length-units_from : (first : ℕ) (es : List Element) → length (units_from first es) ≡ count_by is_unit es
length-units_from first es = units_counted first es ∙ is_count_by counted is_unit refl (λ _ _. refl) es
