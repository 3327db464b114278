-- The ports of pins, compared with others one after another.
use Rattle.std.proofs.Common.{◌≡◌, ℕ, suc, ◌+◌, ◌<◌, Bool, true, false, List, [], ◌∷◌, length, map, take, drop, get_or, refl, ap, sym, ◌∙◌, arith, length-drop}
use Rattle.std.specs.Prelude.{IsTrue, ◌↔◌}
use Rattle.std.proofs.lemmas.Bool.{both_ways}
use Rattle.std.proofs.lemmas.List.{get_or-map, length-map, take_more_same}
use Rattle.cg_verilog.specs.declared.module.Pin.{Pin as PinLent}
use Rattle.cg_verilog.specs.Read as modules
use Rattle.cg_netlist.specs.declared.parts.Pin.{Pin}
use Rattle.cg_netlist_reader.specs.Ported.{lent_ports, pin_taken}

-- ---- further ports

port_at : (pins : List PinLent) (i : ℕ) (d : PinLent) → i < length pins → get_or (lent_ports pins) i [] ≡ (get_or pins i d).port.now
port_at pins i d l = get_or-map (λ (q : PinLent). q.port.now) pins i d [] l

next_port : (ports : List (List ℕ)) (i : ℕ) → get_or ports (i + 1) [] ≡ get_or (drop 1 ports) i []
next_port [] i = refl
next_port (x ∷ xs) i = let more : i + 1 ≡ suc i = omega arith in ap (λ n. get_or (x ∷ xs) n []) more

no : (xs ys : List (List ℕ)) → (xs ≡ ys → ⊥) → (IsTrue false ↔ (xs ≡ ys))
no xs ys apart = (λ e. let bad : false ≡ true = e in absurd (cc), λ e. absurd (apart e))

-- a pin whose port isn't the one at its place
pub item_differs : (pins : List PinLent) (ports : List (List ℕ)) (i : ℕ) (d : PinLent) (own wanted : List ℕ) (r : Bool) → i < length pins → own ≡ (get_or pins i d).port.now → wanted ≡ get_or ports (i + 1) []
    → (IsTrue r ↔ (own ≡ wanted)) → r ≡ false → (IsTrue false ↔ (lent_ports pins ≡ drop 1 ports))
item_differs pins ports i d own wanted r l one two same none =
    no (lent_ports pins) (drop 1 ports)
    (λ e. both_ways r none (same.1 (one ∙ sym (port_at pins i d l) ∙ ap (λ ps. get_or ps i []) e ∙ sym (next_port ports i) ∙ sym two)))

-- and one whose port is
pub item_same : (pins : List PinLent) (ports : List (List ℕ)) (i : ℕ) (d : PinLent) (own wanted : List ℕ) (r : Bool) → length pins + 1 ≡ length ports → i < length pins → own ≡ (get_or pins i d).port.now
    → wanted ≡ get_or ports (i + 1) [] → (IsTrue r ↔ (own ≡ wanted)) → r ≡ true → take i (lent_ports pins) ≡ take i (drop 1 ports) → take (i + 1) (lent_ports pins) ≡ take (i + 1) (drop 1 ports)
item_same pins ports i d own wanted r long l one two same found before =
    let all : length (lent_ports pins) ≡ length pins = length-map pins (λ (x : PinLent). x.port.now) in
    let many = length-drop 1 ports in
    take_more_same (lent_ports pins) (drop 1 ports) i [] (omega (arith, all, l)) (omega (arith, many, long, l)) before (port_at pins i d l ∙ sym one ∙ same.0 found ∙ two ∙ next_port ports i)

-- ---- all ports of a cell

taken_ports : (pins : List PinLent) → map (λ (p : Pin). p.port) (map pin_taken (map modules.pin_of pins)) ≡ lent_ports pins
taken_ports [] = refl
taken_ports (p ∷ pins) = ap (λ ps. p.port.now ∷ ps) (taken_ports pins)

abbrev all_ports : PinLent → List PinLent → List (List ℕ)
all_ports p pins = map (λ (q : Pin). q.port) (map pin_taken (modules.pin_of p ∷ map modules.pin_of pins))

all_are : (p : PinLent) (pins : List PinLent) → all_ports p pins ≡ p.port.now ∷ lent_ports pins
all_are p pins = ap (λ ps. p.port.now ∷ ps) (taken_ports pins)

pub ports_found : (p : PinLent) (pins : List PinLent) (ports : List (List ℕ)) (own wanted : List ℕ) (r b : Bool) → 0 < length ports → own ≡ p.port.now → wanted ≡ get_or ports 0 [] → (IsTrue r ↔ (own ≡ wanted)) → r ≡ true
    → (IsTrue b ↔ (lent_ports pins ≡ drop 1 ports)) → (IsTrue b ↔ (all_ports p pins ≡ ports))
ports_found p pins [] own wanted r b some one two same found rest = absurd (omega (arith, some))
ports_found p pins (x ∷ xs) own wanted r b some one two same found rest = (
  λ e. all_are p pins ∙ ap (λ y. y ∷ lent_ports pins) (sym one ∙ same.0 found ∙ two) ∙ ap (λ ys. x ∷ ys) (rest.0 e),
  λ e. rest.1 (ap (drop 1) (sym (all_are p pins) ∙ e)),
)
