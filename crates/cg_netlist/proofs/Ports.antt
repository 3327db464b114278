-- The pins of a cell are those of its form, in order.
use Rattle.std.proofs.Common.{◌≡◌, ℕ, zero, suc, ◌+◌, ◌<◌, List, [], ◌∷◌, ◌++◌, length, map, take, get_or, refl, ap, sym, ◌∙◌, append_assoc, arith}
use Rattle.std.specs.Prelude.{codes}
use Rattle.std.specs.List.{range_with_len}
use Rattle.std.proofs.lemmas.List.{map-append}
use Rattle.cg_model.specs.declared.array.Resource.{Resource}
use Rattle.cg_model.specs.Array.{Arch, resource}
use Rattle.cg_netlist.specs.Forms.{driver_port, argument_port}
use Rattle.cg_netlist.specs.Netlist.{Pin, pin, word_net, driver_pins, argument_pins, choice_pins, output_pins}

-- the ports of pins
abbrev pub ports : List Pin → List (List ℕ)
ports pins = map (λ (p : Pin). p.port) pins

pub ports-append : (xs ys : List Pin) → ports (xs ++ ys) ≡ ports xs ++ ports ys
ports-append xs ys = map-append (λ (p : Pin). p.port) xs ys

driver_ports : (A : Arch) (k : ℕ) (qs : List ℕ) → ports (driver_pins A k qs) ≡ map driver_port (range_with_len k (length qs))
driver_ports A k [] = refl
driver_ports A k (q ∷ qs) = ap (λ ps. driver_port k ∷ ps) (driver_ports A (k + 1) qs)

argument_ports : (A : Arch) (k : ℕ) (qs : List ℕ) → ports (argument_pins A k qs) ≡ map argument_port (range_with_len k (length qs))
argument_ports A k [] = refl
argument_ports A k (q ∷ qs) = ap (λ ps. argument_port k ∷ ps) (argument_ports A (k + 1) qs)

pub choice_ports : (A : Arch) (r : Resource) → ports (choice_pins A r) ≡ codes "s" ∷ (map driver_port (range_with_len 1 (length r.drivers)) ++ codes "q" ∷ [])
choice_ports A r =
    ap (λ ps. codes "s" ∷ ps) (ports-append (driver_pins A 1 r.drivers) (output_pins (word_net r)) ∙ ap (λ ps. ps ++ codes "q" ∷ []) (driver_ports A 1 r.drivers))

pub unit_ports : (A : Arch) (qs : List ℕ) (net : List ℕ) → ports (argument_pins A 0 qs ++ output_pins net) ≡ map argument_port (range_with_len 0 (length qs)) ++ codes "q" ∷ []
unit_ports A qs net = ports-append (argument_pins A 0 qs) (output_pins net) ∙ ap (λ ps. ps ++ codes "q" ∷ []) (argument_ports A 0 qs)

-- ---- one pin more

pub drivers-more : (A : Arch) (k : ℕ) (qs : List ℕ) (i : ℕ) (d : ℕ) → i < length qs
    → driver_pins A k (take (i + 1) qs) ≡ driver_pins A k (take i qs) ++ pin (driver_port (k + i)) (word_net (resource A (get_or qs i d))) ∷ []
drivers-more A k [] i d h = absurd (omega arith)
drivers-more A k (q ∷ qs) zero d h = let same : k + 0 ≡ k = omega arith in rw same refl
drivers-more A k (q ∷ qs) (suc i) d h =
    let same : k + 1 + i ≡ k + suc i = omega arith in
    let more : suc i + 1 ≡ suc (i + 1) = omega arith in
    let rest = drivers-more A (k + 1) qs i d (omega arith) in
    let step = ap (λ n. driver_pins A k (take n (q ∷ qs))) more in
    step ∙ ap (λ ps. pin (driver_port k) (word_net (resource A q)) ∷ ps) (rest ∙ ap (λ n. driver_pins A (k + 1) (take i qs) ++ pin (driver_port n) (word_net (resource A (get_or qs i d))) ∷ []) same)

pub arguments-more : (A : Arch) (k : ℕ) (qs : List ℕ) (i : ℕ) (d : ℕ) → i < length qs
    → argument_pins A k (take (i + 1) qs) ≡ argument_pins A k (take i qs) ++ pin (argument_port (k + i)) (word_net (resource A (get_or qs i d))) ∷ []
arguments-more A k [] i d h = absurd (omega arith)
arguments-more A k (q ∷ qs) zero d h = let same : k + 0 ≡ k = omega arith in rw same refl
arguments-more A k (q ∷ qs) (suc i) d h =
    let same : k + 1 + i ≡ k + suc i = omega arith in
    let more : suc i + 1 ≡ suc (i + 1) = omega arith in
    let rest = arguments-more A (k + 1) qs i d (omega arith) in
    let step = ap (λ n. argument_pins A k (take n (q ∷ qs))) more in
    step ∙ ap (λ ps. pin (argument_port k) (word_net (resource A q)) ∷ ps) (rest ∙ ap (λ n. argument_pins A (k + 1) (take i qs) ++ pin (argument_port n) (word_net (resource A (get_or qs i d))) ∷ []) same)

-- what a loop has pushed
pub pushed_driver : (A : Arch) (qs : List ℕ) (i : ℕ) (net : List ℕ) (old before after : List Pin) → i < length qs → net ≡ word_net (resource A (get_or qs i 0))
    → before ≡ old ++ driver_pins A 1 (take i qs) → after ≡ before ++ pin (driver_port (i + 1)) net ∷ [] → after ≡ old ++ driver_pins A 1 (take (i + 1) qs)
pushed_driver A qs i net old before after l named was is =
    let place : i + 1 ≡ 1 + i = omega arith in
    is ∙ ap (λ w. before ++ pin (driver_port (i + 1)) w ∷ []) named
    ∙ ap (λ b. b ++ pin (driver_port (i + 1)) (word_net (resource A (get_or qs i 0))) ∷ []) was
    ∙ append_assoc old (driver_pins A 1 (take i qs)) (pin (driver_port (i + 1)) (word_net (resource A (get_or qs i 0))) ∷ [])
    ∙ ap (λ k. old ++ (driver_pins A 1 (take i qs) ++ pin (driver_port k) (word_net (resource A (get_or qs i 0))) ∷ [])) place
    ∙ ap (λ ps. old ++ ps) (sym (drivers-more A 1 qs i 0 l))

pub pushed_argument : (A : Arch) (qs : List ℕ) (i : ℕ) (port net : List ℕ) (old before after : List Pin) → i < length qs → port ≡ argument_port i → net ≡ word_net (resource A (get_or qs i 0))
    → before ≡ old ++ argument_pins A 0 (take i qs) → after ≡ before ++ pin port net ∷ [] → after ≡ old ++ argument_pins A 0 (take (i + 1) qs)
pushed_argument A qs i port net old before after l ported named was is =
    let place : i ≡ 0 + i = omega arith in
    is ∙ ap (λ w. before ++ pin port w ∷ []) named
    ∙ ap (λ p. before ++ pin p (word_net (resource A (get_or qs i 0))) ∷ []) ported
    ∙ ap (λ b. b ++ pin (argument_port i) (word_net (resource A (get_or qs i 0))) ∷ []) was
    ∙ append_assoc old (argument_pins A 0 (take i qs)) (pin (argument_port i) (word_net (resource A (get_or qs i 0))) ∷ [])
    ∙ ap (λ k. old ++ (argument_pins A 0 (take i qs) ++ pin (argument_port k) (word_net (resource A (get_or qs i 0))) ∷ [])) place
    ∙ ap (λ ps. old ++ ps) (sym (arguments-more A 0 qs i 0 l))
