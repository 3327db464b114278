-- Ports that are used, as the code notes them.
use Rattle.std.proofs.Common.{◌≡◌, ℕ, zero, suc, ◌+◌, ◌*◌, ◌<◌, ◌≤◌, ◌&&◌, ◌||◌, not, Bool, true, false, eqb, List, ◌++◌, length, Option, refl, sym, ap, ◌∙◌, arith, add-one}
use Rattle.cg_word.specs.declared.op.Op.{Op}
use Rattle.cg_model.specs.declared.config.UnitFields.{UnitFields}
use Rattle.cg_model.specs.Array.{Arch}
use Rattle.cg_model.specs.Canonical.{gives_output, any_below}
use Rattle.cg_bits.specs.declared.format.Format.{Format}
use Rattle.cg_bits.specs.Numbers.{number_at}
use Rattle.cg_bits.specs.Parts.{joined}
use Rattle.cg_bits.specs.Format.{op_of, slot_len}
use Rattle.cg_bits.specs.Reading.{unit_in, unit_place}
use Rattle.cg_bits.specs.Faults.{unless}
use Rattle.cg_bits.specs.Checks.{gives_to, uses, port_fault, fields_there}
use Rattle.cg_bits.proofs.Places.{unit_inside}
use Rattle.cg_bits.proofs.Fields.{number_at_below}

pub fields_op : (F : Format) (n : ℕ) (bits : List Bool) (at : ℕ) → (unit_in F n bits at).op ≡ op_of F (number_at bits at F.op_bits)
unfolding unit_in
fields_op F n bits at = refl

pub fields_port : (F : Format) (n : ℕ) (bits : List Bool) (at : ℕ) → (unit_in F n bits at).port ≡ number_at bits (at + F.op_bits + 16) 4
unfolding unit_in
fields_port F n bits at = refl

-- a port is below 16
pub port_below : (F : Format) (A : Arch) (bits : List Bool) (slot ii x : ℕ) → x < length A.units → slot < ii → ii * slot_len F A ≤ length bits → (fields_there F A bits slot x).port < 16
unfolding unit_in
port_below F A bits slot ii x lt in_time long =
    let inside = unit_inside F A x slot ii lt in_time in
    number_at_below bits (unit_place F A x slot + F.op_bits + 16) 4 (omega arith)

pub any_none : (p : ℕ → Bool) → any_below p 0 ≡ false
unfolding any_below
any_none p = refl

pub any_more : (p : ℕ → Bool) (n : ℕ) → any_below p (n + 1) ≡ (any_below p n || p n)
unfolding any_below
any_more p n = ap (any_below p) (add-one n)

pub or_assoc : (a b c : Bool) → ((a || b) || c) ≡ (a || (b || c))
or_assoc true b c = refl
or_assoc false b c = refl

-- what is noted after a field more
pub noted_more : (used : Bool) (f : ℕ → UnitFields) (x q : ℕ) (old new : Bool) (op : Option Op) (port : ℕ) →
    old ≡ (used || uses f x q) → new ≡ (old || (gives_output op && eqb port q)) → op ≡ (f x).op → port ≡ (f x).port → new ≡ (used || uses f (x + 1) q)
noted_more used f x q old new op port e g h k =
    g ∙ ap (λ z. z || (gives_output op && eqb port q)) e ∙ ap (λ (o : Option Op). (used || uses f x q) || (gives_output o && eqb port q)) h
    ∙ ap (λ z. (used || uses f x q) || (gives_output (f x).op && eqb z q)) k ∙ or_assoc used (uses f x q) (gives_to (f x) q) ∙ ap (λ z. used || z) (sym (any_more (λ y. gives_to (f y) q) x))

-- whether a port is free
pub free_is : (used : ℕ → Bool) (f : ℕ → UnitFields) (x : ℕ) (now free : Bool) (op : Option Op) (port : ℕ) →
    now ≡ (used (f x).port || uses f x (f x).port) → free ≡ not (gives_output op && now) → op ≡ (f x).op →
    free ≡ not (gives_output (f x).op && (used (f x).port || uses f x (f x).port))
free_is used f x now free op port e g h =
    g ∙ ap (λ (o : Option Op). not (gives_output o && now)) h ∙ ap (λ z. not (gives_output (f x).op && z)) e

pub joined_same : {X : Type 0} (f g : ℕ → List X) (n : ℕ) → ((i : ℕ) → i < n → f i ≡ g i) → joined f n ≡ joined g n
unfolding joined
joined_same f g zero h = refl
joined_same f g (suc n) h = ap (λ z. z ++ f n) (joined_same f g n (λ i lt. h i (omega arith))) ∙ ap (λ z. joined g n ++ z) (h n (omega arith))

-- the faults depend on what is noted of the ports below 16
pub port_faults_same : (u v : ℕ → Bool) (f : ℕ → UnitFields) (at : ℕ → ℕ) (n : ℕ) → ((q : ℕ) → q < 16 → u q ≡ v q) → ((x : ℕ) → x < n → (f x).port < 16) →
    joined (port_fault u f at) n ≡ joined (port_fault v f at) n
port_faults_same u v f at n same small =
    joined_same (port_fault u f at) (port_fault v f at) n
    (λ x lt. ap (λ z. unless (not (gives_output (f x).op && (z || uses f x (f x).port))) (at x)) (same (f x).port (small x lt)))
