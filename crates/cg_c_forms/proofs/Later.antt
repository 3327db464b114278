-- What is known of values holds when more have been added.
use Rattle.std.proofs.Common.{ℕ, List, arith}
use Rattle.cg_c_values.specs.declared.value.Value.{Value}
use Rattle.cg_c_values.specs.Values.{Extends, Keeps, Means, Moment, Words}
use Rattle.cg_c_values.proofs.Known.{extends_further, fits_kept}
use Rattle.cg_c_forms.specs.Remade.{MeansIn}

pub extends_twice : (a b c : List Value) → Extends a b → Extends b c → Extends a c
extends_twice a b c e f = extends_further a b c e f

pub means_later : {a b : List Value} {v : ℕ} {word : Moment → Words → ℕ} → Keeps a b → Means a v word → Means b v word
means_later {a} {b} e m =
    let l = e.longer in
    let w = m.within in
    record { within = omega arith; is = λ x E f. m.is x E (fits_kept a b x E e f) }

pub means_in_later : {turns : ℕ} {a b : List Value} {v : ℕ} {word : ℕ → ℕ} → Keeps a b → MeansIn turns a v word → MeansIn turns b v word
means_in_later {turns} {a} {b} e m =
    let l = e.longer in
    let w = m.within in
    record { within = omega arith; is = λ x E t f. m.is x E t (fits_kept a b x E e f) }
