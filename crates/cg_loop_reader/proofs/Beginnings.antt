-- What the beginning of an operand says of its first token.
use Rattle.std.proofs.Common.{◌≡◌, ℕ, Bool, true, false, List, cond, refl, sym, ◌∙◌}
use Rattle.std.specs.Prelude.{codes, bytes_eq}
use Rattle.std.proofs.lemmas.Slice.Eq.{bytes_eq-Decides}
use Rattle.cg_loop_syntax.specs.Well.{is_loop_name}
use Rattle.cg_loop_text_spec.specs.Words.{is_number, number_of}
use Rattle.cg_loop_reader.specs.declared.words.Beginning.{Beginning}
use Rattle.cg_loop_reader.specs.declared.words.Beginning.TheVariants as begins
use Rattle.cg_loop_reader.specs.Kinds.{beginning_of}

chosen : Bool → Bool → Bool → Bool → ℕ → Beginning
chosen a b c d v = cond a (begins.Number v) (cond b begins.Turn (cond c begins.In (cond d begins.Name begins.Other)))

number_chosen : (a b c d : Bool) (v w : ℕ) → chosen a b c d v ≡ begins.Number w → (a ≡ true) × (v ≡ w)
unfolding chosen
number_chosen true b c d v w e = (refl, let same : ◌≡◌ {A = ℕ} v w = cc in same)
number_chosen false true c d v w e = cc
number_chosen false false true d v w e = cc
number_chosen false false false true v w e = cc
number_chosen false false false false v w e = cc

turn_chosen : (a b c d : Bool) (v : ℕ) → chosen a b c d v ≡ begins.Turn → b ≡ true
unfolding chosen
turn_chosen true b c d v e = cc
turn_chosen false true c d v e = refl
turn_chosen false false true d v e = cc
turn_chosen false false false true v e = cc
turn_chosen false false false false v e = cc

in_chosen : (a b c d : Bool) (v : ℕ) → chosen a b c d v ≡ begins.In → c ≡ true
unfolding chosen
in_chosen true b c d v e = cc
in_chosen false true c d v e = cc
in_chosen false false true d v e = refl
in_chosen false false false true v e = cc
in_chosen false false false false v e = cc

name_chosen : (a b c d : Bool) (v : ℕ) → chosen a b c d v ≡ begins.Name → d ≡ true
unfolding chosen
name_chosen true b c d v e = cc
name_chosen false true c d v e = cc
name_chosen false false true d v e = cc
name_chosen false false false true v e = refl
name_chosen false false false false v e = cc

other_chosen : (a b c d : Bool) (v : ℕ) → chosen a b c d v ≡ begins.Other → (a ≡ false) × (b ≡ false) × (c ≡ false) × (d ≡ false)
unfolding chosen
other_chosen true b c d v e = cc
other_chosen false true c d v e = cc
other_chosen false false true d v e = cc
other_chosen false false false true v e = cc
other_chosen false false false false v e = (refl, refl, refl, refl)

is_chosen : (t : List ℕ) → beginning_of t ≡ chosen (is_number t) (bytes_eq t (codes "turn")) (bytes_eq t (codes "in")) (is_loop_name t) (number_of t)
unfolding chosen
is_chosen t = refl

pub number_begins : (t : List ℕ) (v : ℕ) → beginning_of t ≡ begins.Number v → (is_number t ≡ true) × (number_of t ≡ v)
number_begins t v e = number_chosen (is_number t) (bytes_eq t (codes "turn")) (bytes_eq t (codes "in")) (is_loop_name t) (number_of t) v (sym (is_chosen t) ∙ e)

pub turn_begins : (t : List ℕ) → beginning_of t ≡ begins.Turn → t ≡ codes "turn"
turn_begins t e = (bytes_eq-Decides t (codes "turn")).0 (turn_chosen (is_number t) (bytes_eq t (codes "turn")) (bytes_eq t (codes "in")) (is_loop_name t) (number_of t) (sym (is_chosen t) ∙ e))

pub in_begins : (t : List ℕ) → beginning_of t ≡ begins.In → t ≡ codes "in"
in_begins t e = (bytes_eq-Decides t (codes "in")).0 (in_chosen (is_number t) (bytes_eq t (codes "turn")) (bytes_eq t (codes "in")) (is_loop_name t) (number_of t) (sym (is_chosen t) ∙ e))

pub name_begins : (t : List ℕ) → beginning_of t ≡ begins.Name → is_loop_name t ≡ true
name_begins t e = name_chosen (is_number t) (bytes_eq t (codes "turn")) (bytes_eq t (codes "in")) (is_loop_name t) (number_of t) (sym (is_chosen t) ∙ e)

pub other_begins : (t : List ℕ) → beginning_of t ≡ begins.Other → (is_number t ≡ false) × (bytes_eq t (codes "turn") ≡ false) × (bytes_eq t (codes "in") ≡ false) × (is_loop_name t ≡ false)
other_begins t e = other_chosen (is_number t) (bytes_eq t (codes "turn")) (bytes_eq t (codes "in")) (is_loop_name t) (number_of t) (sym (is_chosen t) ∙ e)

pub same_text : (s t : List ℕ) → bytes_eq s t ≡ true → s ≡ t
same_text s t e = (bytes_eq-Decides s t).0 e
