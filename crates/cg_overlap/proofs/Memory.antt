-- What one operation, one step and one cycle do to a word of the scratchpad.
use Rattle.std.proofs.Common.{true, subst, ◌≡◌, ℕ, zero, suc, ◌<◌, List, length, Option, Some, None, refl, sym, ap, ◌∙◌, arith, ⊎_elim, inl, inr}
use Rattle.std.specs.Prelude.{◌⊎◌, slice_index, slice_set, nat_lt}
use Rattle.std.proofs.lemmas.Bool.{cases_lt, cases_eq, cases_Bool, cond-true, cond-false, and_parts, and_from, true≢false}
use Rattle.std.proofs.lemmas.List.{get_or-set_same, get_or-set_other}
use Rattle.cg_word.specs.declared.op.Op.{Op}
use Rattle.cg_word.specs.declared.op.Op.TheVariants.{Iter, Input, Load, Store, LoadIf, StoreIf}
use Rattle.cg_word.specs.Word.{is_access, is_store}
use Rattle.cg_model.specs.Work.{Image, Work, address, last_operand, stores, value, value_by, stored, Writes, Reaches}
use Rattle.cg_model.specs.Array.{Arch}
use Rattle.cg_model.specs.Config.{Config}
use Rattle.cg_model.specs.Machine.{memory_after, memory_by, at_cycle}
use Rattle.cg_model.proofs.Lengths.{memory_kept}

-- what an operation that writes puts there
abbrev pub put : Work → ℕ
put w = last_operand w.op w.args

-- an operation writes a word inside, or leaves it
pub written : (memory : List ℕ) (w : Work) (a : ℕ) → a < length memory →
    (Writes w a × (slice_index (stored memory w) a ≡ put w)) ⊎ ((slice_index (stored memory w) a ≡ slice_index memory a) × (Writes w a → ⊥))
unfolding stored
written memory w a l =
    ⊎_elim
    (λ t.
    let (is, acting) = and_parts _ _ t in
    let here = ap (λ m. slice_index m a) (cond-true (stores w) (slice_set memory (address w.op w.args) (put w)) memory t) in
    ⊎_elim
    (λ e. inl (record { is = is; acting = acting; there = e }, here ∙ subst (λ z. slice_index (slice_set memory z (put w)) a ≡ put w) (sym e) (get_or-set_same memory a (put w) 0 l)))
    (λ e. inr (here ∙ get_or-set_other memory (address w.op w.args) a (put w) 0 (λ f. e (sym f)), λ h. e h.there))
    (cases_eq (address w.op w.args) a))
    (λ f. inr (ap (λ m. slice_index m a) (cond-false (stores w) _ memory f), λ h. true≢false (sym (and_from _ _ h.is h.acting) ∙ f)))
    (cases_Bool (stores w))

-- what writes is an access
store_access : (op : Op) → is_store op ≡ true → is_access op ≡ true
store_access Store e = refl
store_access StoreIf e = refl
store_access _ e = absurd (cc)

pub reaches : (w : Work) (a : ℕ) → Writes w a → Reaches w a
reaches w a h = record { is = store_access w.op h.is; acting = h.acting; there = h.there }

-- a value depends on the memory at the words that are reached alone
value_by_same : (image : Image) (memory memory' : List ℕ) (port turn : ℕ) (args : List ℕ) (op : Op) →
    ((a : ℕ) → Reaches (record { op = op; port = port; turn = turn; args = args }) a → slice_index memory a ≡ slice_index memory' a) →
    value_by image memory port turn args op ≡ value_by image memory' port turn args op
unfolding value_by
value_by_same image memory memory' port turn args Load h = h (slice_index args 0) (record { is = refl; acting = refl; there = refl })
value_by_same image memory memory' port turn args LoadIf h =
    ⊎_elim (λ t. cond-true _ _ _ t ∙ h (slice_index args 1) (record { is = refl; acting = t; there = refl }) ∙ sym (cond-true _ _ _ t))
    (λ f. cond-false _ _ _ f ∙ sym (cond-false _ _ _ f)) (cases_Bool (nat_lt 0 (slice_index args 0)))
value_by_same image memory memory' port turn args Iter h = refl
value_by_same image memory memory' port turn args Input h = refl
value_by_same image memory memory' port turn args _ h = refl

pub value_same : (image : Image) (memory memory' : List ℕ) (w : Work) → ((a : ℕ) → Reaches w a → slice_index memory a ≡ slice_index memory' a) → value image memory w ≡ value image memory' w
value_same image memory memory' w h = value_by_same image memory memory' w.port w.turn w.args w.op h

-- the units of one cycle
length-memory_after : (memory : List ℕ) (o : Option Work) → length (memory_after memory o) ≡ length memory
length-memory_after memory None = refl
length-memory_after memory (Some w) = memory_kept memory w

pub length-memory_by : (works : ℕ → Option Work) (memory : List ℕ) (x : ℕ) → length (memory_by works memory x) ≡ length memory
unfolding memory_by
length-memory_by works memory zero = refl
length-memory_by works memory (suc x) = length-memory_after (memory_by works memory x) (works x) ∙ length-memory_by works memory x

written_after : (memory : List ℕ) (o : Option Work) (a : ℕ) → a < length memory →
    ((w : Work) × (o ≡ Some w) × Writes w a × (slice_index (memory_after memory o) a ≡ put w))
    ⊎ ((slice_index (memory_after memory o) a ≡ slice_index memory a) × ((w : Work) → o ≡ Some w → Writes w a → ⊥))
written_after memory None a l = inr (refl, λ w e. absurd (cc))
written_after memory (Some v) a l =
    ⊎_elim (λ h. inl (v, refl, h.0, h.1))
    (λ h. inr (h.0, λ w e s. let z : w ≡ v = cc in h.1 (subst (λ u. Writes u a) z s)))
    (written memory v a l)

pub written_units : (works : ℕ → Option Work) (memory : List ℕ) (a x : ℕ) → a < length memory →
    ((u : ℕ) × (w : Work) × (u < x) × (works u ≡ Some w) × Writes w a × (slice_index (memory_by works memory x) a ≡ put w))
    ⊎ ((slice_index (memory_by works memory x) a ≡ slice_index memory a) × ((u : ℕ) (w : Work) → u < x → works u ≡ Some w → Writes w a → ⊥))
unfolding memory_by
written_units works memory a zero l = inr (refl, λ u w b. absurd (omega arith))
written_units works memory a (suc x) l =
    ⊎_elim
    (λ h. inl (x, h.0, omega arith, h.1, h.2, h.3))
    (λ h.
    ⊎_elim
    (λ k. inl (k.0, k.1, omega (arith, k.2), k.3, k.4, h.0 ∙ k.5))
    (λ k. inr (h.0 ∙ k.0, λ u w b e s. ⊎_elim (λ c. k.1 u w c e s) (λ c. let z : x ≡ u = omega arith in h.1 w (ap works z ∙ e) s) (cases_lt u x)))
    (written_units works memory a x l))
    (written_after (memory_by works memory x) (works x) a (omega (arith, length-memory_by works memory x)))

-- lengths
pub length-at_cycle : (A : Arch) (C : Config) (n : ℕ) (image : Image) (c : ℕ) → length (at_cycle A C n image c).memory ≡ length image.memory
unfolding at_cycle
length-at_cycle A C n image zero = refl
length-at_cycle A C n image (suc c) = length-memory_by _ (at_cycle A C n image c).memory (length A.units) ∙ length-at_cycle A C n image c
