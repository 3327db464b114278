-- Tests and their values.
use Rattle.std.proofs.Common.{◌≡◌, Bool, true, false, ◌||◌, refl, ◌&&◌}

pub or_false : (b : Bool) → (b || false) ≡ b
or_false true = refl
or_false false = refl

pub or_true : (b : Bool) → (b || true) ≡ true
or_true true = refl
or_true false = refl

pub and_false : (b : Bool) → (b && false) ≡ false
and_false true = refl
and_false false = refl

-- where a is false, so are a and b
pub and_not : (a b : Bool) → (a ≡ true → b ≡ false) → (a && b) ≡ false
and_not true b h = h refl
and_not false b h = refl

pub no_clash : (a b c : Bool) → (a ≡ true → b ≡ true → c ≡ true → ⊥) → (a && (b && c)) ≡ false
no_clash true true true h = absurd (h refl refl refl)
no_clash true true false h = refl
no_clash true false c h = refl
no_clash false b c h = refl
