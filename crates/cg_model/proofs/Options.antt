-- Options that have a value, and those that have none.
use Rattle.std.proofs.Common.{◌≡◌, Option, Some, None, Bool, true, false, cond, refl, ap}
use Rattle.std.specs.Prelude.{unwrap_or}
use Rattle.std.specs.Option.{is_none, option_map, option_or}

pub some_of : {X : Type 0} (o : Option X) (d x : X) → is_none o ≡ false → unwrap_or o d ≡ x → o ≡ Some x
some_of None d x h e = let bad : true ≡ false = h in cc
some_of (Some y) d x h e = ap Some e

pub cond_none : {X : Type 0} (b : Bool) (x : X) (o : Option X) → cond b (Some x) o ≡ None → (b ≡ false) × (o ≡ None)
cond_none true x o e = let bad : Some x ≡ None = e in ((cc), (cc))
cond_none false x o e = (refl, e)

pub some_cond : {X : Type 0} (b : Bool) (x y : X) → cond b (Some x) None ≡ Some y → (b ≡ true) × (x ≡ y)
some_cond true x y e = (refl, cc)
some_cond false x y e = let bad : None ≡ Some y = e in absurd (cc)

pub or_none : {X : Type 0} (o p : Option X) → option_or o p ≡ None → (o ≡ None) × (p ≡ None)
or_none (Some x) p e = let bad : Some x ≡ None = e in ((cc), (cc))
or_none None p e = (refl, e)

pub map_none : {X Y : Type 0} (f : X → Y) (o : Option X) → option_map f o ≡ None → o ≡ None
map_none f None e = refl
map_none f (Some x) e = let bad : Some (f x) ≡ None = e in cc
