-- Lists that grow by a number's part at each step of a loop, alone or behind others.
use Rattle.std.proofs.Common.{◌≡◌, ℕ, ◌+◌, zero, suc, List, [], ◌∷◌, ◌++◌, length, refl, sym, ap, ◌∙◌, length-append, append_assoc, arith}
use Rattle.std.proofs.lemmas.List.{append-nil}
use Rattle.cg_list_laws.specs.Below.{lists_below}
use Rattle.cg_list_laws.proofs.Below.{lists_below-more}

pub grown_alone : {T : Type 0} (f : ℕ → List T) (n : ℕ) (old new : List T) → old ≡ lists_below f n → new ≡ old ++ f n → new ≡ lists_below f (n + 1)
grown_alone f n old new so_far here = here ∙ ap (λ z. z ++ f n) so_far ∙ sym (lists_below-more f n)

pub begun : {T : Type 0} (f : ℕ → List T) → lists_below f 0 ≡ []
unfolding lists_below
begun f = refl

-- one item a number
pub length_of_items : {T : Type 0} (f : ℕ → T) (n : ℕ) → length (lists_below (λ k. f k ∷ []) n) ≡ n
unfolding lists_below
length_of_items f zero = refl
length_of_items f (suc n) =
    let more = length-append (lists_below (λ k. f k ∷ []) n) (f n ∷ []) in
    let rest = length_of_items f n in
    omega (arith, more, rest)

-- one more number
pub grown : {T : Type 0} (f : ℕ → List T) (n : ℕ) (base old new : List T) → old ≡ base ++ lists_below f n → new ≡ old ++ f n → new ≡ base ++ lists_below f (n + 1)
grown f n base old new so_far here =
    here ∙ ap (λ z. z ++ f n) so_far ∙ append_assoc base (lists_below f n) (f n) ∙ ap (λ z. base ++ z) (sym (lists_below-more f n))

-- before the first number
pub unbegun : {T : Type 0} (f : ℕ → List T) (base : List T) → base ≡ base ++ lists_below f 0
unbegun f base = sym (append-nil base) ∙ ap (λ z. base ++ z) (sym (begun f))

-- after the last
pub ended : {T : Type 0} (f : ℕ → List T) (n m : ℕ) (base text : List T) → text ≡ base ++ lists_below f n → n ≡ m → text ≡ base ++ lists_below f m
ended f n m base text so_far last = so_far ∙ ap (λ z. base ++ lists_below f z) last

-- a number that adds nothing
pub unchanged : {T : Type 0} (f : ℕ → List T) (n : ℕ) (base old new : List T) → old ≡ base ++ lists_below f n → [] ≡ f n → new ≡ old → new ≡ base ++ lists_below f (n + 1)
unchanged f n base old new so_far none here = grown f n base old new so_far (here ∙ sym (append-nil old) ∙ ap (λ z. old ++ z) none)

-- two texts added one after the other are added together
pub joined : {T : Type 0} (old a t u rest : List T) → t ≡ old ++ a → u ≡ t ++ rest → u ≡ old ++ (a ++ rest)
joined old a t u rest first then = then ∙ ap (λ z. z ++ rest) first ∙ append_assoc old a rest
