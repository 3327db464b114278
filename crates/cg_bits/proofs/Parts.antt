-- Parts at their places.
use Rattle.std.proofs.Common.{◌≡◌, ℕ, zero, suc, ◌+◌, ◌<◌, List, [], ◌++◌, length, drop, refl, sym, ap, subst, ◌∙◌, append_assoc, arith, length-append, ⊎_elim}
use Rattle.std.proofs.lemmas.List.{drop_at, append-nil, drop-drop}
use Rattle.std.proofs.lemmas.Bool.{cases_lt}
use Rattle.std.proofs.Common.{add-one}
use Rattle.cg_bits.specs.Parts.{joined, Holds}
use Rattle.cg_flat.specs.Slots.{total}

pub Holds-left : {X : Type 0} (xs : List X) (place : ℕ) (a b : List X) → Holds xs place (a ++ b) → Holds xs place a
Holds-left xs place a b h = (b ++ h.0, h.1 ∙ append_assoc a b h.0)

pub Holds-right : {X : Type 0} (xs : List X) (place : ℕ) (a b : List X) (n : ℕ) → length a ≡ n → Holds xs place (a ++ b) → Holds xs (place + n) b
Holds-right xs place a b n e h =
    (h.0, sym (drop-drop n place xs) ∙ ap (drop n) (h.1 ∙ append_assoc a b h.0) ∙ drop_at a (b ++ h.0) n e)

pub Holds-both : {X : Type 0} (xs : List X) (place : ℕ) (a b : List X) (n : ℕ) → length a ≡ n → Holds xs place a → Holds xs (place + n) b → Holds xs place (a ++ b)
Holds-both xs place a b n e h k =
    let rest : h.0 ≡ b ++ k.0 = sym (drop_at a h.0 n e) ∙ ap (drop n) (sym h.1) ∙ drop-drop n place xs ∙ k.1 in
    (k.0, h.1 ∙ ap (λ r. a ++ r) rest ∙ sym (append_assoc a b k.0))

pub Holds-none : {X : Type 0} (xs : List X) (place : ℕ) → Holds xs place []
Holds-none xs place = (drop place xs, refl)

pub length-joined : {X : Type 0} (f : ℕ → List X) (len : ℕ → ℕ) (n : ℕ) → ((i : ℕ) → i < n → length (f i) ≡ len i) → length (joined f n) ≡ total len n
unfolding joined total
length-joined f len zero h = refl
length-joined f len (suc n) h = omega (arith, length-append (joined f n) (f n), length-joined f len n (λ i lt. h i (omega arith)), h n (omega arith))

pub Holds-part : {X : Type 0} (xs : List X) (place : ℕ) (f : ℕ → List X) (len : ℕ → ℕ) (n i : ℕ) → ((i : ℕ) → i < n → length (f i) ≡ len i) → i < n → Holds xs place (joined f n) → Holds xs (place + total len i) (f i)
unfolding joined total
Holds-part xs place f len zero i h lt held = absurd (omega arith)
Holds-part xs place f len (suc n) i h lt held =
    ⊎_elim (λ l. Holds-part xs place f len n i (λ j m. h j (omega arith)) l (Holds-left xs place (joined f n) (f n) held))
    (λ l. let e : n ≡ i = omega arith in
    subst (λ j. Holds xs (place + total len j) (f j)) e (Holds-right xs place (joined f n) (f n) (total len n) (length-joined f len n (λ j m. h j (omega arith))) held))
    (cases_lt i n)

pub Holds-joined : {X : Type 0} (xs : List X) (place : ℕ) (f : ℕ → List X) (len : ℕ → ℕ) (n : ℕ) → ((i : ℕ) → i < n → length (f i) ≡ len i) → ((i : ℕ) → i < n → Holds xs (place + total len i) (f i)) → Holds xs place (joined f n)
unfolding joined total
Holds-joined xs place f len zero h each = Holds-none xs place
Holds-joined xs place f len (suc n) h each =
    Holds-both xs place (joined f n) (f n) (total len n) (length-joined f len n (λ i lt. h i (omega arith)))
    (Holds-joined xs place f len n (λ i lt. h i (omega arith)) (λ i lt. each i (omega arith))) (each n (omega arith))

pub started : {X : Type 0} (xs : List X) (f : ℕ → List X) → xs ≡ xs ++ joined f 0
unfolding joined
started xs f = sym (append-nil xs)

pub grown : {X : Type 0} (xs before : List X) (f : ℕ → List X) (n : ℕ) (item : List X) → xs ≡ before ++ joined f n → item ≡ f n → xs ++ item ≡ before ++ joined f (n + 1)
unfolding joined
grown xs before f n item e is =
    let more : joined f (n + 1) ≡ joined f n ++ f n = ap (joined f) (add-one n) in
    ap (λ z. z ++ item) e ∙ append_assoc before (joined f n) item ∙ ap (λ z. before ++ (joined f n ++ z)) is ∙ ap (λ z. before ++ z) (sym more)
