-- The ports of forms, place by place.
use Rattle.std.proofs.Common.{◌≡◌, ℕ, suc, ◌+◌, ◌-◌, ◌<◌, ◌≤◌, Bool, true, false, List, [], ◌∷◌, ◌++◌, length, map, get_or, refl, ap, sym, ◌∙◌, arith, length-append}
use Rattle.std.specs.Prelude.{◌≢◌, ◌↔◌, IsTrue, codes, bytes_eq}
use Rattle.std.specs.List.{range_with_len}
use Rattle.std.proofs.lemmas.List.{get_or-append_right}
use Rattle.std.proofs.lemmas.List.FromFn.{length-map-range_with_len, get_or-map-range_with_len}
use Rattle.std.proofs.lemmas.Slice.Eq.{bytes_eq-Decides}
use Rattle.std.proofs.Math.ListN.{get_or-append}
use Rattle.cg_netlist.specs.declared.forms.Form.{Form}
use Rattle.cg_netlist.specs.declared.forms.Form.TheVariants.{Mux as MuxForm, Register as RegisterForm, FunctionalUnit as UnitForm}
use Rattle.cg_netlist.specs.Forms.{form_ports, driver_port, argument_port}

-- ---- how many there are

numbered_length : (f : ℕ → List ℕ) (a n : ℕ) → length (map f (range_with_len a n) ++ codes "q" ∷ []) ≡ n + 1
numbered_length f a n = length-append (map f (range_with_len a n)) (codes "q" ∷ []) ∙ ap (λ m. m + 1) (length-map-range_with_len f a n)

pub drivers_length : (k : ℕ) → length (map driver_port (range_with_len 1 k) ++ codes "q" ∷ []) ≡ k + 1
drivers_length k = numbered_length driver_port 1 k

pub arguments_length : (p : ℕ) → length (map argument_port (range_with_len 0 p) ++ codes "q" ∷ []) ≡ p + 1
arguments_length p = numbered_length argument_port 0 p

-- ---- which one stands where

numbered : (f : ℕ → List ℕ) (a n i j : ℕ) → i < n → a + i ≡ j → get_or (map f (range_with_len a n) ++ codes "q" ∷ []) i [] ≡ f j
numbered f a n i j low place =
    let many = length-map-range_with_len f a n in
    get_or-append (map f (range_with_len a n)) (codes "q" ∷ []) [] i (omega (arith, many, low)) ∙ get_or-map-range_with_len f a n i j [] low place

ended : (f : ℕ → List ℕ) (a n i : ℕ) → i ≡ n → get_or (map f (range_with_len a n) ++ codes "q" ∷ []) i [] ≡ codes "q"
ended f a n i place =
    let none : i - n ≡ 0 = omega (arith, place) in
    get_or-append_right (map f (range_with_len a n)) (codes "q" ∷ []) n i [] (length-map-range_with_len f a n) (omega (arith, place)) ∙ ap (λ m. get_or (codes "q" ∷ []) m []) none

-- past the first port, and past the first two
past_one : (x : List ℕ) (xs : List (List ℕ)) (i j : ℕ) → i ≡ suc j → get_or (x ∷ xs) i [] ≡ get_or xs j []
past_one x xs i j e = ap (λ n. get_or (x ∷ xs) n []) e

past_two : (x y : List ℕ) (xs : List (List ℕ)) (i j : ℕ) → i ≡ suc (suc j) → get_or (x ∷ y ∷ xs) i [] ≡ get_or xs j []
past_two x y xs i j e = ap (λ n. get_or (x ∷ y ∷ xs) n []) e

pub driver_at : (k i : ℕ) → i ≢ 0 → i ≤ k → driver_port i ≡ get_or (form_ports (MuxForm k)) i []
driver_at k i some low =
    let place : i ≡ suc (i - 1) = omega (arith, some) in
    sym (past_one (codes "s") (map driver_port (range_with_len 1 k) ++ codes "q" ∷ []) i (i - 1) place ∙ numbered driver_port 1 k (i - 1) i (omega (arith, some, low)) (omega (arith, some)))

pub choice_end : (k i : ℕ) → i ≢ 0 → k < i → i < k + 2 → codes "q" ≡ get_or (form_ports (MuxForm k)) i []
choice_end k i some more low =
    let place : i ≡ suc (i - 1) = omega (arith, some) in
    sym (past_one (codes "s") (map driver_port (range_with_len 1 k) ++ codes "q" ∷ []) i (i - 1) place ∙ ended driver_port 1 k (i - 1) (omega (arith, more, low)))

pub behind_clock : (k i : ℕ) (port : List ℕ) → i ≢ 0 → i ≢ 1 → port ≡ get_or (form_ports (MuxForm k)) (i - 2) [] → port ≡ get_or (form_ports (RegisterForm k)) i []
behind_clock k i port some more is =
    let place : i ≡ suc (suc (i - 2)) = omega (arith, some, more) in
    is ∙ sym (past_two (codes "clk") (codes "rst") (form_ports (MuxForm k)) i (i - 2) place)

abbrev unit_ports : ℕ → List (List ℕ)
unit_ports p = codes "clk" ∷ codes "rst" ∷ (map argument_port (range_with_len 0 p) ++ codes "q" ∷ [])

pub argument_at : (p i : ℕ) → i ≢ 0 → i ≢ 1 → i - 2 < p → argument_port (i - 2) ≡ get_or (unit_ports p) i []
argument_at p i some more low =
    let place : i ≡ suc (suc (i - 2)) = omega (arith, some, more) in
    sym (past_two (codes "clk") (codes "rst") (map argument_port (range_with_len 0 p) ++ codes "q" ∷ []) i (i - 2) place ∙ numbered argument_port 0 p (i - 2) (i - 2) low (omega arith))

pub unit_end : (p i : ℕ) → i ≢ 0 → i ≢ 1 → p ≤ i - 2 → i < p + 3 → codes "q" ≡ get_or (unit_ports p) i []
unit_end p i some more high low =
    let place : i ≡ suc (suc (i - 2)) = omega (arith, some, more) in
    sym (past_two (codes "clk") (codes "rst") (map argument_port (range_with_len 0 p) ++ codes "q" ∷ []) i (i - 2) place ∙ ended argument_port 0 p (i - 2) (omega (arith, high, low)))

-- ---- texts

pub same_found : (a b : List ℕ) (r : Bool) → r ≡ bytes_eq a b → (IsTrue r ↔ (a ≡ b))
same_found a b r is = (λ e. (bytes_eq-Decides a b).0 (sym is ∙ e), λ e. is ∙ (bytes_eq-Decides a b).1 e)

-- a text of one letter
pub letter_missed : (text : List ℕ) (n : ℕ) → length text ≢ 1 → (IsTrue false ↔ (text ≡ argument_port n))
letter_missed text n some = (λ e. let bad : false ≡ true = e in absurd (cc), λ e. absurd (some (ap length e)))

pub letter_found : (text : List ℕ) (n : ℕ) (r : Bool) → length text ≡ 1 → (IsTrue r ↔ (get_or text 0 0 ≡ 97 + n)) → (IsTrue r ↔ (text ≡ argument_port n))
letter_found text n r one h = (λ e. single text one ∙ ap (λ b. b ∷ []) (h.0 e), λ e. h.1 (ap (λ t. get_or t 0 0) e))
  where
    single : (t : List ℕ) → length t ≡ 1 → t ≡ get_or t 0 0 ∷ []
    single [] e = absurd (omega (arith, e))
    single (b ∷ []) e = refl
    single (b ∷ d ∷ t) e = absurd (omega (arith, e))

-- ---- a place among the ports of a form

pub mux_place : (f : Form) (k i : ℕ) → f ≡ MuxForm k → i < length (form_ports f) → i < k + 2
mux_place f k i is low = let all = ap (λ g. length (form_ports g)) is in let many = drivers_length k in omega (arith, all, many, low)

pub register_place : (f : Form) (k i : ℕ) → f ≡ RegisterForm k → i < length (form_ports f) → i < k + 4
register_place f k i is low = let all = ap (λ g. length (form_ports g)) is in let many = drivers_length k in omega (arith, all, many, low)

pub unit_place : (f : Form) (p l h i : ℕ) → f ≡ UnitForm p l h → i < length (form_ports f) → i < p + 3
unit_place f p l h i is low = let all = ap (λ g. length (form_ports g)) is in let many = arguments_length p in omega (arith, all, many, low)
