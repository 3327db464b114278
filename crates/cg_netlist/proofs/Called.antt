-- The form that a name says is the one that is called so.
use Rattle.std.proofs.Common.{◌≡◌, ℕ, zero, suc, ◌+◌, ◌-◌, ◌^◌, ◌<◌, ◌≤◌, Bool, true, false, ◌&&◌, List, [], ◌∷◌, ◌++◌, length, take, drop, get_or, Option, Some, None, refl, ap, sym, ◌∙◌, subst, arith, length-drop}
use Rattle.std.specs.Prelude.{◌≢◌, IsTrue, ◌↔◌, codes, decimal, bytes_eq, nat_lt, nat_le}
use Rattle.std.specs.Option.{option_and_then}
use Rattle.std.specs.Fmt.{digits}
use Rattle.std.specs.Char.{digit_value}
use Rattle.std.specs.Str.Parse.{digits_value}
use Rattle.std.proofs.lemmas.Bool.{and_parts, and_from, both_ways, cond_both, cond-true, lt-ltb, le-leb, ltb-true, leb-true}
use Rattle.std.proofs.lemmas.List.{append_cancel_left, take_all, take-append-drop, take-append-le}
use Rattle.std.proofs.lemmas.Slice.Eq.{bytes_eq-Decides}
use Rattle.cg_netlist.specs.Forms.{Form, ContextForm, PreselectForm, MuxForm, RegisterForm, ZeroForm, UnitForm, form_name, IsForm, is_form, hexadecimal, driver_port, said_form, if_called, form_of}
use Rattle.cg_netlist.specs.Reads.{IsCount, IsDigit, IsWritten}
use Rattle.cg_netlist.proofs.Digits.{value_back}

-- ---- a form as a test

pub form_true : (f : Form) → IsForm f → is_form f ≡ true
form_true (ContextForm w) h = and_from (nat_lt 0 w) (nat_le w 17) (lt-ltb 0 w h.0) (le-leb w 17 h.1)
form_true (PreselectForm w) h = and_from (nat_lt 0 w) (nat_le w 17) (lt-ltb 0 w h.0) (le-leb w 17 h.1)
form_true (MuxForm k) h = and_from (nat_lt 0 k) (nat_le k 65536) (lt-ltb 0 k h.0) (le-leb k 65536 h.1)
form_true (RegisterForm k) h = and_from (nat_lt 0 k) (nat_le k 65536) (lt-ltb 0 k h.0) (le-leb k 65536 h.1)
form_true ZeroForm h = refl
form_true (UnitForm p l b) h =
    and_from (nat_le p 3) (nat_lt 0 l && (nat_le l 4 && (nat_lt 0 b && nat_lt b (2 ^ 32)))) (le-leb p 3 h.0)
    (and_from (nat_lt 0 l) (nat_le l 4 && (nat_lt 0 b && nat_lt b (2 ^ 32))) (lt-ltb 0 l h.1)
    (and_from (nat_le l 4) (nat_lt 0 b && nat_lt b (2 ^ 32)) (le-leb l 4 h.2)
    (and_from (nat_lt 0 b) (nat_lt b (2 ^ 32)) (lt-ltb 0 b h.3) (lt-ltb b (2 ^ 32) h.4))))

pub true_form : (f : Form) → is_form f ≡ true → IsForm f
true_form (ContextForm w) e = let h = and_parts (nat_lt 0 w) (nat_le w 17) e in (ltb-true 0 w h.0, leb-true w 17 h.1)
true_form (PreselectForm w) e = let h = and_parts (nat_lt 0 w) (nat_le w 17) e in (ltb-true 0 w h.0, leb-true w 17 h.1)
true_form (MuxForm k) e = let h = and_parts (nat_lt 0 k) (nat_le k 65536) e in (ltb-true 0 k h.0, leb-true k 65536 h.1)
true_form (RegisterForm k) e = let h = and_parts (nat_lt 0 k) (nat_le k 65536) e in (ltb-true 0 k h.0, leb-true k 65536 h.1)
true_form ZeroForm e = tt
true_form (UnitForm p l b) e =
    let one = and_parts (nat_le p 3) (nat_lt 0 l && (nat_le l 4 && (nat_lt 0 b && nat_lt b (2 ^ 32)))) e in
    let two = and_parts (nat_lt 0 l) (nat_le l 4 && (nat_lt 0 b && nat_lt b (2 ^ 32))) one.1 in
    let three = and_parts (nat_le l 4) (nat_lt 0 b && nat_lt b (2 ^ 32)) two.1 in
    let four = and_parts (nat_lt 0 b) (nat_lt b (2 ^ 32)) three.1 in
    (leb-true p 3 one.0, ltb-true 0 l two.0, leb-true l 4 three.0, ltb-true 0 b four.0, ltb-true b (2 ^ 32) four.1)

-- ---- what a name would say

said_context : (text : List ℕ) → said_form (codes "cg_ctx_" ++ text) ≡ Some (ContextForm (digits_value 10 text))
unfolding said_form
said_context text = refl

said_preselect : (text : List ℕ) → said_form (codes "cg_pre_" ++ text) ≡ Some (PreselectForm (digits_value 10 text))
unfolding said_form
said_preselect text = refl

said_mux : (text : List ℕ) → said_form (codes "cg_mux_" ++ text) ≡ Some (MuxForm (digits_value 10 text))
unfolding said_form
said_mux text = refl

said_register : (text : List ℕ) → said_form (codes "cg_reg_" ++ text) ≡ Some (RegisterForm (digits_value 10 text))
unfolding said_form
said_register text = refl

said_zero : said_form (codes "cg_zero") ≡ Some ZeroForm
unfolding said_form
said_zero = refl

said_numbers : (text : List ℕ) → said_form (codes "cg_unit_" ++ text) ≡ Some (UnitForm (digit_value (get_or text 0 0)) (digit_value (get_or text 2 0)) (digits_value 16 (drop 4 text)))
unfolding said_form
said_numbers text = refl

-- a number of one digit
pub one_digit : (d : ℕ) → d ≤ 4 → (decimal d ≡ (48 + d) ∷ []) × (digit_value (48 + d) ≡ d)
unfolding digits
one_digit zero low = (refl, refl)
one_digit (suc zero) low = (refl, refl)
one_digit (suc (suc zero)) low = (refl, refl)
one_digit (suc (suc (suc zero))) low = (refl, refl)
one_digit (suc (suc (suc (suc zero)))) low = (refl, refl)
one_digit (suc (suc (suc (suc (suc d))))) low = absurd (omega arith)

-- what stands in a unit's name after the prefix
abbrev pub unit_text : ℕ → ℕ → List ℕ → List ℕ
unit_text p l text = decimal p ++ (codes "_" ++ (decimal l ++ (codes "_" ++ text)))

pub unit_text_is : (p l : ℕ) (text : List ℕ) → p ≤ 4 → l ≤ 4 → unit_text p l text ≡ (48 + p) ∷ 95 ∷ (48 + l) ∷ 95 ∷ text
unit_text_is p l text few short =
    ap (λ ps. ps ++ (codes "_" ++ (decimal l ++ (codes "_" ++ text)))) (one_digit p few).0 ∙ ap (λ ls. (48 + p) ∷ 95 ∷ (ls ++ (codes "_" ++ text))) (one_digit l short).0

said_unit_is : (p l b : ℕ) → p ≤ 4 → l ≤ 4 → b < 2 ^ 32 → said_form (codes "cg_unit_" ++ unit_text p l (hexadecimal b)) ≡ Some (UnitForm p l b)
said_unit_is p l b few short low =
    ap (λ t. said_form (codes "cg_unit_" ++ t)) (unit_text_is p l (hexadecimal b) few short)
    ∙ said_numbers ((48 + p) ∷ 95 ∷ (48 + l) ∷ 95 ∷ hexadecimal b)
    ∙ ap (λ n. Some (UnitForm n (digit_value (48 + l)) (digits_value 16 (hexadecimal b)))) (one_digit p few).1
    ∙ ap (λ n. Some (UnitForm p n (digits_value 16 (hexadecimal b)))) (one_digit l short).1
    ∙ ap (λ n. Some (UnitForm p l n)) (value_back 16 b (omega arith) (omega arith) low)

-- a form's name says the form
said_back : (f : Form) → IsForm f → said_form (form_name f) ≡ Some f
said_back (ContextForm w) h = said_context (decimal w) ∙ ap (λ n. Some (ContextForm n)) (value_back 10 w (omega arith) (omega arith) (let most = h.1 in omega (arith, most)))
said_back (PreselectForm w) h = said_preselect (decimal w) ∙ ap (λ n. Some (PreselectForm n)) (value_back 10 w (omega arith) (omega arith) (let most = h.1 in omega (arith, most)))
said_back (MuxForm k) h = said_mux (decimal k) ∙ ap (λ n. Some (MuxForm n)) (value_back 10 k (omega arith) (omega arith) (let most = h.1 in omega (arith, most)))
said_back (RegisterForm k) h = said_register (decimal k) ∙ ap (λ n. Some (RegisterForm n)) (value_back 10 k (omega arith) (omega arith) (let most = h.1 in omega (arith, most)))
said_back ZeroForm h = said_zero
said_back (UnitForm p l b) h = said_unit_is p l b (let few = h.0 in omega (arith, few)) h.2 h.4

-- ---- the two laws

pub form_named : (f : Form) → IsForm f → form_of (form_name f) ≡ Some f
unfolding form_of
form_named f h =
    ap (option_and_then (if_called (form_name f))) (said_back f h)
    ∙ cond-true (is_form f && bytes_eq (form_name f) (form_name f)) (Some f) None
    (and_from (is_form f) (bytes_eq (form_name f) (form_name f)) (form_true f h) ((bytes_eq-Decides (form_name f) (form_name f)).1 refl))

abbrev form_in : Form → Option Form → Form
form_in g None = g
form_in g (Some f) = f

called_only : (name : List ℕ) (o : Option Form) (f : Form) → option_and_then (if_called name) o ≡ Some f → (name ≡ form_name f) × IsForm f
called_only name None f e = let bad : None ≡ Some f = e in absurd (cc)
called_only name (Some g) f e =
    let P : Option Form → Type 0 = λ v. v ≡ Some f → (name ≡ form_name f) × IsForm f in
    (cond_both (is_form g && bytes_eq name (form_name g)) (Some g) None P
    (λ test same.
    let parts = and_parts (is_form g) (bytes_eq name (form_name g)) test in
    let is : g ≡ f = ap (form_in g) same in
    let Q : Form → Type 0 = λ x. (name ≡ form_name x) × IsForm x in
    subst Q is ((bytes_eq-Decides name (form_name g)).0 parts.1, true_form g parts.0))
    (λ test bad. let none : None ≡ Some f = bad in absurd (cc))) e

pub form_only : (name : List ℕ) (f : Form) → form_of name ≡ Some f → (name ≡ form_name f) × IsForm f
unfolding form_of
form_only name f e = called_only name (said_form name) f e

-- ---- what is found

pub found : (name : List ℕ) (f : Form) → IsForm f → name ≡ form_name f → Some f ≡ form_of name
found name f h e = sym (ap form_of e ∙ form_named f h)

-- there is none where none that the name would say is called so
pub missed : (name : List ℕ) → ((f : Form) → said_form name ≡ Some f → IsForm f → name ≡ form_name f → ⊥) → None ≡ form_of name
missed name none = decide (form_of name) refl
  where
    decide : (o : Option Form) → form_of name ≡ o → None ≡ form_of name
    decide None e = sym e
    decide (Some f) e =
        let both = form_only name f e in
        absurd (none f (ap said_form both.0 ∙ said_back f both.1) both.1 both.0)

-- ---- what stands after each prefix

none_counted : (make : ℕ → Form) (prefix : List ℕ) (most : ℕ) (text : List ℕ) → said_form (prefix ++ text) ≡ Some (make (digits_value 10 text)) → ((n : ℕ) → IsForm (make n) → (0 < n) × (n ≤ most))
    → ((n : ℕ) → form_name (make n) ≡ prefix ++ decimal n) → IsCount most text None → None ≡ form_of (prefix ++ text)
none_counted make prefix most text said valid called none =
    missed (prefix ++ text)
    (λ f says form name.
    let n : ℕ = digits_value 10 text in
    let same : f ≡ make n = ap (form_in f) (sym says ∙ said) in
    let range = valid n (subst IsForm same form) in
    none n range.0 range.1 (append_cancel_left prefix text (decimal n) (name ∙ ap form_name same ∙ called n)))

pub no_context : (text : List ℕ) → IsCount 17 text None → None ≡ form_of (codes "cg_ctx_" ++ text)
no_context text none = none_counted (λ n. ContextForm n) (codes "cg_ctx_") 17 text (said_context text) (λ n h. h) (λ n. refl) none

pub no_preselect : (text : List ℕ) → IsCount 17 text None → None ≡ form_of (codes "cg_pre_" ++ text)
no_preselect text none = none_counted (λ n. PreselectForm n) (codes "cg_pre_") 17 text (said_preselect text) (λ n h. h) (λ n. refl) none

pub no_mux : (text : List ℕ) → IsCount 65536 text None → None ≡ form_of (codes "cg_mux_" ++ text)
no_mux text none = none_counted (λ n. MuxForm n) (codes "cg_mux_") 65536 text (said_mux text) (λ n h. h) (λ n. refl) none

pub no_register : (text : List ℕ) → IsCount 65536 text None → None ≡ form_of (codes "cg_reg_" ++ text)
no_register text none = none_counted (λ n. RegisterForm n) (codes "cg_reg_") 65536 text (said_register text) (λ n h. h) (λ n. refl) none

pub some_context : (text : List ℕ) (n : ℕ) → IsCount 17 text (Some n) → Some (ContextForm n) ≡ form_of (codes "cg_ctx_" ++ text)
some_context text n h = found (codes "cg_ctx_" ++ text) (ContextForm n) (h.0, h.1) (ap (λ t. codes "cg_ctx_" ++ t) h.2)

pub some_preselect : (text : List ℕ) (n : ℕ) → IsCount 17 text (Some n) → Some (PreselectForm n) ≡ form_of (codes "cg_pre_" ++ text)
some_preselect text n h = found (codes "cg_pre_" ++ text) (PreselectForm n) (h.0, h.1) (ap (λ t. codes "cg_pre_" ++ t) h.2)

pub some_mux : (text : List ℕ) (n : ℕ) → IsCount 65536 text (Some n) → Some (MuxForm n) ≡ form_of (codes "cg_mux_" ++ text)
some_mux text n h = found (codes "cg_mux_" ++ text) (MuxForm n) (h.0, h.1) (ap (λ t. codes "cg_mux_" ++ t) h.2)

pub some_register : (text : List ℕ) (n : ℕ) → IsCount 65536 text (Some n) → Some (RegisterForm n) ≡ form_of (codes "cg_reg_" ++ text)
some_register text n h = found (codes "cg_reg_" ++ text) (RegisterForm n) (h.0, h.1) (ap (λ t. codes "cg_reg_" ++ t) h.2)

-- a unit is none where its numbers are none
pub no_unit : (text : List ℕ) → ((p l b : ℕ) → IsForm (UnitForm p l b) → text ≡ (48 + p) ∷ 95 ∷ (48 + l) ∷ 95 ∷ hexadecimal b → ⊥) → None ≡ form_of (codes "cg_unit_" ++ text)
no_unit text none =
    missed (codes "cg_unit_" ++ text)
    (λ f says form name.
    let p : ℕ = digit_value (get_or text 0 0) in
    let l : ℕ = digit_value (get_or text 2 0) in
    let b : ℕ = digits_value 16 (drop 4 text) in
    let same : f ≡ UnitForm p l b = ap (form_in f) (sym says ∙ said_numbers text) in
    let valid : IsForm (UnitForm p l b) = subst IsForm same form in
    let whole : text ≡ unit_text p l (hexadecimal b) = append_cancel_left (codes "cg_unit_") text (unit_text p l (hexadecimal b)) (name ∙ ap form_name same) in
    let few : p ≤ 4 = let most = valid.0 in omega (arith, most) in
    none p l b valid (whole ∙ unit_text_is p l (hexadecimal b) few valid.2))

pub some_unit : (text : List ℕ) (p l b : ℕ) → IsForm (UnitForm p l b) → text ≡ (48 + p) ∷ 95 ∷ (48 + l) ∷ 95 ∷ hexadecimal b → Some (UnitForm p l b) ≡ form_of (codes "cg_unit_" ++ text)
some_unit text p l b h e =
    let few : p ≤ 4 = let most = h.0 in omega (arith, most) in
    found (codes "cg_unit_" ++ text) (UnitForm p l b) h (ap (λ t. codes "cg_unit_" ++ t) (e ∙ sym (unit_text_is p l (hexadecimal b) few h.2)))

-- ---- a unit's numbers, one after another

pub rest_is : (text : List ℕ) → take (length text - 2) (drop 2 text) ≡ drop 2 text
rest_is text = let few = length-drop 2 text in take_all (length text - 2) (drop 2 text) (omega (arith, few))

pub no_ports : (text : List ℕ) → IsDigit 3 text None → None ≡ form_of (codes "cg_unit_" ++ text)
no_ports text none = no_unit text (λ p l b h e. none p ((48 + l) ∷ 95 ∷ hexadecimal b) h.0 e)

pub no_latency : (text rest : List ℕ) → rest ≡ drop 2 text → IsDigit 4 rest None → None ≡ form_of (codes "cg_unit_" ++ text)
no_latency text rest is none = no_unit text (λ p l b h e. none l (hexadecimal b) h.2 (is ∙ ap (drop 2) e))

pub no_operations : (text rest last : List ℕ) → rest ≡ drop 2 text → last ≡ drop 2 rest → IsWritten 16 last None → None ≡ form_of (codes "cg_unit_" ++ text)
no_operations text rest last is then none = no_unit text (λ p l b h e. none b h.4 (then ∙ ap (drop 2) (is ∙ ap (drop 2) e)))

-- what the numbers are
parts : (text rest last : List ℕ) (p l b : ℕ) → IsDigit 3 text (Some p) → rest ≡ drop 2 text → IsDigit 4 rest (Some l) → last ≡ drop 2 rest → IsWritten 16 last (Some b) → text ≡ (48 + p) ∷ 95 ∷ (48 + l) ∷ 95 ∷ hexadecimal b
parts text rest last p l b one is two then three =
    one.1 ∙ ap (λ t. (48 + p) ∷ 95 ∷ t) (sym is ∙ two.1 ∙ ap (λ t. (48 + l) ∷ 95 ∷ t) (sym then ∙ three.1))

pub all_numbers : (text rest last : List ℕ) (p l b : ℕ) → IsDigit 3 text (Some p) → rest ≡ drop 2 text → IsDigit 4 rest (Some l) → last ≡ drop 2 rest → IsWritten 16 last (Some b) → 0 < l → 0 < b
    → Some (UnitForm p l b) ≡ form_of (codes "cg_unit_" ++ text)
all_numbers text rest last p l b one is two then three some bits =
    some_unit text p l b (one.0, some, two.0, bits, three.0) (parts text rest last p l b one is two then three)

-- a latency of 0, and no operations
pub nought : (text rest last : List ℕ) (p l b : ℕ) → IsDigit 3 text (Some p) → rest ≡ drop 2 text → IsDigit 4 rest (Some l) → last ≡ drop 2 rest → IsWritten 16 last (Some b) → (0 < l → 0 < b → ⊥)
    → None ≡ form_of (codes "cg_unit_" ++ text)
nought text rest last p l b one is two then three none =
    no_unit text
    (λ q m c h e.
    let all = sym (parts text rest last p l b one is two then three) ∙ e in
    let second : 48 + l ≡ 48 + m = ap (λ t. get_or t 2 0) all in
    let digit : l ≡ m = omega (arith, second) in
    let bits : hexadecimal b ≡ hexadecimal c = ap (drop 4) all in
    let same : b ≡ c = sym (value_back 16 b (omega arith) (omega arith) three.0) ∙ ap (digits_value 16) bits ∙ value_back 16 c (omega arith) (omega arith) h.4 in
    let some = h.1 in
    let more = h.3 in
    none (omega (arith, digit, some)) (omega (arith, same, more)))

-- ---- whole names

pub some_after : (name prefix rest : List ℕ) (r : Option Form) → r ≡ form_of (prefix ++ rest) → name ≡ prefix ++ rest → r ≡ form_of name
some_after name prefix rest r is e = is ∙ ap form_of (sym e)

pub some_zero : (name : List ℕ) → name ≡ codes "cg_zero" → Some ZeroForm ≡ form_of name
some_zero name e = found name ZeroForm tt e

pub none_begun : (name : List ℕ) → ((t : List ℕ) → name ≢ codes "cg_ctx_" ++ t) → ((t : List ℕ) → name ≢ codes "cg_pre_" ++ t) → ((t : List ℕ) → name ≢ codes "cg_mux_" ++ t)
    → ((t : List ℕ) → name ≢ codes "cg_reg_" ++ t) → ((t : List ℕ) → name ≢ codes "cg_unit_" ++ t) → name ≢ codes "cg_zero" → None ≡ form_of name
none_begun name ctx pre mux reg unit nought = missed name (λ f says form called. none f called)
  where
    none : (f : Form) → name ≡ form_name f → ⊥
    none (ContextForm w) e = ctx (decimal w) e
    none (PreselectForm w) e = pre (decimal w) e
    none (MuxForm k) e = mux (decimal k) e
    none (RegisterForm k) e = reg (decimal k) e
    none ZeroForm e = nought e
    none (UnitForm p l b) e = unit (unit_text p l (hexadecimal b)) e

-- ---- ports of drivers

pub driver_found : (port rest : List ℕ) (n : ℕ) (r : Bool) → port ≡ codes "d" ++ rest → (IsTrue r ↔ (rest ≡ decimal n)) → (IsTrue r ↔ (port ≡ driver_port n))
driver_found port rest n r is h = (
  λ e. is ∙ ap (λ t. codes "d" ++ t) (h.0 e),
  λ e. h.1 (append_cancel_left (codes "d") rest (decimal n) (sym is ∙ e)),
)

pub driver_missed : (port : List ℕ) (n : ℕ) → ((rest : List ℕ) → port ≢ codes "d" ++ rest) → (IsTrue false ↔ (port ≡ driver_port n))
driver_missed port n none = (λ e. let bad : false ≡ true = e in absurd (cc), λ e. absurd (none (decimal n) e))

-- ---- what stands after a prefix

pub after_some : (name prefix rest : List ℕ) → bytes_eq (take (length prefix) name) prefix ≡ true → rest ≡ drop (length prefix) name → name ≡ prefix ++ rest
after_some name prefix rest first is =
    sym (take-append-drop (length prefix) name) ∙ ap (λ t. t ++ drop (length prefix) name) ((bytes_eq-Decides (take (length prefix) name) prefix).0 first) ∙ ap (λ t. prefix ++ t) (sym is)

pub after_none : (name prefix rest : List ℕ) → bytes_eq (take (length prefix) name) prefix ≡ false → name ≡ prefix ++ rest → ⊥
after_none name prefix rest apart is =
    let front : take (length prefix) name ≡ prefix = ap (take (length prefix)) is ∙ take-append-le (length prefix) prefix rest (omega arith) ∙ take_all (length prefix) prefix (omega arith) in
    both_ways (bytes_eq (take (length prefix) name) prefix) apart ((bytes_eq-Decides (take (length prefix) name) prefix).1 front)
