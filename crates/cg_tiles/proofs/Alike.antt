-- Elements that are alike but for names that are bad in both.
use Rattle.std.proofs.Common.{◌≡◌, ℕ, ◌+◌, ◌<◌, ◌≤◌, List, [], ◌∷◌, ◌++◌, length, count_by, Bool, true, false, not, cond, ◌&&◌, nat_lt, nat_le, Some, None, codes, decimal, slice_index, arith, refl, ap, sym, ◌∙◌, length-append}
use Rattle.std.specs.List.{list_all}
use Rattle.std.proofs.Math.Bool.{and-false}
use Rattle.std.proofs.lemmas.Bool.{lt-leb, and_right}
use borrow.Author.Tests.{ltb-true}
use Rattle.std.proofs.lemmas.List.Folds.{list_all-append}
use Rattle.std.proofs.lemmas.List.Sums.{sum_by-cons}
use Rattle.cg_model.specs.Names.{within_name, begins_name, is_identifier, is_name}
use Rattle.cg_model.specs.First.{first_from}
use Rattle.cg_model.proofs.Options.{cond_none}
use Rattle.cg_parts.specs.declared.parts.Element.{Element}
use Rattle.cg_parts.specs.declared.parts.Element.TheVariants as element
use Rattle.cg_parts.specs.Parts.{entries, entries_of, port_entries, out_entry, name_of}
use Rattle.cg_parts.specs.Rules.{links, is_unit, has_bad_name}
use Rattle.cg_word.specs.declared.op.Op.{Op}
use Rattle.cg_grid.specs.declared.grid.Cell.{Cell}
use Rattle.cg_tiles.specs.Elements.{flat_name}
use Rattle.cg_tiles.specs.Lean.{short_name}
use Rattle.cg_tiles.proofs.Counted.{entries-cons, links-append}
use Rattle.cg_validate.proofs.Roles.{unit_long}

-- ---- bad names

tail_bad : (xs ys : List ℕ) → list_all within_name ys ≡ false → list_all within_name (xs ++ ys) ≡ false
tail_bad xs ys e = list_all-append within_name xs ys ∙ ap (λ b. list_all within_name xs && b) e ∙ and-false (list_all within_name xs)

no_name : (a b c d : Bool) → c ≡ false → ((a && (b && c)) && d) ≡ false
no_name true true true d e = let bad : true ≡ false = e in absurd (cc)
no_name true true false d e = refl
no_name true false c d e = refl
no_name false b c d e = refl

-- the short name is bad in every cell
dot_bad : (cell : Cell) → is_name 40 (flat_name cell (codes ".")) ≡ false
dot_bad cell =
    let name = flat_name cell (codes ".") in
    let a = codes "_" ++ codes "." in
    let b = decimal cell.column ++ a in
    let c = codes "c" ++ b in
    let d = decimal cell.row ++ c in
    no_name (nat_lt 0 (length name)) (begins_name (slice_index name 0)) (list_all within_name name) (nat_le (length name) 40)
    (tail_bad (codes "r") d (tail_bad (decimal cell.row) c (tail_bad (codes "c") b (tail_bad (decimal cell.column) a (tail_bad (codes "_") (codes ".") refl)))))

flat_longer : (cell : Cell) (name : List ℕ) → length name ≤ length (flat_name cell name)
flat_longer cell name =
    let a = codes "_" ++ name in
    let b = decimal cell.column ++ a in
    let c = codes "c" ++ b in
    let d = decimal cell.row ++ c in
    omega (arith, length-append (codes "_") name, length-append (decimal cell.column) a, length-append (codes "c") b, length-append (decimal cell.row) c, length-append (codes "r") d)

-- a long name is bad in every cell
long_bad : (cell : Cell) (name : List ℕ) → nat_lt 40 (length name) ≡ true → is_name 40 (flat_name cell name) ≡ false
long_bad cell name e =
    let long : 40 < length (flat_name cell name) = omega (arith, ltb-true 40 (length name) e, flat_longer cell name) in
    and_right (is_identifier (flat_name cell name)) (nat_le (length (flat_name cell name)) 40) (lt-leb (length (flat_name cell name)) 40 long)

-- ---- elements

-- two elements have as many resources and links, and are equal unless their names are bad
pub record Alike (e d : Element) : Type 0 where
  pub resources : length (entries_of e) ≡ length (entries_of d)
  pub links : links (entries_of e) ≡ links (entries_of d)
  pub unit : is_unit e ≡ is_unit d
  pub name : has_bad_name e ≡ has_bad_name d
  pub same : has_bad_name d ≡ false → e ≡ d

-- elements of every name
record AreNamed (make : List ℕ → Element) : Type 0 where
  resources : (m n : List ℕ) → length (entries_of (make m)) ≡ length (entries_of (make n))
  links : (m n : List ℕ) → links (entries_of (make m)) ≡ links (entries_of (make n))
  unit : (m n : List ℕ) → is_unit (make m) ≡ is_unit (make n)
  name : (n : List ℕ) → name_of (make n) ≡ n

named_alike : (make : List ℕ → Element) → AreNamed make → (cell : Cell) (name : List ℕ) (b : Bool) → nat_lt 40 (length name) ≡ b → Alike (make (flat_name cell (cond b (codes ".") name))) (make (flat_name cell name))
named_alike make are cell name true e =
    let m = flat_name cell (codes ".") in
    let n = flat_name cell name in
    let m_bad : has_bad_name (make m) ≡ true = ap (λ x. not (is_name 40 x)) (are.name m) ∙ ap not (dot_bad cell) in
    let n_bad : has_bad_name (make n) ≡ true = ap (λ x. not (is_name 40 x)) (are.name n) ∙ ap not (long_bad cell name e) in
    record {
      resources = are.resources m n;
      links = are.links m n;
      unit = are.unit m n;
      name = m_bad ∙ sym n_bad;
      same = λ good. let bad : true ≡ false = sym n_bad ∙ good in absurd (cc);
    }
named_alike make are cell name false e = record { resources = refl; links = refl; unit = refl; name = refl; same = λ good. refl }

pub wire-alike : (cell : Cell) (name : List ℕ) (drivers : List (List ℕ)) → Alike (element.Wire (flat_name cell (short_name name)) drivers) (element.Wire (flat_name cell name) drivers)
wire-alike cell name drivers =
    named_alike (λ n. element.Wire n drivers) (record { resources = λ m n. refl; links = λ m n. refl; unit = λ m n. refl; name = λ n. refl }) cell name (nat_lt 40 (length name)) refl

pub register-alike : (cell : Cell) (name : List ℕ) (drivers : List (List ℕ)) → Alike (element.Register (flat_name cell (short_name name)) drivers) (element.Register (flat_name cell name) drivers)
register-alike cell name drivers =
    named_alike (λ n. element.Register n drivers) (record { resources = λ m n. refl; links = λ m n. refl; unit = λ m n. refl; name = λ n. refl }) cell name (nat_lt 40 (length name)) refl

port-links : (m n : List ℕ) (p : ℕ) (ports : List (List (List ℕ))) → links (port_entries m p ports) ≡ links (port_entries n p ports)
port-links m n p [] = refl
port-links m n p (x ∷ xs) = omega (arith, port-links m n (p + 1) xs)

unit-links : (m n : List ℕ) (ops : List Op) (latency : ℕ) (ports : List (List (List ℕ))) → links (entries_of (element.Unit m ops latency ports)) ≡ links (entries_of (element.Unit n ops latency ports))
unit-links m n ops latency ports =
    omega (arith, links-append (port_entries m 0 ports) (out_entry m ∷ []), links-append (port_entries n 0 ports) (out_entry n ∷ []), port-links m n 0 ports)

pub unit-alike : (cell : Cell) (name : List ℕ) (ops : List Op) (latency : ℕ) (ports : List (List (List ℕ)))
    → Alike (element.Unit (flat_name cell (short_name name)) ops latency ports) (element.Unit (flat_name cell name) ops latency ports)
unit-alike cell name ops latency ports =
    named_alike (λ n. element.Unit n ops latency ports)
    (record {
      resources = λ m n. unit_long m ops latency ports ∙ sym (unit_long n ops latency ports);
      links = λ m n. unit-links m n ops latency ports;
      unit = λ m n. refl;
      name = λ n. refl;
    }) cell name (nat_lt 40 (length name)) refl

-- ---- lists of elements

abbrev pub AreAlike : List Element → List Element → Type 0
AreAlike [] [] = Unit {0}
AreAlike (e ∷ es) (d ∷ ds) = Alike e d × AreAlike es ds
AreAlike _ _ = ⊥

pub alike-append : (es ds xs ys : List Element) → AreAlike es ds → AreAlike xs ys → AreAlike (es ++ xs) (ds ++ ys)
alike-append [] [] xs ys a b = b
alike-append (e ∷ es) (d ∷ ds) xs ys a b = (a.0, alike-append es ds xs ys a.1 b)
alike-append [] (d ∷ ds) xs ys a b = absurd a
alike-append (e ∷ es) [] xs ys a b = absurd a

pub alike-resources : (es ds : List Element) → AreAlike es ds → length (entries es) ≡ length (entries ds)
alike-resources [] [] a = refl
alike-resources (e ∷ es) (d ∷ ds) a =
    omega (arith, ap length (entries-cons e es), ap length (entries-cons d ds), length-append (entries_of e) (entries es), length-append (entries_of d) (entries ds), a.0.resources, alike-resources es ds a.1)
alike-resources [] (d ∷ ds) a = absurd a
alike-resources (e ∷ es) [] a = absurd a

pub alike-links : (es ds : List Element) → AreAlike es ds → links (entries es) ≡ links (entries ds)
alike-links [] [] a = refl
alike-links (e ∷ es) (d ∷ ds) a =
    omega (arith, ap links (entries-cons e es), ap links (entries-cons d ds), links-append (entries_of e) (entries es), links-append (entries_of d) (entries ds), a.0.links, alike-links es ds a.1)
alike-links [] (d ∷ ds) a = absurd a
alike-links (e ∷ es) [] a = absurd a

pub alike-units : (es ds : List Element) → AreAlike es ds → count_by is_unit es ≡ count_by is_unit ds
alike-units [] [] a = refl
alike-units (e ∷ es) (d ∷ ds) a =
    let one : Element → ℕ = λ x. cond (is_unit x) 1 0 in
    omega (arith, sum_by-cons one e es, sum_by-cons one d ds, ap {B = ℕ} (λ b. cond b 1 0) a.0.unit, alike-units es ds a.1)
alike-units [] (d ∷ ds) a = absurd a
alike-units (e ∷ es) [] a = absurd a

pub alike-names : (es ds : List Element) (v : ℕ) → AreAlike es ds → first_from (λ number e. has_bad_name e) v es ≡ first_from (λ number e. has_bad_name e) v ds
alike-names [] [] v a = refl
alike-names (e ∷ es) (d ∷ ds) v a =
    ap (λ b. cond b (Some v) (first_from (λ number x. has_bad_name x) (v + 1) es)) a.0.name
    ∙ ap (λ o. cond (has_bad_name d) (Some v) o) (alike-names es ds (v + 1) a.1)
alike-names [] (d ∷ ds) v a = absurd a
alike-names (e ∷ es) [] v a = absurd a

pub alike-same : (es ds : List Element) (v : ℕ) → AreAlike es ds → first_from (λ number e. has_bad_name e) v ds ≡ None → es ≡ ds
alike-same [] [] v a none = refl
alike-same (e ∷ es) (d ∷ ds) v a none =
    let parts = cond_none (has_bad_name d) v (first_from (λ number x. has_bad_name x) (v + 1) ds) none in
    ap (λ x. x ∷ es) (a.0.same parts.0) ∙ ap (λ xs. d ∷ xs) (alike-same es ds (v + 1) a.1 parts.1)
alike-same [] (d ∷ ds) v a none = absurd a
alike-same (e ∷ es) [] v a none = absurd a
