-- What the test of canonical configurations finds, slot by slot.
use Rattle.std.proofs.Common.{◌≡◌, ℕ, zero, suc, ◌+◌, ◌<◌, Bool, true, false, not, ◌&&◌, ◌||◌, max, eqb, List, [], length, get_or, refl, sym, ap, ◌∙◌, arith, add-one}
use Rattle.std.specs.Prelude.{slice_index_or}
use Rattle.std.proofs.lemmas.List.{get_or_default, get_or_read}
use mathlib.Core.Bool.{and-or_distrib_left, or_assoc}
use Rattle.cg_model.specs.declared.array.Unit.{Unit}
use Rattle.cg_model.specs.declared.config.UnitFields.{UnitFields}
use Rattle.cg_model.specs.Array.{Arch, unit}
use Rattle.cg_model.specs.Config.{Config, fields, off}
use Rattle.cg_model.specs.Canonical.{any_below, clash, gives_output, greatest_of, port_free}
use Rattle.cg_model.proofs.Bools.{and_false}
use Rattle.cg_config.specs.Parts.{HasRows, Notes, gives_to, given_in, given_before}

-- ---- what loops over units look at

pub unit_at : (A : Arch) (us : List Unit) (x : ℕ) (u : Unit) → u ≡ get_or us x u → us ≡ A.units → x < length us → u ≡ unit A x
unit_at A us x u is same lt =
    let d : Unit = record { name = []; ops = []; latency = 1; ports = []; out = 0 } in
    get_or_read us x u lt is d ∙ ap (λ (vs : List Unit). get_or vs x d) same

pub fields_at : (A : Arch) (C : Config) (row : List UnitFields) (us : List Unit) (x slot : ℕ) (d : UnitFields) → HasRows A C → slot < C.ii →
    row ≡ slice_index_or C.units slot [] → us ≡ A.units → x < length us → get_or row x d ≡ fields C x slot
fields_at A C row us x slot d long in_time its same lt =
    let row_long = (long.rows slot in_time).1 in
    let row_same = ap (λ (fs : List UnitFields). length fs) its in
    let many = ap (λ (vs : List Unit). length vs) same in
    get_or_default row x d off (omega arith) ∙ ap (λ (fs : List UnitFields). get_or fs x off) its

-- ---- greatest numbers

pub greatest_none : (f : ℕ → ℕ) → 0 ≡ greatest_of f 0
unfolding greatest_of
greatest_none f = refl

pub greatest_more : (f : ℕ → ℕ) (n m k : ℕ) → m ≡ greatest_of f n → k ≡ f n → max m k ≡ greatest_of f (n + 1)
unfolding greatest_of
greatest_more f n m k e g = ap (λ z. max z k) e ∙ ap (λ z. max (greatest_of f n) z) g ∙ sym (ap (greatest_of f) (add-one n))

-- ---- ports

pub any_zero : (p : ℕ → Bool) → any_below p 0 ≡ false
unfolding any_below
any_zero p = refl

pub any_more : (p : ℕ → Bool) (n : ℕ) → any_below p (n + 1) ≡ (any_below p n || p n)
unfolding any_below
any_more p n = ap (any_below p) (add-one n)

any_and : (p q : ℕ → Bool) (g : Bool) (n : ℕ) → ((i : ℕ) → p i ≡ (g && q i)) → any_below p n ≡ (g && any_below q n)
unfolding any_below
any_and p q g zero h = sym (and_false g)
any_and p q g (suc n) h =
    ap (λ z. z || p n) (any_and p q g n h) ∙ ap (λ z. (g && any_below q n) || z) (h n) ∙ sym (and-or_distrib_left g (any_below q n) (q n))

swapped : (a b c : Bool) → (a && (b && c)) ≡ (b && (a && c))
swapped true b c = refl
swapped false b c = sym (and_false b)

clash_is : (f g : UnitFields) → clash f g ≡ (gives_output g.op && gives_to f g.port)
clash_is f g = swapped (gives_output f.op) (gives_output g.op) (eqb f.port g.port)

-- a port is free where no slot before gives output to it, nor a unit before in the slot
pub port_is : (A : Arch) (C : Config) (x slot : ℕ) →
    port_free A C x slot ≡ not (gives_output (fields C x slot).op && (given_before A C slot (fields C x slot).port || given_in C slot x (fields C x slot).port))
port_is A C x slot =
    let f = fields C x slot in
    let g = gives_output f.op in
    let row : (s : ℕ) → any_below (λ y. clash (fields C y s) f) (length A.units) ≡ (g && given_in C s (length A.units) f.port) =
    λ s. any_and (λ y. clash (fields C y s) f) (λ y. gives_to (fields C y s) f.port) g (length A.units) (λ y. clash_is (fields C y s) f) in
    let before : any_below (λ s. any_below (λ y. clash (fields C y s) f) (length A.units)) slot ≡ (g && given_before A C slot f.port) =
    any_and (λ s. any_below (λ y. clash (fields C y s) f) (length A.units)) (λ s. given_in C s (length A.units) f.port) g slot row in
    let within : any_below (λ y. clash (fields C y slot) f) x ≡ (g && given_in C slot x f.port) =
    any_and (λ y. clash (fields C y slot) f) (λ y. gives_to (fields C y slot) f.port) g x (λ y. clash_is (fields C y slot) f) in
    ap (λ z. not (z || any_below (λ y. clash (fields C y slot) f) x)) before ∙ ap (λ z. not ((g && given_before A C slot f.port) || z)) within
    ∙ ap not (sym (and-or_distrib_left g (given_before A C slot f.port) (given_in C slot x f.port)))

-- whether the port of the unit's fields is free, by what is noted
pub free_is : (A : Arch) (C : Config) (x slot : ℕ) (taken : List Bool) (f : UnitFields) (free : Bool) → f ≡ fields C x slot → (fields C x slot).port < 16 →
    Notes taken (λ q. given_before A C slot q || given_in C slot x q) → free ≡ not (gives_output f.op && get_or taken f.port false) → free ≡ port_free A C x slot
free_is A C x slot taken f free same small noted is =
    is ∙ ap (λ (g : UnitFields). not (gives_output g.op && get_or taken g.port false)) same
    ∙ ap (λ z. not (gives_output (fields C x slot).op && z)) (noted (fields C x slot).port small) ∙ sym (port_is A C x slot)

-- what is noted of a port after one unit more
pub noted_more : (A : Arch) (C : Config) (x slot q : ℕ) (old new : Bool) (f : UnitFields) → f ≡ fields C x slot → old ≡ (given_before A C slot q || given_in C slot x q) →
    new ≡ (old || gives_to f q) → new ≡ (given_before A C slot q || given_in C slot (x + 1) q)
noted_more A C x slot q old new f same is noted =
    noted ∙ ap (λ (g : UnitFields). old || gives_to g q) same ∙ ap (λ z. z || gives_to (fields C x slot) q) is
    ∙ or_assoc (given_before A C slot q) (given_in C slot x q) (gives_to (fields C x slot) q)
    ∙ ap (λ z. given_before A C slot q || z) (sym (any_more (λ y. gives_to (fields C y slot) q) x))
