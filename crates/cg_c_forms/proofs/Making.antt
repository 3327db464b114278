-- Where the loads of the new values come from.
use Rattle.std.proofs.Common.{◌≡◌, ℕ, ◌+◌, ◌<◌, ◌≤◌, List, length, sym, ◌∙◌, subst, arith, ⊎_elim, below_more}
use Rattle.std.proofs.lemmas.Bool.{cases_lt}
use Rattle.cg_c_values.specs.declared.value.Value.{Value}
use Rattle.cg_c_values.specs.Values.{IsLoad, Keeps, value_at}
use Rattle.cg_c_forms.specs.Forms.{IsForm, renamed}
use Rattle.cg_c_forms.specs.Remade.{Adds, AddsLoadAt, AddsLoadFor}

-- the numbers below k have the same new ones
abbrev pub Agrees : (map map' : List ℕ) → (k : ℕ) → Type 0
Agrees map map' k = (j : ℕ) → j < k → renamed map' j ≡ renamed map j

-- u is the new value of an old load below k, or up to k
abbrev pub MadeBelow : (old : List Value) → (map : List ℕ) → (k u : ℕ) → Type 0
MadeBelow old map k u = (v : ℕ) × (v < k) × IsLoad (value_at old v) × (renamed map v ≡ u)

abbrev pub MadeUpTo : (old : List Value) → (map : List ℕ) → (k u : ℕ) → Type 0
MadeUpTo old map k u = (v : ℕ) × (v ≤ k) × IsLoad (value_at old v) × (renamed map v ≡ u)

-- each load below a bound is one of these
abbrev pub AllMade : (old new : List Value) → (map : List ℕ) → (k : ℕ) → Type 0
AllMade old new map k = (u : ℕ) → u < length new → IsLoad (value_at new u) → MadeBelow old map k u

abbrev pub MadeUntil : (old new : List Value) → (map : List ℕ) → (w : ℕ) → Type 0
MadeUntil old new map w = (u : ℕ) → u ≤ renamed map w → IsLoad (value_at new u) → MadeUpTo old map w u

pub forms_more : (turns : ℕ) (a b : List Value) → Adds (IsForm turns) a b → ((u : ℕ) → u < length a → IsForm turns (value_at a u)) →
    (u : ℕ) → u < length b → IsForm turns (value_at b u)
forms_more turns a b e f u l =
    ⊎_elim
    (λ (below : u < length a). subst (IsForm turns) (sym (e.kept u below)) (f u below))
    (λ (above : length a ≤ u). e.kind u above l)
    (cases_lt u (length a))

-- one value more is made
module _ (old a b : List Value) (map more : List ℕ) (n count : ℕ) (agrees : Agrees map more count) (newest : renamed more count ≡ n) (e : Keeps a b) (load : AddsLoadFor a b (value_at old count)) (place : AddsLoadAt a b n) where
  kept_load : (u : ℕ) → u < length a → IsLoad (value_at b u) → IsLoad (value_at a u)
  kept_load u l p = subst IsLoad (e.kept u l) p

  pub all_made_more : AllMade old a map count → AllMade old b more (count + 1)
  all_made_more f u l p =
      ⊎_elim
      (λ (below : u < length a).
      let m = f u below (kept_load u below p) in
      let k = m.1 in
      (m.0, omega arith, m.2, agrees m.0 k ∙ m.3))
      (λ (above : length a ≤ u). (count, omega arith, load u above l p, newest ∙ place u above l p))
      (cases_lt u (length a))

  pub made_more : ((w : ℕ) → w < count → renamed map w < length a) → n < length b → ((w : ℕ) → w < count → MadeUntil old a map w) → AllMade old a map count →
      (w : ℕ) → w < count + 1 → MadeUntil old b more w
  made_more within s f all = below_more (MadeUntil old b more) count
      (λ w l u i p.
      let x = within w l in
      let y = agrees w l in
      let m = f w l u (omega arith) (kept_load u (omega arith) p) in
      let k = m.1 in
      (m.0, k, m.2, agrees m.0 (omega arith) ∙ m.3))
      (λ u i p.
      let m = all_made_more all u (let y = newest in omega arith) p in
      let k = m.1 in
      (m.0, omega arith, m.2, m.3))
