-- A resource at the front of a search gets its number, and its drivers wait.
use Rattle.std.proofs.Common.{◌≡◌, ℕ, ◌+◌, ◌⊎◌, inl, inr, List, ◌++◌, get_or, set, length-append, refl, ap, arith, ⊎_elim, Contains}
use Rattle.std.specs.Prelude.{Option, Some, None}
use Rattle.std.proofs.lemmas.List.{get_or_append_left}
use Rattle.std.proofs.lemmas.List.Elements.{Contains-append_left, Contains-append_right, Contains-append_cases}
use Rattle.std.proofs.lemmas.List.Sums.{sum_by-set}
use Rattle.cg_model.specs.declared.array.Kind.{Kind}
use Rattle.cg_model.specs.declared.array.Kind.TheVariants.{Wire, Register, Port, Out}
use Rattle.cg_model.specs.Array.{Arch, IsArch, resource, delay, delay_by}
use Rattle.cg_bound_routes.specs.Search.{number, lacks, lacking, IsUnderWay}
use Rattle.cg_bound_routes.proofs.Steps.{settles}

-- a link takes no cycle or one
pub delay_cases : (k : Kind) → (delay_by k ≡ 0) ⊎ (delay_by k ≡ 1)
delay_cases Register = inr refl
delay_cases Wire = inl refl
delay_cases Port = inl refl
delay_cases Out = inl refl

module _ (A : Arch) (valid : IsArch A) (ends : List ℕ) (numbers : List (Option ℕ)) (level : ℕ) (front : List ℕ) (at : ℕ) (later : List ℕ) (h : IsUnderWay A ends numbers level front at later) (r : ℕ) (none : number numbers r ≡ None) (here : Contains front r) where
  abbrev drivers : List ℕ
  drivers = (resource A r).drivers

  pub settled_front : delay A r ≡ 0 → IsUnderWay A ends (set numbers r (Some level)) level (front ++ drivers) at later
  settled_front z =
      settles A ends numbers level front at later h r (front ++ drivers) later none here (λ q c. Contains-append_left front drivers q c) (λ q c. c)
      (λ q c. ⊎_elim (λ a. inl a) (λ a. inr (a, z)) (Contains-append_cases front drivers q c)) (λ q c. inl c)
      (λ q c. inl (Contains-append_right front drivers q c, z)) (λ q c. valid.known q r c)
      (λ i l. get_or_append_left front drivers 0 i (let a = h.reached in omega arith)) (let a = h.reached in let b = length-append front drivers in omega arith)

  pub settled_later : delay A r ≡ 1 → IsUnderWay A ends (set numbers r (Some level)) level front at (later ++ drivers)
  settled_later z =
      settles A ends numbers level front at later h r front (later ++ drivers) none here (λ q c. c) (λ q c. Contains-append_left later drivers q c)
      (λ q c. inl c) (λ q c. ⊎_elim (λ a. inl a) (λ a. inr (a, z)) (Contains-append_cases later drivers q c))
      (λ q c. inr (Contains-append_right later drivers q c, z)) (λ q c. valid.known q r c)
      (λ i l. refl) h.reached

  -- one resource less lacks a number
  pub numbered : lacking (set numbers r (Some level)) + 1 ≡ lacking numbers
  numbered =
      let known = (h.fronts r here).0 in
      let each = h.each in
      let sums : lacking (set numbers r (Some level)) + lacks (get_or numbers r None) ≡ lacking numbers + 0 = sum_by-set lacks numbers r (Some level) None (omega arith) in
      let one : lacks (get_or numbers r None) ≡ 1 = ap lacks none in
      omega arith
