-- Which effects load a new value, and the memory that the first of them finds.
use Rattle.std.proofs.Common.{◌≡◌, ℕ, suc, ◌+◌, ◌*◌, ◌<◌, ◌⊎◌, inl, inr, eqb, if◌then◌else◌, Bool, List, [], ◌∷◌, ◌++◌, length, Contains, Option, refl, ap, ◌∙◌, arith, ⊎_elim}
use Rattle.std.proofs.lemmas.Bool.{cases_eq, ne_eqb, eq-eqb}
use Rattle.std.proofs.lemmas.List.Elements.{Contains-append_right, Contains-push_cases}
use Rattle.cg_model.specs.Work.{Image, IsImage}
use Rattle.cg_model.specs.Kernel.{IsKernel, size}
use Rattle.cg_model.specs.Turns.{before}
use Rattle.cg_simplify_facts.proofs.Words.{memory_words}
use Rattle.cg_c_forms.specs.Forms.{renamed}
use Rattle.cg_c_turn.specs.declared.effect.Effect.{Effect}
use Rattle.cg_c_turn.specs.declared.effect.Effect.TheVariants.{Load, Store, Send}
use Rattle.cg_c_turn.specs.Draft.{Draft}
use Rattle.cg_c_nodes.specs.Placed.{Placing}
use Rattle.cg_c_nodes.specs.Running.{AreWords, Memories}

-- one of these effects loads a value whose new value is u
pub record Loads (map : List ℕ) (es : List Effect) (u : ℕ) : Type 0 where
  pub guard : Option ℕ
  pub array : ℕ
  pub address : ℕ
  pub value : ℕ
  pub place : ℕ
  pub there : Contains es (Load guard array address value place)
  pub new_is : renamed map value ≡ u

pub loads_none : {A : Type 0} (map : List ℕ) (u : ℕ) → Loads map [] u → A
loads_none map u h = absurd (let b : h.there.0 < 0 = h.there.1 in omega (arith, b))

pub loads_rest : (map : List ℕ) (pre es : List Effect) (u : ℕ) → Loads map es u → Loads map (pre ++ es) u
loads_rest map pre es u h =
    record { guard = h.guard; array = h.array; address = h.address; value = h.value; place = h.place; there = Contains-append_right pre es (Load h.guard h.array h.address h.value h.place) h.there; new_is = h.new_is }

-- an effect more
pub loads_cases : (map : List ℕ) (es : List Effect) (e : Effect) (u : ℕ) → Loads map (es ++ e ∷ []) u → Loads map es u ⊎ ((guard : Option ℕ) × (array : ℕ) × (address : ℕ) × (value : ℕ) × (place : ℕ) × (e ≡ Load guard array address value place) × (renamed map value ≡ u))
loads_cases map es e u h =
    ⊎_elim
    (λ c. inl (record { guard = h.guard; array = h.array; address = h.address; value = h.value; place = h.place; there = c; new_is = h.new_is }))
    (λ c. inr (h.guard, h.array, h.address, h.value, h.place, c, h.new_is))
    (Contains-push_cases es e (Load h.guard h.array h.address h.value h.place) h.there)

-- the number of effects before the first one that loads it
abbrev pub first : (map : List ℕ) (u : ℕ) → List Effect → ℕ
first map u [] = 0
first map u (Load guard array address value place ∷ es) = if eqb (renamed map value) u then 0 else suc (first map u es)
first map u (_ ∷ es) = suc (first map u es)

pub first_here : (map : List ℕ) (u : ℕ) (guard : Option ℕ) (array address value place : ℕ) (es : List Effect) → renamed map value ≡ u → first map u (Load guard array address value place ∷ es) ≡ 0
first_here map u guard array address value place es h = ap (λ (b : Bool). if b then 0 else suc (first map u es)) (eq-eqb (renamed map value) u h)

-- either one of the effects loads it, or the first one is none of them
abbrev pub AreBefore : (map : List ℕ) (es : List Effect) (u : ℕ) → Type 0
AreBefore map es u = (fs : List Effect) → first map u (es ++ fs) ≡ length es + first map u fs

pub loads_or_before : (map : List ℕ) (es : List Effect) (u : ℕ) → Loads map es u ⊎ AreBefore map es u
loads_or_before map [] u = inr (λ fs. omega arith)
loads_or_before map (Load guard array address value place ∷ es) u =
    ⊎_elim
    (λ (h : renamed map value ≡ u). inl (record { guard = guard; array = array; address = address; value = value; place = place; there = (0, (let z : 0 < suc (length es) = omega arith in z), refl); new_is = h }))
    (λ (h : renamed map value ≡ u → ⊥).
    ⊎_elim
    (λ k. inl (loads_rest map (Load guard array address value place ∷ []) es u k))
    (λ (k : AreBefore map es u). inr (λ fs. ap (λ (b : Bool). if b then 0 else suc (first map u (es ++ fs))) (ne_eqb (renamed map value) u h) ∙ omega (arith, k fs)))
    (loads_or_before map es u))
    (cases_eq (renamed map value) u)
loads_or_before map (Store guard array address word place ∷ es) u =
    ⊎_elim
    (λ k. inl (loads_rest map (Store guard array address word place ∷ []) es u k))
    (λ (k : AreBefore map es u). inr (λ fs. omega (arith, k fs)))
    (loads_or_before map es u)
loads_or_before map (Send guard port word ∷ es) u =
    ⊎_elim
    (λ k. inl (loads_rest map (Send guard port word ∷ []) es u k))
    (λ (k : AreBefore map es u). inr (λ fs. omega (arith, k fs)))
    (loads_or_before map es u)

-- the memory that the first of them finds
abbrev pub memories_of : Draft → Placing → Image → Memories
memories_of d P image t u = (before P.kernel image (t * size P.kernel + P.before (first P.map u d.effects))).memory

pub memories_words : (d : Draft) (P : Placing) (image : Image) → IsKernel P.kernel → IsImage image → AreWords (memories_of d P image)
memories_words d P image good words_are t u a = memory_words P.kernel good image words_are (t * size P.kernel + P.before (first P.map u d.effects)) a
