-- Kernels with accesses whose runs are unaliased, and one whose runs are not.
use Rattle.std.proofs.Common.{◌≡◌, ℕ, zero, suc, ◌<◌, ◌≤◌, true, List, refl, subst, arith, inl, inr, ⊎_elim}
use Rattle.std.specs.Prelude.{◌⊎◌, not}
use Rattle.std.proofs.lemmas.Bool.{and_from}
use Rattle.cg_word.specs.Word.{is_access, is_store, apply_of}
use Rattle.cg_model.specs.Work.{Image, Reaches, stores, value_by, stored, sent, missed}
use Rattle.cg_model.specs.declared.kernel.Operand.TheVariants.{Edge}
use Rattle.cg_model.specs.Kernel.{HasOperand, IsKernel, node}
use Rattle.cg_model.specs.Turns.{before, work}
use Rattle.cg_model.specs.Order.{IsOrdered, IsUnaliased, Links, Chain, one, more, by_data, by_order}
use Rattle.cg_model.proofs.Rows.{swap, swap_unordered, odd_inside, idle, eager, holding}
use Rattle.cg_overlap.proofs.Tests.{all_true, every, all_below, all_below_it, fails_it}
use Rattle.cg_overlap.proofs.KernelTest.{kernel_by}
use Rattle.cg_overlap.proofs.Unaliased.{unaliased_from}

-- ---- a load and a store of one word, ordered both ways

pub swap_is : IsKernel swap
unfolding all_true every all_below
swap_is = kernel_by swap refl

-- what reaches the scratchpad is the load or the store
swap_access : (v : ℕ) → is_access (node swap v).op ≡ true → (v ≡ 0) ⊎ (v ≡ 2)
swap_access zero e = inl refl
swap_access (suc zero) e = absurd (cc)
swap_access (suc (suc zero)) e = inr refl
swap_access (suc (suc (suc zero))) e = absurd (cc)
swap_access (suc (suc (suc (suc v)))) e = absurd (cc)

there : (i j : ℕ) → i ≤ j → IsOrdered swap 0 i 2 j
there i j l = inr (0, one (by_order 0 refl), omega arith)

back : (i j : ℕ) → i < j → IsOrdered swap 2 i 0 j
back i j l = inr (1, one (by_order 1 refl), omega arith)

pairs : (u i v j : ℕ) → (u ≡ 0) ⊎ (u ≡ 2) → (v ≡ 0) ⊎ (v ≡ 2) → (u < v → i ≤ j → IsOrdered swap u i v j) × (v < u → i < j → IsOrdered swap u i v j)
pairs u i v j (inl a) (inl b) = (λ l k. absurd (omega arith), λ l k. absurd (omega arith))
pairs u i v j (inl a) (inr b) = (λ l k. rw (a, b) (there i j k), λ l k. absurd (omega arith))
pairs u i v j (inr a) (inl b) = (λ l k. absurd (omega arith), λ l k. rw (a, b) (back i j k))
pairs u i v j (inr a) (inr b) = (λ l k. absurd (omega arith), λ l k. absurd (omega arith))

pub swap_unaliased : (n : ℕ) (image : Image) → IsUnaliased swap n image
swap_unaliased n image = unaliased_from swap n image swap_is.wired (λ a u i v j lu lv lj ru rv st. pairs u i v j (swap_access u ru.is) (swap_access v rv.is))

-- ---- without its order edges it is aliased: no edge leads from the load to the store

edge_from_load : (v p d : ℕ) (init : List ℕ) → HasOperand swap_unordered v p (Edge 0 d init) → v ≡ 3
edge_from_load zero zero d init h = absurd (cc)
edge_from_load zero (suc p) d init h = absurd (cc)
edge_from_load (suc zero) p d init h = absurd (cc)
edge_from_load (suc (suc zero)) zero d init h = absurd (cc)
edge_from_load (suc (suc zero)) (suc zero) d init h = let z : ◌≡◌ {A = ℕ} 1 0 = cc in omega arith
edge_from_load (suc (suc zero)) (suc (suc p)) d init h = absurd (cc)
edge_from_load (suc (suc (suc zero))) p d init h = refl
edge_from_load (suc (suc (suc (suc v)))) p d init h = absurd (cc)

edge_from_output : (v p d : ℕ) (init : List ℕ) → HasOperand swap_unordered v p (Edge 3 d init) → ⊥
edge_from_output zero zero d init h = cc
edge_from_output zero (suc p) d init h = cc
edge_from_output (suc zero) p d init h = cc
edge_from_output (suc (suc zero)) zero d init h = cc
edge_from_output (suc (suc zero)) (suc zero) d init h = let z : ◌≡◌ {A = ℕ} 1 3 = cc in omega arith
edge_from_output (suc (suc zero)) (suc (suc p)) d init h = cc
edge_from_output (suc (suc (suc zero))) zero d init h = let z : ◌≡◌ {A = ℕ} 0 3 = cc in omega arith
edge_from_output (suc (suc (suc zero))) (suc p) d init h = cc
edge_from_output (suc (suc (suc (suc v)))) p d init h = cc

link_from_load : (v d : ℕ) → Links swap_unordered 0 v d → v ≡ 3
link_from_load v d (by_order e h) = absurd (cc)
link_from_load v d (by_data p init l h) = edge_from_load v p d init h

link_from_output : (u v d : ℕ) → u ≡ 3 → Links swap_unordered u v d → ⊥
link_from_output u v d e (by_order k h) = cc
link_from_output u v d e (by_data p init l h) = edge_from_output v p d init (subst (λ z. HasOperand swap_unordered v p (Edge z d init)) e h)

chain_from_output : (u v d : ℕ) → u ≡ 3 → Chain swap_unordered u v d → ⊥
chain_from_output u v d e (one l) = link_from_output u v d e l
chain_from_output u v d e (more l c) = link_from_output u _ _ e l

no_chain_to_store : (v d : ℕ) → v ≡ 2 → Chain swap_unordered 0 v d → ⊥
no_chain_to_store v d e (one l) = let z = link_from_load v d l in omega arith
no_chain_to_store v d e (more l c) = chain_from_output _ v _ (link_from_load _ _ l) c

-- step 0 is the load and step 2 the store, in the first turn
first_load_reaches : Reaches (work swap_unordered (holding 9) 0) 0
unfolding before value_by stored sent missed apply_of
first_load_reaches = record { is = refl; acting = refl; there = refl }

first_store_reaches : Reaches (work swap_unordered (holding 9) 2) 0
unfolding before value_by stored sent missed apply_of
first_store_reaches = record { is = refl; acting = refl; there = refl }

load_before_store_is_aliased : IsUnaliased swap_unordered 2 (holding 9) → ⊥
load_before_store_is_aliased unaliased =
    ⊎_elim (λ e. let z : ◌≡◌ {A = ℕ} 0 2 = e.0 in omega arith) (λ c. no_chain_to_store 2 c.0 refl c.1)
    (unaliased 0 0 2 (omega arith) (omega arith) (omega arith) first_load_reaches first_store_reaches (inr refl))

-- ---- a guarded store alone

pub odd_inside_is : IsKernel odd_inside
unfolding all_true every all_below
odd_inside_is = kernel_by odd_inside refl

odd_access : (v : ℕ) → is_access (node odd_inside v).op ≡ true → v ≡ 2
odd_access zero e = absurd (cc)
odd_access (suc zero) e = absurd (cc)
odd_access (suc (suc zero)) e = refl
odd_access (suc (suc (suc zero))) e = absurd (cc)
odd_access (suc (suc (suc (suc v)))) e = absurd (cc)

pub odd_inside_unaliased : (n : ℕ) (image : Image) → IsUnaliased odd_inside n image
odd_inside_unaliased n image =
    unaliased_from odd_inside n image odd_inside_is.wired
    (λ a u i v j lu lv lj ru rv st. let x = odd_access u ru.is in let y = odd_access v rv.is in (λ l k. absurd (omega arith), λ l k. absurd (omega arith)))

-- ---- a guarded store that doesn't act is no access: between two loads of its word, no order is asked of it

idle_stores_nothing : all_below (λ k. not (stores (work idle (holding 4) k))) 12 ≡ true
unfolding all_below before value_by stored sent missed apply_of
idle_stores_nothing = refl

no_store : (k a : ℕ) → k < 12 → Reaches (work idle (holding 4) k) a → is_store (work idle (holding 4) k).op ≡ true → ⊥
no_store k a l r e = fails_it _ (all_below_it (λ k. not (stores (work idle (holding 4) k))) 12 k idle_stores_nothing l) (and_from _ _ e r.acting)

pub idle_store_is_no_access : IsUnaliased idle 3 (holding 4)
idle_store_is_no_access a k l la b last rk rl st = ⊎_elim (λ e. absurd (no_store k a (omega arith) rk e)) (λ e. absurd (no_store l a last rl e)) st

-- ---- a store in its place is aliased with the load after it: no edge leads from the store

not_from_store : (v p d : ℕ) (init : List ℕ) → HasOperand eager v p (Edge 2 d init) → ⊥
not_from_store zero zero d init h = cc
not_from_store zero (suc p) d init h = cc
not_from_store (suc zero) zero d init h = cc
not_from_store (suc zero) (suc p) d init h = cc
not_from_store (suc (suc zero)) zero d init h = cc
not_from_store (suc (suc zero)) (suc zero) d init h = let z : ◌≡◌ {A = ℕ} 1 2 = cc in omega arith
not_from_store (suc (suc zero)) (suc (suc p)) d init h = cc
not_from_store (suc (suc (suc zero))) zero d init h = cc
not_from_store (suc (suc (suc zero))) (suc p) d init h = cc
not_from_store (suc (suc (suc (suc v)))) p d init h = cc

no_link : (v d : ℕ) → Links eager 2 v d → ⊥
no_link v d (by_order e h) = cc
no_link v d (by_data p init l h) = not_from_store v p d init h

no_chain : (v d : ℕ) → Chain eager 2 v d → ⊥
no_chain v d (one l) = no_link _ _ l
no_chain v d (more l c) = no_link _ _ l

-- step 2 is the store and step 3 the load after it, in the first turn
store_reaches : Reaches (work eager (holding 4) 2) 0
unfolding before value_by stored sent missed apply_of
store_reaches = record { is = refl; acting = refl; there = refl }

load_reaches : Reaches (work eager (holding 4) 3) 0
unfolding before value_by stored sent missed apply_of
load_reaches = record { is = refl; acting = refl; there = refl }

store_before_load_is_aliased : IsUnaliased eager 3 (holding 4) → ⊥
store_before_load_is_aliased unaliased =
    ⊎_elim (λ e. let z : ◌≡◌ {A = ℕ} 2 3 = e.0 in omega arith) (λ c. no_chain 3 c.0 c.1)
    (unaliased 0 2 3 (omega arith) (omega arith) (omega arith) store_reaches load_reaches (inl refl))
