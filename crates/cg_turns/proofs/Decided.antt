-- The turns of a kernel on an image have a first pair that no edges order, or none.
use Rattle.std.proofs.Common.{◌≡◌, ℕ, ◌*◌, ◌/◌, ◌%◌, ◌<◌, inl, inr, true, length, sym, ap, subst, arith, ⊎_elim}
use Rattle.std.specs.Prelude.{Option, Some, None}
use Rattle.std.proofs.lemmas.Bool.{cases_eq}
use Rattle.std.proofs.lemmas.Nat.{div-add-mod'}
use Rattle.cg_word.specs.Word.{is_access, is_store}
use Rattle.cg_model.specs.Kernel.{Kernel, IsKernel, size, node}
use Rattle.cg_model.specs.Work.{Image, Work, Reaches, acts, address}
use Rattle.cg_model.specs.Turns.{work}
use Rattle.cg_distance.proofs.Searches.{Decided, less_decided, true_decided, both_decided, either_decided, IsFirst, IsLast, HasNone, last_below, first_below}
use Rattle.cg_distance.proofs.Decided.{ordered_decided}
use Rattle.cg_turns.specs.declared.pair.Access.{Access}
use Rattle.cg_turns.specs.declared.pair.UnorderedPair.{UnorderedPair}
use Rattle.cg_turns.specs.Pairs.{step_of, IsConflict, AreOrdered, IsUnordered, IsFirstPair, IsPairOf}
use Rattle.cg_turns.proofs.Pairs.{mod_less}

-- ---- what is decided of two steps

reaches_decided : (w : Work) (a : ℕ) → Decided (Reaches w a)
reaches_decided w a =
    ⊎_elim
    (λ is. ⊎_elim
    (λ acting. ⊎_elim
    (λ there. inl (record { is = is; acting = acting; there = there }))
    (λ ne. inr (λ r. ne r.there))
    (cases_eq (address w.op w.args) a))
    (λ idle. inr (λ r. idle r.acting))
    (true_decided (acts w.op w.args)))
    (λ other. inr (λ r. other r.is))
    (true_decided (is_access w.op))

abbrev BothReach : Kernel → Image → ℕ → ℕ → ℕ → Type 0
BothReach K image k l a = Reaches (work K image k) a × Reaches (work K image l) a

conflict_decided : (K : Kernel) (image : Image) (k l : ℕ) → Decided (IsConflict K image k l)
conflict_decided K image k l =
    ⊎_elim
    (λ earlier. ⊎_elim
    (λ rival. ⊎_elim
    (λ f. inl (record { earlier = earlier; word = f.0; within = f.1.within; first = f.1.holds.0; second = f.1.holds.1; rival = rival }))
    (λ none. inr (λ c. none c.word c.within (c.first, c.second)))
    (last_below (BothReach K image k l) (length image.memory) (λ a h. both_decided (Reaches (work K image k) a) (Reaches (work K image l) a) (reaches_decided (work K image k) a) (reaches_decided (work K image l) a))))
    (λ none. inr (λ c. none c.rival))
    (either_decided (is_store (node K (k % size K)).op ≡ true) (is_store (node K (l % size K)).op ≡ true) (true_decided (is_store (node K (k % size K)).op)) (true_decided (is_store (node K (l % size K)).op))))
    (λ late. inr (λ c. late c.earlier))
    (less_decided k l)

are_ordered_decided : (K : Kernel) → IsKernel K → (k l : ℕ) → Decided (AreOrdered K k l)
are_ordered_decided K good k l = ordered_decided K good (k % size K) (k / size K) (l % size K) (l / size K)

unordered_decided : (K : Kernel) → IsKernel K → (image : Image) (k l : ℕ) → Decided (IsUnordered K image k l)
unordered_decided K good image k l =
    ⊎_elim
    (λ c. ⊎_elim (λ o. inr (λ u. u.unordered o)) (λ open_to. inl (record { conflict = c; unordered = open_to })) (are_ordered_decided K good k l))
    (λ none. inr (λ u. none u.conflict))
    (conflict_decided K image k l)

-- ---- the first pair

-- the latest earlier step that no edges order before step l
abbrev HasLatest : Kernel → Image → ℕ → Type 0
HasLatest K image l = (k : ℕ) × IsLast (λ k. IsUnordered K image k l) l k

latest_decided : (K : Kernel) → IsKernel K → (image : Image) (l : ℕ) → Decided (HasLatest K image l)
latest_decided K good image l =
    ⊎_elim
    (λ f. inl f)
    (λ none. inr (λ f. none f.0 f.1.within f.1.holds))
    (last_below (λ k. IsUnordered K image k l) l (λ k h. unordered_decided K good image k l))

latest_of : (K : Kernel) → IsKernel K → (image : Image) (k l : ℕ) → IsUnordered K image k l → HasLatest K image l
latest_of K good image k l u =
    ⊎_elim {C = HasLatest K image l}
    (λ f. f)
    (λ none. absurd (none k u.conflict.earlier u))
    (last_below (λ k. IsUnordered K image k l) l (λ k h. unordered_decided K good image k l))

first_pair : (K : Kernel) → IsKernel K → (image : Image) (steps l : ℕ) → IsFirst (HasLatest K image) steps l → (k : ℕ) × IsFirstPair K image steps k l
first_pair K good image steps l f =
    let k = f.holds in (
      k.0,
      record {
        pair = k.1.holds;
        within = f.within;
        least = λ i j h u. f.least j h (latest_of K good image i j u);
        latest = λ i u. k.1.most i u.conflict.earlier u;
      },
    )

-- a step as an access
abbrev access_at : ℕ → ℕ → Access
access_at m k = record { node = k % m; turn = k / m }

pair_at : (K : Kernel) (image : Image) (n k l : ℕ) → IsFirstPair K image (n * size K) k l → IsPairOf K n image (Some (record { earlier = access_at (size K) k; later = access_at (size K) l }))
pair_at K image n k l f =
    let m = size K in
    let within : l < n * m = f.within in
    let some : 0 < m = ⊎_elim {C = 0 < m} (λ e. absurd (let none : n * m ≡ n * 0 = ap (λ z. n * z) e in omega arith)) (λ ne. omega arith) (cases_eq m 0) in
    record {
      earlier = mod_less k m some;
      later = mod_less l m some;
      first = subst (λ z. IsFirstPair K image (n * m) z (step_of m (access_at m l))) (sym (div-add-mod' k m)) (subst (λ z. IsFirstPair K image (n * m) k z) (sym (div-add-mod' l m)) f);
    }

-- of two steps that no pair has, those that conflict are ordered
none_unordered : (K : Kernel) → IsKernel K → (n : ℕ) (image : Image) → HasNone (HasLatest K image) (n * size K) → IsPairOf K n image None
none_unordered K good n image none =
    λ a k l within earlier h first second rival.
    let c : IsConflict K image k l = record { earlier = earlier; word = a; within = within; first = first; second = second; rival = rival } in
    ⊎_elim {C = AreOrdered K k l}
    (λ o. o)
    (λ open_to. absurd (none l h (latest_of K good image k l (record { conflict = c; unordered = open_to }))))
    (are_ordered_decided K good k l)

-- of the turns of a valid kernel on any image there is a first pair that no edges order, or the run is unaliased
pub some_pair : (K : Kernel) → IsKernel K → (n : ℕ) (image : Image) → (p : Option UnorderedPair) × IsPairOf K n image p
some_pair K good n image =
    ⊎_elim
    (λ f. let k = first_pair K good image (n * size K) f.0 f.1 in (Some (record { earlier = access_at (size K) k.0; later = access_at (size K) f.0 }), pair_at K image n k.0 f.0 k.1))
    (λ none. (None, none_unordered K good n image none))
    (first_below (HasLatest K image) (n * size K) (λ l h. latest_decided K good image l))
