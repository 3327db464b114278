-- Items of lists that have one for each number, or for each item of another list.
use Rattle.std.proofs.Common.{◌≡◌, ℕ, zero, suc, ◌<◌, ◌≤◌, Bool, true, false, cond, List, [], ◌∷◌, ◌++◌, length, get_or, map, sym, ap, ◌∙◌, ⊎_elim, subst, lit<, arith}
use Rattle.std.specs.Prelude.{nat_lt, unwrap_or}
use Rattle.std.proofs.lemmas.Bool.{cases_lt, lt-ltb, le-ltb}
use Rattle.std.proofs.lemmas.List.{length-map, get_or-map, get_or_past, get_or_append_left}
use Rattle.std.proofs.Math.Seq.{get_or-append_seam}
use Rattle.cg_model.specs.declared.array.Kind.TheVariants.{Wire}
use Rattle.cg_model.specs.declared.array.Resource.{Resource}
use Rattle.cg_model.specs.Array.{Arch, resource}
use Rattle.cg_list_laws.specs.Below.{lists_below}
use Rattle.cg_layout.specs.Layout.{Frame, Spot, seat, seat_by, box, beyond, corner, unit_top}
use Rattle.cg_layout.specs.Places.{IsNear, AreSeats, AreBoxes, nowhere, spot}
use Rattle.cg_layout.specs.Tiles.{unit_tile, prefixes, tile_in, tiles_in, tile_of, tile_prefix}
use Rattle.cg_list_laws.proofs.Grown.{length_of_items}
use Rattle.cg_layout.proofs.Found.{first_within}

-- item r of what two maps give
twice : {X Y : Type 0} (f : X → Y) (g : Y → ℕ) (xs : List X) (r : ℕ) (d : X) → get_or (map g (map f xs)) r 0 ≡ cond (nat_lt r (length xs)) (g (f (get_or xs r d))) 0
twice f g xs r d =
    ⊎_elim
    (λ (h : r < length xs).
    let k : r < length (map f xs) = omega (arith, h, length-map xs f) in
    get_or-map g (map f xs) r (f d) 0 k ∙ ap g (get_or-map f xs r d (f d) h) ∙ ap (λ b. cond b (g (f (get_or xs r d))) 0) (sym (lt-ltb r (length xs) h)))
    (λ (h : length xs ≤ r).
    let k : length (map g (map f xs)) ≤ r = omega (arith, h, length-map xs f, length-map (map f xs) g) in
    get_or_past (map g (map f xs)) r 0 k ∙ ap (λ b. cond b (g (f (get_or xs r d))) 0) (sym (le-ltb r (length xs) h)))
    (cases_lt r (length xs))

pub tile_listed : (A : Arch) (tiles : List ℕ) → tiles ≡ map (λ tile. unwrap_or tile 0) (tiles_in A.resources) → (r : ℕ) → get_or tiles r 0 ≡ tile_of A r
tile_listed A tiles e r =
    let past : Resource = record { name = []; kind = Wire; drivers = [] } in
    ap (λ z. get_or z r 0) e ∙ twice (λ (q : Resource). tile_in q.name) (λ tile. unwrap_or tile 0) A.resources r past

-- there are 1,024 tiles
pub tile_small : (A : Arch) (r : ℕ) → tile_of A r < 1024
unfolding prefixes
tile_small A r =
    let all : length prefixes ≡ 1024 = length_of_items tile_prefix 1024 in
    either (nat_lt r (length A.resources)) _ (first_within _ 0 prefixes 1024 (omega (arith, all)) (omega arith))
  where
    either : (b : Bool) (n : ℕ) → n < 1024 → cond b n 0 < 1024
    either true n h = h
    either false n h = omega arith

-- one item a number
pub item_below : {T : Type 0} (f : ℕ → T) (n k : ℕ) (d : T) → k < n → get_or (lists_below (λ i. f i ∷ []) n) k d ≡ f k
unfolding lists_below
item_below f zero k d h = absurd (omega arith)
item_below f (suc n) k d h =
    let front = lists_below (λ i. f i ∷ []) n in
    let long : length front ≡ n = length_of_items f n in
    ⊎_elim
    (λ (l : k < n). get_or_append_left front (f n ∷ []) d k (omega (arith, l, long)) ∙ item_below f n k d l)
    (λ (l : n ≤ k).
    let here : length front ≡ k = omega (arith, l, h, long) in
    let there : n ≡ k = omega (arith, l, h) in
    ap (λ z. get_or (front ++ f n ∷ []) z d) (sym here) ∙ get_or-append_seam front (f n) [] d ∙ ap f there)
    (cases_lt k n)

pub item_past : {T : Type 0} (f : ℕ → T) (n k : ℕ) (d : T) → n ≤ k → get_or (lists_below (λ i. f i ∷ []) n) k d ≡ d
item_past f n k d h = get_or_past (lists_below (λ i. f i ∷ []) n) k d (omega (arith, h, length_of_items f n))

-- a list that has the item of each number below n stands for all numbers, where past n the number's item is d
pub item_listed : {T : Type 0} (f : ℕ → T) (n : ℕ) (d : T) (xs : List T) → xs ≡ lists_below (λ i. f i ∷ []) n → ((k : ℕ) → n ≤ k → f k ≡ d) → (k : ℕ) → get_or xs k d ≡ f k
item_listed f n d xs e past k =
    ap (λ z. get_or z k d) e ∙ ⊎_elim (λ (h : k < n). item_below f n k d h) (λ (h : n ≤ k). item_past f n k d h ∙ sym (past k h)) (cases_lt k n)

pub seats_listed : (A : Arch) (F : Frame) (n : ℕ) (spots : List Spot) → n ≡ length A.resources → spots ≡ lists_below (λ r. seat A F r ∷ []) n → ((k : ℕ) → k < n → IsNear (seat A F k)) → AreSeats A F spots
unfolding seat
seats_listed A F n spots all e near = record { each = each; near = λ k. subst IsNear (sym (each k)) (close k) }
  where
    past : (k : ℕ) → n ≤ k → seat A F k ≡ nowhere
    past k h = ap (λ b. cond b (seat_by A F k (resource A k).kind) nowhere) (le-ltb k (length A.resources) (omega (arith, all, h)))

    each : (k : ℕ) → spot spots k ≡ seat A F k
    each k = item_listed (seat A F) n nowhere spots e past k

    close : (k : ℕ) → IsNear (seat A F k)
    close k = ⊎_elim (λ (h : k < n). near k h) (λ (h : n ≤ k). let far : IsNear nowhere = (lit< tt, lit< tt) in subst IsNear (sym (past k h)) far) (cases_lt k n)

pub boxes_listed : (A : Arch) (F : Frame) (n : ℕ) (spots : List Spot) → n ≡ length A.units → spots ≡ lists_below (λ x. box A F x ∷ []) n → AreBoxes A F spots
unfolding box
boxes_listed A F n spots all e =
    record { each = item_listed (box A F) n nowhere spots e (λ k h. ap (λ b. cond b (beyond (corner F (unit_tile A k)) 43 (unit_top A F k)) nowhere) (le-ltb k (length A.units) (omega (arith, all, h)))) }
