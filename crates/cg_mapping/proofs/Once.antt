-- Items that are found again: by their names, by a test that only one passes, at the end of a route.
use Rattle.std.proofs.Common.{◌≡◌, ℕ, zero, suc, ◌+◌, ◌≤◌, ◌==◌, ◌⊎◌, inl, inr, ⊎_elim, List, [], ◌∷◌, ◌++◌, length, Option, Some, None, Ok, Bool, true, false, cond, refl, ap, sym, ◌∙◌, arith}
use Rattle.std.specs.Prelude.{slice_get, count_by}
use Rattle.std.specs.Option.{option_map_or}
use Rattle.std.proofs.lemmas.Slice.Eq.{bytes_eq-Decides}
use Rattle.std.proofs.lemmas.Bool.{false_from_ne_true}
use Rattle.cg_model.specs.First.{first_such}
use Rattle.cg_model.specs.declared.kernel.Node.{Node}
use Rattle.cg_model.specs.declared.kernel.Operand.{Operand}
use Rattle.cg_model.specs.declared.kernel.Operand.TheVariants.{Const as Constant, Edge}
use Rattle.cg_model.specs.Mapping.{End, ends_of, ends_from}
use Rattle.cg_model.proofs.Counts.{count_by-one, one_counted}
use Rattle.cg_model.proofs.Positions.{position_from-reached, position_from-found}
use Rattle.cg_reading.specs.Numbers.{number_of, has_name}
use Rattle.cg_mapping.specs.Names.{is_edge}
use Rattle.cg_mapping.specs.Complete.{MappingFault, only_such, and_rest, each_or_fault}
use Rattle.cg_mapping.proofs.EdgeOperands.{ends_of_bound}
use Rattle.cg_mapping.proofs.Tallies.{count, counted}

-- ---- names

-- an item is found by its name, where no other has it
pub number_back : {T : Type 0} (own : T → List ℕ) (xs : List T) (v : ℕ) (x : T) → slice_get xs v ≡ Some x → ((j : ℕ) (y : T) → slice_get xs j ≡ Some y → own y ≡ own x → j ≡ v) → number_of (λ t. Some (own t)) xs (own x) ≡ Some v
number_back {T = T} own xs v x at apart =
    let test = λ (y : T). has_name (own x) (Some (own y)) in
    let reached = position_from-reached test 0 xs v v x at ((bytes_eq-Decides (own x) (own x)).1 refl) (omega arith) in
    let found = position_from-found test 0 xs reached.0 reached.1.0 in
    let same = apart found.0 found.1.0 found.1.1.1.0 ((bytes_eq-Decides (own found.1.0) (own x)).0 found.1.1.1.1) in
    let place = found.1.1.0 in
    let here : reached.0 ≡ v = omega (arith, place, same) in
    reached.1.0 ∙ ap Some here

-- ---- the one item that passes a test

counted_more : (b : Bool) (n : ℕ) → 1 ≤ n → 1 ≤ cond b (1 + n) n
counted_more true n h = omega arith
counted_more false n h = h

counted_here : (b : Bool) (n : ℕ) → b ≡ true → 1 ≤ cond b (1 + n) n
counted_here true n e = omega arith
counted_here false n e = let bad : false ≡ true = e in absurd (cc)

skip : {X : Type 0} (b : Bool) (x y : X) (o : Option X) → b ≡ false → o ≡ Some y → cond b (Some x) o ≡ Some y
skip true x y o e h = let bad : true ≡ false = e in absurd (cc)
skip false x y o e h = h

first_back : {X : Type 0} (t : X → Bool) (xs : List X) (i : ℕ) (x : X) → slice_get xs i ≡ Some x → t x ≡ true → ((j : ℕ) (y : X) → slice_get xs j ≡ Some y → t y ≡ true → j ≡ i) → first_such t xs ≡ Some x
first_back t [] i x at passes once = let bad : None ≡ Some x = at in absurd (cc)
first_back t (y ∷ ys) zero x at passes once = let same : y ≡ x = cc in ap (λ b. cond b (Some y) (first_such t ys)) (ap t same ∙ passes) ∙ ap Some same
first_back t (y ∷ ys) (suc i) x at passes once =
    skip (t y) y x (first_such t ys) (false_from_ne_true (t y) (λ e. let bad = once 0 y refl e in absurd (omega (arith, bad))))
    (first_back t ys i x at passes (λ j z here e. let same = once (suc j) z here e in omega (arith, same)))

-- an item is the one that passes, where no other does
pub only_back : {X : Type 0} (t : X → Bool) (xs : List X) (i : ℕ) (x : X) → slice_get xs i ≡ Some x → t x ≡ true → ((j : ℕ) (y : X) → slice_get xs j ≡ Some y → t y ≡ true → j ≡ i) → only_such t xs ≡ Some x
only_back t xs i x at passes once =
    let most = count_by-one t xs (λ p q y z here e there e'. once p y here e ∙ sym (once q z there e')) in
    let least = one_counted t xs i x at passes in
    let same = counted t xs in
    let one : count_by t xs ≡ 1 = omega (arith, most, least, same) in
    ap (λ n. cond (n == 1) (first_such t xs) None) one ∙ first_back t xs i x at passes once

-- ---- what each thing gives

-- each thing gives the item at its place
pub each_back : {K T : Type 0} (give : K → Option T) (f : K → MappingFault) (ks : List K) (xs : List T) → length xs ≡ length ks → ((i : ℕ) (k : K) (x : T) → slice_get ks i ≡ Some k → slice_get xs i ≡ Some x → give k ≡ Some x) → each_or_fault give f ks ≡ Ok xs
each_back give f [] [] len gives = refl
each_back give f [] (x ∷ xs) len gives = absurd (omega (arith, len))
each_back give f (k ∷ ks) [] len gives = absurd (omega (arith, len))
each_back give f (k ∷ ks) (x ∷ xs) len gives =
    ap (λ o. and_rest (f k) o (each_or_fault give f ks)) (gives 0 k x refl refl)
    ∙ ap (and_rest (f k) (Some x)) (each_back give f ks xs (omega (arith, len)) (λ i k y at here. gives (suc i) k y at here))

-- ---- edge operands

get_parts : {X : Type 0} (xs ys : List X) (i : ℕ) (x : X) → slice_get (xs ++ ys) i ≡ Some x → (slice_get xs i ≡ Some x) ⊎ ((j : ℕ) × ((i ≡ length xs + j) × (slice_get ys j ≡ Some x)))
get_parts [] ys i x at = inr (i, (omega arith, at))
get_parts (y ∷ xs) ys zero x at = inl at
get_parts (y ∷ xs) ys (suc i) x at = ⊎_elim (λ h. inl h) (λ h. inr (h.0, (let same = h.1.0 in omega (arith, same), h.1.1))) (get_parts xs ys i x at)

-- no two edge operands of a node are equal
ends_of_once : (v k : ℕ) (os : List Operand) (i j : ℕ) (e : End) → slice_get (ends_of v k os) i ≡ Some e → slice_get (ends_of v k os) j ≡ Some e → i ≡ j
ends_of_once v k [] i j e at there = let bad : None ≡ Some e = at in absurd (cc)
ends_of_once v k (Constant w ∷ os) i j e at there = ends_of_once v (suc k) os i j e at there
ends_of_once v k (Edge u d init ∷ os) zero zero e at there = refl
ends_of_once v k (Edge u d init ∷ os) zero (suc j) e at there =
    let same : record { node = v; arg = k } ≡ e = cc in
    let p = ap (λ x. x.arg) same in
    let later = (ends_of_bound v (suc k) os j e there).1 in
    absurd (omega (arith, p, later))
ends_of_once v k (Edge u d init ∷ os) (suc i) zero e at there =
    let same : record { node = v; arg = k } ≡ e = cc in
    let p = ap (λ x. x.arg) same in
    let later = (ends_of_bound v (suc k) os i e at).1 in
    absurd (omega (arith, p, later))
ends_of_once v k (Edge u d init ∷ os) (suc i) (suc j) e at there = ap suc (ends_of_once v (suc k) os i j e at there)

-- the edge that ends there
edge_of : (v k : ℕ) (os : List Operand) (i : ℕ) (e : End) → slice_get (ends_of v k os) i ≡ Some e → (p : ℕ) × ((e.node ≡ v) × (e.arg ≡ k + p) × (option_map_or is_edge (slice_get os p) false ≡ true))
edge_of v k [] i e at = let bad : None ≡ Some e = at in absurd (cc)
edge_of v k (Constant w ∷ os) i e at = let rest = edge_of v (suc k) os i e at in (suc rest.0, (rest.1.0, (let h = rest.1.1 in omega (arith, h)), rest.1.2))
edge_of v k (Edge u d init ∷ os) zero e at =
    let same : record { node = v; arg = k } ≡ e = cc in
    (zero, (sym (ap (λ x. x.node) same), (let p = ap (λ x. x.arg) same in omega (arith, p)), refl))
edge_of v k (Edge u d init ∷ os) (suc i) e at = let rest = edge_of v (suc k) os i e at in (suc rest.0, (rest.1.0, (let h = rest.1.1 in omega (arith, h)), rest.1.2))

-- and its node
pub edge_from : (v : ℕ) (ns : List Node) (i : ℕ) (e : End) → slice_get (ends_from v ns) i ≡ Some e → (j : ℕ) × ((n : Node) × ((e.node ≡ v + j) × (slice_get ns j ≡ Some n) × (option_map_or is_edge (slice_get n.operands e.arg) false ≡ true)))
edge_from v [] i e at = let bad : None ≡ Some e = at in absurd (cc)
edge_from v (n ∷ ns) i e at = ⊎_elim
    (λ here. let own = edge_of v 0 n.operands i e here in
    let same : e.arg ≡ own.0 = let h = own.1.1 in omega (arith, h) in
    (zero, (n, ((let h = own.1.0 in omega (arith, h)), refl, ap (λ p. option_map_or is_edge (slice_get n.operands p) false) same ∙ own.1.2))))
    (λ later. let rest = edge_from (suc v) ns later.0 e later.1.1 in
    (suc rest.0, (rest.1.0, ((let h = rest.1.1.0 in omega (arith, h)), rest.1.1.1, rest.1.1.2))))
    (get_parts (ends_of v 0 n.operands) (ends_from (suc v) ns) i e at)

-- no two edge operands of a kernel are equal
pub ends_once : (v : ℕ) (ns : List Node) (i j : ℕ) (e : End) → slice_get (ends_from v ns) i ≡ Some e → slice_get (ends_from v ns) j ≡ Some e → i ≡ j
ends_once v [] i j e at there = let bad : None ≡ Some e = at in absurd (cc)
ends_once v (n ∷ ns) i j e at there = ⊎_elim
    (λ here. ⊎_elim
    (λ here'. ends_of_once v 0 n.operands i j e here here')
    (λ later'. let own = (ends_of_bound v 0 n.operands i e here).0 in let far = (edge_from (suc v) ns later'.0 e later'.1.1).1.1.0 in absurd (omega (arith, own, far)))
    (get_parts (ends_of v 0 n.operands) (ends_from (suc v) ns) j e there))
    (λ later. ⊎_elim
    (λ here'. let own = (ends_of_bound v 0 n.operands j e here').0 in let far = (edge_from (suc v) ns later.0 e later.1.1).1.1.0 in absurd (omega (arith, own, far)))
    (λ later'. let same = ends_once (suc v) ns later.0 later'.0 e later.1.1 later'.1.1 in let a = later.1.0 in let b = later'.1.0 in omega (arith, same, a, b))
    (get_parts (ends_of v 0 n.operands) (ends_from (suc v) ns) j e there))
    (get_parts (ends_of v 0 n.operands) (ends_from (suc v) ns) i e at)
