-- The edges that were looked at.
use Rattle.std.proofs.Common.{◌≡◌, ℕ, ◌+◌, ◌<◌, ◌≤◌, ◌⊎◌, inl, inr, List, [], ◌∷◌, ◌++◌, length, sym, ap, ◌∙◌, subst, arith, ⊎_elim, set, refl, get_or}
use Rattle.std.specs.Prelude.{Some, replicate, slice_get, Contains}
use Rattle.std.proofs.lemmas.Bool.{cases_lt}
use Rattle.std.proofs.lemmas.Option.{slice_get_within, slice_get_read}
use Rattle.std.proofs.lemmas.List.{get_or-replicate, get_or_read_under}
use Rattle.std.proofs.Math.ListN.{get_or-eq_default, length-replicate}
use Rattle.cg_model.specs.declared.kernel.Node.{Node}
use Rattle.cg_model.specs.declared.kernel.Operand.TheVariants.{Const as Constant, Edge}
use Rattle.cg_model.specs.declared.kernel.Operand.{Operand}
use Rattle.cg_model.specs.declared.kernel.OrderEdge.{OrderEdge}
use Rattle.cg_model.specs.Kernel.{Kernel, IsKernel, HasOperand, HasOrder, size, node, no_node}
use Rattle.cg_model.specs.Order.{Links, by_data, by_order}
use Rattle.cg_distance.specs.declared.links.Link.{Link}
use Rattle.cg_distance.specs.Leaving.{HasLinks, Seen, seen_data, seen_order, link, leaving}
use Rattle.cg_distance.proofs.LinkLists.{links_same, links_added}

-- nothing was looked at
unseen : (K : Kernel) (u v d : ℕ) → Seen K 0 0 0 u v d → ⊥
unseen K u v d (seen_data q init l h b) = ⊎_elim {C = ⊥} (λ z. omega arith) (λ z. let w : q < 0 = z.1 in omega arith) b
unseen K u v d (seen_order f h b) = omega arith

all_empty : (n u : ℕ) (lists : List (List Link)) → lists ≡ replicate n [] → leaving lists u ≡ []
all_empty n u lists e = rw e (⊎_elim (λ h. get_or-replicate n u [] [] h) (λ h. get_or-eq_default (replicate n []) [] (rw length-replicate h)) (cases_lt u n))

pub none_seen : (K : Kernel) (n : ℕ) (lists : List (List Link)) → n ≡ size K → lists ≡ replicate n [] → HasLinks (size K) (Seen K 0 0 0) lists
none_seen K n lists en e =
    record {
      long = ap (λ (xs : List (List Link)). length xs) e ∙ length-replicate n [] ∙ en;
      sound = λ u v d h. let k : Contains [] (link v d) = subst (λ (xs : List Link). Contains xs (link v d)) (all_empty n u lists e) h in
          let none : k.0 < length {A = Link} [] = k.1 in absurd (omega arith);
      complete = λ u v d s. absurd (unseen K u v d s);
    }

more_seen : (K : Kernel) (to p e to' p' e' u v d : ℕ) → ((x q : ℕ) → (x < to) ⊎ ((x ≡ to) × (q < p)) → (x < to') ⊎ ((x ≡ to') × (q < p'))) → e ≤ e' → Seen K to p e u v d → Seen K to' p' e' u v d
more_seen K to p e to' p' e' u v d up h (seen_data q init l g b) = seen_data q init l g (up v q b)
more_seen K to p e to' p' e' u v d up h (seen_order f g b) = seen_order f g (omega arith)

-- one operand more
operand_up : (to p x q : ℕ) → (x < to) ⊎ ((x ≡ to) × (q < p)) → (x < to) ⊎ ((x ≡ to) × (q < p + 1))
operand_up to p x q b = ⊎_elim (λ z. inl z) (λ z. inr (z.0, let w : q < p = z.1 in omega arith)) b

operand_down : (to p x q : ℕ) → (x < to) ⊎ ((x ≡ to) × (q < p + 1)) → ((x < to) ⊎ ((x ≡ to) × (q < p))) ⊎ ((x ≡ to) × (q ≡ p))
operand_down to p x q b =
    ⊎_elim (λ z. inl (inl z)) (λ z. let w : q < p + 1 = z.1 in ⊎_elim (λ c. inl (inr (z.0, c))) (λ c. inr (z.0, let y : q ≡ p = omega arith in y)) (cases_lt q p)) b

edge_last : (K : Kernel) (to p x d : ℕ) (init : List ℕ) → HasOperand K to p (Edge x d init) → (u v e : ℕ) → Seen K to (p + 1) 0 u v e → Seen K to p 0 u v e ⊎ ((u ≡ x) × (v ≡ to) × (e ≡ d))
edge_last K to p x d init has u v e (seen_order f g b) = absurd (omega arith)
edge_last K to p x d init has u v e (seen_data q init' l g b) =
    ⊎_elim (λ z. inl (seen_data q init' l g z))
    (λ z.
    let g' : HasOperand K to p (Edge u e init') = subst (λ y. HasOperand K to y (Edge u e init')) z.1 (subst (λ y. HasOperand K y q (Edge u e init')) z.0 g) in
    let same : Some (Edge u e init') ≡ Some (Edge x d init) = sym g' ∙ has in
    inr ((let s : u ≡ x = cc in s), z.0, (let s : e ≡ d = cc in s)))
    (operand_down to p v q b)

constant_last : (K : Kernel) (to p c : ℕ) → HasOperand K to p (Constant c) → (u v e : ℕ) → Seen K to (p + 1) 0 u v e → Seen K to p 0 u v e
constant_last K to p c has u v e (seen_order f g b) = absurd (omega arith)
constant_last K to p c has u v e (seen_data q init' l g b) =
    ⊎_elim (λ z. seen_data q init' l g z)
    (λ z.
    let g' : HasOperand K to p (Edge u e init') = subst (λ y. HasOperand K to y (Edge u e init')) z.1 (subst (λ y. HasOperand K y q (Edge u e init')) z.0 g) in
    let same : Some (Edge u e init') ≡ Some (Constant c) = sym g' ∙ has in
    absurd (cc))
    (operand_down to p v q b)

pub edge_added : (K : Kernel) → IsKernel K → (to p x d : ℕ) (init : List ℕ) (lists : List (List Link)) → to < size K → HasOperand K to p (Edge x d init) → HasLinks (size K) (Seen K to p 0) lists →
    HasLinks (size K) (Seen K to (p + 1) 0) (set lists x (leaving lists x ++ link to d ∷ []))
edge_added K good to p x d init lists l has t =
    links_added (size K) (Seen K to p 0) (Seen K to (p + 1) 0) lists x to d (good.wired.sources to p x d init l has)
    (seen_data p init l has (inr (refl, (let z : p < p + 1 = omega arith in z))))
    (λ u v e. more_seen K to p 0 to (p + 1) 0 u v e (λ y q. operand_up to p y q) (omega arith))
    (edge_last K to p x d init has)
    t

pub constant_added : (K : Kernel) (to p c : ℕ) (lists : List (List Link)) → HasOperand K to p (Constant c) → HasLinks (size K) (Seen K to p 0) lists → HasLinks (size K) (Seen K to (p + 1) 0) lists
constant_added K to p c lists has t =
    links_same (size K) (Seen K to p 0) (Seen K to (p + 1) 0) lists
    (λ u v e. more_seen K to p 0 to (p + 1) 0 u v e (λ y q. operand_up to p y q) (omega arith))
    (constant_last K to p c has)
    t

node_last : (K : Kernel) (to u v e : ℕ) → Seen K (to + 1) 0 0 u v e → Seen K to (length (node K to).operands) 0 u v e
node_last K to u v e (seen_order f g b) = absurd (omega arith)
node_last K to u v e (seen_data q init l g b) =
    let h : v < to + 1 = ⊎_elim (λ z. z) (λ z. absurd (let w : q < 0 = z.1 in omega arith)) b in
    let within = slice_get_within (node K v).operands q (Edge u e init) g in
    seen_data q init l g (⊎_elim (λ z. inl z) (λ z. let s : v ≡ to = omega arith in inr (s, subst (λ y. q < length (node K y).operands) s within)) (cases_lt v to))

pub node_added : (K : Kernel) (to : ℕ) (lists : List (List Link)) → HasLinks (size K) (Seen K to (length (node K to).operands) 0) lists → HasLinks (size K) (Seen K (to + 1) 0 0) lists
node_added K to lists t =
    links_same (size K) (Seen K to (length (node K to).operands) 0) (Seen K (to + 1) 0 0) lists
    (λ u v e. more_seen K to (length (node K to).operands) 0 (to + 1) 0 0 u v e (λ y q. λ h. inl (⊎_elim (λ z. omega arith) (λ z. let w : y ≡ to = z.0 in omega arith) h)) (omega arith))
    (node_last K to)
    t

abbrev edge : ℕ → ℕ → ℕ → OrderEdge
edge u v d = record { from = u; to = v; distance = d }

order_last : (K : Kernel) (n x y d : ℕ) → HasOrder K n x y d → (u v e : ℕ) → Seen K (size K) 0 (n + 1) u v e → Seen K (size K) 0 n u v e ⊎ ((u ≡ x) × (v ≡ y) × (e ≡ d))
order_last K n x y d has u v e (seen_data q init l g b) = inl (seen_data q init l g b)
order_last K n x y d has u v e (seen_order f g b) =
    ⊎_elim (λ z. inl (seen_order f g z))
    (λ z.
    let s : f ≡ n = omega arith in
    let g' : HasOrder K n u v e = subst (λ y. HasOrder K y u v e) s g in
    let same : Some (edge u v e) ≡ Some (edge x y d) = sym g' ∙ has in
    let one : edge u v e ≡ edge x y d = cc in
    inr (ap (λ (z : OrderEdge). z.from) one, ap (λ (z : OrderEdge). z.to) one, ap (λ (z : OrderEdge). z.distance) one))
    (cases_lt f n)

pub order_added : (K : Kernel) → IsKernel K → (n x y d : ℕ) (lists : List (List Link)) → HasOrder K n x y d → HasLinks (size K) (Seen K (size K) 0 n) lists →
    HasLinks (size K) (Seen K (size K) 0 (n + 1)) (set lists x (leaving lists x ++ link y d ∷ []))
order_added K good n x y d lists has t =
    let known = good.order.known n x y d has in
    links_added (size K) (Seen K (size K) 0 n) (Seen K (size K) 0 (n + 1)) lists x y d known.0
    (seen_order n has (omega arith))
    (λ u v e. more_seen K (size K) 0 n (size K) 0 (n + 1) u v e (λ y q h. h) (omega arith))
    (order_last K n x y d has)
    t

seen_link : (K : Kernel) (u v e : ℕ) → Links K u v e → Seen K (size K) 0 (length K.order) u v e
seen_link K u v e (by_data p init l h) = seen_data p init l h (inl l)
seen_link K u v e (by_order f h) = seen_order f h (slice_get_within K.order f _ h)

link_seen : (K : Kernel) (u v e : ℕ) → Seen K (size K) 0 (length K.order) u v e → Links K u v e
link_seen K u v e (seen_data q init l h b) = by_data q init l h
link_seen K u v e (seen_order f h b) = by_order f h

pub all_seen : (K : Kernel) (lists : List (List Link)) → HasLinks (size K) (Seen K (size K) 0 (length K.order)) lists → HasLinks (size K) (Links K) lists
all_seen K lists t = links_same (size K) (Seen K (size K) 0 (length K.order)) (Links K) lists (link_seen K) (seen_link K) t

-- operand number p of a node is what the code read
pub operand_read : (K : Kernel) (N : Node) (nodes : List Node) (operands : List Operand) (o : Operand) (to p : ℕ) → nodes ≡ K.nodes → to < size K → N ≡ get_or nodes to N → operands ≡ N.operands → p < length operands → o ≡ get_or operands p o →
    HasOperand K to p o
operand_read K N nodes operands o to p en l is eo h io =
    let node_is : N ≡ node K to = get_or_read_under K.nodes to (size K) N no_node (subst (λ (xs : List Node). N ≡ get_or xs to N) en is) l refl in
    let all : operands ≡ (node K to).operands = eo ∙ ap (λ (z : Node). z.operands) node_is in
    subst (λ (xs : List Operand). slice_get xs p ≡ Some o) all (slice_get_read operands (length operands) p o refl h io)

pub operands_read : (K : Kernel) (N : Node) (nodes : List Node) (operands : List Operand) (to : ℕ) → nodes ≡ K.nodes → to < size K → N ≡ get_or nodes to N → operands ≡ N.operands → length operands ≡ length (node K to).operands
operands_read K N nodes operands to en l is eo =
    let node_is : N ≡ node K to = get_or_read_under K.nodes to (size K) N no_node (subst (λ (xs : List Node). N ≡ get_or xs to N) en is) l refl in
    ap (λ (xs : List Operand). length xs) (eo ∙ ap (λ (z : Node). z.operands) node_is)
