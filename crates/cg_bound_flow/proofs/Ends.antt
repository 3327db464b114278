-- Where the links of parts begin and end, and what they gain and lose.
use Rattle.std.proofs.Common.{◌≡◌, ℕ, zero, suc, ◌+◌, ◌*◌, ◌<◌, ◌≤◌, List, [], ◌∷◌, Option, Some, eqb, cond, refl, sym, ap, ◌∙◌, arith, ⊎_elim}
use Rattle.std.specs.Prelude.{max, unwrap_or, slice_get}
use Rattle.std.proofs.Math.Nat.{le-max_left, le-max_right}
use Rattle.std.proofs.lemmas.Bool.{cases_Bool, cond-true, cond-false}
use Rattle.cg_word.specs.declared.op.Op.{Op}
use Rattle.cg_word.specs.Sets.{among}
use Rattle.cg_model.specs.declared.array.Unit.{Unit}
use Rattle.cg_model.specs.Kernel.{Kernel, IsKernel, node, size}
use Rattle.cg_model.specs.Array.{Arch}
use Rattle.cg_recur.specs.Edges.{lesser, least_latency, latency}
use Rattle.cg_recur.proofs.Latencies.{lesser_below}
use Rattle.cg_bound_registers.specs.declared.dependence.Dependence.{Dependence}
use Rattle.cg_bound_registers.specs.Pressure.{on_edge, data_edge, order_edge, from, into, one_if, total, most_latency}
use Rattle.cg_bound_registers.proofs.Totals.{total_same, total_zero, total_one, total_sum, total_times}
use Rattle.cg_bound_registers.proofs.Duality.{known_end, known_order}
use Rattle.cg_bound_flow.specs.declared.network.Link.{Link}
use Rattle.cg_bound_flow.specs.declared.network.Part.{Part}
use Rattle.cg_bound_flow.specs.declared.network.Part.TheVariants.{Least, Most, Pull, Stay, Tie}
use Rattle.cg_bound_flow.specs.Parts.{Stands}
use Rattle.cg_bound_flow.specs.Taken.{on_stay, on_pull, on_tie, on_least, on_most}
use Rattle.cg_bound_flow.proofs.Circulations.{equal_one, other_none, alike}

-- the value at one number
pub pick : (n : ℕ) (g : ℕ → ℕ) (x : ℕ) → x < n → total n (λ w. g w * one_if (eqb x w)) ≡ g x
pick n g x l =
    let a = total_one n x (λ w. g w * one_if (eqb x w)) l (λ j b ne. let z = ap (λ y. g j * y) (other_none x j (λ e. ne (sym e))) in omega arith) in
    let b = ap (λ y. g x * y) (equal_one x x refl) in
    omega arith

pub none : (n : ℕ) (g : ℕ → ℕ) → total n (λ w. g w * 0) ≡ 0
none n g = total_zero n (λ w. g w * 0) (λ k l. omega arith)

-- the least latency is at most the greatest
pub least_most : (op : Op) (us : List Unit) → unwrap_or (least_latency op us) 1 ≤ most_latency op us
unfolding least_latency most_latency
least_most op [] = omega arith
least_most op (u ∷ us) =
    let r = least_most op us in
    let a = lesser_below u.latency (least_latency op us) in
    let m = le-max_left u.latency (most_latency op us) in
    ⊎_elim
    (λ t.
    let e = ap (λ z. unwrap_or z 1) (cond-true (among u.ops op) (Some (lesser u.latency (least_latency op us))) (least_latency op us) t) in
    let f = cond-true (among u.ops op) (max u.latency (most_latency op us)) (most_latency op us) t in
    omega arith)
    (λ t.
    let e = ap (λ z. unwrap_or z 1) (cond-false (among u.ops op) (Some (lesser u.latency (least_latency op us))) (least_latency op us) t) in
    let f = cond-false (among u.ops op) (max u.latency (most_latency op us)) (most_latency op us) t in
    omega arith)
    (cases_Bool (among u.ops op))

module _ (A : Arch) (K : Kernel) (hops : ℕ → ℕ → ℕ) (ii : ℕ) (good : IsKernel K) where
  pub known_data : (v p : ℕ) (a : Dependence) → data_edge K v p ≡ Some a → (a.source < size K) × (a.target < size K)
  known_data v p a is = known_end A K good v p (slice_get (node K v).operands p) refl a is

  pub known_tie : (e : ℕ) (a : Dependence) → order_edge K e ≡ Some a → (a.source < size K) × (a.target < size K)
  known_tie e a is = known_order A K good e (slice_get K.order e) refl a is

  pub to_time : (w : ℕ) → w < size K → (l : Link) (p : Part) → Stands A K hops ii l p → one_if (eqb l.to w) ≡ on_pull K (into w) p + on_tie K (into w) p + on_most w p
  to_time w b l (Least x) (lx, f, t, g, d) = let z = other_none l.to w (λ q. omega arith) in omega arith
  to_time w b l (Most x) (lx, f, t, g, d) = let z = ap (λ y. one_if (eqb y w)) t in omega arith
  to_time w b l (Pull v q) (a, is, f, t, g, d) =
      let z = ap (λ y. one_if (eqb y w)) t in let h : on_edge (into w) (data_edge K v q) ≡ one_if (eqb a.target w) = ap (on_edge (into w)) is in omega arith
  to_time w b l (Stay v q) (a, is, f, t, g, d) = let z = other_none l.to w (λ q. omega arith) in omega arith
  to_time w b l (Tie e) (a, is, f, t, g, d) =
      let z = ap (λ y. one_if (eqb y w)) t in let h : on_edge (into w) (order_edge K e) ≡ one_if (eqb a.target w) = ap (on_edge (into w)) is in omega arith

  pub from_time : (w : ℕ) → w < size K → (l : Link) (p : Part) → Stands A K hops ii l p → one_if (eqb l.from w) ≡ on_stay K (into w) p + on_tie K (from w) p + on_least w p
  from_time w b l (Least x) (lx, f, t, g, d) = let z = ap (λ y. one_if (eqb y w)) f in omega arith
  from_time w b l (Most x) (lx, f, t, g, d) = let z = other_none l.from w (λ q. omega arith) in omega arith
  from_time w b l (Pull v q) (a, is, f, t, g, d) = let z = other_none l.from w (λ q. omega arith) in omega arith
  from_time w b l (Stay v q) (a, is, f, t, g, d) =
      let z = ap (λ y. one_if (eqb y w)) f in let h : on_edge (into w) (data_edge K v q) ≡ one_if (eqb a.target w) = ap (on_edge (into w)) is in omega arith
  from_time w b l (Tie e) (a, is, f, t, g, d) =
      let z = ap (λ y. one_if (eqb y w)) f in let h : on_edge (from w) (order_edge K e) ≡ one_if (eqb a.source w) = ap (on_edge (from w)) is in omega arith

  pub to_leaves : (w : ℕ) → w < size K → (l : Link) (p : Part) → Stands A K hops ii l p → one_if (eqb l.to (size K + w)) ≡ on_least w p
  to_leaves w b l (Least x) (lx, f, t, g, d) = alike l.to (size K + w) x w (λ q. omega arith) (λ q. omega arith)
  to_leaves w b l (Most x) (lx, f, t, g, d) = other_none l.to (size K + w) (λ q. omega arith)
  to_leaves w b l (Pull v q) (a, is, f, t, g, d) = let (ks, kt) = known_data v q a is in other_none l.to (size K + w) (λ q. omega arith)
  to_leaves w b l (Stay v q) (a, is, f, t, g, d) = other_none l.to (size K + w) (λ q. omega arith)
  to_leaves w b l (Tie e) (a, is, f, t, g, d) = let (ks, kt) = known_tie e a is in other_none l.to (size K + w) (λ q. omega arith)

  pub from_leaves : (w : ℕ) → w < size K → (l : Link) (p : Part) → Stands A K hops ii l p → one_if (eqb l.from (size K + w)) ≡ on_pull K (from w) p + on_most w p
  from_leaves w b l (Least x) (lx, f, t, g, d) = let z = other_none l.from (size K + w) (λ q. omega arith) in omega arith
  from_leaves w b l (Most x) (lx, f, t, g, d) = let z = alike l.from (size K + w) x w (λ q. omega arith) (λ q. omega arith) in omega arith
  from_leaves w b l (Pull v q) (a, is, f, t, g, d) =
      let z = alike l.from (size K + w) a.source w (λ q. omega arith) (λ q. omega arith) in
      let h : on_edge (from w) (data_edge K v q) ≡ one_if (eqb a.source w) = ap (on_edge (from w)) is in
      omega arith
  from_leaves w b l (Stay v q) (a, is, f, t, g, d) = let (ks, kt) = known_data v q a is in let z = other_none l.from (size K + w) (λ q. omega arith) in omega arith
  from_leaves w b l (Tie e) (a, is, f, t, g, d) = let (ks, kt) = known_tie e a is in let z = other_none l.from (size K + w) (λ q. omega arith) in omega arith

  pub to_ends : (w : ℕ) → w < size K → (l : Link) (p : Part) → Stands A K hops ii l p → one_if (eqb l.to (size K + size K + w)) ≡ on_stay K (from w) p
  to_ends w b l (Least x) (lx, f, t, g, d) = other_none l.to (size K + size K + w) (λ q. omega arith)
  to_ends w b l (Most x) (lx, f, t, g, d) = other_none l.to (size K + size K + w) (λ q. omega arith)
  to_ends w b l (Pull v q) (a, is, f, t, g, d) = let (ks, kt) = known_data v q a is in other_none l.to (size K + size K + w) (λ q. omega arith)
  to_ends w b l (Stay v q) (a, is, f, t, g, d) =
      let z = alike l.to (size K + size K + w) a.source w (λ q. omega arith) (λ q. omega arith) in
      let h : on_edge (from w) (data_edge K v q) ≡ one_if (eqb a.source w) = ap (on_edge (from w)) is in
      omega arith
  to_ends w b l (Tie e) (a, is, f, t, g, d) = let (ks, kt) = known_tie e a is in other_none l.to (size K + size K + w) (λ q. omega arith)

  pub from_ends : (w : ℕ) → w < size K → (l : Link) (p : Part) → Stands A K hops ii l p → one_if (eqb l.from (size K + size K + w)) ≡ 0
  from_ends w b l (Least x) (lx, f, t, g, d) = other_none l.from (size K + size K + w) (λ q. omega arith)
  from_ends w b l (Most x) (lx, f, t, g, d) = other_none l.from (size K + size K + w) (λ q. omega arith)
  from_ends w b l (Pull v q) (a, is, f, t, g, d) = let (ks, kt) = known_data v q a is in other_none l.from (size K + size K + w) (λ q. omega arith)
  from_ends w b l (Stay v q) (a, is, f, t, g, d) = let (ks, kt) = known_data v q a is in other_none l.from (size K + size K + w) (λ q. omega arith)
  from_ends w b l (Tie e) (a, is, f, t, g, d) = let (ks, kt) = known_tie e a is in other_none l.from (size K + size K + w) (λ q. omega arith)

  abbrev pub least_gain : Part → ℕ
  least_gain p = total (size K) (λ w. latency A (node K w).op * on_least w p)

  abbrev pub most_loss : Part → ℕ
  most_loss p = total (size K) (λ w. most_latency (node K w).op A.units * on_most w p)

  pub gains : (l : Link) (p : Part) → Stands A K hops ii l p → l.gain ≡ on_pull K (λ a. hops a.target a.arg) p + on_stay K (λ a. ii * a.distance) p + on_tie K (λ a. 1) p + least_gain p
  gains l (Least x) (lx, f, t, g, d) = let z = pick (size K) (λ w. latency A (node K w).op) x lx in omega arith
  gains l (Most x) (lx, f, t, g, d) = let z = none (size K) (λ w. latency A (node K w).op) in omega arith
  gains l (Pull v q) (a, is, f, t, g, d) =
      let z = none (size K) (λ w. latency A (node K w).op) in let h : on_edge (λ a. hops a.target a.arg) (data_edge K v q) ≡ hops a.target a.arg = ap (on_edge (λ a. hops a.target a.arg)) is in omega arith
  gains l (Stay v q) (a, is, f, t, g, d) =
      let z = none (size K) (λ w. latency A (node K w).op) in let h : on_edge (λ a. ii * a.distance) (data_edge K v q) ≡ ii * a.distance = ap (on_edge (λ a. ii * a.distance)) is in omega arith
  gains l (Tie e) (a, is, f, t, g, d) =
      let z = none (size K) (λ w. latency A (node K w).op) in let h : on_edge (λ a. 1) (order_edge K e) ≡ 1 = ap (on_edge (λ a. 1)) is in omega arith

  pub losses : (l : Link) (p : Part) → Stands A K hops ii l p → l.loss ≡ on_pull K (λ a. ii * a.distance) p + on_tie K (λ a. ii * a.distance) p + most_loss p
  losses l (Least x) (lx, f, t, g, d) = let z = none (size K) (λ w. most_latency (node K w).op A.units) in omega arith
  losses l (Most x) (lx, f, t, g, d) = let z = pick (size K) (λ w. most_latency (node K w).op A.units) x lx in omega arith
  losses l (Pull v q) (a, is, f, t, g, d) =
      let z = none (size K) (λ w. most_latency (node K w).op A.units) in let h : on_edge (λ a. ii * a.distance) (data_edge K v q) ≡ ii * a.distance = ap (on_edge (λ a. ii * a.distance)) is in omega arith
  losses l (Stay v q) (a, is, f, t, g, d) = let z = none (size K) (λ w. most_latency (node K w).op A.units) in omega arith
  losses l (Tie e) (a, is, f, t, g, d) =
      let z = none (size K) (λ w. most_latency (node K w).op A.units) in let h : on_edge (λ a. ii * a.distance) (order_edge K e) ≡ ii * a.distance = ap (on_edge (λ a. ii * a.distance)) is in omega arith
