-- The hub suffices.
use Rattle.std.proofs.Common.{◌≡◌, ℕ, zero, suc, ◌+◌, ◌*◌, ◌<◌, ◌≤◌, Bool, true, false, cond, List, ◌&&◌, [], ◌∷◌, length, Some, None, refl, ap, ap₂, ◌∙◌, arith, lit<, lit≤, eqb}
use Rattle.std.specs.Prelude.{slice_get}
use Rattle.std.specs.List.{list_all}
use Rattle.std.proofs.lemmas.Bool.{lt-ltb}
use Rattle.cg_word.specs.declared.op.Op.{Op}
use Rattle.cg_word.specs.Sets.{among}
use Rattle.cg_model.specs.declared.kernel.Node.{Node}
use Rattle.cg_model.specs.declared.kernel.Operand.{Operand}
use Rattle.cg_model.specs.declared.kernel.Operand.TheVariants.{Const as Constant, Edge}
use Rattle.cg_model.specs.Kernel.{Kernel, size}
use Rattle.cg_model.specs.Array.{Arch, unit}
use Rattle.cg_place.specs.Placed.{offering}
use Rattle.cg_hub.specs.Hub.{HubEnough, needs, most_of, most, registers, registers_before, host, start, is_served, serial}
use Rattle.cg_trial.specs.Trial.{unit_ops}
use Rattle.cg_trial.proofs.Nodes.{IsOperandOf, AreNodes}

-- ---- no value needs more than three registers

bound_by : (b : Bool) (d : ℕ) → d ≤ 2 → cond b (suc d) 0 ≤ 3
bound_by true d l = omega arith
bound_by false d l = lit≤ tt

needs_bound : (u v : ℕ) (o : Operand) → IsOperandOf v o → needs u o ≤ 3
needs_bound u v (Constant c) h = lit≤ tt
needs_bound u v (Edge s d init) h = bound_by (eqb s u) d h.2

most_of_bound : (u v : ℕ) (os : List Operand) → ((p : ℕ) (o : Operand) → slice_get os p ≡ Some o → IsOperandOf v o) → most_of u os ≤ 3
most_of_bound u v [] h = lit≤ tt
most_of_bound u v (o ∷ os) h =
    let here : needs u o ≤ 3 = needs_bound u v o (h 0 o refl) in
    let later : most_of u os ≤ 3 = most_of_bound u v os (λ p x e. h (suc p) x e) in
    omega arith

most_bound : (u k : ℕ) (ns : List Node) → AreNodes k ns → most u ns ≤ 3
most_bound u k [] h = lit≤ tt
most_bound u k (n ∷ ns) h =
    let here : most_of u n.operands ≤ 3 = most_of_bound u k n.operands h.0.operands in
    let later : most u ns ≤ 3 = most_bound u (k + 1) ns h.1 in
    omega arith

before_bound : (K : Kernel) (n : ℕ) → AreNodes 0 K.nodes → registers_before K n ≤ n * 3
before_bound K zero h = lit≤ tt
before_bound K (suc n) h =
    let earlier : registers_before K n ≤ n * 3 = before_bound K n h in
    let here : registers K n ≤ 3 = most_bound n 0 K.nodes h in
    omega arith

-- ---- each node takes two cycles

start_is : (A : Arch) (K : Kernel) (n : ℕ) → ((x : ℕ) → (unit A x).latency ≡ 1) → start A K n ≡ n * 2
start_is A K zero h = refl
start_is A K (suc n) h =
    let earlier : start A K n ≡ n * 2 = start_is A K n h in
    let here : (unit A (host A K n)).latency ≡ 1 = h (host A K n) in
    omega arith

all_served : (A : Arch) (k : ℕ) (ns : List Node) → AreNodes k ns → ((op : Op) → among unit_ops op ≡ true → 0 < length (offering A op)) → list_all (is_served A) ns ≡ true
all_served A k [] h served = refl
all_served A k (n ∷ ns) h served =
    ap₂ (λ x y. x && y) (lt-ltb 0 (length (offering A n.op)) (served n.op h.0.served)) (all_served A (k + 1) ns h.1 served)

pub hub_enough : (A : Arch) (K : Kernel) → AreNodes 0 K.nodes → length K.nodes ≡ 32 → length A.hub ≡ 96 → A.contexts ≡ 64 → ((x : ℕ) → (unit A x).latency ≡ 1)
    → ((op : Op) → among unit_ops op ≡ true → 0 < length (offering A op)) → HubEnough A K 64
unfolding serial
hub_enough A K are long hub contexts latency served =
    let few : registers_before K (size K) ≤ size K * 3 = before_bound K (size K) are in
    let total : start A K (size K) ≡ size K * 2 = start_is A K (size K) latency in
    let all : start A K (size K) ≡ 64 = omega arith in
    record {
      some = omega arith;
      enough = omega arith;
      total = 64;
      total_is = ap (λ b. cond b (Some (start A K (size K))) None) (all_served A 0 K.nodes are served) ∙ ap Some all;
      short = lit≤ tt;
      interval = lit< tt;
      contexts = omega arith;
    }
