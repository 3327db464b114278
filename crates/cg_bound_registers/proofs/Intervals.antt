-- A certificate says something of other intervals too: both sides are linear in the interval.
use Rattle.std.proofs.Common.{◌≡◌, ℕ, ◌+◌, ◌-◌, ◌*◌, ◌<◌, ◌≤◌, ap, arith}
use Rattle.std.proofs.Math.Nat.{mul-le-mul_left}
use Rattle.cg_model.specs.Kernel.{Kernel}
use Rattle.cg_model.specs.Array.{Arch}
use Rattle.cg_bound_registers.specs.declared.certificate.Pressure.{Pressure}
use Rattle.cg_bound_registers.specs.Pressure.{stays, pulls, ties, registers, gained, lost, IsPressure, Falls, Rises}

less : (i j r b d l g : ℕ) → d ≤ b + r → i ≤ j → j * r + j * b + l < j * d + g → i * r + i * b + l < i * d + g
less i j r b d l g h e x =
    let k = j - i in
    let s : j ≡ i + k = omega arith in
    let m = mul-le-mul_left {m = d} {n = b + r} k h in
    let p = ap (λ z. z * r) s in
    let q = ap (λ z. z * b) s in
    let o = ap (λ z. z * d) s in
    omega arith

greater : (i j r b d l g : ℕ) → b + r ≤ d → i ≤ j → i * r + i * b + l < i * d + g → j * r + j * b + l < j * d + g
greater i j r b d l g h e x =
    let k = j - i in
    let s : j ≡ i + k = omega arith in
    let m = mul-le-mul_left {m = b + r} {n = d} k h in
    let p = ap (λ z. z * r) s in
    let q = ap (λ z. z * b) s in
    let o = ap (λ z. z * d) s in
    omega arith

pub falls : (A : Arch) (K : Kernel) (hops : ℕ → ℕ → ℕ) (i j : ℕ) (P : Pressure) → Falls A K P → i ≤ j → IsPressure A K hops j P → IsPressure A K hops i P
falls A K hops i j P f l p =
    record {
      balanced = p.balanced;
      excess =
          (let h = less i j (registers A) (pulls K P (λ a. a.distance) + ties K P (λ a. a.distance)) (stays K P (λ a. a.distance)) (lost A K P) (gained A K P + pulls K P (λ a. hops a.target a.arg) + ties K P (λ a. 1)) f l (let e = p.excess in omega arith) in
          omega arith);
    }

pub rises : (A : Arch) (K : Kernel) (hops : ℕ → ℕ → ℕ) (i j : ℕ) (P : Pressure) → Rises A K P → i ≤ j → IsPressure A K hops i P → IsPressure A K hops j P
rises A K hops i j P f l p =
    record {
      balanced = p.balanced;
      excess =
          (let h = greater i j (registers A) (pulls K P (λ a. a.distance) + ties K P (λ a. a.distance)) (stays K P (λ a. a.distance)) (lost A K P) (gained A K P + pulls K P (λ a. hops a.target a.arg) + ties K P (λ a. 1)) f l (let e = p.excess in omega arith) in
          omega arith);
    }
