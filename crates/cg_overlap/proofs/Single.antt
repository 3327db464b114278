-- No resource carries two values, and no unit begins two operations, in one cycle.
use Rattle.std.proofs.Common.{◌≡◌, ℕ, ◌+◌, ◌*◌, ◌%◌, ◌<◌, ap, sym, ◌∙◌}
use Rattle.cg_model.specs.Kernel.{Kernel}
use Rattle.cg_model.specs.Array.{Arch}
use Rattle.cg_model.specs.Mapping.{Mapping, place, IsLegal, Carries, Begins}
use Rattle.cg_model.specs.Overlap.{CarriesOne}
use Rattle.cg_overlap.proofs.Facts.{same_turn, slot_of}

-- two places in time that meet in a cycle
same_slot : (c s t i j ii : ℕ) → c ≡ s + i * ii → c ≡ t + j * ii → s % ii ≡ t % ii
same_slot c s t i j ii e f = sym (slot_of c s i ii e) ∙ slot_of c t j ii f

same_turns : (c s t i j ii : ℕ) → 0 < ii → s ≡ t → c ≡ s + i * ii → c ≡ t + j * ii → i ≡ j
same_turns c s t i j ii h e a b = same_turn i j t ii h (ap (λ z. z + i * ii) (sym e) ∙ sym a ∙ b)

pub one_value : (A : Arch) (K : Kernel) (M : Mapping) → IsLegal A K M → (r c v i w j : ℕ) → Carries A K M r c v i → Carries A K M r c w j → (v ≡ w) × (i ≡ j)
one_value A K M legal r c v i w j (p, inp, pv, pr, pc) (q, inq, qv, qr, qc) =
    let a = legal.alone p q inp inq (pr ∙ sym qr) (same_slot c p.time q.time i j M.ii pc qc) in
    (sym pv ∙ a.0 ∙ qv, same_turns c p.time q.time i j M.ii legal.interval a.1 pc qc)

pub one_start : (A : Arch) (K : Kernel) (M : Mapping) → IsLegal A K M → (x c v i w j : ℕ) → Begins K M x c v i → Begins K M x c w j → (v ≡ w) × (i ≡ j)
one_start A K M legal x c v i w j (lv, xv, cv) (lw, xw, cw) =
    let e = legal.apart v w lv lw (xv ∙ sym xw) (same_slot c (place M v).time (place M w).time i j M.ii cv cw) in
    (e, same_turns c (place M v).time (place M w).time i j M.ii legal.interval (ap (λ z. (place M z).time) e) cv cw)

pub carries_one : (A : Arch) (K : Kernel) (M : Mapping) → IsLegal A K M → CarriesOne A K M
carries_one A K M legal = record { one_value = one_value A K M legal; one_start = one_start A K M legal }
