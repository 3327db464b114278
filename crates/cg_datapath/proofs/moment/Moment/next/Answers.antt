use Rattle.std.proofs.Common.{◌≡◌, ◌<◌, ◌+◌, ◌%◌, ◌/◌, ℕ, suc, sym, ap, ◌∙◌, arith}
use Rattle.cg_datapath.proofs.Slots.{next_within, next_round, row_next}
use Rattle.cg_datapath.proofs.moment.Moment.next.Goals as goal

pub returns-then-self-ii : goal.returns-then-self-ii
returns-then-self-ii c = λ k m.
    let slot_is = m.slot in
    let p : 0 < c.args.ii = omega arith in
    let last : suc (k % c.args.ii) ≡ c.args.ii = omega arith in
    let n = next_round k c.args.ii p last in
    let z : suc k ≡ k + 1 = omega arith in
    record {
      slot = sym n.0 ∙ ap (λ (x : ℕ). x % c.args.ii) z;
      round = ap (λ (x : ℕ). x + 1) m.round ∙ omega arith ∙ sym n.1 ∙ ap (λ (x : ℕ). x / c.args.ii) z;
      row = ap (λ (x : ℕ). (x + 1) % 4) m.row ∙ row_next k;
    }

pub returns-else-self-ii : goal.returns-else-self-ii
returns-else-self-ii c = λ k m.
    let slot_is = m.slot in
    let p : 0 < c.args.ii = omega arith in
    let more : suc (k % c.args.ii) < c.args.ii = omega arith in
    let n = next_within k c.args.ii p more in
    let z : suc k ≡ k + 1 = omega arith in
    let g : c.args.self.slot + 1 ≡ suc (k % c.args.ii) = omega arith in
    record {
      slot = g ∙ sym n.0 ∙ ap (λ (x : ℕ). x % c.args.ii) z;
      round = m.round ∙ sym n.1 ∙ ap (λ (x : ℕ). x / c.args.ii) z;
      row = ap (λ (x : ℕ). (x + 1) % 4) m.row ∙ row_next k;
    }
