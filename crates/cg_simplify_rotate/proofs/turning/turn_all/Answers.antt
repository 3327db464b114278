use Rattle.std.proofs.Common.{◌≡◌, Bool, true, false, sym, ◌∙◌}
use Rattle.cg_simplify_rotate.proofs.Rotated.{rotated_again, rotated_none}
use Rattle.cg_simplify_rotate.proofs.turning.turn_all.Goals as goal
use Rattle.cg_simplify_rotate.proofs.turning.turn_all.Goals.{then-branch, else-branch}

pub loop-v-init : goal.loop-v-init
loop-v-init c = rotated_none c.args.nodes.now c.requires

-- what isn't true isn't false
contrary : (z : Bool) → z ≡ true → z ≡ false → ⊥
contrary z a b = absurd (let bad : true ≡ false = sym a ∙ b in cc)

pub loop-v-preserved : goal.loop-v-preserved
loop-v-preserved c =
    rotated_again c.args.nodes.now c.loop-v.nodes c.turn_round.new.nodes c.loop-v.changed c.in_ok-turn_round.field-0 c.if-branch.changed c.loop-v.invariant c.in_ok-turn_round.ensures
    (elim c.if-branch.branch [
      | then-branch w ↦ λ e. absurd (contrary c.if-branch.changed w.changed-is e)
      | else-branch w ↦ λ e. (sym w.changed-is ∙ e, w.if-branch.false)
    ])
