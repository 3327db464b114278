use Rattle.std.proofs.Common.{◌≡◌, ◌-◌, ◌++◌, ◌∷◌, [], replicate, false, ap, ◌∙◌, arith}
use Rattle.cg_bits.specs.Numbers.{bits_of_bytes}
use Rattle.cg_bits.proofs.Bitwise.{last_byte, last_below, nothing_pending}
use Rattle.cg_bits.proofs.writer.BitWriter.finish.Goals as goal
use Rattle.cg_bits.proofs.writer.BitWriter.finish.Goals.{then-self-gt0+in_ok-push, else-self-gt0}

pub overflow_cast-self-inside-then-self-gt0 : goal.overflow_cast-self-inside-then-self-gt0
overflow_cast-self-inside-then-self-gt0 c =
    let p = c.self.inside.pending in
    let k = c.self.inside.count in
    let b = last_below k p c.self.invariant.0 c.self.invariant.1 in
    omega arith

pub returns : goal.returns
returns c =
    elim c.if-self-gt0.branch [
      | then-self-gt0+in_ok-push w ↦
          let p = c.self.inside.pending in
          let k = c.self.inside.count in (
            8 - k,
            omega arith,
            ap (λ z. bits_of_bytes z.items) w.bytes-is ∙ ap bits_of_bytes w.in_ok-push.ensures.items
                ∙ ap (λ z. bits_of_bytes (c.self.inside.bytes.items ++ z ∷ [])) (last_below k p c.self.invariant.0 c.self.invariant.1).1
                ∙ last_byte c.self.inside.bytes.items k p c.self.invariant.0 c.self.invariant.1 ∙ ap (λ z. z ++ replicate (8 - k) false) c.self.view_is,
          )
      | else-self-gt0 w ↦
          let none : c.self.inside.count ≡ 0 = omega arith in
          (0, omega arith, ap (λ z. bits_of_bytes z.items) w.bytes-is ∙ nothing_pending c.self.inside.bytes.items c.self.inside.count c.self.inside.pending none ∙ ap (λ z. z ++ []) c.self.view_is)
    ]
