use Rattle.std.proofs.Common.{◌≡◌, ℕ, ◌+◌, ◌*◌, ◌<◌, ltb, cond, get_or, sym, ap, ◌∙◌, arith, ⊎_elim}
use Rattle.std.proofs.lemmas.Bool.{cases_lt, lt-ltb, le-ltb}
use Rattle.std.proofs.lemmas.List.FromFn.{fill_by_all}
use Rattle.cg_model.specs.Config.{no_arg}
use Rattle.cg_bits.specs.Numbers.{bits_of_bytes}
use Rattle.cg_bits.specs.Format.{op_of, args_at, arg_len}
use Rattle.cg_bits.specs.Reading.{arg_in, unit_in}
use Rattle.cg_bits.proofs.Units.{unit_same}
use Rattle.cg_bits.proofs.reading.unit_at.Goals as goal

pub returns : goal.returns
unfolding unit_in
returns c =
    let F = c.args.format in
    let n = c.args.ports in
    let at = c.args.at in
    let bits = bits_of_bytes c.args.bytes.now in
    let last : c.loop-p.p ≡ n = omega arith in
    let each : (p : ℕ) → p < 3 → get_or c.loop-p.args p no_arg ≡ cond (ltb p n) (arg_in bits (at + args_at F + p * arg_len)) no_arg =
    λ p lt. ⊎_elim (λ l. c.loop-p.invariant.done p (omega arith) ∙ sym (ap (λ b. cond b (arg_in bits (at + args_at F + p * arg_len)) no_arg) (lt-ltb p n l)))
    (λ l. c.loop-p.invariant.rest p (omega arith) lt ∙ sym (ap (λ b. cond b (arg_in bits (at + args_at F + p * arg_len)) no_arg) (le-ltb p n l))) (cases_lt p n) in
    unit_same _ (unit_in F n bits at) (c.op_of.ensures ∙ ap (op_of F) c.number_at.ensures) c.number_at-2.ensures c.number_at-3.ensures c.number_at-4.ensures
    (fill_by_all (λ p. cond (ltb p n) (arg_in bits (at + args_at F + p * arg_len)) no_arg) c.loop-p.args 3 no_arg c.loop-p.invariant.three each)
