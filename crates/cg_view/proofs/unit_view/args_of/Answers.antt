use Rattle.std.proofs.Common.{◌≡◌, ℕ, ◌<◌, get_or, refl, sym, ap, ◌∙◌, arith, ⊎_elim}
use Rattle.std.proofs.lemmas.Bool.{cases_lt}
use Rattle.std.proofs.lemmas.List.FromFn.{fill_by_all}
use Rattle.cg_word.specs.Word.{all_ops, arity}
use Rattle.cg_model.specs.Config.{arg, no_arg}
use Rattle.cg_model.specs.Canonical.{arity_of}
use Rattle.cg_bits.specs.Numbers.{bits_of_bytes}
use Rattle.cg_bits.specs.Format.{cgb2}
use Rattle.cg_bits.specs.Reading.{unit_in}
use Rattle.cg_bits.proofs.Units.{idle}
use Rattle.cg_view.proofs.unit_view.args_of.Goals as goal

pub returns : goal.returns
returns c =
    let f = unit_in cgb2 c.args.ports (bits_of_bytes c.args.body.now) c.args.at in
    let held = c.requires.held in
    let its : arity_of f.op ≡ arity c.args.op = ap arity_of c.requires.op in
    let count = c.arity-p-end.ensures.count in
    let last : c.loop-p.p ≡ arity c.args.op = omega arith in
    let each : (p : ℕ) → p < 3 → arg f p ≡ get_or c.loop-p.args p no_arg =
    λ p lt. ⊎_elim (λ l. sym (c.loop-p.invariant.done p (omega arith))) (λ l. idle all_ops f p held.fields lt (omega arith) ∙ sym (c.loop-p.invariant.rest p (omega arith) lt)) (cases_lt p (arity c.args.op)) in
    sym (fill_by_all (λ p. get_or c.loop-p.args p no_arg) f.args 3 no_arg held.fields.args each ∙ sym (fill_by_all (λ p. get_or c.loop-p.args p no_arg) c.loop-p.args 3 no_arg c.loop-p.invariant.three (λ p lt. refl)))

pub arg_of-requires : goal.arg_of-requires
arg_of-requires c =
    let held = c.requires.held in
    let its = ap arity_of c.requires.op in
    let most = held.arity in
    let count = c.arity-p-end.ensures.count in
    record { held = held; port = omega arith }
