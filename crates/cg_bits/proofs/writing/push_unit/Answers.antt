use Rattle.std.proofs.Common.{◌≡◌, ◌++◌, ◌<◌, List, Bool, length, sym, ap, subst, ◌∙◌, append_assoc, arith, length-take}
use Rattle.std.proofs.lemmas.List.{get_or-take, get_or_default}
use Rattle.cg_model.specs.Config.{no_arg, arg}
use Rattle.cg_bits.specs.Numbers.{bits_of}
use Rattle.cg_bits.specs.Parts.{joined}
use Rattle.cg_bits.specs.Format.{code_of}
use Rattle.cg_bits.specs.Spelling.{unit_bits, arg_bits}
use Rattle.cg_bits.proofs.Parts.{started, grown}
use Rattle.cg_bits.proofs.writing.push_unit.Goals as goal

regroup : (w a b c d e : List Bool) → ((((w ++ a) ++ b) ++ c) ++ d) ++ e ≡ w ++ (a ++ (b ++ (c ++ (d ++ e))))
regroup w a b c d e = simp append_assoc

pub loop-arg-init : goal.loop-arg-init
loop-arg-init c =
    let w = c.args.writer.now in
    let f = c.args.fields.now in
    let one = c.in_ok-push.ensures ∙ ap (λ z. w ++ bits_of 6 z) c.code_of.ensures in
    let two = c.in_ok-push-2.ensures ∙ ap (λ z. z ++ bits_of 16 f.stage) one in
    let three = c.in_ok-push-3.ensures ∙ ap (λ z. z ++ bits_of 4 f.port) two in
    c.in_ok-push-4.ensures ∙ ap (λ z. z ++ bits_of 32 f.immediate) three
    ∙ started ((((w ++ bits_of 6 (code_of f.op)) ++ bits_of 16 f.stage) ++ bits_of 4 f.port) ++ bits_of 32 f.immediate) (λ p. arg_bits (arg f p))

pub push_arg-requires : goal.push_arg-requires
push_arg-requires c =
    let f = c.args.fields.now in
    let i = c.loop-arg.arg-index in
    let short : i < c.args.ports = omega (arith, length-take c.args.ports f.args) in
    let within : i < length f.args = omega (arith, length-take c.args.ports f.args) in
    subst (λ a. a.count < 8) (sym (get_or-take c.args.ports f.args i _ short ∙ get_or_default f.args i _ no_arg within)) (c.requires.counts i short)

pub loop-arg-preserved : goal.loop-arg-preserved
loop-arg-preserved c =
    let w = c.args.writer.now in
    let f = c.args.fields.now in
    let i = c.loop-arg.arg-index in
    let short : i < c.args.ports = omega (arith, length-take c.args.ports f.args) in
    let within : i < length f.args = omega (arith, length-take c.args.ports f.args) in
    c.in_ok-push_arg.ensures
    ∙ grown c.loop-arg.writer ((((w ++ bits_of 6 (code_of f.op)) ++ bits_of 16 f.stage) ++ bits_of 4 f.port) ++ bits_of 32 f.immediate) (λ p. arg_bits (arg f p)) i _ c.loop-arg.invariant
    (ap arg_bits (get_or-take c.args.ports f.args i _ short ∙ get_or_default f.args i _ no_arg within))

pub returns : goal.returns
unfolding unit_bits
returns c =
    let w = c.args.writer.now in
    let f = c.args.fields.now in
    let last : c.loop-arg.arg-index ≡ c.args.ports = omega (arith, length-take c.args.ports f.args) in
    c.loop-arg.invariant
    ∙ ap (λ n. ((((w ++ bits_of 6 (code_of f.op)) ++ bits_of 16 f.stage) ++ bits_of 4 f.port) ++ bits_of 32 f.immediate) ++ joined (λ p. arg_bits (arg f p)) n) last
    ∙ regroup w (bits_of 6 (code_of f.op)) (bits_of 16 f.stage) (bits_of 4 f.port) (bits_of 32 f.immediate) (joined (λ p. arg_bits (arg f p)) c.args.ports)
