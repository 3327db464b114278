use Rattle.std.proofs.Common.{◌≡◌, ◌+◌, ◌*◌, ◌<◌, ◌||◌, length, sym, ap, ◌∙◌, arith}
use Rattle.std.specs.Prelude.{nat_lt}
use Rattle.cg_model.specs.declared.config.ArgFields.{ArgFields}
use Rattle.cg_model.specs.Config.{arg}
use Rattle.cg_bits.specs.Parts.{joined}
use Rattle.cg_bits.specs.Faults.{first, arg_breaches}
use Rattle.cg_bits.proofs.First.{first_joined, first_none, joined_none_zero, joined_none_more}
use Rattle.cg_bits.proofs.Breaches.{arg_is, breaches_are, below_more, below_none}
use Rattle.cg_bits.proofs.rules.args_breach.Goals as goal

pub loop-p-init : goal.loop-p-init
loop-p-init c =
    record {
      before = sym (below_none c.args.fields.now);
      none = joined_none_zero (λ p. arg_breaches c.args.fields.now p (c.args.at + p * 132));
    }

pub returns-in-Some : goal.returns-in-Some
returns-in-Some c =
    let f = c.args.fields.now in
    let p = c.loop-p.p in
    let few = c.requires.few in
    let within : p < length f.args = omega arith in
    sym (first_joined (λ q. arg_breaches f q (c.args.at + q * 132)) c.args.ports p c.in-Some.place c.loop-p.invariant.none c.loop-p-test.true
    (sym (ap first (breaches_are f p _ _ c.loop-p.fixed_before (c.args.at + p * 132) (arg_is f p _ within) (ap (nat_lt p) c.arity_of-arity.ensures) c.loop-p.invariant.before))
    ∙ sym c.arg_breach.ensures ∙ c.in-Some.is))

pub loop-p-preserved : goal.loop-p-preserved
loop-p-preserved c =
    let f = c.args.fields.now in
    let p = c.loop-p.p in
    let few = c.requires.few in
    let within : p < length f.args = omega arith in
    record {
      before = ap (λ (a : ArgFields). c.loop-p.fixed_before || a.fixed) (arg_is f p _ within) ∙ ap (λ z. z || (arg f p).fixed) c.loop-p.invariant.before ∙ sym (below_more f p);
      none = joined_none_more (λ q. arg_breaches f q (c.args.at + q * 132)) p c.loop-p.invariant.none
          (sym (breaches_are f p _ _ c.loop-p.fixed_before (c.args.at + p * 132) (arg_is f p _ within) (ap (nat_lt p) c.arity_of-arity.ensures) c.loop-p.invariant.before)
          ∙ first_none _ (sym c.in_default.is ∙ c.arg_breach.ensures));
    }

pub returns : goal.returns
returns c =
    let last : c.loop-p.p ≡ c.args.ports = omega arith in
    sym (ap first (sym (ap (joined (λ p. arg_breaches c.args.fields.now p (c.args.at + p * 132))) last) ∙ c.loop-p.invariant.none))
