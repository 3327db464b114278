use Rattle.std.proofs.Common.{◌≡◌, ◌||◌, ◌<◌, length, sym, ap, subst, ◌∙◌, arith, below_more}
use Rattle.std.proofs.lemmas.Bool.{both_ways, false≢true}
use Rattle.cg_model.specs.declared.config.UnitFields.{UnitFields}
use Rattle.cg_model.specs.Config.{fields}
use Rattle.cg_model.specs.Canonical.{port_free}
use Rattle.cg_model.proofs.Bools.{or_false}
use Rattle.cg_config.specs.Parts.{gives_to, given_in, given_before}
use Rattle.cg_config.proofs.Canonicals.{fields_at, any_zero, any_more, free_is, noted_more}
use Rattle.cg_config.proofs.checking.has_ports_in.Goals as goal

pub loop-x-init : goal.loop-x-init
loop-x-init c =
    let C = c.args.config.now in
    let slot = c.args.slot in
    record {
      noted = λ q lt.
          let before = given_before c.args.arch.now C slot q in
          c.requires.taken q lt ∙ sym (ap (λ z. before || z) (any_zero (λ y. gives_to (fields C y slot) q)) ∙ or_false before);
      free = λ y lt. absurd (omega arith);
    }

pub take_port-requires : goal.take_port-requires
take_port-requires c =
    let many = ap length c.units-x-end.ensures.units in
    subst (λ (f : UnitFields). f.port < 16)
    (sym (fields_at c.args.arch.now c.args.config.now c.fields_in-row.result.now c.units-x-end.result.now c.loop-x.x c.args.slot _ c.requires.rows c.requires.slot c.fields_in-row.ensures c.units-x-end.ensures.units c.loop-x-test.true))
    (c.requires.fields c.loop-x.x (omega arith)).ports

pub returns-then-not-take_port-clause-free : goal.returns-then-not-take_port-clause-free
returns-then-not-take_port-clause-free c =
    let A = c.args.arch.now in
    let C = c.args.config.now in
    let x = c.loop-x.x in
    let slot = c.args.slot in
    let read = fields_at A C c.fields_in-row.result.now c.units-x-end.result.now x slot _ c.requires.rows c.requires.slot c.fields_in-row.ensures c.units-x-end.ensures.units c.loop-x-test.true in
    let many = ap length c.units-x-end.ensures.units in
    let within : x < length A.units = omega arith in
    let free = free_is A C x slot c.loop-x.taken _ c.take_port.result read (c.requires.fields x within).ports c.loop-x.invariant.noted c.take_port.ensures.free in
    (λ e. absurd (false≢true e), λ all. absurd (both_ways (port_free A C x slot) (sym free ∙ c.if-not-take_port.true) (all x within)))

pub loop-x-preserved : goal.loop-x-preserved
loop-x-preserved c =
    let A = c.args.arch.now in
    let C = c.args.config.now in
    let x = c.loop-x.x in
    let slot = c.args.slot in
    let read = fields_at A C c.fields_in-row.result.now c.units-x-end.result.now x slot _ c.requires.rows c.requires.slot c.fields_in-row.ensures c.units-x-end.ensures.units c.loop-x-test.true in
    let many = ap length c.units-x-end.ensures.units in
    let within : x < length A.units = omega arith in
    let free = free_is A C x slot c.loop-x.taken _ c.take_port.result read (c.requires.fields x within).ports c.loop-x.invariant.noted c.take_port.ensures.free in
    record {
      noted = λ q lt. noted_more A C x slot q _ _ _ read (c.loop-x.invariant.noted q lt) (c.take_port.ensures.noted q lt);
      free = below_more _ _ c.loop-x.invariant.free (sym free ∙ c.if-not-take_port.false);
    }

pub returns-clause-taken : goal.returns-clause-taken
returns-clause-taken c =
    let A = c.args.arch.now in
    let C = c.args.config.now in
    let slot = c.args.slot in
    let many = ap length c.units-x-end.ensures.units in
    let last : c.loop-x.x ≡ length A.units = omega arith in
    λ q lt. c.loop-x.invariant.noted q lt ∙ ap (λ n. given_before A C slot q || given_in C slot n q) last ∙ sym (any_more (λ s. given_in C s (length A.units) q) slot)
