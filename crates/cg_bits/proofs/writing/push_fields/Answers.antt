use Rattle.std.proofs.Common.{◌≡◌, ◌++◌, [], None, length, get_or, sym, ap, subst, ◌∙◌, arith}
use Rattle.std.proofs.lemmas.List.{get_or_default}
use Rattle.cg_model.specs.declared.array.Unit.{Unit}
use Rattle.cg_model.specs.declared.config.UnitFields.{UnitFields}
use Rattle.cg_model.specs.Config.{fields, off}
use Rattle.cg_bits.specs.Parts.{joined}
use Rattle.cg_bits.specs.Ranges.{HasRanges}
use Rattle.cg_bits.proofs.Places.{unit_is}
use Rattle.cg_bits.proofs.Written.{unit_fits}
use Rattle.cg_bits.specs.Format.{cgb2, ports}
use Rattle.cg_bits.specs.Spelling.{unit_bits}
use Rattle.cg_bits.proofs.Parts.{started, grown}
use Rattle.cg_bits.proofs.writing.push_fields.Goals as goal

pub loop-x-init : goal.loop-x-init
loop-x-init c = started c.args.writer.now (λ x. unit_bits cgb2 (ports c.args.arch.now x) (fields c.args.config.now x c.args.slot))

-- what stands past the end of a list of fields, as the check reads it
abbrev blank : UnitFields
blank = record { op = None; stage = 0; port = 0; immediate = 0; args = [] }

pub push_unit-requires : goal.push_unit-requires
push_unit-requires c =
    let A = c.args.arch.now in
    let C = c.args.config.now in
    let x = c.loop-x.x in
    let fs = c.fields_in-fields.result.now in
    let many = ap length c.units-unit-items.ensures.units in
    let row = ap length c.fields_in-fields.ensures in
    let rows = (c.requires.canonical.rows c.args.slot c.requires.slot).1 in
    let its = unit_is c.units-unit-items.result.now A x c.unit-item.result c.unit-item.is c.units-unit-items.ensures.units c.loop-x-test.true in
    let counted : length c.as_slice.result.now ≡ ports A x = ap length c.as_slice.ensures ∙ ap (λ (u : Unit). length u.ports) its in
    let there : get_or fs x blank ≡ fields C x c.args.slot = get_or_default fs x blank off (omega arith) ∙ ap (λ zs. get_or zs x off) c.fields_in-fields.ensures in
    subst (λ n. HasRanges cgb2 n (get_or fs x blank)) (sym counted) (subst (λ f. HasRanges cgb2 (ports A x) f) (sym there) (unit_fits A C x c.args.slot c.units-unit-items.ensures.valid c.requires.canonical (omega arith) c.requires.slot))

pub loop-x-preserved : goal.loop-x-preserved
loop-x-preserved c =
    let A = c.args.arch.now in
    let C = c.args.config.now in
    let x = c.loop-x.x in
    let fs = c.fields_in-fields.result.now in
    let many = ap length c.units-unit-items.ensures.units in
    let row = ap length c.fields_in-fields.ensures in
    let rows = (c.requires.canonical.rows c.args.slot c.requires.slot).1 in
    let its = unit_is c.units-unit-items.result.now A x c.unit-item.result c.unit-item.is c.units-unit-items.ensures.units c.loop-x-test.true in
    let counted : length c.as_slice.result.now ≡ ports A x = ap length c.as_slice.ensures ∙ ap (λ (u : Unit). length u.ports) its in
    let there : get_or fs x blank ≡ fields C x c.args.slot = get_or_default fs x blank off (omega arith) ∙ ap (λ zs. get_or zs x off) c.fields_in-fields.ensures in
    c.in_ok-push_unit.ensures
    ∙ grown c.loop-x.writer c.args.writer.now (λ y. unit_bits cgb2 (ports A y) (fields C y c.args.slot)) x _ c.loop-x.invariant
    (ap (λ n. unit_bits cgb2 n (get_or fs x blank)) counted ∙ ap (unit_bits cgb2 (ports A x)) there)

pub returns : goal.returns
returns c =
    let A = c.args.arch.now in
    let C = c.args.config.now in
    let last : c.loop-x.x ≡ length A.units = omega (arith, ap length c.units-unit-items.ensures.units) in
    c.loop-x.invariant ∙ ap (λ n. c.args.writer.now ++ joined (λ y. unit_bits cgb2 (ports A y) (fields C y c.args.slot)) n) last
