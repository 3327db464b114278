use Rattle.std.proofs.Common.{◌≡◌, ◌++◌, length, get_or, ap, ◌∙◌, arith}
use Rattle.cg_model.specs.Array.{resource}
use Rattle.cg_model.specs.Config.{select}
use Rattle.cg_flat.specs.Slots.{select_bits}
use Rattle.cg_flat.proofs.Widths.{width_holds}
use Rattle.cg_bits.specs.Numbers.{bits_of}
use Rattle.cg_bits.specs.Parts.{joined}
use Rattle.cg_bits.proofs.Parts.{started, grown}
use Rattle.cg_bits.proofs.Room.{room_of}
use Rattle.cg_bits.proofs.Places.{width_few}
use Rattle.cg_bits.proofs.writing.push_selects.Goals as goal

pub loop-r-init : goal.loop-r-init
loop-r-init c = started c.args.writer.now (λ r. bits_of (select_bits c.args.arch.now r) (select c.args.config.now r c.args.slot))

pub push-requires-clause-narrow : goal.push-requires-clause-narrow
push-requires-clause-narrow c =
    let A = c.args.arch.now in
    let many = ap length c.resources-r-end.ensures.resources in
    width_few (length (resource A c.loop-r.r).drivers) c.select_bits.result c.select_bits.ensures.least ((room_of A c.resources-r-end.ensures.valid).links c.loop-r.r (omega arith))

pub push-requires-clause-fits : goal.push-requires-clause-fits
push-requires-clause-fits c =
    let A = c.args.arch.now in
    let C = c.args.config.now in
    let r = c.loop-r.r in
    let many = ap length c.resources-r-end.ensures.resources in
    let most = c.requires.canonical.selects r c.args.slot (omega arith) c.requires.slot in
    let wide = width_holds (length (resource A r).drivers) in
    let its : get_or c.selects_in-selects.result.now r 0 ≡ select C r c.args.slot = ap (λ xs. get_or xs r 0) c.selects_in-selects.ensures in
    rw (its, c.select_bits.ensures.value) (omega arith)

pub loop-r-preserved : goal.loop-r-preserved
loop-r-preserved c =
    let A = c.args.arch.now in
    let C = c.args.config.now in
    let r = c.loop-r.r in
    c.in_ok-push.ensures
    ∙ grown c.loop-r.writer c.args.writer.now (λ q. bits_of (select_bits A q) (select C q c.args.slot)) r _ c.loop-r.invariant
    (ap (λ w. bits_of w (get_or c.selects_in-selects.result.now r 0)) c.select_bits.ensures.value ∙ ap (λ xs. bits_of (select_bits A r) (get_or xs r 0)) c.selects_in-selects.ensures)

pub returns : goal.returns
returns c =
    let A = c.args.arch.now in
    let C = c.args.config.now in
    let last : c.loop-r.r ≡ length A.resources = omega (arith, ap length c.resources-r-end.ensures.resources) in
    c.loop-r.invariant ∙ ap (λ n. c.args.writer.now ++ joined (λ q. bits_of (select_bits A q) (select C q c.args.slot)) n) last
