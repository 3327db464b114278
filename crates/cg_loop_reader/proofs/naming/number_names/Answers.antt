use Rattle.std.proofs.Common.{ℕ, ◌+◌, ◌∷◌, [], get_or, take, map, ap, sym, subst, ◌∙◌}
use Rattle.std.proofs.lemmas.List.{take_more, take_all, map-append}
use Rattle.cg_loop_syntax.specs.declared.uses.Role.TheVariants.{Array}
use Rattle.cg_loop_reader.specs.declared.uses.Use.{Use}
use Rattle.cg_loop_syntax.specs.Uses.{fault_of}
use Rattle.cg_loop_reader.specs.Below.{AreBelow}
use Rattle.cg_loop_reader.specs.Used.{use_of}
use Rattle.cg_loop_reader.proofs.Named.{coded, coded_in, with_name, numbered_more, numbered_fault, numbers_below}
use Rattle.cg_loop_reader.proofs.naming.number_names.Goals as goal

abbrev no_use : Use
no_use = record { role = Array 0 0; name = record { ref_ptr = (0, 0); now = [] }; place = 0 }

pub loop-used-preserved : goal.loop-used-preserved
loop-used-preserved c =
    let us = c.args.uses.now in
    let i = c.loop-used.used-index in
    let names = c.loop-used.names.keys in
    let numbered = c.loop-used.numbered.items in
    let u = get_or us i no_use in
    let more = numbered_more names (map use_of (take i us)) numbered u.role u.name u.place c.in_ok-name.name c.in_ok-name.ensures.index c.loop-used.invariant in
    let uses = ap (map use_of) (take_more us i no_use c.loop-used-test.true) ∙ map-append use_of (take i us) (u ∷ []) in
    ap (λ keys. map (coded_in keys) (map use_of (take (i + 1) us))) c.in_ok-name.ensures.keys
    ∙ ap (map (coded_in (with_name names u.name))) uses
    ∙ more
    ∙ ap (map coded) (sym c.in_ok-push.ensures.items)

pub invariant_of-result : goal.invariant_of-result
invariant_of-result c =
    let us = map use_of (take c.loop-used.used-index c.args.uses.now) in
    let numbered = c.loop-used.numbered.items in
    let bounded = λ (n : ℕ). AreBelow n numbered in
    record { below = subst bounded (sym c.len.ensures.len) (numbers_below c.loop-used.names.keys us numbered c.loop-used.invariant) }

pub returns : goal.returns
returns c =
    let us = c.args.uses.now in
    let i = c.loop-used.used-index in
    numbered_fault c.loop-used.names.keys (map use_of (take i us)) c.loop-used.numbered.items c.loop-used.invariant
    ∙ ap (λ us'. fault_of (map use_of us')) (take_all i us c.loop-used-test.false)
