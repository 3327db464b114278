use Rattle.std.proofs.Common.{◌∙◌, ap, map, reverse}
use Rattle.std.proofs.lemmas.List.{take_all}
use Rattle.std.specs.List.{flat_map}
use Rattle.cg_loop.specs.Known.{decl_known, known_of}
use Rattle.cg_loop.proofs.Envs.{map-reverse}
use Rattle.cg_loop.proofs.names.carries_of.Goals as goal

pub returns : goal.returns
returns c =
    ap (map known_of) c.reverse.ensures.items
    ∙ map-reverse known_of c.loop-decl.carries.items
    ∙ ap reverse (c.loop-decl.invariant ∙ ap (flat_map (decl_known (map known_of c.args.bindings.now))) (take_all c.loop-decl.decl-index c.args.decls.now c.loop-decl-test.false))
