use Rattle.std.proofs.Common.{◌∙◌, ap, sym}
use Rattle.cg_mapping.specs.Names.{named_of}
use Rattle.cg_mapping.proofs.Answered.{short_routes}
use Rattle.cg_mapping.proofs.read.found_in.Goals as goal

pub within-requires : goal.within-requires
within-requires c =
    let A = c.args.directory.now.arch in
    short_routes A c.args.kernel.now c.args.written.now c.in-Ok.named c.requires.valid
    (ap (λ K. named_of A K c.args.written.now) (sym c.requires.kernel) ∙ c.in-Ok.ensures)
