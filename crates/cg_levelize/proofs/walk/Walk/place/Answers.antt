use Rattle.std.proofs.Common.{◌≡◌, ◌≢◌, rules}
use Rattle.cg_levelize.specs.declared.walk.Mark.TheVariants.{New}
use Rattle.cg_levelize.proofs.Finished.{started, kept}
use Rattle.cg_levelize.proofs.walk.Walk.place.Goals as goal
use Rattle.cg_levelize.proofs.walk.Walk.place.Goals.{then-eq+in_ok-open, else-eq}

pub steps-init : goal.steps-init
steps-init c =
    elim c.if-eq.branch [
      | then-eq+in_ok-open w ↦
          let fresh : c.index.result.now ≡ New = search rules in
          let s = started c.args.resources.now c.args.self.now w.open.new.self c.args.start c.index.result.now c.requires.walk c.requires.no_path c.requires.start c.index.ensures fresh w.in_ok-open.ensures in
          record { walk = rw w.self-is s.walk; keeps = rw w.self-is s.keeps; met = rw w.self-is s.met }
      | else-eq w ↦
          let met : c.index.result.now ≢ New = search rules in
          let s = kept c.args.resources.now c.args.self.now c.args.start c.index.result.now c.requires.walk c.requires.start c.index.ensures met in
          record { walk = rw w.self-is s.walk; keeps = rw w.self-is s.keeps; met = rw w.self-is s.met }
    ]
