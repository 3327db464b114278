use Rattle.cg_walk_spec.proofs.Small.{ends_in_range, path_within, path_short, room}
use Rattle.cg_walk_spec.proofs.Histories.{histories_small}
use Rattle.cg_walk_spec.proofs.Early.{early_soon}
use Rattle.cg_walk_spec.proofs.ranges.Goals as goal

pub returns : goal.returns
returns c = record {
  ends = λ A K ii S i arch kernel good l. ends_in_range A K ii S arch kernel good i l;
  path = λ A ends path arch fits h. (path_within A arch ends path fits.from h, path_short A arch ends path fits h);
  room = room;
  histories = λ A K ii early moves seed k g S w. histories_small A K ii early moves seed w;
  early = early_soon;
}
