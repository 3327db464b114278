use Rattle.std.proofs.Common.{◌≤◌, ◌+◌}
use Rattle.cg_datapath.specs.Terminals.{works_on}
use Rattle.cg_datapath.specs.Effects.{BeginsAll, HasRow}
use Rattle.cg_datapath.proofs.units.begin_units.Given as goal

abbrev pub invariant-loop-x : goal.invariant-loop-x
invariant-loop-x g l = record {
  effects : BeginsAll l.image (works_on (g.C.Contexts.config l.contexts) l.units l.n l.moment.slot l.moment.round l.words) l.x l.initial.effects l.effects;
  history : HasRow l.image l.initial.effects.memory (works_on (g.C.Contexts.config l.contexts) l.units l.n l.moment.slot l.moment.round l.words) l.moment.row l.x l.initial.history l.history;
  few : l.effects.outside ≤ l.initial.effects.outside + l.x;
}
