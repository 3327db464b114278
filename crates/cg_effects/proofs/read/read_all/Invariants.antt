use Rattle.std.proofs.Common.{◌≡◌, ◌≤◌, All, map, take, string_bytes}
use Rattle.cg_files.specs.Asked.{NotesAll}
use Rattle.cg_effects.specs.Outcome.{file_of}
use Rattle.cg_effects.specs.Reads.{AreRead, HoldsBytes}
use Rattle.cg_effects.proofs.read.read_all.Given as goal

-- the files of the names so far were read
abbrev pub invariant-loop-name : goal.invariant-loop-name
invariant-loop-name g l = record {
  read : AreRead (g.S.Store.held l.fn.store) (map string_bytes (take l.name-index l.names)) (map file_of l.files.items);
  bytes : All HoldsBytes (map file_of l.files.items);
  asked : NotesAll (g.S.Store.asked l.fn.store) (map string_bytes (take l.name-index l.names)) (g.S.Store.asked l.store);
  wrote : g.S.Store.wrote l.store ≡ g.S.Store.wrote l.fn.store;
  held : g.S.Store.held l.store ≡ g.S.Store.held l.fn.store;
  reads : g.S.Store.read_faults l.fn.store ≤ g.S.Store.read_faults l.store;
  writes : g.S.Store.write_faults l.store ≡ g.S.Store.write_faults l.fn.store;
}
