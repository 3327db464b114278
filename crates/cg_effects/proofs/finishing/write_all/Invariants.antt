use Rattle.std.proofs.Common.{◌≡◌, ◌≤◌, map, take, string_bytes}
use Rattle.cg_files.specs.Asked.{NotesAll}
use Rattle.cg_effects.specs.Outcome.{file_of}
use Rattle.cg_effects.specs.Ends.{Wrote}
use Rattle.cg_effects.proofs.finishing.write_all.Given as goal

-- the files so far were written
abbrev pub invariant-loop-file : goal.invariant-loop-file
invariant-loop-file g l = record {
  wrote : Wrote (g.S.Store.held l.fn.store) (map file_of (take l.file-index l.files)) (g.S.Store.held l.store);
  noted : NotesAll (g.S.Store.wrote l.fn.store) (map (λ file. string_bytes file.name) (take l.file-index l.files)) (g.S.Store.wrote l.store);
  asked : g.S.Store.asked l.store ≡ g.S.Store.asked l.fn.store;
  untouched : l.file-index ≡ 0 → l.store ≡ l.fn.store;
  reads : g.S.Store.read_faults l.store ≡ g.S.Store.read_faults l.fn.store;
  writes : g.S.Store.write_faults l.fn.store ≤ g.S.Store.write_faults l.store;
}
