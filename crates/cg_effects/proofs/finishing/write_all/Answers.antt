use Rattle.std.proofs.Common.{rules, ◌≡◌, map, ◌+◌, take, drop, arith, string_bytes}
use Rattle.cg_effects.specs.Outcome.{file_of}
use Rattle.cg_effects.specs.declared.outcome.File.{File}
use Rattle.cg_effects.proofs.Noted.{noted_more, noted_next, noted_all, noted_part, names_in, by_cause}
use Rattle.cg_effects.proofs.Writes.{wrote_one, wrote_but, map_more, map_parts, map_split}
use Rattle.cg_effects.proofs.finishing.write_all.Goals as goal

pub returns-in_err-write-clause-failed : goal.returns-in_err-write-clause-failed
returns-in_err-write-clause-failed g c = λ e. (
  search rules,
  record {
    done = map file_of (take c.loop-file.file-index c.args.files.now);
    failed = file_of c.file-item.result;
    rest = map file_of (drop (c.loop-file.file-index + 1) c.args.files.now);
    parts = map_split file_of c.args.files.now c.loop-file.file-index c.file-item.result c.loop-file-test.true c.file-item.is;
    wrote = wrote_but _ _ _ _ _ _ (search rules) c.loop-file.invariant.wrote c.in_err-write.ensures.others c.in_err-write.ensures.tells;
  },
)

pub returns-in_err-write-clause-memory : goal.returns-in_err-write-clause-memory
returns-in_err-write-clause-memory g c = λ e. record {
  done = map file_of (take c.loop-file.file-index c.args.files.now);
  rest = map file_of (drop c.loop-file.file-index c.args.files.now);
  parts = map_parts file_of c.args.files.now c.loop-file.file-index;
  wrote = let same : g.S.Store.held c.write.new.self ≡ g.S.Store.held c.loop-file.store = search rules in rw same c.loop-file.invariant.wrote;
}

pub returns-in_err-write-clause-wrote : goal.returns-in_err-write-clause-wrote
returns-in_err-write-clause-wrote g c = rw (← names_in) (by_cause _ c.in_err-write.field-0.0
    (λ other. noted_next (λ (file : File). string_bytes file.name) c.args.files.now c.loop-file.file-index c.file-item.result _ _ _ _ c.loop-file-test.true c.file-item.is
    (search rules) c.loop-file.invariant.noted (c.in_err-write.ensures.noted other))
    (λ wanting. rw (c.in_err-write.ensures.unnoted wanting)
    (noted_part (λ (file : File). string_bytes file.name) c.args.files.now c.loop-file.file-index _ _ c.loop-file.invariant.noted)))

pub returns-clause-wrote : goal.returns-clause-wrote
returns-clause-wrote g c = rw (← names_in) (noted_part (λ (file : File). string_bytes file.name) c.args.files.now c.loop-file.file-index _ _ c.loop-file.invariant.noted)

pub returns-clause-wrote_all : goal.returns-clause-wrote_all
returns-clause-wrote_all g c = rw (← names_in) (noted_all (λ (file : File). string_bytes file.name) c.args.files.now c.loop-file.file-index _ _ (omega arith) c.loop-file.invariant.noted)

pub loop-file-preserved : goal.loop-file-preserved
loop-file-preserved g c = record {
  wrote = rw (map_more file_of c.args.files.now c.loop-file.file-index c.file-item.result c.loop-file-test.true c.file-item.is)
      (wrote_one _ _ _ _ (file_of c.file-item.result) _ _ (search rules) (search rules) c.loop-file.invariant.wrote c.in_ok-write.ensures.ok c.in_ok-write.ensures.others c.in_ok-write.ensures.tells);
  noted = noted_more (λ (file : File). string_bytes file.name) c.args.files.now c.loop-file.file-index c.file-item.result _ _ _ _ c.loop-file-test.true c.file-item.is
      (search rules) c.loop-file.invariant.noted (c.in_ok-write.ensures.noted (search rules));
  asked = grind arith;
  untouched = λ first. absurd (omega arith);
  reads = grind arith;
  writes = grind arith;
}
