use Rattle.std.proofs.Common.{rules, ◌≡◌, ◌<◌, ℕ, arith, slice_index, string_bytes, inl, inr, subst}
use Rattle.std.proofs.lemmas.List.{map-append}
use Rattle.std.proofs.lemmas.List.Elements.{All-push}
use Rattle.cg_effects.specs.Outcome.{file_of}
use Rattle.cg_effects.specs.Reads.{HoldsBytes}
use Rattle.cg_effects.proofs.Writes.{map_more, map_split}
use Rattle.cg_effects.proofs.Noted.{noted_more, noted_next, noted_part}
use Rattle.cg_effects.proofs.ReadsLemmas.{read_one, stopped, caused}
use Rattle.cg_effects.proofs.read.read_all.Goals as goal

pub returns-in-Err-Failed-clause-stopped : goal.returns-in-Err-Failed-clause-stopped
returns-in-Err-Failed-clause-stopped g c = stopped _ _ _ _ _ (string_bytes c.name-item.result) c.as_str.result.now _ _
    (search rules)
    (map_split string_bytes c.args.names.now c.loop-name.name-index c.name-item.result c.loop-name-test.true c.name-item.is)
    c.loop-name.invariant.read
    (inl (
      let e : c.as_str-in-Err-Failed.result.now ≡ c.as_str.result.now = search rules in rw e at c.in_ok-read_fault-in-Err-Failed.ensures,
      caused _ _ _ _ _ _ (c.in-Err-Failed.ensures.failed (search rules)) c.loop-name.invariant.reads c.loop-name.invariant.held,
    ))

pub returns-in-Err-TooLong-clause-stopped : goal.returns-in-Err-TooLong-clause-stopped
returns-in-Err-TooLong-clause-stopped g c = stopped _ _ _ _ _ (string_bytes c.name-item.result) c.as_str.result.now _ _
    (search rules)
    (map_split string_bytes c.args.names.now c.loop-name.name-index c.name-item.result c.loop-name-test.true c.name-item.is)
    c.loop-name.invariant.read
    (inr (
      let e : c.as_str-in-Err-TooLong.result.now ≡ c.as_str.result.now = search rules in rw e at c.in_ok-too_long-in-Err-TooLong.ensures,
      rw c.loop-name.invariant.held at (c.in-Err-TooLong.ensures.too_long c.in-Err-TooLong.field-0-0 (search rules)).1,
    ))

pub returns-in_err-name-in-Ok-clause-asked : goal.returns-in_err-name-in-Ok-clause-asked
returns-in_err-name-in-Ok-clause-asked g c = noted_next string_bytes c.args.names.now c.loop-name.name-index c.name-item.result c.as_str.result.now _ _ _ c.loop-name-test.true c.name-item.is
    (search rules) c.loop-name.invariant.asked (c.in-Ok.ensures.noted (search rules))

pub returns-in_err-push-in-Ok-clause-asked : goal.returns-in_err-push-in-Ok-clause-asked
returns-in_err-push-in-Ok-clause-asked g c = noted_next string_bytes c.args.names.now c.loop-name.name-index c.name-item.result c.as_str.result.now _ _ _ c.loop-name-test.true c.name-item.is
    (search rules) c.loop-name.invariant.asked (c.in-Ok.ensures.noted (search rules))

pub returns-in_err-read_fault-in-Err-Failed-clause-asked : goal.returns-in_err-read_fault-in-Err-Failed-clause-asked
returns-in_err-read_fault-in-Err-Failed-clause-asked g c = noted_next string_bytes c.args.names.now c.loop-name.name-index c.name-item.result c.as_str.result.now _ _ _ c.loop-name-test.true c.name-item.is
    (search rules) c.loop-name.invariant.asked (c.in-Err-Failed.ensures.noted (search rules))

pub returns-in-Err-Failed-clause-asked : goal.returns-in-Err-Failed-clause-asked
returns-in-Err-Failed-clause-asked g c = noted_next string_bytes c.args.names.now c.loop-name.name-index c.name-item.result c.as_str.result.now _ _ _ c.loop-name-test.true c.name-item.is
    (search rules) c.loop-name.invariant.asked (c.in-Err-Failed.ensures.noted (search rules))

pub returns-in_err-too_long-in-Err-TooLong-clause-asked : goal.returns-in_err-too_long-in-Err-TooLong-clause-asked
returns-in_err-too_long-in-Err-TooLong-clause-asked g c = noted_next string_bytes c.args.names.now c.loop-name.name-index c.name-item.result c.as_str.result.now _ _ _ c.loop-name-test.true c.name-item.is
    (search rules) c.loop-name.invariant.asked (c.in-Err-TooLong.ensures.noted (search rules))

pub returns-in-Err-TooLong-clause-asked : goal.returns-in-Err-TooLong-clause-asked
returns-in-Err-TooLong-clause-asked g c = noted_next string_bytes c.args.names.now c.loop-name.name-index c.name-item.result c.as_str.result.now _ _ _ c.loop-name-test.true c.name-item.is
    (search rules) c.loop-name.invariant.asked (c.in-Err-TooLong.ensures.noted (search rules))

pub returns-in-Err-Memory-clause-asked : goal.returns-in-Err-Memory-clause-asked
returns-in-Err-Memory-clause-asked g c =
    let same : g.S.Store.asked c.read.new.self ≡ g.S.Store.asked c.loop-name.store = search rules in
    rw same (noted_part string_bytes c.args.names.now c.loop-name.name-index _ _ c.loop-name.invariant.asked)

pub returns-clause-asked : goal.returns-clause-asked
returns-clause-asked g c = noted_part string_bytes c.args.names.now c.loop-name.name-index _ _ c.loop-name.invariant.asked

pub loop-name-preserved : goal.loop-name-preserved
loop-name-preserved g c = record {
  read = rw (c.in_ok-push-in-Ok.ensures.items, map-append) (read_one _ _ _ _
      (file_of (record { name = c.in_ok-name-in-Ok.name; bytes = c.in-Ok.bytes }))
      c.loop-name.invariant.read
      (let e : c.as_str.result.now ≡ string_bytes c.in_ok-name-in-Ok.name = search rules in rw (c.loop-name.invariant.held, e) at c.in-Ok.ensures.ok)
      (let e : string_bytes c.in_ok-name-in-Ok.name ≡ string_bytes c.name-item.result = search rules in
      rw e (map_more string_bytes c.args.names.now c.loop-name.name-index c.name-item.result c.loop-name-test.true c.name-item.is)));
  bytes = rw (c.in_ok-push-in-Ok.ensures.items, map-append) (All-push HoldsBytes _
      (file_of (record { name = c.in_ok-name-in-Ok.name; bytes = c.in-Ok.bytes }))
      c.loop-name.invariant.bytes
      (subst (λ bytes. (i : ℕ) → slice_index bytes i < 256) c.deref.ensures.value c.are_bytes.ensures));
  asked = noted_more string_bytes c.args.names.now c.loop-name.name-index c.name-item.result c.as_str.result.now _ _ _ c.loop-name-test.true c.name-item.is
      (search rules) c.loop-name.invariant.asked (c.in-Ok.ensures.noted (search rules));
  wrote = grind arith;
  held = grind arith;
  reads = grind arith;
  writes = grind arith;
}
