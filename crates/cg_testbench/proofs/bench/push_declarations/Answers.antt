use Rattle.std.proofs.Common.{◌≡◌, ◌++◌, length, ◌∙◌, ap}
use Rattle.cg_model.specs.Work.{Left}
use Rattle.cg_testbench.specs.Sizes.{depth, room}
use Rattle.cg_testbench.specs.Bench.{time_text, memory_text, streams_text, left_text}
use Rattle.cg_testbench.proofs.Steps.{renamed, joined}
use Rattle.cg_testbench.proofs.bench.push_declarations.Goals as goal

pub returns : goal.returns
returns g c =
    let run = c.args.run.now in
    let ii = (g.C.Contexts.config run.contexts.now).ii in
    let n = run.turns in
    let image = run.image.now in
    let w = length image.memory in
    let r = c.room-room.result in
    let left : Left = record { image = run.end.now.image; outside = run.end.now.outside } in
    let t0 = c.args.text.now.items in
    let t1 = c.push_time.new.text.items in
    let t2 = c.push_memory.new.text.items in
    let t3 = c.push_streams.new.text.items in
    let t4 = c.push_expected.new.text.items in
    let time : t1 ≡ t0 ++ time_text ii n = renamed t0 t1 _ (time_text ii n) c.in_ok-push_time.ensures (ap (λ z. time_text z n) c.ii.ensures) in
    let memory : t2 ≡ t1 ++ memory_text w =
    renamed t1 t2 _ (memory_text w) c.in_ok-push_memory.ensures (ap (λ z. memory_text (length z)) c.memory-words.ensures) in
    let streams : t3 ≡ t2 ++ streams_text (depth n image) (room left) =
    renamed t2 t3 _ (streams_text (depth n image) (room left)) c.in_ok-push_streams.ensures (ap (λ z. streams_text z r) c.depth.ensures.value ∙ ap (streams_text (depth n image)) c.room-room.ensures.value) in
    let expected : t4 ≡ t3 ++ left_text w (room left) =
    renamed t3 t4 _ (left_text w (room left)) c.in_ok-push_expected.ensures (ap (λ z. left_text (length z) r) c.memory-words.ensures ∙ ap (left_text w) c.room-room.ensures.value) in
    joined t0 (time_text ii n) t1 t4 _ time (joined t1 (memory_text w) t2 t4 _ memory (joined t2 (streams_text (depth n image) (room left)) t3 t4 (left_text w (room left)) streams expected))
