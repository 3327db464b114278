use Rattle.std.proofs.Common.{◌≡◌, ◌∙◌, sym}
use Rattle.std.specs.Prelude.{string_bytes}
use Rattle.cg_model.specs.Machine.{cycles}
use Rattle.cg_testbench.specs.Bench.{head_text}
use Rattle.cg_testbench.proofs.Steps.{added}
use Rattle.cg_testbench.proofs.bench.push_head.Goals as goal

pub returns : goal.returns
returns g c =
    let A = c.args.run.now.arch.now in
    let C = g.C.Contexts.config c.args.run.now.contexts.now in
    let n = c.args.run.now.turns in
    let last : cycles C n ≡ c.args.run.now.end.now.cycles = sym c.requires in
    let interval : C.ii ≡ c.ii-ii.result = sym c.ii-ii.ensures in
    let name : A.name ≡ c.as_str-name.result.now = sym (c.as_str-name.ensures ∙ c.name.ensures.name) in
    let said = string_bytes c.in_ok-head.head in
    let is : said ≡ head_text A C n = rw (last, interval, name) c.in_ok-head.ensures.ok in
    added c.extend_from_slice.result c.args.text.now.items c.extend_from_slice.new.self.items c.as_bytes.result.now said (head_text A C n) c.extend_from_slice.ensures.items c.as_bytes.ensures.value is
