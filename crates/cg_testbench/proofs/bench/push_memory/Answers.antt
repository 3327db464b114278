use Rattle.std.proofs.Common.{◌≡◌, max, sym}
use Rattle.std.specs.Prelude.{string_bytes}
use Rattle.cg_testbench.specs.Bench.{memory_text}
use Rattle.cg_testbench.proofs.Steps.{added}
use Rattle.cg_testbench.proofs.bench.push_memory.Goals as goal

pub returns : goal.returns
returns c =
    let w = c.args.words in
    let most : max w 1 ≡ c.max.result = sym c.max.ensures in
    let said = string_bytes c.in_ok-memory.memory in
    let is : said ≡ memory_text w = rw most c.in_ok-memory.ensures.ok in
    added c.extend_from_slice.result c.args.text.now.items c.extend_from_slice.new.self.items c.as_bytes.result.now said (memory_text w) c.extend_from_slice.ensures.items c.as_bytes.ensures.value is
