use Rattle.std.proofs.Common.{◌≡◌, max, sym}
use Rattle.std.specs.Prelude.{string_bytes}
use Rattle.cg_testbench.specs.Bench.{left_text}
use Rattle.cg_testbench.proofs.Steps.{added}
use Rattle.cg_testbench.proofs.bench.push_expected.Goals as goal

pub returns : goal.returns
returns c =
    let w = c.args.words in
    let most : max w 1 ≡ c.max.result = sym c.max.ensures in
    let said = string_bytes c.in_ok-expected.expected in
    let is : said ≡ left_text w c.args.room = rw most c.in_ok-expected.ensures.ok in
    added c.extend_from_slice.result c.args.text.now.items c.extend_from_slice.new.self.items c.as_bytes.result.now said (left_text w c.args.room) c.extend_from_slice.ensures.items c.as_bytes.ensures.value is
