use Rattle.std.proofs.Common.{◌≡◌, ◌++◌, map, codes}
use Rattle.std.proofs.lemmas.Result.{IfErr-weaker}
use Rattle.cg_verilog.specs.Rules.{Exactly}
use Rattle.cg_verilog.specs.Module.{title, clocks, input, header}
use Rattle.cg_verilog.specs.Read.{left, Misses}
use Rattle.cg_verilog.proofs.Steps.{misses_back}
use Rattle.cg_verilog.proofs.reader.Reader.header.Goals as goal

pub returns-clause-misses : goal.returns-clause-misses
returns-clause-misses c =
    let front = title ++ (clocks ++ input (codes "clk")) in
    let a = c.in_ok-title.ensures.ok in
    let b = c.in_ok-clocks.ensures.ok in
    let d = c.in_ok-input.ensures.ok in
    let read : left c.args.self.now ≡ front ++ left c.input.new.self = cc in
    IfErr-weaker c.input-2.result (λ e. Misses e (map Exactly (input (codes "rst"))) _ _) (λ e. Misses e (map Exactly header) _ _)
    (λ e h. misses_back e front (input (codes "rst")) _ _ _ h read)
    c.input-2.ensures.misses
