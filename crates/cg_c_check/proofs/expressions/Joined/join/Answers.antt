use Rattle.std.proofs.Common.{◌∙◌, rules}
use Rattle.cg_c_check.specs.declared.program.Link.{Link}
use Rattle.cg_c_check.specs.Written.{expr_of, linked}
use Rattle.cg_c_check.proofs.Typed.{linked_more, joined_as_two}
use Rattle.cg_c_check.proofs.expressions.Joined.join.Goals as goal

pub returns : goal.returns
returns c =
    let l : Link = record { op = c.args.op; reading = c.reading_of-reading.result; operand = c.args.right } in
    rw c.in_ok-push.ensures.items (linked_more (expr_of c.args.self.now.first) c.args.self.now.rest.items l
    ∙ joined_as_two c.args.op c.reading_of-reading.result (linked (expr_of c.args.self.now.first) c.args.self.now.rest.items) (expr_of c.args.right) (search rules) (search rules))
