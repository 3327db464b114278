-- The meaning of a loop body of the program.
use Rattle.cg_loop_syntax.specs.declared.body.LoopBody.{LoopBody}
use Rattle.cg_loop_syntax.specs.Loop.{Body}
use Rattle.cg_loop_syntax.specs.Grouped.{grouped}

abbrev pub body_of : LoopBody → Body
body_of b = grouped b.decls b.stmts
