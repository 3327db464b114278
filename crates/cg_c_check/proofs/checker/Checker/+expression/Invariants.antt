use Rattle.std.proofs.Common.{◌≡◌, Ok, drop}
use Rattle.cg_c_syntax.specs.Written as written
use Rattle.cg_c_check.specs.Expressions.{exprs}
use Rattle.cg_c_check.specs.TypedChains.{chained}
use Rattle.cg_c_check.specs.Written.{expr_of, linked}
use Rattle.cg_c_check.specs.States.{state_of}
use Rattle.cg_c_check.proofs.TypedSteps.{behind}
use Rattle.cg_c_check.proofs.checker.Checker.+expression.Given as goal

-- what is left to be joined gives the typed expression of the whole
abbrev pub invariant-chain-loop-link : goal.invariant-chain-loop-link
invariant-chain-loop-link l =
    chained l.each (Ok (expr_of l.fn.first, state_of l.fn.self)) l.rest ≡ chained l.each (Ok (linked (expr_of l.joined.first) l.joined.rest.items, state_of l.self)) (drop l.link-index l.rest)

-- the expressions so far, and those that are left
abbrev pub invariant-exprs-loop-tree : goal.invariant-exprs-loop-tree
invariant-exprs-loop-tree l =
    exprs l.each (written.exprs_of l.trees) (state_of l.fn.self) ≡ behind l.exprs.items (exprs l.each (written.exprs_of (drop l.tree-index l.trees)) (state_of l.self))
