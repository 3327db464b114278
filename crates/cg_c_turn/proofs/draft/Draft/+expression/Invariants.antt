use Rattle.std.proofs.Common.{drop}
use Rattle.cg_c_check.specs.Program.{Expr}
use Rattle.cg_c_turn.specs.Draft.{Draft, draft_of}
use Rattle.cg_c_turn.specs.Pieces.{IsLed, wanted_of}
use Rattle.cg_c_turn.proofs.Elements.{ListedTo}
use Rattle.cg_c_turn.proofs.draft.Draft.+expression.Given as goal

-- what is translated goes on as it began
abbrev pub invariant-chain-loop-index : goal.invariant-chain-loop-index
invariant-chain-loop-index l = (start : Draft) (whole : Expr) → IsLed start whole (draft_of l.fn.self) l.rest (wanted_of l.wanted l.rest) l.fn.first → IsLed start whole (draft_of l.self) (drop l.index l.rest) (wanted_of l.wanted (drop l.index l.rest)) l.first

-- the first of them are translated
abbrev pub invariant-exprs-loop-e : goal.invariant-exprs-loop-e
invariant-exprs-loop-e l = ListedTo (draft_of l.fn.self) (draft_of l.self) l.es l.e-index l.values.items
