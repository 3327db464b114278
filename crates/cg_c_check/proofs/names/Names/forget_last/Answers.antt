use Rattle.std.proofs.Common.{◌≡◌, true, subst, sym, ap, ◌∙◌, ◌∷◌}
use Rattle.std.proofs.lemmas.Map.Text.{btree_map_updates_str}
use Rattle.cg_c_check.specs.Names.{Names}
use Rattle.cg_c_check.specs.Visible.{listed, are_distinct, Finds}
use Rattle.cg_c_check.proofs.Listed.{listed_more, distinct_less, finds_less}
use Rattle.cg_c_check.proofs.names.Names.forget_last.Goals as goal

pub invariant_of-self : goal.invariant_of-self
invariant_of-self c =
    let rest = c.pop.new.self.items in
    let last = c.in-Some.last in
    let was : listed c.self.inside.declared.items ≡ (last.name.now, last.meaning) ∷ listed rest = ap listed c.in-Some.ensures.items ∙ listed_more rest last in
    let distinct : are_distinct ((last.name.now, last.meaning) ∷ listed rest) ≡ true = ap are_distinct (sym was) ∙ c.self.invariant.0 in
    let finds : Finds c.self.inside.meanings ((last.name.now, last.meaning) ∷ listed rest) = subst (λ (names : Names). Finds c.self.inside.meanings names) was c.self.invariant.1 in
    let parts = distinct_less last.name.now last.meaning (listed rest) distinct in
    (parts.1, finds_less c.self.inside.meanings c.remove.new.self (listed rest) last.name.now last.meaning (btree_map_updates_str last.name.now c.self.inside.meanings c.remove.new.self _ c.remove.ensures.updates) finds parts.0)
