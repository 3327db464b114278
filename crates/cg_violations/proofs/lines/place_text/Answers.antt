use Rattle.std.proofs.Common.{◌≡◌, ℕ, List, subst}
use Rattle.std.specs.Prelude.{IfOk, string_bytes}
use Rattle.cg_violations.proofs.Filled.{place_there}
use Rattle.cg_violations.proofs.lines.place_text.Goals as goal

pub returns-in-Resource : goal.returns-in-Resource
returns-in-Resource c =
    subst (λ (z : List ℕ). IfOk c.resource_text.result (λ text. string_bytes text ≡ z))
    (place_there c.args.indexed.mapped.arch.now c.args.indexed.mapped.kernel.now c.args.indexed.mapped.mapping.now c.args.violation.rule c.args.violation.place c.in-Resource.resource c.in-Resource.slot c.ii-ii.result c.args.indexed.buckets.now.ii c.sharing_of-sharing.result
    c.args.indexed.buckets.now.lists.items c.of-stops.result.now c.requires c.in-Resource.is c.ii-ii.ensures c.sharing_of-sharing.ensures c.of-stops.ensures) c.resource_text.ensures
