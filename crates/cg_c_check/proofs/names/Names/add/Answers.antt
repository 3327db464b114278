use Rattle.std.proofs.Common.{rules}
use Rattle.std.proofs.lemmas.Map.Text.{btree_map_updates_str}
use Rattle.cg_c_check.specs.declared.names.Declaration.{Declaration}
use Rattle.cg_c_check.specs.Visible.{listed}
use Rattle.cg_c_check.proofs.Listed.{listed_more, distinct_more, finds_more}
use Rattle.cg_c_check.proofs.names.Names.add.Goals as goal

pub invariant_of-self-in-Ok : goal.invariant_of-self-in-Ok
invariant_of-self-in-Ok c =
    let old = c.self.inside.declared.items in
    let d : Declaration = record { name = c.args.name; meaning = c.args.meaning } in
    rw (c.in_ok-push.ensures.items, listed_more old d) (
      distinct_more c.args.name.now c.args.meaning (listed old) (search rules) c.self.invariant.0,
      finds_more c.self.inside.meanings c.insert.new.self (listed old) c.args.name.now c.args.meaning (btree_map_updates_str c.args.name.now c.self.inside.meanings c.insert.new.self _ c.in-Ok.ensures.updates) c.self.invariant.1,
    )
