use Rattle.std.proofs.Common.{rules}
use Rattle.cg_c_values.proofs.Found.{extends_insert, inserted, inserted_place, still_stand, stored, truths_after}
use Rattle.cg_c_values.proofs.Known.{inserts_keep}
use Rattle.cg_c_values.proofs.values.Values.insert.Goals as goal

pub invariant_of-self : goal.invariant_of-self
invariant_of-self c =
    let old = c.args.self.now.values.keys in
    let new = c.insert_full.new.self.keys in
    let known = inserted old new c.args.value c.insert_full.result c.insert_full.ensures.keys c.insert_full.ensures.err in
    record {
      stand = still_stand old new c.args.value known c.args.self.now.stand c.requires.may_stand;
      are_truths = truths_after old new _ (inserts_keep (extends_insert old new c.args.value known)) c.args.self.now.are_truths;
    }

pub returns-clause-added : goal.returns-clause-added
returns-clause-added c = stored c.insert_full.new.self.keys c.in_ok-v.v c.args.value c.in_ok-v.ensures.stored

pub returns-clause-kept : goal.returns-clause-kept
returns-clause-kept c = extends_insert c.args.self.now.values.keys c.insert_full.new.self.keys c.args.value (inserted c.args.self.now.values.keys c.insert_full.new.self.keys c.args.value c.insert_full.result c.insert_full.ensures.keys c.insert_full.ensures.err)

pub returns-clause-place : goal.returns-clause-place
returns-clause-place c = inserted_place c.args.self.now.values.keys c.insert_full.new.self.keys c.args.value c.in_ok-v.v c.in_ok-v.ensures.keys (search rules) (stored c.insert_full.new.self.keys c.in_ok-v.v c.args.value c.in_ok-v.ensures.stored)
