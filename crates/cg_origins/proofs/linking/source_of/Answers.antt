use Rattle.cg_origins.proofs.linking.source_of.Goals as goal

pub returns-in-Ends-clause-from : goal.returns-in-Ends-clause-from
returns-in-Ends-clause-from g c = (c.in-Ends.ensures c.args.slot c.args.resource c.loop-links.invariant.reaches).0

pub returns-in-Ends-clause-readable : goal.returns-in-Ends-clause-readable
returns-in-Ends-clause-readable g c = (c.in-Ends.ensures c.args.slot c.args.resource c.loop-links.invariant.reaches).1
