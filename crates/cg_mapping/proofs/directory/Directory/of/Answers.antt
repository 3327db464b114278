use Rattle.cg_mapping.proofs.Numbered.{numbering_of}
use Rattle.cg_mapping.proofs.directory.Directory.of.Goals as goal

pub invariant_of-result : goal.invariant_of-result
invariant_of-result c = record {
  of_nodes = numbering_of _ _ _ _ c.nodes.ensures.nodes c.in_ok-nodes.ensures;
  of_units = numbering_of _ _ _ _ c.units.ensures.units c.in_ok-units.ensures;
  of_resources = numbering_of _ _ _ _ c.resources.ensures.resources c.in_ok-resources.ensures;
}
