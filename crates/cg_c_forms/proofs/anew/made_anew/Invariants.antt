use Rattle.cg_c_values.specs.Listed.{listed}
use Rattle.cg_c_forms.specs.Remade.{RenamesFirst}
use Rattle.cg_c_forms.proofs.anew.made_anew.Given as goal

abbrev pub invariant-loop-v : goal.invariant-loop-v
invariant-loop-v l = RenamesFirst (listed l.old) (listed l.values) l.turns l.map.items l.v
