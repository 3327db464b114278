use Rattle.std.proofs.Common.{◌≡◌, ℕ, [], ◌∷◌, length, take, drop, false, get_or}
use Rattle.std.specs.List.{list_any}
use Rattle.cg_loop_syntax.specs.Uses.{first_where, is_misassigned, assigns}
use Rattle.cg_loop_reader.specs.Numbered.{all_uses}
use Rattle.cg_loop_reader.proofs.assignments.first_misassigned.Given as goal

-- none is found so far, and what is assigned so far is known
abbrev pub invariant-loop-index : goal.invariant-loop-index
invariant-loop-index l = record {
  left : first_where is_misassigned [] (all_uses l.numbered.uses.items) ≡ first_where is_misassigned (all_uses (take l.index l.numbered.uses.items)) (all_uses (drop l.index l.numbered.uses.items));
  assigned : (name : ℕ) → get_or l.assigned.items name false ≡ list_any (assigns (name ∷ [])) (all_uses (take l.index l.numbered.uses.items));
  length : length l.assigned.items ≡ l.numbered.names;
}
