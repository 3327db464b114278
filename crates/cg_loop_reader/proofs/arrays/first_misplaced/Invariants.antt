use Rattle.std.proofs.Common.{◌≡◌, ℕ, ◌<◌, [], length, take, drop, true, false, get_or}
use Rattle.std.specs.List.{list_any, list_all}
use Rattle.cg_model.specs.Limits.{most_memory}
use Rattle.cg_loop_syntax.specs.Uses.{first_where, is_misplaced}
use Rattle.cg_loop_reader.specs.Numbered.{all_uses}
use Rattle.cg_loop_reader.specs.Taken.{has_word, is_sized}
use Rattle.cg_loop_reader.proofs.arrays.first_misplaced.Given as goal

-- none is found so far, and the words of the arrays so far are taken
abbrev pub invariant-loop-used : goal.invariant-loop-used
invariant-loop-used l = record {
  left : first_where is_misplaced [] (all_uses l.numbered.uses.items) ≡ first_where is_misplaced (all_uses (take l.used-index l.numbered.uses.items)) (all_uses (drop l.used-index l.numbered.uses.items));
  sized : list_all (λ u. is_sized u.role) (all_uses (take l.used-index l.numbered.uses.items)) ≡ true;
  taken : (word : ℕ) → word < length l.taken → get_or l.taken word false ≡ list_any (λ u. has_word word u.role) (all_uses (take l.used-index l.numbered.uses.items));
  length : length l.taken ≡ most_memory;
}
