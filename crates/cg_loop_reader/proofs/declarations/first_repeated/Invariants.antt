use Rattle.std.proofs.Common.{◌≡◌, ℕ, [], ◌∷◌, length, take, drop, None, get_or}
use Rattle.cg_loop_syntax.specs.Uses.{first_where, is_repeated, declared}
use Rattle.cg_loop_reader.specs.Numbered.{all_uses}
use Rattle.cg_loop_reader.proofs.declarations.first_repeated.Given as goal

-- none is found so far, and what is declared so far is known
abbrev pub invariant-loop-used : goal.invariant-loop-used
invariant-loop-used l = record {
  left : first_where is_repeated [] (all_uses l.numbered.uses.items) ≡ first_where is_repeated (all_uses (take l.used-index l.numbered.uses.items)) (all_uses (drop l.used-index l.numbered.uses.items));
  known : (name : ℕ) → get_or l.known.items name None ≡ declared (all_uses (take l.used-index l.numbered.uses.items)) (name ∷ []);
  length : length l.known.items ≡ l.numbered.names;
}
