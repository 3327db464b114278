use Rattle.std.proofs.Common.{◌≡◌, ℕ, ◌<◌, [], length, take, drop, false, get_or}
use Rattle.std.specs.List.{list_any}
use Rattle.cg_loop_syntax.specs.Uses.{first_where, is_bad_port, emits}
use Rattle.cg_loop_reader.specs.Numbered.{all_uses}
use Rattle.cg_loop_reader.proofs.ports.first_bad_port.Given as goal

-- none is found so far, and what is written so far is known
abbrev pub invariant-loop-used : goal.invariant-loop-used
invariant-loop-used l = record {
  left : first_where is_bad_port [] (all_uses l.numbered.uses.items) ≡ first_where is_bad_port (all_uses (take l.used-index l.numbered.uses.items)) (all_uses (drop l.used-index l.numbered.uses.items));
  written : (port : ℕ) → port < 16 → get_or l.written port false ≡ list_any (λ u. emits port u.role) (all_uses (take l.used-index l.numbered.uses.items));
  length : length l.written ≡ 16;
}
