use Rattle.std.proofs.Common.{◌≡◌, ◌-◌, ◌++◌}
use Rattle.cg_trial.specs.Words.{words_of, after}
use Rattle.cg_trial.proofs.draws.words.Given as goal

-- the words that are left to draw follow those that were drawn
abbrev pub invariant-loop-k : goal.invariant-loop-k
invariant-loop-k l =
    record {
      words : l.list.items ++ words_of (l.n - l._k) l.generator ≡ words_of l.n l.initial.generator;
      rest : after (l.n - l._k) l.generator ≡ after l.n l.initial.generator;
    }
