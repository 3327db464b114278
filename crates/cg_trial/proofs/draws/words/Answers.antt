use Rattle.std.proofs.Common.{◌≡◌, ◌+◌, ◌-◌, ◌<◌, ◌∷◌, ◌++◌, refl, ap, ap₂, sym, ◌∙◌, arith}
use Rattle.cg_trial.specs.Words.{words_of, after}
use Rattle.cg_trial.proofs.Drawing.{one_more, go_on, all_made, all_gone}
use Rattle.cg_trial.proofs.draws.words.Goals as goal

pub loop-k-preserved : goal.loop-k-preserved
loop-k-preserved c =
    let l : c.loop-k._k < c.args.n = omega arith in
    record {
      words =
          ap (λ z. z ++ words_of (c.args.n - (c.loop-k._k + 1)) c.next.new.generator) c.in_ok-push.ensures.items
          ∙ one_more words_of c.loop-k.generator c.next.result c.next.new.generator c.loop-k.list.items (words_of c.args.n c.args.generator.now) c.args.n c.loop-k._k l
          (λ m. ap₂ (λ x g. x ∷ words_of m g) (sym c.next.ensures.word) (sym c.next.ensures.rest)) c.loop-k.invariant.words;
      rest =
          go_on after c.loop-k.generator c.next.new.generator (after c.args.n c.args.generator.now) c.args.n c.loop-k._k l
          (λ m. ap (after m) (sym c.next.ensures.rest)) c.loop-k.invariant.rest;
    }

pub returns : goal.returns
returns c =
    let l : c.args.n ≡ c.loop-k._k = omega arith in
    record {
      words = all_made words_of c.loop-k.generator c.loop-k.list.items (words_of c.args.n c.args.generator.now) c.args.n c.loop-k._k l (λ z. refl) c.loop-k.invariant.words;
      rest = all_gone after c.loop-k.generator (after c.args.n c.args.generator.now) c.args.n c.loop-k._k l (λ z. refl) c.loop-k.invariant.rest;
    }
