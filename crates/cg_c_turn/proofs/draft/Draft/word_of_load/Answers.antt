use Rattle.cg_c_turn.specs.Draft.{draft_of}
use Rattle.cg_c_turn.proofs.Loading.{load_at, word_found}
use Rattle.cg_c_turn.proofs.draft.Draft.word_of_load.Goals as goal

pub is_current-requires-clause-within : goal.is_current-requires-clause-within
is_current-requires-clause-within c = (load_at (draft_of c.args.self.now) c.args.effect.now c.in-Load.guard c.in-Load.of c.in-Load.at c.in-Load.value c.in-Load.place c.requires.formed c.requires.done c.in-Load.is).within

pub returns-then-is_current-clause-within : goal.returns-then-is_current-clause-within
returns-then-is_current-clause-within c = (load_at (draft_of c.args.self.now) c.args.effect.now c.in-Load.guard c.in-Load.of c.in-Load.at c.in-Load.value c.in-Load.place c.requires.formed c.requires.done c.in-Load.is).within

pub returns-then-is_current-clause-found : goal.returns-then-is_current-clause-found
returns-then-is_current-clause-found c =
    word_found (draft_of c.args.self.now) c.args.effect.now c.args.array c.args.address c.in-Load.guard c.in-Load.of c.in-Load.at c.in-Load.value c.in-Load.place c.requires.formed c.requires.done c.in-Load.is
    c.if-of-array.true c.if-at-address.true (c.is_covered_by.ensures c.if-is_covered_by.true) (λ version is. c.is_current.ensures c.in-Load.of version c.in-Load.guard c.in-Load.at c.if-is_current.true is)
