use Rattle.std.proofs.Common.{map, ap}
use Rattle.std.proofs.lemmas.Result.{on_ok_weaker}
use Rattle.cg_c_check.specs.Written.{initial_of, stmt_of}
use Rattle.cg_c_turn.proofs.FirstTurn.{words_first, words_none, words_shape, words_typed}
use Rattle.cg_c_turn.proofs.draft.Draft.first_stmt.Goals as goal

pub first_words-requires-clause-typed : goal.first_words-requires-clause-typed
first_words-requires-clause-typed c =
    let is = words_shape c.args.stmt.now c.in-Words.initials.items c.as_slice.result.now (ap stmt_of c.in-Words.is) c.as_slice.ensures.value in
    words_typed c.args.self.now.arrays.now (stmt_of c.args.stmt.now) (map initial_of c.as_slice.result.now) is c.requires.typed

pub first_words-requires-clause-none : goal.first_words-requires-clause-none
first_words-requires-clause-none c =
    let is = words_shape c.args.stmt.now c.in-Words.initials.items c.as_slice.result.now (ap stmt_of c.in-Words.is) c.as_slice.ensures.value in
    words_none (stmt_of c.args.stmt.now) (map initial_of c.as_slice.result.now) is c.requires.none

pub returns-in-Words : goal.returns-in-Words
returns-in-Words c =
    let is = words_shape c.args.stmt.now c.in-Words.initials.items c.as_slice.result.now (ap stmt_of c.in-Words.is) c.as_slice.ensures.value in
    on_ok_weaker c.first_words.result (λ one. words_first (stmt_of c.args.stmt.now) (map initial_of c.as_slice.result.now) is one) c.first_words.ensures
