use Rattle.std.proofs.Common.{get_or, sym}
use Rattle.cg_c_turn.specs.Draft.{draft_of}
use Rattle.cg_c_turn.specs.Pieces.{IsFound}
use Rattle.cg_c_turn.proofs.Loading.{copied_is, table_found}
use Rattle.cg_c_turn.proofs.draft.Draft.table_word.Goals as goal

pub returns : goal.returns
returns c =
    let d = draft_of c.args.self.now in
    let shape = get_or d.arrays c.args.array c.index-self-array.result in
    copied_is c.get.result c.copied.result c.as_slice.result.now c.in_ok-index.index (λ word. IsFound d c.args.address (λ E. word)) c.copied.ensures c.get.ensures.lookup.3
    (λ w below is. table_found d c.args.array c.args.address c.in_ok-at.at c.in_ok-index.index w c.index-self-array.result shape c.in-Some.table c.as_slice.result.now c.requires.there c.index-self-array.is (sym c.index-self-array.is) c.in-Some.is c.as_slice.ensures c.requires.within c.in_ok-at.ensures.is c.in_ok-index.ensures.0 c.in_ok-index.ensures.1 below is)
