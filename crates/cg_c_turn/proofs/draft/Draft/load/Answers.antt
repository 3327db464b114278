use Rattle.std.proofs.Common.{[], refl}
use Rattle.std.proofs.lemmas.Result.{IfOk-weaker}
use Rattle.cg_c_values.specs.Listed.{listed}
use Rattle.cg_c_turn.specs.Draft.{draft_of}
use Rattle.cg_c_turn.proofs.Growing.{extends_refl}
use Rattle.cg_c_turn.proofs.Loading.{loads_found}
use Rattle.cg_c_turn.proofs.draft.Draft.load.Goals as goal

pub returns-in-Some : goal.returns-in-Some
returns-in-Some c = IfOk-weaker c.constant.result _ _ (λ v h.
    ([], loads_found (draft_of c.args.self.now) (listed c.constant.new.self) c.args.array c.args.address v (λ E. c.in-Some.word) c.requires.formed c.constant.ensures.kept h.within c.in-Some.ensures h.is)) c.constant.ensures.means

pub returns-in-Some-stored_word : goal.returns-in-Some-stored_word
returns-in-Some-stored_word c =
    ([], loads_found (draft_of c.args.self.now) (listed c.args.self.now.values) c.args.array c.args.address c.in-Some-stored_word.v (λ E. E c.in-Some-stored_word.v) c.requires.formed (extends_refl (listed c.args.self.now.values)) c.in-Some-stored_word.ensures.within c.in-Some-stored_word.ensures.found (λ x E fits. refl))

pub returns-in-Some-loaded_word : goal.returns-in-Some-loaded_word
returns-in-Some-loaded_word c =
    ([], loads_found (draft_of c.args.self.now) (listed c.args.self.now.values) c.args.array c.args.address c.in-Some-loaded_word.v (λ E. E c.in-Some-loaded_word.v) c.requires.formed (extends_refl (listed c.args.self.now.values)) c.in-Some-loaded_word.ensures.within c.in-Some-loaded_word.ensures.found (λ x E fits. refl))
