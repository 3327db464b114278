use Rattle.std.proofs.lemmas.Result.{on_ok_weaker}
use Rattle.cg_c_check.specs.Written.{expr_of, target_of}
use Rattle.cg_c_turn.specs.Draft.{draft_of}
use Rattle.cg_c_turn.proofs.AssignTarget.{apart_parts, assigned_to, element_target, typed_target, typed_value, word_target}
use Rattle.cg_c_turn.proofs.draft.Draft.assign.Goals as goal

pub assign_word-requires-clause-typed : goal.assign_word-requires-clause-typed
assign_word-requires-clause-typed c = typed_value c.args.self.now.arrays.now (target_of c.args.target.now) c.args.op (expr_of c.args.value.now) c.requires.typed

pub assign_word-requires-clause-apart : goal.assign_word-requires-clause-apart
assign_word-requires-clause-apart c = apart_parts (target_of c.args.target.now) _ c.args.op (expr_of c.args.value.now) (word_target c.args.target.now c.in-Word.number c.in-Word.signedness c.in-Word.is) c.requires.apart

pub assign_element-requires-clause-there : goal.assign_element-requires-clause-there
assign_element-requires-clause-there c = (typed_target c.args.self.now.arrays.now (target_of c.args.target.now) _ c.args.op (expr_of c.args.value.now) (element_target c.args.target.now c.in-Element.element c.in-Element.is) c.requires.typed).0

pub assign_element-requires-clause-no_table : goal.assign_element-requires-clause-no_table
assign_element-requires-clause-no_table c = (typed_target c.args.self.now.arrays.now (target_of c.args.target.now) _ c.args.op (expr_of c.args.value.now) (element_target c.args.target.now c.in-Element.element c.in-Element.is) c.requires.typed).1

pub assign_element-requires-clause-indices : goal.assign_element-requires-clause-indices
assign_element-requires-clause-indices c = (typed_target c.args.self.now.arrays.now (target_of c.args.target.now) _ c.args.op (expr_of c.args.value.now) (element_target c.args.target.now c.in-Element.element c.in-Element.is) c.requires.typed).2

pub assign_element-requires-clause-typed : goal.assign_element-requires-clause-typed
assign_element-requires-clause-typed c = typed_value c.args.self.now.arrays.now (target_of c.args.target.now) c.args.op (expr_of c.args.value.now) c.requires.typed

pub assign_element-requires-clause-apart : goal.assign_element-requires-clause-apart
assign_element-requires-clause-apart c = apart_parts (target_of c.args.target.now) _ c.args.op (expr_of c.args.value.now) (element_target c.args.target.now c.in-Element.element c.in-Element.is) c.requires.apart

pub returns-in-Word : goal.returns-in-Word
returns-in-Word c =
    on_ok_weaker c.assign_word.result
    (assigned_to (draft_of c.args.self.now) (draft_of c.assign_word.new.self) (target_of c.args.target.now) _ c.args.op (expr_of c.args.value.now) (word_target c.args.target.now c.in-Word.number c.in-Word.signedness c.in-Word.is))
    c.assign_word.ensures

pub returns-in-Element : goal.returns-in-Element
returns-in-Element c =
    on_ok_weaker c.assign_element.result
    (assigned_to (draft_of c.args.self.now) (draft_of c.assign_element.new.self) (target_of c.args.target.now) _ c.args.op (expr_of c.args.value.now) (element_target c.args.target.now c.in-Element.element c.in-Element.is))
    c.assign_element.ensures
