use Rattle.std.proofs.Common.{◌+◌, sym, ◌∙◌, subst, arith}
use Rattle.std.specs.Prelude.{flat_map}
use Rattle.std.specs.List.{range_with_len}
use Rattle.cg_depend.specs.Depend.{asks_of}
use Rattle.cg_depend.specs.Gathered.{Answers}
use Rattle.cg_model.specs.Kernel.{size}
use Rattle.cg_depend.proofs.Answered.{row_apart}
use Rattle.cg_depend.proofs.Asked.{answers_none, answers_then, row_start, row_more}
use Rattle.cg_depend.proofs.gather.add_row.Goals as goal

pub returns-then-not-is_access-clause-answers : goal.returns-then-not-is_access-clause-answers
returns-then-not-is_access-clause-answers c = subst (λ qs. Answers c.args.accesses.now qs c.args.needed.now c.args.needed.now)
    (sym (row_apart c.args.accesses.now c.args.u (range_with_len 0 (size c.args.accesses.now)) (sym c.is_access.ensures ∙ c.if-not-is_access.true))) (answers_none c.args.accesses.now c.args.needed.now)

pub loop-v-init : goal.loop-v-init
loop-v-init c = record {
  answers = subst (λ qs. Answers c.args.accesses.now qs c.args.needed.now c.args.needed.now) (sym (row_start c.args.accesses.now c.args.u (c.args.u + 1) (omega arith))) (answers_none c.args.accesses.now c.args.needed.now);
  few = omega arith;
}

pub loop-v-preserved : goal.loop-v-preserved
loop-v-preserved c =
    let K = c.args.accesses.now in
    let u = c.args.u in
    let v = c.loop-v.v in
    record {
      answers = subst (λ qs. Answers K qs c.args.needed.now c.add_pair.new.needed) (sym (row_more (asks_of K u) v))
          (answers_then K (flat_map (asks_of K u) (range_with_len 0 v)) (asks_of K u v) c.args.needed.now c.loop-v.needed c.add_pair.new.needed c.loop-v.invariant.answers c.in_ok-add_pair.ensures.answers);
      few = omega (arith, c.loop-v.invariant.few, c.in_ok-add_pair.ensures.few);
    }
