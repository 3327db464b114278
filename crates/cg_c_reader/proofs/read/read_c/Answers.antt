use Rattle.std.proofs.Common.{◌≡◌, refl, subst}
use Rattle.cg_c_syntax.specs.Source.{text}
use Rattle.cg_c_reader.specs.declared.fault.Misfit.{Misfit}
use Rattle.cg_c_reader.specs.declared.fault.Misfit.TheVariants.{Text, Depth}
use Rattle.cg_c_reader.specs.Left.{left, MissesAll}
use Rattle.cg_c_reader.proofs.Whole.{source_is, fails_at}
use Rattle.cg_c_reader.proofs.read.read_c.Goals as goal

pub returns-in-Ok-clause-ok : goal.returns-in-Ok-clause-ok
returns-in-Ok-clause-ok c = source_is c.args.bytes.now c.new-reader.ensures.all c.in-Ok.ensures.ends c.in-Ok.ensures.ok

pub returns-in-Err-Text-clause-fault : goal.returns-in-Err-Text-clause-fault
returns-in-Err-Text-clause-fault c =
    let e : c.in-Err-Text.field-0 ≡ Text = cc in
    let missed : MissesAll (Text) text (left c.new-reader.result) (left c.text.new.self) = subst (λ (m : Misfit). MissesAll m text (left c.new-reader.result) (left c.text.new.self)) e c.in-Err-Text.ensures.misses in
    record {
      place = c.text.new.self.token.place;
      holds = record { token = (left c.text.new.self).head; fails = fails_at c.args.bytes.now c.new-reader.ensures.all missed; at = refl };
      line = c.position_of.ensures.line;
      column = c.position_of.ensures.column;
    }

pub returns-in-Err-Depth-clause-fault : goal.returns-in-Err-Depth-clause-fault
returns-in-Err-Depth-clause-fault c =
    let e : c.in-Err-Depth.field-0 ≡ Depth c.in-Err-Depth.place = cc in
    let missed : MissesAll (Depth c.in-Err-Depth.place) text (left c.new-reader.result) (left c.text.new.self) = subst (λ (m : Misfit). MissesAll m text (left c.new-reader.result) (left c.text.new.self)) e c.in-Err-Depth.ensures.misses in
    record {
      place = c.in-Err-Depth.place;
      holds = record { token = (left c.text.new.self).head; fails = fails_at c.args.bytes.now c.new-reader.ensures.all missed };
      line = c.position_of-in-Err-Depth.ensures.line;
      column = c.position_of-in-Err-Depth.ensures.column;
    }
