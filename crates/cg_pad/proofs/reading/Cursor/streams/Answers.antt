use Rattle.std.proofs.Common.{◌≡◌, ℕ, List, [], ◌∷◌, ◌++◌, Result, Ok, length, ◌∙◌, sym, suc, ◌-◌, ◌+◌, arith, ap, subst, Err, rules}
use Rattle.std.proofs.lemmas.Grind.{common_steps}
use Rattle.cg_model.specs.Answers.{Gives}
use Rattle.cg_pad.specs.declared.fault.ImageFault.{ImageFault}
use Rattle.cg_pad.specs.declared.fault.ImageFault.TheVariants.{Memory}
use Rattle.cg_pad.specs.Cursor.{with_rest}
use Rattle.cg_pad.specs.Bytes.{read_streams}
use Rattle.cg_pad.proofs.Steps.{stream_more, stream_refused, streams_after, streams_after_none, streams_end}
use Rattle.cg_pad.proofs.reading.Cursor.streams.Goals as goal

pub loop-port-init : goal.loop-port-init
loop-port-init c = record {
  taken = ap (λ xs. streams_after xs (read_streams c.args.self.now.size 0 16 c.args.self.now.rest.now)) c.in_ok-streams.ensures.items ∙ streams_after_none _;
  long = ap length c.in_ok-streams.ensures.items;
  size = search rules;
}

pub returns-in_err-stream-clause-answer : goal.returns-in_err-stream-clause-answer
returns-in_err-stream-clause-answer c =
    let n = 16 - c.loop-port.port in
    let k : n ≡ suc (16 - (c.loop-port.port + 1)) = omega arith in
    let is : c.from_residual-in_err-stream.result ≡ Err c.in_err-stream.field-0.0 = search rules in
    subst (λ (r : Result (List (List ℕ)) ImageFault). Gives Memory (with_rest r c.stream.new.self.rest.now) (read_streams c.args.self.now.size 0 16 c.args.self.now.rest.now)) (sym is)
    (λ other. stream_refused c.loop-port.streams.items c.loop-port.self.size c.loop-port.port n _ c.loop-port.self.rest.now c.in_err-stream.field-0.0 k (c.in_err-stream.ensures.answer other) ∙ c.loop-port.invariant.taken)

pub loop-port-preserved : goal.loop-port-preserved
loop-port-preserved c =
    let n = 16 - c.loop-port.port in
    let more = 16 - (c.loop-port.port + 1) in
    let k : n ≡ suc more = omega arith in
    let same : c.stream.new.self.size ≡ c.loop-port.self.size = c.stream.ensures.size in
    record {
      taken = ap (λ xs. streams_after xs (read_streams c.stream.new.self.size (c.loop-port.port + 1) more c.stream.new.self.rest.now)) c.in_ok-push.ensures.items
          ∙ ap (λ size. streams_after (c.loop-port.streams.items ++ c.in_ok-stream.field-0 ∷ []) (read_streams size (c.loop-port.port + 1) more c.stream.new.self.rest.now)) same
          ∙ stream_more c.loop-port.streams.items c.loop-port.self.size c.loop-port.port n more c.in_ok-stream.field-0 c.loop-port.self.rest.now c.stream.new.self.rest.now k c.in_ok-stream.ensures.answer
          ∙ c.loop-port.invariant.taken;
      long = grind (arith, common_steps);
      size = same ∙ c.loop-port.invariant.size;
    }

pub returns-clause-answer : goal.returns-clause-answer
returns-clause-answer c =
    let e : 16 - c.loop-port.port ≡ 0 = omega arith in
    ap (λ xs. Ok (xs, c.loop-port.self.rest.now)) c.new.ensures ∙ sym (streams_end c.loop-port.streams.items c.loop-port.self.size c.loop-port.port c.loop-port.self.rest.now)
    ∙ ap (λ n. streams_after c.loop-port.streams.items (read_streams c.loop-port.self.size c.loop-port.port n c.loop-port.self.rest.now)) (sym e) ∙ c.loop-port.invariant.taken
