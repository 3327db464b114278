use Rattle.std.proofs.Common.{◌≡◌, [], ◌∙◌, ap, get_or, subst, arith, below_more}
use Rattle.std.proofs.lemmas.List.{get_or_read}
use Rattle.cg_list_laws.proofs.Grown.{unbegun, grown}
use Rattle.cg_image_text.proofs.Joining.{renamed, all_words}
use Rattle.cg_image_text.specs.Printed.{stream_text, stream_at, AreWords}
use Rattle.cg_image_text.proofs.print.push_streams.Goals as goal

pub loop-port-init : goal.loop-port-init
loop-port-init c = record { text = unbegun _ _; words = λ port lt. absurd (omega arith) }

pub loop-port-preserved : goal.loop-port-preserved
loop-port-preserved c =
    let port = c.loop-port.port in
    let streams = c.args.streams.now in
    let words : c.as_slice.result.now ≡ get_or streams port [] = c.as_slice.ensures ∙ get_or_read streams port c.index-streams-port.result c.loop-port-test.true c.index-streams-port.is [] in
    record {
      text = grown (stream_at streams) _ _ _ _ c.loop-port.invariant.text (renamed _ _ _ (stream_at streams port) c.in_ok-push_stream.ensures.text (ap (stream_text port) words));
      words = below_more (λ k. AreWords (get_or streams k [])) port c.loop-port.invariant.words (subst AreWords words c.in_ok-push_stream.ensures.words);
    }

pub returns-clause-words : goal.returns-clause-words
returns-clause-words c = all_words c.args.streams.now c.loop-port.port c.loop-port-test.false c.loop-port.invariant.words
