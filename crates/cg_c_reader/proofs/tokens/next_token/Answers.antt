use Rattle.std.proofs.Common.{◌≡◌, length, [], inl, inr, sym, ◌∙◌, ap, arith, length-drop}
use Rattle.cg_c_syntax.specs.declared.token.Line.{Line}
use Rattle.cg_c_syntax.specs.Tokens.{line_end}
use Rattle.cg_c_reader.proofs.Sounding.{rest_is}
use Rattle.cg_c_reader.proofs.Cutting.{cut_gap, cut_feed, cut_line_end, cut_token, cuts_from}
use Rattle.cg_c_reader.proofs.Ascii.{word_ascii}
use Rattle.cg_c_reader.proofs.tokens.next_token.Goals as goal

pub loop-at-preserved-in-Gap : goal.loop-at-preserved-in-Gap
loop-at-preserved-in-Gap c =
    let bytes = c.args.bytes.now in
    let place = c.loop-at.at.place in
    let whole = rest_is place bytes in
    record {
      same = sym (cut_gap bytes c.loop-at.at.line place c.loop-at-test.true _ whole c.in-Gap.more c.in-Gap.ensures.within (sym c.in-Gap.ensures.value)) ∙ c.loop-at.invariant.same;
      within = omega (arith, ap length whole, c.in-Gap.ensures.within, length-drop place bytes);
    }

pub loop-at-preserved : goal.loop-at-preserved
loop-at-preserved c =
    let bytes = c.args.bytes.now in
    let place = c.loop-at.at.place in
    let none : line_end c.loop-at.at.line place ≡ [] = elim c.in-Fresh.is [ inl e ↦ ap (λ (x : Line). line_end x place) e | inr e ↦ ap (λ (x : Line). line_end x place) e ] in
    record {
      same = sym (cut_feed bytes c.loop-at.at.line place c.loop-at-test.true _ (rest_is place bytes) none (sym c.in-LineFeed.ensures.value)) ∙ c.loop-at.invariant.same;
      within = omega arith;
    }

pub returns-in-Directive-clause-cuts : goal.returns-in-Directive-clause-cuts
returns-in-Directive-clause-cuts c =
    let bytes = c.args.bytes.now in
    let line = c.loop-at.at.line in
    let place = c.loop-at.at.place in
    cuts_from bytes line place _ _ _ c.loop-at.invariant.same
    (cut_line_end bytes line place c.loop-at-test.true _ (rest_is place bytes) _ c.in-Directive.is (sym c.in-LineFeed.ensures.value) c.empty.ensures.token c.empty.ensures.next)

pub returns-in-Token-clause-cuts : goal.returns-in-Token-clause-cuts
returns-in-Token-clause-cuts c =
    let bytes = c.args.bytes.now in
    let line = c.loop-at.at.line in
    let place = c.loop-at.at.place in
    record {
      tokens = sym c.loop-at.invariant.same ∙ cut_token bytes line place c.loop-at-test.true _ (rest_is place bytes) c.in-Token.kind c.in-Token.more _ c.in-Token.ensures.within.0 c.in-Token.ensures.within.1 c.line_after.ensures (sym c.in-Token.ensures.value);
    }

pub returns-in-Token-clause-ascii : goal.returns-in-Token-clause-ascii
returns-in-Token-clause-ascii c =
    word_ascii c.loop-at.at.line _ c.in-Token.kind c.in-Token.more (sym c.in-Token.ensures.value)
