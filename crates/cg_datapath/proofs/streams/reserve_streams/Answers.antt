use Rattle.std.proofs.Common.{◌≡◌, ◌+◌, [], true, false, refl, sym, ap, ◌∙◌, subst, arith, rules, length, ⊎_elim}
use Rattle.std.specs.Prelude.{slice_index_or}
use Rattle.std.proofs.lemmas.Bool.{cases_lt, true≢false}
use Rattle.std.proofs.lemmas.List.{get_or_past, length_push}
use Rattle.cg_datapath.proofs.Marked.{stream_next, reserved_by}
use Rattle.cg_datapath.proofs.streams.reserve_streams.Goals as goal
use Rattle.cg_datapath.proofs.streams.reserve_streams.Goals.{then-used-port, else-used-port}

pub loop-port-preserved : goal.loop-port-preserved
loop-port-preserved g c =
    let used = c.used_ports-used.result in
    let k = c.loop-port.port in
    let room = c.if-used-port.room in
    let rooms : (slice_index_or used k false ≡ true → room ≡ c.args.n) × (slice_index_or used k false ≡ false → room ≡ 0) =
    elim c.if-used-port.branch [
      | then-used-port w ↦ (λ t. w.room-is, λ f. let e = w.if-used-port.true in absurd (cc))
      | else-used-port w ↦ (λ t. let e = w.if-used-port.false in absurd (cc), λ f. w.room-is)
    ] in
    let exact = c.in_ok-words.ensures.exact in
    let old = c.loop-port.streams.items in
    let new = c.push.new.self.items in
    let long = c.loop-port.invariant.long in
    let items = c.in_ok-push.ensures.items in
    record {
      long = ap length items ∙ length_push old _ ∙ ap (λ z. z + 1) long;
      empty = λ port. stream_next (λ z. z.words ≡ []) k old new _ long items port (λ b. c.loop-port.invariant.empty port) (λ e. c.in_ok-words.ensures.items) (λ b. refl);
      used = λ port l t. stream_next (λ z. z.room ≡ c.args.n) k old new _ long items port (λ b. c.loop-port.invariant.used port b t) (λ e. exact ∙ rooms.0 (subst (λ z. slice_index_or used z false ≡ true) e t)) (λ b. absurd (omega arith));
      unused = λ port f. stream_next (λ z. z.room ≡ 0) k old new _ long items port (λ b. c.loop-port.invariant.unused port f) (λ e. exact ∙ rooms.1 (subst (λ z. slice_index_or used z false ≡ false) e f)) (λ b. refl);
    }

pub returns : goal.returns
returns g c =
    let all = c.loop-port.auto.port-end in
    record {
      long = search rules;
      empty = c.loop-port.invariant.empty;
      room = reserved_by (g.C.Contexts.config c.args.contexts.now) (length c.args.arch.now.units) c.args.n c.used_ports-used.result c.loop-port.streams.items c.used_ports-used.ensures (λ port e. ⊎_elim (λ b. c.loop-port.invariant.used port b e) (λ b. absurd (true≢false (sym e ∙ get_or_past c.used_ports-used.result port false (omega arith)))) (cases_lt port c.loop-port.port)) c.loop-port.invariant.unused;
    }
