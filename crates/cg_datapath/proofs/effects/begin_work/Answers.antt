use Rattle.std.proofs.Common.{◌≡◌, ◌≤◌, ◌+◌, ◌++◌, ℕ, List, length, sym, ap, subst, ◌∙◌, refl, rules}
use Rattle.std.specs.Vec.{with_items}
use Rattle.std.proofs.lemmas.List.{with_items_is}
use Rattle.cg_model.specs.Work.{sent}
use Rattle.cg_pad.specs.Work.{work_of}
use Rattle.cg_datapath.specs.Reserved.{Reserved, stream}
use Rattle.cg_datapath.specs.declared.effects.Effects.{Effects}
use Rattle.cg_datapath.proofs.effects.begin_work.Goals as goal

pub returns-clause-work : goal.returns-clause-work
returns-clause-work c =
    let e = c.args.effects.now in
    let w = work_of c.args.work in
    let g : Effects = record { memory = e.memory; pending = c.hold.new.pending; streams = with_items e.streams c.send.new.streams; outside = e.outside + c.missed.result } in
    let long : length c.send.new.streams ≡ length e.streams.items = search rules in
    let streams_is : g.streams.items ≡ c.send.new.streams = with_items_is e.streams c.send.new.streams (search rules) in
    let words : (port : ℕ) → (stream g.streams.items port).words ≡ (stream e.streams.items port).words ++ sent port w =
    λ port. ap (λ (xs : List Reserved). (stream xs port).words) streams_is ∙ c.send.ensures.words port ∙ ap (λ (xs : List Reserved). (stream xs port).words ++ sent port w) c.deref_mut.ensures.value in
    let room : (port : ℕ) → (stream e.streams.items port).room ≤ (stream g.streams.items port).room =
    λ port. subst (λ (xs : List Reserved). (stream e.streams.items port).room ≤ (stream xs port).room) (sym streams_is) (subst (λ (xs : List Reserved). (stream xs port).room ≤ (stream c.send.new.streams port).room) c.deref_mut.ensures.value (c.send.ensures.room port)) in
    record {
      result_is = search rules;
      memory = refl;
      pending = c.hold.ensures.stores;
      pending_few = c.hold.ensures.few;
      pending_room = c.hold.ensures.room;
      streams_long = ap length streams_is ∙ long;
      streams = words;
      room = room;
      outside = search rules;
    }
