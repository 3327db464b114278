use Rattle.std.proofs.Common.{◌≡◌, ◌<◌, ◌≤◌, ◌+◌, ◌%◌, ◌/◌, ℕ, length, Vec, Global, sym, ap, subst, ◌∙◌, arith, rules}
use Rattle.std.specs.Vec.{with_items}
use Rattle.std.proofs.lemmas.List.{with_items_is}
use Rattle.cg_datapath.specs.declared.effects.Effects.{Effects}
use Rattle.cg_datapath.specs.declared.effects.Stream.{Stream}
use Rattle.cg_datapath.specs.Terminals.{works_on}
use Rattle.cg_datapath.specs.Course.{Course, course_cycles, Advances}
use Rattle.cg_datapath.specs.Effects.{BeginsAll, HasRow}
use Rattle.cg_datapath.specs.Moment.{IsMoment}
use Rattle.cg_datapath.specs.Reserved.{all_words}
use Rattle.cg_datapath.proofs.Next.{begun_on, room_by, all_by, row_by, has_room, effects_next}
use Rattle.cg_datapath.proofs.Advanced.{advances}
use Rattle.cg_datapath.proofs.course.Course.begin.Goals as goal

pub begin_units-requires-clause-room : goal.begin_units-requires-clause-room
begin_units-requires-clause-room g c = λ x lx.
    let v = c.self.inside in
    let A = v.arch.now in
    let C = g.C.Contexts.config v.contexts.now in
    let us = v.terminals.items in
    let k = v.done in
    let W = c.args.words.now in
    let inv = c.self.invariant in
    let long = ap length c.deref.ensures.value ∙ inv.units in
    let l : x < length A.units = omega arith in
    room_by C c.deref.result.now us v.n v.moment.slot (k % C.ii) v.moment.round (k / C.ii) W c.deref.ensures.value inv.moment_is.slot inv.moment_is.round v.effects.streams.items x
    (has_room A C v.n k (works_on C us v.n (k % C.ii) (k / C.ii) W) (begun_on C us v.n k W) inv.canonical v.effects inv.effects x l)

pub invariant_of-self : goal.invariant_of-self
invariant_of-self g c =
    let v = c.self.inside in
    let A = v.arch.now in
    let C = g.C.Contexts.config v.contexts.now in
    let us = v.terminals.items in
    let k = v.done in
    let W = c.args.words.now in
    let inv = c.self.invariant in
    let f : Effects = c.begin_units.new.effects in
    let G : Effects = c.store_pending.new.self in
    let last = c.store_pending.ensures in
    let units : length c.deref.result.now ≡ length A.units = ap length c.deref.ensures.value ∙ inv.units in
    let all : BeginsAll v.image.now (works_on C us v.n (k % C.ii) (k / C.ii) W) (length A.units) v.effects f =
    all_by C c.deref.result.now us v.n v.moment.slot (k % C.ii) v.moment.round (k / C.ii) W c.deref.ensures.value inv.moment_is.slot inv.moment_is.round v.image.now (length c.deref.result.now) (length A.units) v.effects f units c.begin_units.ensures.effects in
    let H = c.begin_units.new.history in
    let history_kept : length H ≡ length v.history.items = search rules in
    let history_vec : (with_items v.history H).items ≡ H = with_items_is v.history H (search rules) in
    let moment : IsMoment c.next-self-inside.result C.ii (k + 1) = subst (λ (z : ℕ). IsMoment c.next-self-inside.result z (k + 1)) inv.ii_is (c.next-self-inside.ensures k (subst (λ (z : ℕ). IsMoment v.moment z k) (sym inv.ii_is) inv.moment_is)) in
    let units_fit : length A.units ≤ 1024 = inv.valid.small.units in
    let grown : f.outside ≤ v.effects.outside + length A.units = (let h = c.begin_units.ensures.few in omega arith) in
    let left : v.done < course_cycles (record { arch = A; config = C; n = v.n; image = v.image.now; terminals = us; done = k; memory = v.effects.memory; streams = all_words v.effects.streams.items; outside = v.effects.outside; history = v.history.items }) =
    subst (λ (X : Course). X.done < course_cycles X) (sym c.self.view_is) c.requires.left in
    record {
      valid = inv.valid;
      canonical = inv.canonical;
      turns = inv.turns;
      units = inv.units;
      latencies = inv.latencies;
      ii_is = inv.ii_is;
      length_is = inv.length_is;
      length_few = inv.length_few;
      within = (let e = inv.length_is in omega arith);
      moment_is = moment;
      history_long = ap length history_vec ∙ history_kept ∙ inv.history_long;
      effects = effects_next A C v.n k (works_on C us v.n (k % C.ii) (k / C.ii) W) (begun_on C us v.n k W) inv.canonical v.effects inv.effects v.image.now f G all last.memory last.pending last.room (ap (λ (z : Vec Stream Global). z.items) last.streams) last.outside grown units_fit;
      finished_room = inv.finished_room;
    }

pub returns : goal.returns
returns g c =
    let v = c.self.inside in
    let A = v.arch.now in
    let C = g.C.Contexts.config v.contexts.now in
    let us = v.terminals.items in
    let k = v.done in
    let W = c.args.words.now in
    let inv = c.self.invariant in
    let f : Effects = c.begin_units.new.effects in
    let G : Effects = c.store_pending.new.self in
    let last = c.store_pending.ensures in
    let H = c.begin_units.new.history in
    let H' = (with_items v.history H).items in
    let history_vec : H' ≡ H = with_items_is v.history H (search rules) in
    let works = works_on C us v.n (k % C.ii) (k / C.ii) W in
    let units : length c.deref.result.now ≡ length us = ap length c.deref.ensures.value in
    let all : BeginsAll v.image.now works (length us) v.effects f =
    all_by C c.deref.result.now us v.n v.moment.slot (k % C.ii) v.moment.round (k / C.ii) W c.deref.ensures.value inv.moment_is.slot inv.moment_is.round v.image.now (length c.deref.result.now) (length us) v.effects f units c.begin_units.ensures.effects in
    let row : HasRow v.image.now v.effects.memory works (k % 4) (length us) v.history.items H' =
    row_by C c.deref.result.now us v.n v.moment.slot (k % C.ii) v.moment.round (k / C.ii) W c.deref.ensures.value inv.moment_is.slot inv.moment_is.round v.image.now v.effects.memory v.moment.row (k % 4) (length c.deref.result.now) (length us) c.deref_mut.result.now v.history.items H H' inv.moment_is.row units c.deref_mut.ensures.value (sym history_vec) c.begin_units.ensures.history in
    let old : Course = record { arch = A; config = C; n = v.n; image = v.image.now; terminals = us; done = k; memory = v.effects.memory; streams = all_words v.effects.streams.items; outside = v.effects.outside; history = v.history.items } in
    let new : Course = record { arch = A; config = C; n = v.n; image = v.image.now; terminals = us; done = k + 1; memory = G.memory; streams = all_words G.streams.items; outside = G.outside; history = H' } in
    let streams = ap (λ (z : Vec Stream Global). z.items) last.streams in
    let next : Advances old W new =
    advances A C v.n k us W v.image.now v.effects inv.effects.pending inv.effects.ports f G all last.memory streams last.outside v.history.items H' row in
    subst (λ (X : Course). Advances X W new) c.self.view_is next
