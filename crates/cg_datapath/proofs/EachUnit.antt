-- The units of a cycle, one after the other.
use Rattle.std.proofs.Common.{◌≡◌, ◌≢◌, ℕ, suc, ◌+◌, ◌*◌, ◌<◌, ◌≤◌, List, ◌++◌, length, Option, refl, sym, ap, ◌∙◌, subst, arith, ⊎_elim, set, append_assoc, append-nil}
use Rattle.std.proofs.lemmas.List.{get_or-set_same, get_or-set_other}
use Rattle.std.proofs.lemmas.Bool.{cases_lt}
use Rattle.cg_model.specs.declared.config.UnitFields.{UnitFields}
use Rattle.cg_model.specs.Work.{Image, Work}
use Rattle.cg_model.specs.Machine.{result_of, memory_after, sent_after, missed_after, memory_by, sent_by_units, missed_by_units}
use Rattle.cg_datapath.specs.Reserved.{stream}
use Rattle.cg_datapath.specs.Effects.{Begins, BeginsAll, HasRow, HasRoom, HasRoomAfter}
use Rattle.cg_datapath.specs.declared.effects.Effects.{Effects}

pub begins_none : (image : Image) (works : ℕ → Option Work) (e : Effects) → BeginsAll image works 0 e e
unfolding memory_by sent_by_units missed_by_units
begins_none image works e =
    record {
      memory = refl;
      pending = λ m. refl;
      pending_few = omega arith;
      pending_room = omega arith;
      streams_long = refl;
      streams = λ port. sym (append-nil (stream e.streams.items port).words);
      room = λ port. omega arith;
      outside = omega arith;
    }

begins_suc : (image : Image) (works : ℕ → Option Work) (x : ℕ) (e f g : Effects) (r : ℕ) → BeginsAll image works x e f → Begins image (works x) f g r → BeginsAll image works (suc x) e g
unfolding memory_by sent_by_units missed_by_units
begins_suc image works x e f g r all one =
    record {
      memory = one.memory ∙ all.memory;
      pending = λ m. one.pending m ∙ ap (λ z. memory_after z (works x)) (all.pending m);
      pending_few = (let a = all.pending_few in let b = one.pending_few in omega arith);
      pending_room = (let a = all.pending_room in let b = one.pending_room in omega arith);
      streams_long = one.streams_long ∙ all.streams_long;
      streams = λ port. one.streams port ∙ ap (λ z. z ++ sent_after port (works x)) (all.streams port) ∙ append_assoc (stream e.streams.items port).words (sent_by_units works port x) (sent_after port (works x));
      room = λ port. (let a = all.room port in let b = one.room port in omega arith);
      outside =
          (let a : f.outside ≡ e.outside + missed_by_units works (length e.memory) x = all.outside in
          let b : g.outside ≡ f.outside + missed_after (length e.memory) (works x) = one.outside ∙ ap (λ m. f.outside + missed_after (length m) (works x)) all.memory in
          omega arith);
    }

pub begins_more : (image : Image) (works : ℕ → Option Work) (x : ℕ) (e f g : Effects) (r : ℕ) → BeginsAll image works x e f → Begins image (works x) f g r → BeginsAll image works (x + 1) e g
begins_more image works x e f g r all one = let z : suc x ≡ x + 1 = omega arith in subst (λ y. BeginsAll image works y e g) z (begins_suc image works x e f g r all one)

pub row_none : (image : Image) (memory : List ℕ) (works : ℕ → Option Work) (row : ℕ) (old : List ℕ) → HasRow image memory works row 0 old old
row_none image memory works row old = record { here = λ y h. absurd (omega arith); there = λ y d h ne. refl }

pub row_more : (image : Image) (memory : List ℕ) (works : ℕ → Option Work) (row x : ℕ) (old new : List ℕ) (r : ℕ) → row < 4 → HasRow image memory works row x old new → 4 * x + row < length new → r ≡ result_of image memory (works x) →
    HasRow image memory works row (x + 1) old (set new (4 * x + row) r)
row_more image memory works row x old new r low is l e =
    record {
      here = λ y h. ⊎_elim
          (λ a. let ne : 4 * y + row ≢ 4 * x + row = λ q. omega arith in get_or-set_other new (4 * x + row) (4 * y + row) r 0 ne ∙ is.here y a)
          (λ a. let q : y ≡ x = omega arith in rw q (get_or-set_same new (4 * x + row) r 0 l ∙ e))
          (cases_lt y x);
      there = λ y d h other. let ne : 4 * y + d ≢ 4 * x + row = λ q. other (omega arith) in
          get_or-set_other new (4 * x + row) (4 * y + d) r 0 ne ∙ is.there y d h other;
    }

pub room_now : (image : Image) (works : ℕ → Option Work) (x : ℕ) (e f : Effects) (u : UnitFields) (n round : ℕ) → BeginsAll image works x e f → HasRoomAfter e.streams.items works x u n round → HasRoom f.streams.items u n round
room_now image works x e f u n round all room o from to =
    let here = room o from to in
    let long : length f.streams.items ≡ length e.streams.items = all.streams_long in
    let a : u.port < length e.streams.items = here.0 in
    let b : length ((stream e.streams.items u.port).words ++ sent_by_units works u.port x) < (stream e.streams.items u.port).room = here.1 in
    let c : length (stream f.streams.items u.port).words ≡ length ((stream e.streams.items u.port).words ++ sent_by_units works u.port x) = ap length (all.streams u.port) in
    let d : (stream e.streams.items u.port).room ≤ (stream f.streams.items u.port).room = all.room u.port in
    (omega arith, omega arith)
