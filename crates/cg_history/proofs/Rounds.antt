-- One cycle more.
use Rattle.std.proofs.Common.{◌≡◌, ℕ, zero, suc, ◌+◌, ◌-◌, ◌/◌, ◌%◌, ◌<◌, ◌≤◌, true, List, [], ◌++◌, length, Option, refl, sym, ap, ◌∙◌, subst, arith}
use Rattle.std.specs.Prelude.{vec_capacity}
use Rattle.std.proofs.lemmas.Nat.{div-mul-add, mod-mul-add}
use Rattle.cg_model.specs.Array.{Arch}
use Rattle.cg_model.specs.Config.{Config, fields}
use Rattle.cg_model.specs.Canonical.{IsCanonical, is_on}
use Rattle.cg_model.specs.Work.{Image, Work}
use Rattle.cg_model.specs.Machine.{ago, at_cycle, begins, result_of, memory_by, missed_by_units, sent_by_units, words_in}
use Rattle.cg_datapath.specs.Effects.{applied, BeginsAll}
use Rattle.cg_datapath.specs.State.{AreEffects}
use Rattle.cg_datapath.specs.declared.effects.Effects.{Effects}
use Rattle.cg_datapath.proofs.Next.{effects_next, memory_next, outside_next, stream_next}
use Rattle.cg_datapath.proofs.Rooms.{AreBegun}
use Rattle.cg_sim.proofs.Cycles.{ago_more}
use Rattle.cg_history.specs.Results.{Results, KeepsRows, result_ago, result_now}
use Rattle.cg_history.specs.State.{HasNow, IsAt, cycle_in}

-- the slot and the round of a cycle
pub slot_of : (C : Config) (slot round : ℕ) → slot < C.ii → cycle_in C slot round % C.ii ≡ slot
slot_of C slot round l = mod-mul-add round C.ii slot l

pub round_of : (C : Config) (slot round : ℕ) → slot < C.ii → cycle_in C slot round / C.ii ≡ round
round_of C slot round l = div-mul-add round C.ii slot l

-- what the units begin is begun from their fields
pub are_begun : (A : Arch) (C : Config) (n : ℕ) (image : Image) (c : ℕ) → AreBegun C n c (λ x. begins A C n image x c)
are_begun A C n image c x = (_, refl)

module _ (A : Arch) (C : Config) (n : ℕ) (image : Image) (c : ℕ) (good : IsCanonical A C) (units : length A.units ≤ 1024)
    (h : Results) (e : Effects) (state : IsAt A C n image c h e)
    (h' : Results) (kept : KeepsRows h h') (now : HasNow A C n image c h')
    (next : Results) (next_units : next.units ≡ h'.units) (next_rows : next.rows ≡ h'.rows)
    (first : (x : ℕ) → result_ago next x 1 ≡ result_now h' x)
    (later : (x d : ℕ) → d < h'.rows → result_ago next x (d + 1) ≡ result_ago h' x d)
    (f g : Effects)
    (all : BeginsAll image (λ x. begins A C n image x c) (length A.units) e f)
    (grown : f.outside ≤ e.outside + length A.units)
    (memory : g.memory ≡ applied f.memory f.pending.items)
    (pending : g.pending.items ≡ [])
    (capacity : vec_capacity f.pending ≤ vec_capacity g.pending)
    (streams : g.streams.items ≡ f.streams.items)
    (outside : g.outside ≡ f.outside)
  where
    results_next : (x d : ℕ) → x < length A.units → 0 < d → d < next.rows → (d ≤ suc c → is_on (fields C x ((suc c - d) % C.ii)).op ≡ true) →
        result_ago next x d ≡ (ago (at_cycle A C n image (suc c)).past d).results x
    unfolding at_cycle
    results_next x zero l p k on = absurd (omega arith)
    results_next x (suc zero) l p k on =
        let z : suc c - 1 ≡ c = omega arith in
        first x ∙ now x l (subst (λ (m : ℕ). is_on (fields C x (m % C.ii)).op ≡ true) z (on (omega arith)))
    results_next x (suc (suc d)) l p k on =
        let er = kept.rows in
        let eu = kept.units in
        let units_are = state.units in
        let z : suc c - suc (suc d) ≡ c - suc d = omega arith in
        ap (result_ago next x) (let e : suc (suc d) ≡ suc d + 1 = omega arith in e) ∙ later x (suc d) (omega arith)
        ∙ kept.earlier x (suc d) (omega arith) (omega arith) (omega arith)
        ∙ state.results x (suc d) l (omega arith) (omega arith) (λ m. subst (λ (y : ℕ). is_on (fields C x (y % C.ii)).op ≡ true) z (on (omega arith)))
        ∙ sym (ap (λ w. w.results x) (ago_more (record { words = words_in A C n image c (at_cycle A C n image c).past; results = λ y. result_of image (at_cycle A C n image c).memory (begins A C n image y c) }) (at_cycle A C n image c).past d))

    after : IsAt A C n image (suc c) next g
    unfolding at_cycle
    after =
        let works : ℕ → Option Work = λ x. begins A C n image x c in
        let s = state.effects in
        record {
          units = next_units ∙ kept.units ∙ state.units;
          results = results_next;
          memory = memory_next works (length A.units) image e f g s.pending s.ports all memory streams outside ∙ ap (λ (m : List ℕ). memory_by works m (length A.units)) state.memory;
          streams = λ port l. stream_next works (length A.units) image e f g s.pending s.ports all memory streams outside port ∙ ap (λ (ws : List ℕ). ws ++ sent_by_units works port (length A.units)) (state.streams port l);
          outside = outside_next works (length A.units) image e f g s.pending s.ports all memory streams outside
              ∙ ap (λ (m : List ℕ). e.outside + missed_by_units works (length m) (length A.units)) state.memory
              ∙ ap (λ (z : ℕ). z + missed_by_units works (length (at_cycle A C n image c).memory) (length A.units)) state.outside;
          effects = (let z : c + 1 ≡ suc c = omega arith in subst (λ (m : ℕ). AreEffects A C n m g) z
              (effects_next A C n c works (are_begun A C n image c) good e s image f g all memory pending capacity streams outside grown units));
        }

    pub cycle_after : IsAt A C n image (c + 1) next g
    cycle_after = let z : suc c ≡ c + 1 = omega arith in subst (λ (m : ℕ). IsAt A C n image m next g) z after
