-- One cycle more of what a run has left.
use Rattle.std.proofs.Common.{◌≡◌, ℕ, suc, ◌+◌, ◌-◌, ◌*◌, ◌/◌, ◌%◌, ◌<◌, ◌≤◌, List, [], ◌++◌, length, replicate, Option, refl, sym, ap, ◌∙◌, subst, arith, ⊎_elim}
use Rattle.std.specs.Prelude.{slice_index, slice_index_or, vec_capacity}
use Rattle.std.proofs.lemmas.Bool.{cases_lt}
use Rattle.std.proofs.lemmas.List.{get_or-map, get_or_past, get_or-replicate, length-replicate, length-map, ext_get_or}
use Rattle.std.proofs.lemmas.Nat.{mod_below}
use Rattle.cg_model.specs.Array.{Arch}
use Rattle.cg_model.specs.Config.{Config, fields}
use Rattle.cg_model.specs.Canonical.{IsCanonical}
use Rattle.cg_model.specs.Work.{Image, Work}
use Rattle.cg_model.specs.Machine.{result_of, memory_by, sent_by_units, missed_by_units}
use Rattle.cg_overlap.proofs.Memory.{length-memory_by}
use Rattle.cg_datapath.specs.Reserved.{Reserved, stream, all_words, comings}
use Rattle.cg_datapath.specs.Effects.{applied, HasRoomAfter, BeginsAll, HasRow}
use Rattle.cg_datapath.specs.Terminals.{on_ports, terminals, works_on}
use Rattle.cg_datapath.specs.State.{IsFresh, AreEffects}
use Rattle.cg_datapath.specs.declared.terminals.Terminals.{Terminals}
use Rattle.cg_datapath.specs.declared.effects.Effects.{Effects}
use Rattle.cg_datapath.specs.declared.effects.Store.{Store}
use Rattle.cg_datapath.proofs.Marked.{room_of}
use Rattle.cg_datapath.proofs.Slots.{row_now, row_apart}
use Rattle.cg_datapath.proofs.Rooms.{AreBegun, room_left, few_next, stream_few}

-- the words of a stream, among those of all
pub words_at : (ss : List Reserved) (port : ℕ) → port < length ss → slice_index_or (all_words ss) port [] ≡ (stream ss port).words
words_at ss port l = get_or-map (λ (r : Reserved). r.words) ss port (record { words = []; room = 0 }) [] l

pub words_long : (ss : List Reserved) → length (all_words ss) ≡ length ss
words_long ss = length-map ss (λ (r : Reserved). r.words)

pub zeros : (m i : ℕ) → slice_index (replicate m 0) i ≡ 0
zeros m i = ⊎_elim (λ l. get_or-replicate m i 0 0 l) (λ l. get_or_past (replicate m 0) i 0 (omega (arith, length-replicate {A = ℕ} m 0))) (cases_lt i m)

-- the results of the cycle, and those of the three before it
module _ (image : Image) (memory : List ℕ) (works : ℕ → Option Work) (c n : ℕ) (old new : List ℕ) (row : HasRow image memory works (c % 4) n old new) where
  pub results_next : (x : ℕ) → x < n → slice_index new (4 * x + (c + 1 + 4 - 1) % 4) ≡ result_of image memory (works x)
  results_next x l = let e : c + 1 ≡ suc c = omega arith in ap (λ (z : ℕ). slice_index new (4 * x + (z + 4 - 1) % 4)) e ∙ ap (λ (z : ℕ). slice_index new (4 * x + z)) (row_now c) ∙ row.here x l

  pub earlier_next : (x d : ℕ) → 0 < d → d < 4 → slice_index new (4 * x + (c + 1 + 4 - (d + 1)) % 4) ≡ slice_index old (4 * x + (c + 4 - d) % 4)
  earlier_next x d low high =
      let e : c + 1 + 4 - (d + 1) ≡ c + 4 - d = omega arith in
      ap (λ (z : ℕ). slice_index new (4 * x + z % 4)) e
      ∙ row.there x ((c + 4 - d) % 4) (omega arith) (row_apart c d low (omega arith))

-- what the works of m units leave once their stores took effect
module _ (works : ℕ → Option Work) (m : ℕ) (image : Image) (e f g : Effects)
    (none : e.pending.items ≡ [])
    (ports : length e.streams.items ≡ 16)
    (all : BeginsAll image works m e f)
    (memory : g.memory ≡ applied f.memory f.pending.items)
    (streams : g.streams.items ≡ f.streams.items)
    (outside : g.outside ≡ f.outside)
  where
    pub memory_next : g.memory ≡ memory_by works e.memory m
    memory_next = memory ∙ all.pending f.memory ∙ ap (λ (q : List Store). memory_by works (applied f.memory q) m) none ∙ ap (λ (z : List ℕ). memory_by works z m) all.memory

    pub ports_next : length g.streams.items ≡ 16
    ports_next = ap length streams ∙ all.streams_long ∙ ports

    pub stream_next : (port : ℕ) → (stream g.streams.items port).words ≡ (stream e.streams.items port).words ++ sent_by_units works port m
    stream_next port = ap (λ (xs : List Reserved). (stream xs port).words) streams ∙ all.streams port

    pub words_next : (port : ℕ) → port < 16 → slice_index_or (all_words g.streams.items) port [] ≡ slice_index_or (all_words e.streams.items) port [] ++ sent_by_units works port m
    words_next port l =
        let long = ports_next in
        words_at g.streams.items port (omega arith) ∙ stream_next port ∙ ap (λ (ws : List ℕ). ws ++ sent_by_units works port m) (sym (words_at e.streams.items port (omega arith)))

    pub outside_next : g.outside ≡ e.outside + missed_by_units works (length e.memory) m
    outside_next = outside ∙ all.outside

module _ (A : Arch) (C : Config) (n c : ℕ) (works : ℕ → Option Work) (are : AreBegun C n c works) (good : IsCanonical A C) (e : Effects) (s : AreEffects A C n c e) where
  pub has_room : (x : ℕ) → x < length A.units → HasRoomAfter e.streams.items works x (fields C x (c % C.ii)) n (c / C.ii)
  has_room x lx out from to =
      let slot = c % C.ii in
      let low : slot < C.ii = mod_below c C.ii good.interval in
      let q = (fields C x slot).port in
      let had = (stream e.streams.items q).words in
      let known : q < 16 = (good.fielded x slot lx low).ports in
      let many : length e.streams.items ≡ 16 = s.ports in
      let left : length (had ++ sent_by_units works q x) < n = room_left A C n c works are good x slot lx low out had (s.sent x slot lx low out) refl from to in
      let room : n ≤ (stream e.streams.items q).room = s.room x slot lx low out in
      (omega arith, omega arith)

  module _ (image : Image) (f g : Effects) (all : BeginsAll image works (length A.units) e f)
      (memory : g.memory ≡ applied f.memory f.pending.items)
      (pending : g.pending.items ≡ [])
      (capacity : vec_capacity f.pending ≤ vec_capacity g.pending)
      (streams : g.streams.items ≡ f.streams.items)
      (outside : g.outside ≡ f.outside)
    where
      pub effects_next : f.outside ≤ e.outside + length A.units → length A.units ≤ 1024 → AreEffects A C n (c + 1) g
      effects_next grown units =
          record {
            fits = (let a = ap length (memory_next works (length A.units) image e f g s.pending s.ports all memory streams outside) in let b = length-memory_by works e.memory (length A.units) in let h = s.fits in omega arith);
            ports = ports_next works (length A.units) image e f g s.pending s.ports all memory streams outside;
            sent = λ x slot lx ls out.
                let q = (fields C x slot).port in
                let z : suc c ≡ c + 1 = omega arith in
                subst (λ (m : ℕ). length (stream g.streams.items q).words ≤ comings C.ii slot m - (fields C x slot).stage) z
                (subst (λ (ws : List ℕ). length ws ≤ comings C.ii slot (suc c) - (fields C x slot).stage) (sym (stream_next works (length A.units) image e f g s.pending s.ports all memory streams outside q))
                (few_next A C n c works are good x slot lx ls out (stream e.streams.items q).words (s.sent x slot lx ls out)));
            few_words = λ port. subst (λ (ws : List ℕ). length ws ≤ n) (sym (stream_next works (length A.units) image e f g s.pending s.ports all memory streams outside port)) (stream_few A C n c works are good (λ p. (stream e.streams.items p).words) s.sent port (s.few_words port));
            room = λ x at lx la o.
                let q = (fields C x at).port in
                let a : n ≤ (stream e.streams.items q).room = s.room x at lx la o in
                let b : (stream e.streams.items q).room ≤ (stream f.streams.items q).room = all.room q in
                let d : (stream g.streams.items q).room ≡ (stream f.streams.items q).room = ap (λ (xs : List Reserved). (stream xs q).room) streams in
                omega arith;
            pending = pending;
            pending_room = (let a = s.pending_room in let b = all.pending_room in omega arith);
            few = (let h = s.few in omega arith);
          }

-- what the units begin on the words is begun from their fields
pub begun_on : (C : Config) (us : List Terminals) (n c : ℕ) (words : List ℕ) → AreBegun C n c (works_on C us n (c % C.ii) (c / C.ii) words)
begun_on C us n c words x = (on_ports (terminals us x).ports words, refl)

-- the same, of what is equal to those numbers and lists
module _ (C : Config) (us us' : List Terminals) (n at at' round round' : ℕ) (words : List ℕ) (eu : us ≡ us') (ea : at ≡ at') (er : round ≡ round') where
  pub works_by : works_on C us n at round words ≡ works_on C us' n at' round' words
  works_by = ap (λ z. works_on C z n at round words) eu ∙ ap (λ z. works_on C us' n z round words) ea ∙ ap (λ z. works_on C us' n at' z words) er

  pub room_by : (ss : List Reserved) (x : ℕ) → HasRoomAfter ss (works_on C us' n at' round' words) x (fields C x at') n round' →
      HasRoomAfter ss (works_on C us n at round words) x (fields C x at) n round
  room_by ss x h =
      subst (λ (works : ℕ → Option Work). HasRoomAfter ss works x (fields C x at) n round) (sym works_by)
      (subst (λ (z : ℕ). HasRoomAfter ss (works_on C us' n at' round' words) x (fields C x z) n round) (sym ea)
      (subst (λ (z : ℕ). HasRoomAfter ss (works_on C us' n at' round' words) x (fields C x at') n z) (sym er) h))

  pub all_by : (image : Image) (m m' : ℕ) (e f : Effects) → m ≡ m' → BeginsAll image (works_on C us n at round words) m e f → BeginsAll image (works_on C us' n at' round' words) m' e f
  all_by image m m' e f em h =
      subst (λ (works : ℕ → Option Work). BeginsAll image works m' e f) works_by (subst (λ (z : ℕ). BeginsAll image (works_on C us n at round words) z e f) em h)

  pub row_by : (image : Image) (memory : List ℕ) (row row' m m' : ℕ) (old old' new new' : List ℕ) → row ≡ row' → m ≡ m' → old ≡ old' → new ≡ new' →
      HasRow image memory (works_on C us n at round words) row m old new → HasRow image memory (works_on C us' n at' round' words) row' m' old' new'
  row_by image memory row row' m m' old old' new new' ew em eo en h =
      subst (λ (works : ℕ → Option Work). HasRow image memory works row' m' old' new') works_by
      (subst (λ (z : ℕ). HasRow image memory (works_on C us n at round words) z m' old' new') ew
      (subst (λ (z : ℕ). HasRow image memory (works_on C us n at round words) row z old' new') em
      (subst (λ (z : List ℕ). HasRow image memory (works_on C us n at round words) row m z new') eo
      (subst (λ (z : List ℕ). HasRow image memory (works_on C us n at round words) row m old z) en h))))

-- before the first cycle
module _ (A : Arch) (C : Config) (n : ℕ) (image : Image) (e : Effects) (fits : length image.memory ≤ A.memory) (fresh : IsFresh A C n image e) where
  pub first_effects : AreEffects A C n 0 e
  first_effects =
      record {
        fits = (let same = ap length fresh.memory in omega arith);
        ports = fresh.ports;
        sent = λ x slot lx ls out. (let none = ap length (fresh.empty (fields C x slot).port) in omega arith);
        few_words = λ port. (let none = ap length (fresh.empty port) in omega arith);
        room = room_of C (length A.units) n e.streams.items fresh.room;
        pending = fresh.pending;
        pending_room = fresh.pending_room;
        few = (let none = fresh.outside in omega arith);
      }

  pub first_words : all_words e.streams.items ≡ replicate 16 []
  first_words =
      let long = words_long e.streams.items in
      let ports = fresh.ports in
      ext_get_or [] (all_words e.streams.items) (replicate 16 []) (long ∙ ports ∙ sym (length-replicate {A = List ℕ} 16 []))
      (λ port l. words_at e.streams.items port (omega arith) ∙ fresh.empty port ∙ sym (get_or-replicate 16 port [] [] (omega arith)))
