-- One cycle more, as contracts see it.
use Rattle.std.proofs.Common.{◌≡◌, ◌+◌, ◌%◌, ◌/◌, ℕ, List, [], length, ◌∙◌, refl}
use Rattle.cg_model.specs.Array.{Arch}
use Rattle.cg_model.specs.Config.{Config}
use Rattle.cg_model.specs.Work.{Image}
use Rattle.cg_datapath.specs.declared.effects.Effects.{Effects}
use Rattle.cg_datapath.specs.declared.terminals.Terminals.{Terminals}
use Rattle.cg_datapath.specs.Terminals.{works_on}
use Rattle.cg_datapath.specs.Course.{Advances}
use Rattle.cg_datapath.specs.Effects.{applied, BeginsAll, HasRow}
use Rattle.cg_datapath.specs.Reserved.{all_words}
use Rattle.cg_datapath.proofs.Next.{memory_next, ports_next, words_next, outside_next, results_next, earlier_next, words_long}

module _ (A : Arch) (C : Config) (n c : ℕ) (us : List Terminals) (words : List ℕ) (image : Image)
    (e : Effects) (pending : e.pending.items ≡ []) (ports : length e.streams.items ≡ 16) (f g : Effects)
    (all : BeginsAll image (works_on C us n (c % C.ii) (c / C.ii) words) (length us) e f)
    (memory : g.memory ≡ applied f.memory f.pending.items)
    (streams : g.streams.items ≡ f.streams.items)
    (outside : g.outside ≡ f.outside)
    (old new : List ℕ)
    (row : HasRow image e.memory (works_on C us n (c % C.ii) (c / C.ii) words) (c % 4) (length us) old new)
  where
    pub advances : Advances
        (record { arch = A; config = C; n = n; image = image; terminals = us; done = c; memory = e.memory; streams = all_words e.streams.items; outside = e.outside; history = old })
        words
        (record { arch = A; config = C; n = n; image = image; terminals = us; done = c + 1; memory = g.memory; streams = all_words g.streams.items; outside = g.outside; history = new })
    advances =
        let works = works_on C us n (c % C.ii) (c / C.ii) words in
        record {
          arch = refl;
          config = refl;
          n = refl;
          image = refl;
          terminals = refl;
          done = refl;
          memory = memory_next works (length us) image e f g pending ports all memory streams outside;
          sixteen = words_long g.streams.items ∙ ports_next works (length us) image e f g pending ports all memory streams outside;
          streams = words_next works (length us) image e f g pending ports all memory streams outside;
          outside = outside_next works (length us) image e f g pending ports all memory streams outside;
          results = results_next image e.memory works c (length us) old new row;
          earlier = earlier_next image e.memory works c (length us) old new row;
        }
