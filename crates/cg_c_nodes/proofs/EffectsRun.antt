-- The turns do the effects of the draft, where the values have their words.
use Rattle.std.proofs.Common.{ℕ, List, sym, ap, ◌∙◌}
use Rattle.cg_model.specs.Kernel.{IsKernel}
use Rattle.cg_model.specs.Turns.{turns}
use Rattle.cg_model.specs.Work.{Image}
use Rattle.cg_c_forms.specs.Forms.{behind}
use Rattle.cg_c_order.specs.declared.access.Access.{Access}
use Rattle.cg_c_turn.specs.Draft.{Draft}
use Rattle.cg_c_turn.specs.Leads.{Leads}
use Rattle.cg_c_turn.specs.Stands.{IsFormed, Runs}
use Rattle.cg_c_turn.specs.Turn.{HasArrays}
use Rattle.cg_c_nodes.specs.Placed.{AreListed, IsPlaced, Placing}
use Rattle.cg_c_nodes.specs.Running.{ValuesRun}
use Rattle.cg_c_nodes.specs.Beside.{DoesTurn, RunsBeside, Whatever, outcome}
use Rattle.cg_c_nodes.proofs.EffectsInside.{are_inside, none_outside}
use Rattle.cg_c_nodes.proofs.EffectsLoads.{memories_of}
use Rattle.cg_c_nodes.proofs.EffectsNodes.{Setting, fits, in_turn, old_words}
use Rattle.cg_c_nodes.proofs.EffectsWalk.{walked}

turn_runs : (d : Draft) (count : ℕ) (P : Placing) (image : Image) (t : ℕ) (s : Setting d count P image (memories_of d P image) t) → Runs d (s.run.moment t) (old_words s)
turn_runs d count P image t s = record {
  fits = s.placed.renames.fits (s.run.moment t) (s.run.word t) (in_turn s) (fits s);
  first = λ start number touched. ap (λ i. (s.run.moment i).carried number) (sym (s.run.turn t) ∙ start) ∙ s.run.begins number;
}

turn_does : (d : Draft) (count : ℕ) (P : Placing) (image : Image) (accesses : List Access) (t : ℕ) (s : Setting d count P image (memories_of d P image) t) → AreListed d P accesses →
    HasArrays d.arrays (turns P.kernel t image).memory → Leads d.arrays (old_words s) d.effects (outcome P.kernel image t) Whatever → DoesTurn d P.kernel image accesses t (old_words s)
turn_does d count P image accesses t s listed has leads =
    let done = walked s leads in
    let inside = are_inside s accesses listed done.inside in
    record { leads = done.leads; outside = none_outside s accesses has inside; inside = inside }

pub effects_run : (d : Draft) (count : ℕ) (P : Placing) (accesses : List Access) (image : Image) → IsFormed d → IsPlaced d count P → AreListed d P accesses → IsKernel P.kernel →
    ValuesRun d P image (memories_of d P image) count → RunsBeside d P.kernel image accesses count
effects_run d count P accesses image formed placed listed good run = record {
  moment = run.moment;
  words = λ t. behind (run.word t) P.map;
  turn = run.turn;
  streams = run.streams;
  begins = run.begins;
  next = run.next;
  runs = λ t below. turn_runs d count P image t (record { formed = formed; placed = placed; good = good; run = run; below = below });
  does = λ t below has leads. turn_does d count P image accesses t (record { formed = formed; placed = placed; good = good; run = run; below = below }) listed has leads;
}
