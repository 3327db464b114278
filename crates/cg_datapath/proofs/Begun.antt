-- What a unit begins.
use Rattle.std.proofs.Common.{◌≡◌, ℕ, ◌+◌, ◌-◌, ◌<◌, ◌≤◌, List, [], ◌∷◌, ◌++◌, length, Option, Some, None, refl, sym, ap, subst, ◌∙◌, arith, ◌⊎◌, ⊎_elim, append-nil, add-zero}
use Rattle.std.specs.Prelude.{slice_index, slice_set}
use Rattle.std.proofs.lemmas.Bool.{le-leb, lt-leb, lt-ltb, le-ltb}
use Rattle.cg_word.specs.declared.op.Op.{Op}
use Rattle.cg_word.specs.Word.{arity}
use Rattle.cg_model.specs.declared.config.UnitFields.{UnitFields}
use Rattle.cg_model.specs.Work.{Image, Work}
use Rattle.cg_model.specs.Machine.{arguments, begun, begun_by}
use Rattle.cg_config.specs.declared.head.UnitHead.{UnitHead}
use Rattle.cg_config.specs.Told.{head_of}
use Rattle.cg_pad.proofs.Args.{three, on, value-three, stored-three, sent-three, missed-three}
use Rattle.cg_datapath.specs.Reserved.{stream}
use Rattle.cg_datapath.specs.Effects.{applied, Begins}
use Rattle.cg_datapath.specs.declared.effects.Store.{Store}
use Rattle.cg_datapath.specs.declared.effects.Effects.{Effects}

-- a unit with that head at work on its arguments
abbrev pub work_by : UnitHead → UnitFields → ℕ → (ℕ → ℕ) → Op → Work
work_by h f round on_port op = on op h.port (round - h.stage) (arguments f (round - h.stage) on_port (arity op))

module _ (f : UnitFields) (n round : ℕ) (on_port : ℕ → ℕ) (op : Op) where
  active_is : f.op ≡ Some op → f.stage ≤ round → round < f.stage + n → begun f n round on_port ≡ Some (work_by (head_of f) f round on_port op)
  active_is e l k = ap (begun_by f n round on_port) e ∙ rw (le-leb f.stage round l, lt-ltb round (f.stage + n) k) refl

  pub begun_is : (h : UnitHead) → h ≡ head_of f → h.op ≡ Some op → h.stage ≤ round → round < h.stage + n → begun f n round on_port ≡ Some (work_by h f round on_port op)
  begun_is h same =
      subst (λ (g : UnitHead). g.op ≡ Some op → g.stage ≤ round → round < g.stage + n → begun f n round on_port ≡ Some (work_by g f round on_port op)) (sym same) active_is

  early_is : f.op ≡ Some op → round < f.stage → begun f n round on_port ≡ None
  early_is e l = ap (begun_by f n round on_port) e ∙ rw (lt-leb f.stage round l) refl

  late_is : f.op ≡ Some op → f.stage + n ≤ round → begun f n round on_port ≡ None
  late_is e l = ap (begun_by f n round on_port) e ∙ rw (le-leb f.stage round (omega arith), le-ltb round (f.stage + n) l) refl

  -- nothing before its first round, nor from its last one on
  pub not_begun : (h : UnitHead) → h ≡ head_of f → h.op ≡ Some op → (round < h.stage) ⊎ (h.stage + n ≤ round) → begun f n round on_port ≡ None
  not_begun h same =
      subst (λ (g : UnitHead). g.op ≡ Some op → (round < g.stage) ⊎ (g.stage + n ≤ round) → begun f n round on_port ≡ None) (sym same) (λ e. ⊎_elim (early_is e) (late_is e))

pub applied-push : (memory : List ℕ) (ss : List Store) (s : Store) → applied memory (ss ++ s ∷ []) ≡ slice_set (applied memory ss) s.address s.value
applied-push memory [] s = refl
applied-push memory (t ∷ ss) s = applied-push (slice_set memory t.address t.value) ss s

-- the same, of what is equal to that work
pub begins_by : (image : Image) (o p : Option Work) (e g : Effects) (x : ℕ) → o ≡ p → Begins image p e g x → Begins image o e g x
begins_by image o p e g x same h = subst (λ (z : Option Work). Begins image z e g x) (sym same) h

pub begins_nothing : (image : Image) (e : Effects) → Begins image None e e 0
begins_nothing image e =
    record {
      result_is = refl;
      memory = refl;
      pending = λ m. refl;
      pending_few = omega arith;
      pending_room = omega arith;
      streams_long = refl;
      streams = λ p. sym (append-nil (stream e.streams.items p).words);
      room = λ p. omega arith;
      outside = sym (add-zero e.outside);
    }

-- the code's pieces, on the first three arguments
module _ (op : Op) (port turn : ℕ) (args : List ℕ) (a b c : ℕ) (ea : a ≡ slice_index args 0) (eb : b ≡ slice_index args 1) (ec : c ≡ slice_index args 2) where
  args_are : a ∷ b ∷ c ∷ [] ≡ three args
  args_are = rw (ea, eb, ec) refl

  -- a work on the first three arguments does what the work on all does
  pub begins_three : (image : Image) (e g : Effects) (x : ℕ) → Begins image (Some (on op port turn (a ∷ b ∷ c ∷ []))) e g x → Begins image (Some (on op port turn args)) e g x
  begins_three image e g x all =
      let by : Begins image (Some (on op port turn (three args))) e g x = subst (λ (z : List ℕ). Begins image (Some (on op port turn z)) e g x) args_are all in
      record {
        result_is = by.result_is ∙ value-three image e.memory op port turn args;
        memory = by.memory;
        pending = λ m. by.pending m ∙ stored-three (applied m e.pending.items) op port turn args;
        pending_few = by.pending_few;
        pending_room = by.pending_room;
        streams_long = by.streams_long;
        streams = λ p. by.streams p ∙ ap (λ (z : List ℕ). (stream e.streams.items p).words ++ z) (sent-three p op port turn args);
        room = by.room;
        outside = by.outside ∙ ap (λ (z : ℕ). e.outside + z) (missed-three (length e.memory) op port turn args);
      }
