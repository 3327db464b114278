-- What the code of a step does is the node's work.
use Rattle.std.proofs.Common.{◌≡◌, ℕ, ◌+◌, List, [], ◌∷◌, ◌++◌, length, map, ap, ◌∙◌, refl, subst}
use Rattle.cg_turns.specs.Watched.{IsReached}
use Rattle.cg_turns.proofs.Pairs.{reached-three}
use Rattle.std.specs.Prelude.{Option, slice_index, slice_index_or, slice_set}
use Rattle.cg_model.specs.declared.kernel.Node.{Node}
use Rattle.cg_model.specs.Work.{Image, value, stored, sent, missed}
use Rattle.cg_pad.proofs.Args.{three, on, value-three, stored-three, sent-three, missed-three}
use Rattle.cg_turns.specs.Window.{operand_in}
use Rattle.cg_turns.specs.Step.{DoesWork}
use Rattle.cg_turns.specs.declared.frame.Frame.{Frame}

-- the operands of a node, out of the window
abbrev pub operands_of : Node → ℕ → ℕ → ℕ → Frame → List ℕ
operands_of N m i row f = map (operand_in f.window.items row m i) N.operands

module _ (N : Node) (m i row : ℕ) (f : Frame) (a b c : ℕ)
    (ea : a ≡ slice_index (operands_of N m i row f) 0)
    (eb : b ≡ slice_index (operands_of N m i row f) 1)
    (ec : c ≡ slice_index (operands_of N m i row f) 2)
  where
    args_are : a ∷ b ∷ c ∷ [] ≡ three (operands_of N m i row f)
    args_are = rw (ea, eb, ec) refl

    pub worked : (image : Image) (at x y : ℕ) (g : Frame) →
        x ≡ value image f.memory (on N.op N.port i (a ∷ b ∷ c ∷ [])) →
        y ≡ missed (length f.memory) (on N.op N.port i (a ∷ b ∷ c ∷ [])) →
        g.memory ≡ stored f.memory (on N.op N.port i (a ∷ b ∷ c ∷ [])) →
        length g.streams.items ≡ length f.streams.items →
        ((port : ℕ) → slice_index_or g.streams.items port [] ≡ slice_index_or f.streams.items port [] ++ sent port (on N.op N.port i (a ∷ b ∷ c ∷ []))) →
        g.outside ≡ f.outside + y →
        g.window.items ≡ slice_set f.window.items at x →
        DoesWork image at (on N.op N.port i (operands_of N m i row f)) f g
    worked image at x y g ex ey em el es eo ew =
        let args = operands_of N m i row f in
        record {
          memory = em ∙ ap (λ z. stored f.memory (on N.op N.port i z)) args_are ∙ stored-three f.memory N.op N.port i args;
          ports = el;
          streams = λ port. es port ∙ ap (λ z. slice_index_or f.streams.items port [] ++ sent port (on N.op N.port i z)) args_are ∙ ap (λ z. slice_index_or f.streams.items port [] ++ z) (sent-three port N.op N.port i args);
          outside = eo ∙ ap (λ z. f.outside + z) (ey ∙ ap (λ z. missed (length f.memory) (on N.op N.port i z)) args_are ∙ missed-three (length f.memory) N.op N.port i args);
          window = ew ∙ ap (λ z. slice_set f.window.items at z) (ex ∙ ap (λ z. value image f.memory (on N.op N.port i z)) args_are ∙ value-three image f.memory N.op N.port i args);
        }

    pub reached_worked : (n : ℕ) (o : Option ℕ) → IsReached n (on N.op N.port i (a ∷ b ∷ c ∷ [])) o → IsReached n (on N.op N.port i (operands_of N m i row f)) o
    reached_worked n o r = reached-three n N.op N.port i (operands_of N m i row f) o (subst (λ z. IsReached n (on N.op N.port i z) o) args_are r)
