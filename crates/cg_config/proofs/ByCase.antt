-- What the fields of a unit have for an argument, case by case.
use Rattle.std.proofs.Common.{◌≡◌, ℕ, ◌<◌, ◌≤◌, Bool, true, false, cond, ltb, Option, Some, None, lit≤, refl, ap, ◌∙◌}
use Rattle.std.specs.Prelude.{slice_index}
use Rattle.std.specs.Option.{unwrap_or}
use Rattle.std.proofs.lemmas.Bool.{lt-ltb, le-ltb}
use Rattle.cg_word.specs.declared.op.Op.{Op}
use Rattle.cg_model.specs.declared.config.UnitFields.{UnitFields}
use Rattle.cg_model.specs.Config.{arg}
use Rattle.cg_model.specs.Canonical.{arity_of}
use Rattle.cg_model.specs.Machine.{argument}
use Rattle.cg_config.specs.declared.head.UnitHead.{UnitHead}
use Rattle.cg_config.specs.Told.{told}
use Rattle.cg_word.proofs.Arity.{arity_few}

chosen : (b c : Bool) (x y w : ℕ) → cond b x (cond c y w) ≡ unwrap_or (cond b (Some x) (cond c (Some y) None)) w
chosen true c x y w = refl
chosen false true x y w = refl
chosen false false x y w = refl

-- an argument is what is told, else the word on its port
pub argument_is : (f : UnitFields) (p turn word : ℕ) → argument f turn word (arg f p) ≡ unwrap_or (told f p turn) word
argument_is f p turn word = chosen (arg f p).fixed (ltb turn (arg f p).count) f.immediate (slice_index (arg f p).init turn) word

pub told_fixed : (f : UnitFields) (p turn : ℕ) → (arg f p).fixed ≡ true → told f p turn ≡ Some f.immediate
told_fixed f p turn e =
    ap (λ b. cond b (Some f.immediate) (cond (ltb turn (arg f p).count) (Some (slice_index (arg f p).init turn)) None)) e

not_fixed : (f : UnitFields) (p turn : ℕ) → (arg f p).fixed ≡ false → told f p turn ≡ cond (ltb turn (arg f p).count) (Some (slice_index (arg f p).init turn)) None
not_fixed f p turn e =
    ap (λ b. cond b (Some f.immediate) (cond (ltb turn (arg f p).count) (Some (slice_index (arg f p).init turn)) None)) e

pub told_initial : (f : UnitFields) (p turn : ℕ) → (arg f p).fixed ≡ false → turn < (arg f p).count → told f p turn ≡ Some (slice_index (arg f p).init turn)
told_initial f p turn e l =
    not_fixed f p turn e ∙ ap (λ b. cond b (Some (slice_index (arg f p).init turn)) None) (lt-ltb turn (arg f p).count l)

pub told_none : (f : UnitFields) (p turn : ℕ) → (arg f p).fixed ≡ false → (arg f p).count ≤ turn → told f p turn ≡ None
told_none f p turn e l =
    not_fixed f p turn e ∙ ap (λ b. cond b (Some (slice_index (arg f p).init turn)) None) (le-ltb turn (arg f p).count l)

pub few_arguments : (o : Option Op) → arity_of o ≤ 3
few_arguments None = lit≤ tt
few_arguments (Some op) = arity_few op

pub head_same : (g h : UnitHead) → g.op ≡ h.op → g.stage ≡ h.stage → g.port ≡ h.port → g ≡ h
head_same g h a b c =
    ap (λ (z : Option Op). let x : UnitHead = record { op = z; stage = g.stage; port = g.port } in x) a
    ∙ ap (λ (z : ℕ). let x : UnitHead = record { op = h.op; stage = z; port = g.port } in x) b
    ∙ ap (λ (z : ℕ). let x : UnitHead = record { op = h.op; stage = h.stage; port = z } in x) c
