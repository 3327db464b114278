-- The arguments of a unit, one by one.
use Rattle.std.proofs.Common.{◌≡◌, ℕ, ◌<◌, ◌≤◌, arith}
use Rattle.std.specs.Prelude.{slice_index}
use Rattle.std.specs.List.{range_with_len}
use Rattle.std.proofs.lemmas.List.{get_or_past, length-map}
use Rattle.std.proofs.lemmas.List.FromFn.{get_or-map-range_with_len, length-range_with_len}
use Rattle.cg_model.specs.declared.config.UnitFields.{UnitFields}
use Rattle.cg_model.specs.Config.{arg}
use Rattle.cg_model.specs.Machine.{argument, arguments}

pub argument_at : (f : UnitFields) (turn : ℕ) (on_port : ℕ → ℕ) (k p : ℕ) → p < k → slice_index (arguments f turn on_port k) p ≡ argument f turn (on_port p) (arg f p)
argument_at f turn on_port k p l = get_or-map-range_with_len (λ q. argument f turn (on_port q) (arg f q)) 0 k p p 0 l (omega arith)

pub argument_past : (f : UnitFields) (turn : ℕ) (on_port : ℕ → ℕ) (k p : ℕ) → k ≤ p → slice_index (arguments f turn on_port k) p ≡ 0
argument_past f turn on_port k p l =
    get_or_past (arguments f turn on_port k) p 0 (omega (arith, length-map (range_with_len 0 k) (λ q. argument f turn (on_port q) (arg f q)), length-range_with_len 0 k))
