use Rattle.std.proofs.Common.{◌≡◌, ℕ, ◌<◌, eqb, nat_lt, false, length}
use Rattle.std.specs.Prelude.{◌||◌, slice_index_or}
use Rattle.cg_model.specs.Array.{resource}
use Rattle.cg_route.proofs.search.met.Given as goal

abbrev pub invariant-loop-resource : goal.invariant-loop-resource
invariant-loop-resource l =
    record {
      each : length l.met.items ≡ l.resource;
      right : (q : ℕ) → q < l.resource → slice_index_or l.met.items q false ≡ (nat_lt 0 (length (resource l.graph.arch q).drivers) || eqb q l.from);
    }
