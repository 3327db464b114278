use Rattle.std.proofs.Common.{length, get_or, refl, sym, arith}
use Rattle.std.proofs.lemmas.Option.{slice_get-get_or}
use Rattle.cg_model.proofs.Lookups.{Contains-get}
use Rattle.std.proofs.lemmas.Result.{IfOk-weaker}
use Rattle.cg_c_values.specs.Listed.{listed}
use Rattle.cg_c_turn.proofs.Addressing.{places_none, places_begin, places_more, places_end, past_of}
use Rattle.cg_c_turn.proofs.loads.place_of.Goals as goal

pub returns-in-None : goal.returns-in-None
returns-in-None c = IfOk-weaker c.constant.result _ _ (λ r h. places_none (listed c.args.values.now) (listed c.constant.new.self) c.args.dimensions.now c.args.indices.now r c.in-None.ensures.value c.constant.ensures.kept h) c.constant.ensures.means

pub loop-k-init : goal.loop-k-init
loop-k-init c = places_begin (listed c.args.values.now) c.args.dimensions.now c.args.indices.now c.in-Some.first.now (sym c.in-Some.ensures.value) c.requires

pub advanced-requires-clause-index : goal.advanced-requires-clause-index
advanced-requires-clause-index c = omega (arith, c.requires (get_or c.args.indices.now c.loop-k.k 0) (Contains-get c.args.indices.now c.loop-k.k (get_or c.args.indices.now c.loop-k.k 0) (slice_get-get_or c.args.indices.now c.loop-k.k 0 (omega arith))), c.loop-k.invariant.kept.longer)

pub loop-k-preserved : goal.loop-k-preserved
loop-k-preserved c = places_more (listed c.args.values.now) (listed c.loop-k.values) (listed c.advanced.new.values) c.args.dimensions.now c.args.indices.now c.loop-k.k c.loop-k.place (get_or c.args.dimensions.now c.loop-k.k 0) (get_or c.args.indices.now c.loop-k.k 0) c.in_ok-place.place
    c.loop-k.invariant (omega arith) (omega arith) refl refl c.advanced.ensures.kept c.in_ok-place.ensures.means

pub returns : goal.returns
returns c = places_end (listed c.args.values.now) (listed c.loop-k.values) c.args.dimensions.now c.args.indices.now c.loop-k.k c.loop-k.place c.loop-k.invariant (past_of (length c.args.indices.now) (length c.args.dimensions.now) c.loop-k.k (omega arith))
