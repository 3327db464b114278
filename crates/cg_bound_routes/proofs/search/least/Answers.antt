use Rattle.std.proofs.Common.{◌≡◌, ◌<◌, length, sym, ap, ◌∙◌, arith}
use Rattle.std.proofs.lemmas.Bool.{false≢true}
use Rattle.cg_model.specs.Array.{Arch}
use Rattle.cg_bound_routes.specs.Search.{lacking}
use Rattle.cg_bound_routes.proofs.Marks.{below_same, is_marked, from_marked, read_mark}
use Rattle.cg_bound_routes.proofs.Searches.{begun, begun_unmet, begun_few, open_front, settled, fewer, small_level, still_unmet, unmet_same, found_at, found_nowhere}
use Rattle.cg_bound_routes.proofs.search.least.Goals as goal

pub marks-requires : goal.marks-requires
marks-requires c =
    let A : Arch = c.args.arch.now in
    let e : length c.resources-count.result.now ≡ length A.resources = ap length c.resources-count.ensures.resources in
    below_same (length A.resources) (length c.resources-count.result.now) c.args.from.now (sym e) c.requires.from

pub loop-resource-init : goal.loop-resource-init
loop-resource-init c =
    let A : Arch = c.args.arch.now in
    let count = length c.resources-count.result.now in
    let e : length c.resources-count.result.now ≡ length A.resources = ap length c.resources-count.ensures.resources in
    let s = c.in_ok-search.search in
    let is = c.in_ok-search.ensures in
    record {
      search = begun A c.args.ends.now count s e c.requires.ends is;
      unmet = λ q h. begun_unmet c.args.ends.now count s is q;
      few = let f = begun_few c.args.ends.now count s is in omega arith;
    }

pub take-requires-clause-front : goal.take-requires-clause-front
take-requires-clause-front c = λ r h. let a = (c.loop-resource.invariant.search.fronts r h).0 in let b = c.loop-resource.invariant.search.each in omega arith

pub take-requires-clause-later : goal.take-requires-clause-later
take-requires-clause-later c = λ r h. let a = (c.loop-resource.invariant.search.laters r h).0 in let b = c.loop-resource.invariant.search.each in omega arith

pub index-requires : goal.index-requires
index-requires c =
    let A : Arch = c.args.arch.now in
    let s = c.in-Some.ensures.kept A c.args.ends.now c.loop-resource.invariant.search in
    let known = (s.fronts c.in-Some.resource (open_front c.in-Some.resource c.take.new.self c.in-Some.ensures.some)).0 in
    let e : length c.resources-count.result.now ≡ length A.resources = ap length c.resources-count.ensures.resources in
    let each = c.in_ok-marks.ensures.each in
    let long = c.in_ok-marks.marks.ok.0 in
    omega arith

pub settle-requires-clause-known : goal.settle-requires-clause-known
settle-requires-clause-known c =
    let A : Arch = c.args.arch.now in
    let s = c.in-Some.ensures.kept A c.args.ends.now c.loop-resource.invariant.search in
    (s.fronts c.in-Some.resource (open_front c.in-Some.resource c.take.new.self c.in-Some.ensures.some)).0

pub returns-then-index : goal.returns-then-index
returns-then-index c =
    let A : Arch = c.args.arch.now in
    let s = c.in-Some.ensures.kept A c.args.ends.now c.loop-resource.invariant.search in
    let m = c.in_ok-marks.ensures in
    let known : c.in-Some.resource < length A.resources = (s.fronts c.in-Some.resource (open_front c.in-Some.resource c.take.new.self c.in-Some.ensures.some)).0 in
    let e : length c.resources-count.result.now ≡ length A.resources = ap length c.resources-count.ensures.resources in
    let within : c.in-Some.resource < length c.in_ok-marks.marks.items = omega (arith, m.each) in
    found_at A c.args.ends.now c.args.from.now c.in-Some.resource c.take.new.self c.in-Some.ensures.some s
    (unmet_same c.args.from.now c.loop-resource.search c.take.new.self c.in-Some.ensures.numbers c.loop-resource.invariant.unmet)
    (from_marked c.args.from.now (length c.resources-count.result.now) c.in_ok-marks.marks.items m c.in-Some.resource (sym (read_mark c.in_ok-marks.marks.items c.in-Some.resource c.index.result.now within c.index.ensures) ∙ c.if-index.true))
    (small_level A c.resources-count.ensures.valid c.args.ends.now c.in-Some.resource c.take.new.self c.in-Some.ensures.some s c.loop-resource.search.level c.in-Some.ensures.level
    (let same : lacking c.take.new.self.numbers.items ≡ lacking c.loop-resource.search.numbers.items = ap lacking c.in-Some.ensures.numbers in let few = c.loop-resource.invariant.few in omega arith))

pub loop-resource-smaller : goal.loop-resource-smaller
loop-resource-smaller c =
    let A : Arch = c.args.arch.now in
    let s = c.in-Some.ensures.kept A c.args.ends.now c.loop-resource.invariant.search in
    let f = fewer A c.resources-count.ensures.valid c.args.ends.now c.in-Some.resource c.take.new.self c.in-Some.ensures.some s c.settle.new.self c.in_ok-settle.ensures in
    let same : lacking c.take.new.self.numbers.items ≡ lacking c.loop-resource.search.numbers.items = ap lacking c.in-Some.ensures.numbers in
    let less : lacking c.settle.new.self.numbers.items < lacking c.loop-resource.search.numbers.items = omega arith in
    less

pub loop-resource-preserved : goal.loop-resource-preserved
loop-resource-preserved c =
    let A : Arch = c.args.arch.now in
    let r = c.in-Some.resource in
    let t = c.take.new.self in
    let s = c.in-Some.ensures.kept A c.args.ends.now c.loop-resource.invariant.search in
    let m = c.in_ok-marks.ensures in
    let known : c.in-Some.resource < length A.resources = (s.fronts c.in-Some.resource (open_front c.in-Some.resource c.take.new.self c.in-Some.ensures.some)).0 in
    let e : length c.resources-count.result.now ≡ length A.resources = ap length c.resources-count.ensures.resources in
    let within : c.in-Some.resource < length c.in_ok-marks.marks.items = omega (arith, m.each) in
    let f = fewer A c.resources-count.ensures.valid c.args.ends.now r t c.in-Some.ensures.some s c.settle.new.self c.in_ok-settle.ensures in
    record {
      search = settled A c.resources-count.ensures.valid c.args.ends.now r t c.in-Some.ensures.some s c.settle.new.self c.in_ok-settle.ensures;
      unmet = still_unmet A c.resources-count.ensures.valid c.args.ends.now r t c.in-Some.ensures.some s c.args.from.now c.settle.new.self c.in_ok-settle.ensures
          (unmet_same c.args.from.now c.loop-resource.search t c.in-Some.ensures.numbers c.loop-resource.invariant.unmet)
          (λ h. let is = is_marked c.args.from.now (length c.resources-count.result.now) c.in_ok-marks.marks.items m r h in false≢true (sym c.if-index.false ∙ read_mark c.in_ok-marks.marks.items r c.index.result.now within c.index.ensures ∙ is));
      few = let same : lacking t.numbers.items ≡ lacking c.loop-resource.search.numbers.items = ap lacking c.in-Some.ensures.numbers in let up = c.in-Some.ensures.level in let few = c.loop-resource.invariant.few in let e = c.in_ok-settle.ensures.level in omega arith;
    }

pub returns : goal.returns
returns c =
    let A : Arch = c.args.arch.now in
    let s = c.in_default.ensures.kept A c.args.ends.now c.loop-resource.invariant.search in
    found_nowhere A c.args.ends.now c.args.from.now c.take.new.self c.in_default.ensures.none s
    (unmet_same c.args.from.now c.loop-resource.search c.take.new.self c.in_default.ensures.numbers c.loop-resource.invariant.unmet)
