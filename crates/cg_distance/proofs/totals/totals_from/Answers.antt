use Rattle.std.proofs.Common.{◌≡◌, ◌<◌, length, arith, List, [], ◌∷◌, ℕ, subst, sym, ap, ◌∙◌, refl}
use Rattle.std.specs.Prelude.{Option}
use Rattle.std.specs.declared.cmp.Reverse.{Reverse}
use Rattle.std.specs.BinaryHeap.{heap_items}
use Rattle.std.proofs.lemmas.List.{nil_from_length}
use Rattle.cg_model.specs.Kernel.{size, Kernel}
use Rattle.cg_distance.specs.declared.links.Link.{Link}
use Rattle.cg_distance.specs.declared.reach.Reached.{Reached}
use Rattle.cg_distance.specs.Leaving.{leaving}
use Rattle.cg_distance.specs.Found.{Takes, Beyond, Due, IsUnderWay}
use Rattle.cg_distance.specs.Table.{IsRow}
use Rattle.cg_distance.proofs.Found.{none_found}
use Rattle.cg_distance.proofs.UnderWay.{started, permuted, popped_within, gone_on, found, read_list, ends_within, empty_long, written_back}
use Rattle.cg_distance.proofs.totals.totals_from.Goals as goal

pub leave-requires : goal.leave-requires
leave-requires c =
    let K : Kernel = c.args.kernel.now in
    let here : c.args.source < length c.args.lists.now = omega (arith, c.requires.links.long, c.requires.source) in
    let e : c.as_slice.result.now ≡ leaving c.args.lists.now c.args.source = read_list c.args.lists.now c.args.source c.as_slice.result.now c.index-lists-source.result here c.index-lists-source.is c.as_slice.ensures in
    let long : length c.deref_mut.result.now ≡ size K = empty_long K c.nodes.result.now c.in_ok-totals.totals.items c.deref_mut.result.now c.nodes.ensures.nodes c.in_ok-totals.ensures c.deref_mut.ensures.value in
    ends_within K c.nodes.ensures.valid c.args.lists.now c.requires.links c.args.source (length c.deref_mut.result.now) c.as_slice.result.now e long

pub loop-reached-init : goal.loop-reached-init
loop-reached-init c =
    let K : Kernel = c.args.kernel.now in
    let u = c.args.source in
    let empty = c.in_ok-totals.totals.items in
    let totals = c.leave.new.totals in
    let queue = heap_items c.leave.new.queue in
    let here : u < length c.args.lists.now = omega (arith, c.requires.links.long, c.requires.source) in
    let e : c.as_slice.result.now ≡ leaving c.args.lists.now u = read_list c.args.lists.now u c.as_slice.result.now c.index-lists-source.result here c.index-lists-source.is c.as_slice.ensures in
    let long : length empty ≡ size K = empty_long K c.nodes.result.now empty empty c.nodes.ensures.nodes c.in_ok-totals.ensures refl in
    let lent : Takes (Beyond (leaving c.args.lists.now u) 0) c.deref_mut.result.now (heap_items c.new-queue.result) totals queue = subst (λ (list : List Link). Takes (Beyond list 0) c.deref_mut.result.now (heap_items c.new-queue.result) totals queue) e c.in_ok-leave.ensures in
    let first : Takes (Beyond (leaving c.args.lists.now u) 0) empty [] totals queue =
    subst (λ (q : List (Reverse Reached)). Takes (Beyond (leaving c.args.lists.now u) 0) empty q totals queue) c.new-queue.ensures.items
    (subst (λ (xs : List (Option ℕ)). Takes (Beyond (leaving c.args.lists.now u) 0) xs (heap_items c.new-queue.result) totals queue) c.deref_mut.ensures.value lent) in
    let s : IsUnderWay K u totals queue = started K u c.args.lists.now empty totals queue c.requires.links long (λ v. none_found (length c.nodes.result.now) v empty c.in_ok-totals.ensures) first in
    subst (λ (xs : List (Option ℕ)). IsUnderWay K u xs queue) (sym (written_back c.in_ok-totals.totals.len empty totals c.in_ok-totals.totals.ok.0 first.long)) s

pub returns : goal.returns
returns c =
    let K : Kernel = c.args.kernel.now in
    let none : heap_items c.loop-reached.queue ≡ [] = nil_from_length (heap_items c.loop-reached.queue) (sym c.loop-reached.queue.data.ok.0 ∙ c.in_default.ensures.none) in
    let last : IsUnderWay K c.args.source c.loop-reached.totals.items [] = subst (λ (q : List (Reverse Reached)). IsUnderWay K c.args.source c.loop-reached.totals.items q) none c.loop-reached.invariant in
    subst (λ (xs : List (Option ℕ)). IsRow K c.args.source xs) (sym c.new.ensures) (found K c.args.source c.loop-reached.totals.items c.nodes.ensures.valid last)

pub bounds-lists-reached : goal.bounds-lists-reached
bounds-lists-reached c =
    let within = popped_within c.args.kernel.now c.args.source c.in-Some.field-0 c.loop-reached.totals.items (heap_items c.loop-reached.queue) (heap_items c.pop.new.self) c.in-Some.ensures.permutation c.loop-reached.invariant in
    omega (arith, c.requires.links.long)

pub go_on-requires-clause-node : goal.go_on-requires-clause-node
go_on-requires-clause-node c =
    let within = popped_within c.args.kernel.now c.args.source c.in-Some.field-0 c.loop-reached.totals.items (heap_items c.loop-reached.queue) (heap_items c.pop.new.self) c.in-Some.ensures.permutation c.loop-reached.invariant in
    let long = ap (λ (xs : List (Option ℕ)). length xs) c.deref_mut-in-Some.ensures.value ∙ c.loop-reached.invariant.long in
    omega arith

pub go_on-requires-clause-ends : goal.go_on-requires-clause-ends
go_on-requires-clause-ends c =
    let K : Kernel = c.args.kernel.now in
    let u = c.in-Some.field-0.0.node in
    let within : u < size K = popped_within K c.args.source c.in-Some.field-0 c.loop-reached.totals.items (heap_items c.loop-reached.queue) (heap_items c.pop.new.self) c.in-Some.ensures.permutation c.loop-reached.invariant in
    let here : u < length c.args.lists.now = omega (arith, c.requires.links.long) in
    let e : c.as_slice-links.result.now ≡ leaving c.args.lists.now u = read_list c.args.lists.now u c.as_slice-links.result.now c.index-lists-reached.result here c.index-lists-reached.is c.as_slice-links.ensures in
    ends_within K c.nodes.ensures.valid c.args.lists.now c.requires.links u (length c.deref_mut-in-Some.result.now) c.as_slice-links.result.now e
    (ap (λ (xs : List (Option ℕ)). length xs) c.deref_mut-in-Some.ensures.value ∙ c.loop-reached.invariant.long)

pub loop-reached-preserved : goal.loop-reached-preserved
loop-reached-preserved c =
    let K : Kernel = c.args.kernel.now in
    let u = c.in-Some.field-0.0.node in
    let before = c.loop-reached.totals.items in
    let totals = c.go_on.new.totals in
    let queue = heap_items c.go_on.new.queue in
    let within : u < size K = popped_within K c.args.source c.in-Some.field-0 before (heap_items c.loop-reached.queue) (heap_items c.pop.new.self) c.in-Some.ensures.permutation c.loop-reached.invariant in
    let here : u < length c.args.lists.now = omega (arith, c.requires.links.long) in
    let e : c.as_slice-links.result.now ≡ leaving c.args.lists.now u = read_list c.args.lists.now u c.as_slice-links.result.now c.index-lists-reached.result here c.index-lists-reached.is c.as_slice-links.ensures in
    let lent : Takes (Due c.deref_mut-in-Some.result.now (leaving c.args.lists.now u) c.in-Some.field-0.0) c.deref_mut-in-Some.result.now (heap_items c.pop.new.self) totals queue =
    subst (λ (list : List Link). Takes (Due c.deref_mut-in-Some.result.now list c.in-Some.field-0.0) c.deref_mut-in-Some.result.now (heap_items c.pop.new.self) totals queue) e c.in_ok-go_on.ensures in
    let taken : Takes (Due before (leaving c.args.lists.now u) c.in-Some.field-0.0) before (heap_items c.pop.new.self) totals queue =
    subst (λ (xs : List (Option ℕ)). Takes (Due xs (leaving c.args.lists.now u) c.in-Some.field-0.0) xs (heap_items c.pop.new.self) totals queue) c.deref_mut-in-Some.ensures.value lent in
    let out : IsUnderWay K c.args.source before (c.in-Some.field-0 ∷ heap_items c.pop.new.self) =
    permuted K c.args.source before (heap_items c.loop-reached.queue) (c.in-Some.field-0 ∷ heap_items c.pop.new.self) c.in-Some.ensures.permutation c.loop-reached.invariant in
    let s : IsUnderWay K c.args.source totals queue = gone_on K c.args.source c.in-Some.field-0.0 before (heap_items c.pop.new.self) c.args.lists.now totals queue c.requires.links taken out in
    subst (λ (xs : List (Option ℕ)). IsUnderWay K c.args.source xs queue) (sym (written_back c.loop-reached.totals.len before totals c.loop-reached.totals.ok.0 taken.long)) s
