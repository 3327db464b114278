-- One step of a walk, by what it reads.
use Rattle.std.proofs.Common.{◌≡◌, ◌≢◌, ℕ, ◌-◌, ◌<◌, ◌≤◌, List, length, set, sym, ◌∙◌, subst, ap, arith, ⊎_elim, refl, get_or}
use Rattle.std.specs.Prelude.{Contains, slice_index}
use Rattle.std.proofs.lemmas.Bool.{cases_lt}
use Rattle.std.proofs.lemmas.List.{get_or_read}
use Rattle.cg_model.specs.declared.array.Resource.{Resource}
use Rattle.cg_levelize.specs.declared.walk.Mark.{Mark}
use Rattle.cg_levelize.specs.declared.walk.Mark.TheVariants.{New, Open, Done}
use Rattle.cg_levelize.specs.declared.walk.Walk.{Walk}
use Rattle.cg_levelize.specs.Topological.{Passes, IsCombinationalLoop, AreKnown}
use Rattle.cg_levelize.specs.Ring.{IsRing}
use Rattle.cg_levelize.specs.Walk.{mark, taken, inputs, IsWalk, IsLast, AreAlike, IsWaiting, AreDone, Opens, Closes, IsStep}
use Rattle.cg_levelize.proofs.Passing.{place_in, item_in, input_passes, passes_input}
use Rattle.cg_levelize.proofs.Turned.{ring_loop}
use Rattle.cg_levelize.proofs.Walks.{passed_set, walk_opened, opened_keeps, opened_less, walk_closed, closed_keeps, closed_less}

-- ---- the drivers of a resource

-- the drivers that were read are those that it takes
pub inputs_read : (rs : List Resource) (r : ℕ) (read : Resource) (drivers : List ℕ) → r < length rs → read ≡ get_or rs r read → drivers ≡ taken read.kind read.drivers → drivers ≡ inputs rs r
inputs_read rs r read drivers known er ed = ed ∙ ap (λ (z : Resource). taken z.kind z.drivers) (get_or_read rs r read known er _)

-- each of them drives it in the same cycle
pub taken_passes : (rs : List Resource) (r : ℕ) (drivers : List ℕ) → drivers ≡ inputs rs r → (k : ℕ) → k < length drivers → Passes rs (slice_index drivers k) r
taken_passes rs r drivers e k h = input_passes rs r (slice_index drivers k) (subst (λ (ds : List ℕ). Contains ds (slice_index drivers k)) e (item_in drivers k (slice_index drivers k) h refl))

pub taken_known : (rs : List Resource) (w : Walk) (n r : ℕ) (drivers : List ℕ) → AreKnown rs → IsWalk rs w → n ≡ length w.marks.items → drivers ≡ inputs rs r → (k : ℕ) → k < length drivers → slice_index drivers k < n
taken_known rs w n r drivers known is en e k h =
    let long : length w.marks.items ≡ length rs = is.marks.long in
    let within : slice_index drivers k < length rs = known (slice_index drivers k) r (taken_passes rs r drivers e k h).driver in
    omega arith

-- those before a place are done, where those between are done and those before were passed
pub done_before : (rs : List Resource) (w : Walk) (marks : List Mark) (r from place : ℕ) (drivers : List ℕ) → IsWalk rs w → r < length rs → marks ≡ w.marks.items → drivers ≡ inputs rs r → from ≡ get_or w.passed.items r from →
    ((k : ℕ) → from ≤ k → k < place → mark marks (slice_index drivers k) ≡ Done) → (p : ℕ) → p < place → p < length drivers → Contains w.order.items (slice_index drivers p)
done_before rs w marks r from place drivers is known em e ef done p lt within =
    let long : length w.passed.items ≡ length rs = is.passed.long in
    let passed : from ≡ slice_index w.passed.items r = get_or_read w.passed.items r from (omega arith) ef 0 in
    ⊎_elim
    (λ before. subst (λ (ds : List ℕ). Contains w.order.items (slice_index ds p)) (sym e) (is.passed.done r p (omega arith) (subst (λ (ds : List ℕ). p < length ds) e within)))
    (λ after. is.marks.in_order (slice_index drivers p) (ap (λ (ms : List Mark). mark ms (slice_index drivers p)) (sym em) ∙ done p after lt))
    (cases_lt p from)

-- and the walk goes on from there
pub walk_passed : (rs : List Resource) (w new : Walk) (r place : ℕ) (drivers : List ℕ) → IsWalk rs w → r < length rs → drivers ≡ inputs rs r → ((p : ℕ) → p < place → p < length drivers → Contains w.order.items (slice_index drivers p)) →
    AreAlike w new → new.passed.items ≡ set w.passed.items r place → IsWalk rs new
walk_passed rs w new r place drivers is known e done alike ep =
    let long : length w.passed.items ≡ length rs = is.passed.long in
    let passed = passed_set rs w.passed.items w.order.items r place is.passed (omega arith) (λ p lt l. subst (λ (ds : List ℕ). Contains w.order.items (slice_index ds p)) e (done p lt (subst (λ (ds : List ℕ). p < length ds) (sym e) l))) in
    record { path = rw alike.path is.path; order = rw alike.order is.order; marks = rw (alike.marks, alike.path, alike.order) is.marks; passed = rw (ep, alike.order) passed }

-- a driver that isn't done waits
pub is_waiting : (rs : List Resource) (w new : Walk) (marks : List Mark) (r place : ℕ) (drivers : List ℕ) → drivers ≡ inputs rs r → marks ≡ w.marks.items → AreAlike w new → place < length drivers →
    (place < length drivers → mark marks (slice_index drivers place) ≢ Done) → IsWaiting rs new r (slice_index drivers place)
is_waiting rs w new marks r place drivers e em alike h waits =
    record {
      passes = taken_passes rs r drivers e place h;
      waits = λ z. waits h (ap (λ (ms : List Mark). mark ms (slice_index drivers place)) (em ∙ sym alike.marks) ∙ z);
    }

-- where none waits, all are done
pub all_done : (rs : List Resource) (w new : Walk) (r place : ℕ) (drivers : List ℕ) → drivers ≡ inputs rs r → ((p : ℕ) → p < place → p < length drivers → Contains w.order.items (slice_index drivers p)) → AreAlike w new → length drivers ≤ place → AreDone rs new r
all_done rs w new r place drivers e done alike end q passes =
    let p = place_in drivers q (subst (λ (ds : List ℕ). Contains ds q) (sym e) (passes_input rs r q passes)) in
    let within : p.0 < length drivers = p.1 in
    rw alike.order (subst (Contains w.order.items) p.2 (done p.0 (omega arith) within))

-- ---- steps

-- the number that was read is the last of the path
pub last_read : (path : List ℕ) (n x : ℕ) → 0 < length path → n ≡ length path → x ≡ get_or path (n - 1) x → IsLast path x
last_read path n x some en ex = (some, ap (λ i. slice_index path (i - 1)) (sym en) ∙ sym (get_or_read path (n - 1) x (omega arith) ex 0))

pub last_known : (rs : List Resource) (w : Walk) (x : ℕ) → IsWalk rs w → IsLast w.path.items x → x < length rs
last_known rs w x is last =
    let some : 0 < length w.path.items = last.0 in
    subst (λ z. z < length rs) last.1 (is.path.known (length w.path.items - 1) (omega arith))

last_alike : (w mid : Walk) (x : ℕ) → AreAlike w mid → IsLast w.path.items x → IsLast mid.path.items x
last_alike w mid x alike last = rw alike.path last

pub waiting_known : (rs : List Resource) (w : Walk) (x q : ℕ) → AreKnown rs → IsWalk rs w → IsWaiting rs w x q → q < length w.marks.items
waiting_known rs w x q known is waiting =
    let long : length w.marks.items ≡ length rs = is.marks.long in
    let within : q < length rs = known q x waiting.passes.driver in
    omega arith

step_from : (rs : List Resource) (w mid new : Walk) → AreAlike w mid → IsStep rs mid new → IsStep rs w new
step_from rs w mid new alike step =
    record {
      walk = step.walk;
      keeps = λ r was. step.keeps r (rw alike.marks was);
      less = rw (alike.marks, alike.path) at step.less;
    }

-- all drivers are done
pub step_back : (rs : List Resource) (w mid new : Walk) (x : ℕ) → AreAlike w mid → IsWalk rs mid → x < length rs → AreDone rs mid x → Closes mid new x → IsStep rs w new
step_back rs w mid new x alike is known done closes =
    let long : length mid.marks.items ≡ length rs = is.marks.long in
    step_from rs w mid new alike
    record {
      walk = walk_closed rs mid new x is closes known done;
      keeps = closed_keeps mid new x closes (omega arith);
      less = closed_less rs mid new x is closes (omega arith);
    }

new_from : (m : Mark) → (m ≡ Done → ⊥) → (m ≡ Open → ⊥) → m ≡ New
new_from New a b = refl
new_from Open a b = absurd (b refl)
new_from Done a b = absurd (a refl)

passes_last : (rs : List Resource) (mid : Walk) (x q : ℕ) → IsLast mid.path.items x → IsWaiting rs mid x q → Passes rs q (slice_index mid.path.items (length mid.path.items - 1))
passes_last rs mid x q last waiting = subst (λ z. Passes rs q z) (sym last.1) waiting.passes

-- a new driver is opened
pub step_on : (rs : List Resource) (w mid new : Walk) (x q : ℕ) (read : Mark) → AreKnown rs → AreAlike w mid → IsWalk rs mid → IsLast w.path.items x → IsWaiting rs mid x q → read ≡ get_or mid.marks.items q read → read ≢ Open → Opens mid new q → IsStep rs w new
step_on rs w mid new x q read known alike is last waiting mark_read not_open opens =
    let within : q < length mid.marks.items = waiting_known rs mid x q known is waiting in
    let marked : read ≡ mark mid.marks.items q = get_or_read mid.marks.items q read within mark_read New in
    let fresh : mark mid.marks.items q ≡ New = new_from (mark mid.marks.items q) waiting.waits (λ z. not_open (marked ∙ z)) in
    step_from rs w mid new alike
    record {
      walk = walk_opened rs mid new q is opens (known q x waiting.passes.driver) fresh (λ some. passes_last rs mid x q (last_alike w mid x alike last) waiting);
      keeps = opened_keeps mid new q opens within;
      less = opened_less mid new q opens within fresh;
    }

-- an open driver is on the path
pub on_path : (rs : List Resource) (mid : Walk) (path : List ℕ) (x q : ℕ) (read : Mark) → AreKnown rs → IsWalk rs mid → IsWaiting rs mid x q → path ≡ mid.path.items → read ≡ get_or mid.marks.items q read → read ≡ Open → Contains path q
on_path rs mid path x q read known is waiting ep mark_read opened =
    rw ep (is.marks.on_path q (sym (get_or_read mid.marks.items q read (waiting_known rs mid x q known is waiting) mark_read New) ∙ opened))

-- and gives a loop
pub step_ring : (rs : List Resource) (w mid : Walk) (x q : ℕ) (path ring : List ℕ) → AreAlike w mid → IsWalk rs mid → IsLast w.path.items x → IsWaiting rs mid x q → path ≡ mid.path.items → IsRing path q ring → IsCombinationalLoop rs ring
step_ring rs w mid x q path ring alike is last waiting ep turned =
    ring_loop rs path q ring (rw ep is.path) (rw ep (passes_last rs mid x q (last_alike w mid x alike last) waiting)) turned
