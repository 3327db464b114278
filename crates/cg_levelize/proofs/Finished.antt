-- A walk's start, and its end.
use Rattle.std.proofs.Common.{◌≡◌, ◌≢◌, ℕ, zero, suc, ◌+◌, ◌<◌, ◌≤◌, true, List, [], length, take, sym, ◌∙◌, subst, ap, arith, refl, get_or, add-one}
use Rattle.std.specs.Prelude.{Contains, count_by}
use Rattle.std.proofs.lemmas.List.{get_or_read, take_all}
use Rattle.std.proofs.lemmas.List.Sums.{count_by_more_yes}
use Rattle.cg_model.specs.declared.array.Resource.{Resource}
use Rattle.cg_levelize.specs.declared.walk.Mark.{Mark}
use Rattle.cg_levelize.specs.declared.walk.Mark.TheVariants.{New, Open, Done}
use Rattle.cg_levelize.specs.declared.walk.Walk.{Walk}
use Rattle.cg_levelize.specs.Topological.{IsTopological}
use Rattle.cg_levelize.specs.Walk.{mark, is_done, IsWalk, Keeps, Opens}
use Rattle.cg_levelize.proofs.Passing.{none_in}
use Rattle.cg_levelize.proofs.Walks.{walk_opened, opened_keeps, opened_met}

-- a new resource was opened on an empty path
pub record IsStarted (rs : List Resource) (old new : Walk) (r : ℕ) : Type 0 where
  pub walk : IsWalk rs new
  pub keeps : Keeps old new
  pub met : mark new.marks.items r ≢ New

pub started : (rs : List Resource) (old new : Walk) (r : ℕ) (read : Mark) → IsWalk rs old → old.path.items ≡ [] → r < length rs → read ≡ get_or old.marks.items r read → read ≡ New → Opens old new r → IsStarted rs old new r
started rs old new r read is none known mark_read fresh opens =
    let long : length old.marks.items ≡ length rs = is.marks.long in
    let within : r < length old.marks.items = omega arith in
    let empty : length old.path.items ≡ 0 = ap (λ (xs : List ℕ). length xs) none in
    record {
      walk = walk_opened rs old new r is opens known (sym (get_or_read old.marks.items r read within mark_read New) ∙ fresh) (λ some. absurd (omega arith));
      keeps = opened_keeps old new r opens within;
      met = opened_met old new r opens within;
    }

-- a resource that was met is left as it is
pub kept : (rs : List Resource) (old : Walk) (r : ℕ) (read : Mark) → IsWalk rs old → r < length rs → read ≡ get_or old.marks.items r read → read ≢ New → IsStarted rs old old r
kept rs old r read is known mark_read met =
    let long : length old.marks.items ≡ length rs = is.marks.long in
    let within : r < length old.marks.items = omega arith in
    record { walk = is; keeps = λ x h. h; met = λ e. met (get_or_read old.marks.items r read within mark_read New ∙ e) }

done_from : (m : Mark) → m ≢ New → (m ≡ Open → ⊥) → m ≡ Done
done_from New a b = absurd (a refl)
done_from Open a b = absurd (b refl)
done_from Done a b = refl

counted_first : (marks : List Mark) (i : ℕ) → i ≤ length marks → ((k : ℕ) → k < i → mark marks k ≡ Done) → count_by is_done (take i marks) ≡ i
counted_first marks zero h done = refl
counted_first marks (suc i) h done =
    let before : count_by is_done (take i marks) ≡ i = counted_first marks i (omega arith) (λ k lt. done k (omega arith)) in
    let here : is_done (mark marks i) ≡ true = ap is_done (done i (omega arith)) in
    let more : count_by is_done (take (i + 1) marks) ≡ count_by is_done (take i marks) + 1 = count_by_more_yes is_done marks i New (omega arith) here in
    let same : count_by is_done (take (i + 1) marks) ≡ count_by is_done (take (suc i) marks) = ap (λ n. count_by is_done (take n marks)) (add-one i) in
    omega arith

-- a walk that has met all resources, and has none open, has an order of all
pub walk_rising : (rs : List Resource) (w : Walk) → IsWalk rs w → w.path.items ≡ [] → ((r : ℕ) → r < length rs → mark w.marks.items r ≢ New) → IsTopological rs w.order.items
walk_rising rs w is none met =
    let long : length w.marks.items ≡ length rs = is.marks.long in
    let done : (r : ℕ) → r < length rs → mark w.marks.items r ≡ Done =
    λ r h. done_from (mark w.marks.items r) (met r h) (λ opened. none_in r (subst (λ (xs : List ℕ). Contains xs r) none (is.marks.on_path r opened))) in
    let counted : count_by is_done (take (length w.marks.items) w.marks.items) ≡ length w.marks.items = counted_first w.marks.items (length w.marks.items) (omega arith) (λ k h. done k (omega arith)) in
    let whole : take (length w.marks.items) w.marks.items ≡ w.marks.items = take_all (length w.marks.items) w.marks.items (omega arith) in
    let same : count_by is_done (take (length w.marks.items) w.marks.items) ≡ count_by is_done w.marks.items = ap (λ (ms : List Mark). count_by is_done ms) whole in
    let count : count_by is_done w.marks.items ≡ length w.order.items = is.marks.count in
    record {
      long = omega arith;
      known = is.order.known;
      all = λ r h. is.marks.in_order r (done r h);
      rising = is.order.rising;
    }
