-- The rows of units, of which one that begins no node has none, and the bars in them.
use Rattle.std.proofs.Common.{◌≡◌, ℕ, ◌+◌, ◌*◌, Bool, true, false, cond, List, [], ◌++◌, Option, Some, None, refl, sym, ap, ◌∙◌, add-zero}
use Rattle.std.specs.Prelude.{nat_lt, codes}
use Rattle.cg_check.specs.Legal.{Mapped}
use Rattle.cg_list_laws.specs.Below.{sum_below}
use Rattle.cg_occupancy.specs.Counts.{starts_of}
use Rattle.cg_occupancy.specs.Marks.{start_at}
use Rattle.cg_list_laws.proofs.Below.{sum_below-more, sum_below-none}
use Rattle.cg_layout.specs.Svg.{rect_text, words_text, mark_head, mark_text, mark_end}
use Rattle.cg_show.specs.Words.{colour, cut, node_name, start_title, time_of}
use Rattle.cg_show.specs.Schedule.{row_top, row_number, row_by, unit_row, bar_text, bar_by, bar_in, tail_text, latency_of}
use Rattle.cg_show.proofs.Steps.{joined}

-- 1 where unit x begins a node
pub busy : Mapped → ℕ → ℕ
busy m x = cond (nat_lt 0 (starts_of m x)) 1 0

-- the row of unit x is the number of the units before it that begin a node
pub row_of : (m : Mapped) (x : ℕ) → sum_below (busy m) x ≡ row_number m x
unfolding busy
row_of m x = refl

pub row_first : (m : Mapped) → 0 ≡ sum_below (busy m) 0
row_first m = sym (sum_below-none (busy m))

pub row_after : (m : Mapped) (x row next : ℕ) → row ≡ sum_below (busy m) x → true ≡ nat_lt 0 (starts_of m x) → next ≡ row + 1 → next ≡ sum_below (busy m) (x + 1)
unfolding busy
row_after m x row next so_far is e =
    e ∙ ap (λ z. z + 1) so_far ∙ ap (λ (b : Bool). sum_below (busy m) x + cond b 1 0) is ∙ sym (sum_below-more (busy m) x)

pub row_same : (m : Mapped) (x row next : ℕ) → row ≡ sum_below (busy m) x → false ≡ nat_lt 0 (starts_of m x) → next ≡ row → next ≡ sum_below (busy m) (x + 1)
unfolding busy
row_same m x row next so_far is e =
    e ∙ so_far ∙ sym (add-zero (sum_below (busy m) x)) ∙ ap (λ (b : Bool). sum_below (busy m) x + cond b 1 0) is ∙ sym (sum_below-more (busy m) x)

pub row_shown : (m : Mapped) (x row top : ℕ) → true ≡ nat_lt 0 (starts_of m x) → row ≡ sum_below (busy m) x → top ≡ row_top row → unit_row m x top ≡ row_by m x
row_shown m x row top is here at =
    ap (unit_row m x) (at ∙ ap row_top (here ∙ row_of m x)) ∙ ap (λ (b : Bool). cond b (unit_row m x (row_top (row_number m x))) []) is

pub row_hidden : (m : Mapped) (x : ℕ) → false ≡ nat_lt 0 (starts_of m x) → [] ≡ row_by m x
row_hidden m x is = ap (λ (b : Bool). cond b (unit_row m x (row_top (row_number m x))) []) is

-- the bar of the node that unit x begins in slot s
pub bar_shown : (m : Mapped) (x top s v : ℕ) (o : Option ℕ) → o ≡ start_at m x s → o ≡ Some v → bar_text m x top v ≡ bar_in m x top s
bar_shown m x top s v o here is = ap (bar_by m x top) (sym is ∙ here)

pub bar_hidden : (m : Mapped) (x top s : ℕ) (o : Option ℕ) → o ≡ start_at m x s → o ≡ None → [] ≡ bar_in m x top s
bar_hidden m x top s o here is = ap (bar_by m x top) (sym is ∙ here)

-- a bar by its parts
abbrev bar_with : ℕ → ℕ → List ℕ → ℕ → List ℕ → ℕ → ℕ → List ℕ
bar_with top shade title start name time latency =
    mark_text shade title (rect_text (codes "b") (record { x = 260 + 48 * start + 1; y = top; width = 46; height = 16 })
    ++ (words_text (codes "o") (260 + 48 * start + 24) (top + 12) (cut 8 name) ++ tail_text time latency top))

pub bar_is : (m : Mapped) (x top v : ℕ) (old a b d e f : List ℕ) (shade start time latency : ℕ) (title name : List ℕ)
    → shade ≡ colour v → title ≡ start_title m x v → start ≡ time_of m v → name ≡ node_name m v → time ≡ time_of m v → latency ≡ latency_of m v
    → a ≡ old ++ mark_head shade title
    → b ≡ a ++ rect_text (codes "b") (record { x = 260 + 48 * start + 1; y = top; width = 46; height = 16 })
    → d ≡ b ++ words_text (codes "o") (260 + 48 * start + 24) (top + 12) (cut 8 name)
    → e ≡ d ++ tail_text time latency top
    → f ≡ e ++ mark_end
    → f ≡ old ++ bar_text m x top v
bar_is m x top v old a b d e f shade start time latency title name is_shade is_title is_start is_name is_time is_latency head rect words tail end =
    joined old (mark_head shade title) a f _ head (joined a _ e f mark_end (joined a _ b e _ rect (joined b _ d e (tail_text time latency top) words tail)) end)
    ∙ ap (λ z. old ++ bar_with top z title start name time latency) is_shade
    ∙ ap (λ z. old ++ bar_with top (colour v) z start name time latency) is_title
    ∙ ap (λ z. old ++ bar_with top (colour v) (start_title m x v) z name time latency) is_start
    ∙ ap (λ z. old ++ bar_with top (colour v) (start_title m x v) (time_of m v) z time latency) is_name
    ∙ ap (λ z. old ++ bar_with top (colour v) (start_title m x v) (time_of m v) (node_name m v) z latency) is_time
    ∙ ap (λ z. old ++ bar_with top (colour v) (start_title m x v) (time_of m v) (node_name m v) (time_of m v) z) is_latency
