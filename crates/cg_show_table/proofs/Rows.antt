-- Rows with one more column, and what is gathered of one number more.
use Rattle.std.proofs.Common.{◌≡◌, ℕ, ◌+◌, ◌*◌, Bool, false, List, Option, refl, ap, ◌∙◌, sym, add-one, zero-add}
use Rattle.std.specs.Prelude.{max, nat_lt, is_some, if◌then◌else◌}
use Rattle.std.proofs.Math.Path.{fun_ext}
use Rattle.cg_check.specs.Legal.{Mapped}
use Rattle.cg_list_laws.specs.Below.{sum_below, count_below, greatest_below}
use Rattle.cg_occupancy.specs.Marks.{start_at}
use Rattle.cg_occupancy.specs.Counts.{starts_of}
use Rattle.cg_list_laws.proofs.Below.{sum_below-more, greatest_below-more}
use Rattle.cg_show_table.specs.declared.columns.Grid.{Grid}
use Rattle.cg_show_table.specs.Columns.{row_text, with_text}
use Rattle.cg_show_table.specs.Sizes.{starts_from}

row_more : (g : Grid) (begin : List ℕ) (cell : ℕ → Option (List ℕ)) (j : ℕ) → row_text g begin cell (j + 1) ≡ with_text (g.first + j * g.pitch) (row_text g begin cell j) (cell j)
row_more g begin cell j = rw add-one refl

-- a row after one more cell
pub next_row : (g : Grid) (begin : List ℕ) (cell : ℕ → Option (List ℕ)) (j at : ℕ) (before after : List ℕ) (o : Option (List ℕ))
    → before ≡ row_text g begin cell j → at ≡ g.first + j * g.pitch → o ≡ cell j → after ≡ with_text at before o → after ≡ row_text g begin cell (j + 1)
next_row g begin cell j at before after o row place item last =
    last
    ∙ ap (λ z. with_text z before o) place
    ∙ ap (λ z. with_text (g.first + j * g.pitch) z o) row
    ∙ ap (λ z. with_text (g.first + j * g.pitch) (row_text g begin cell j) z) item
    ∙ sym (row_more g begin cell j)

pub greatest_more : (f : ℕ → ℕ) (n : ℕ) → greatest_below f (n + 1) ≡ max (greatest_below f n) (f n)
greatest_more f n = greatest_below-more f n

pub greatest_none : (f : ℕ → ℕ) → greatest_below f 0 ≡ 0
unfolding greatest_below
greatest_none f = refl

-- ---- slots in which a unit begins a node

pub starts_more : (m : Mapped) (x a n : ℕ) → starts_from m x a (n + 1) ≡ starts_from m x a n + (if is_some (start_at m x (a + n)) then 1 else 0)
starts_more m x a n = sum_below-more (λ j. if is_some (start_at m x (a + j)) then 1 else 0) n

pub starts_none : (m : Mapped) (x a : ℕ) → starts_from m x a 0 ≡ 0
unfolding sum_below
starts_none m x a = refl

pub starts_all : (m : Mapped) (x : ℕ) → starts_from m x 0 m.mapping.ii ≡ starts_of m x
unfolding starts_of
starts_all m x = ap (λ (f : ℕ → Bool). count_below f m.mapping.ii) (fun_ext (λ j. ap (λ z. is_some (start_at m x z)) (zero-add j)))

pub starts_of_none : (m : Mapped) (x a n count : ℕ) → count ≡ n → count ≡ 0 → false ≡ nat_lt 0 (starts_from m x a n)
starts_of_none m x a n count same none = sym (ap (λ z. nat_lt 0 z) (ap (λ z. starts_from m x a z) (sym same ∙ none) ∙ starts_none m x a))
