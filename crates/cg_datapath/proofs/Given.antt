-- What the history gives the outs.
use Rattle.std.proofs.Common.{◌≡◌, ◌<◌, ◌+◌, ◌-◌, ◌*◌, ◌%◌, ℕ, List, length, sym, ap, subst, ◌∙◌}
use Rattle.std.specs.Prelude.{slice_index}
use Rattle.cg_datapath.specs.declared.terminals.Terminals.{Terminals}
use Rattle.cg_datapath.specs.Terminals.{terminals}
use Rattle.cg_datapath.specs.Course.{AreShort}
use Rattle.cg_datapath.specs.Outs.{AreGiven}
use Rattle.cg_datapath.proofs.Slots.{row_back}

-- counted from the row of cycle c as from c itself
pub given_by : (c row : ℕ) → row ≡ c % 4 → (us us' : List Terminals) → us' ≡ us → (history history' : List ℕ) → history' ≡ history → (f : ℕ → ℕ) → AreShort us →
    ((x : ℕ) → x < length us → slice_index history (4 * x + (c + 4 - (terminals us x).latency) % 4) ≡ f (terminals us x).out) →
    AreGiven us' row history' f
given_by c row er us us' eu history history' eh f short h =
    subst (λ z. AreGiven z row history' f) (sym eu)
    (subst (λ z. AreGiven us row z f) (sym eh)
    (subst (λ z. AreGiven us z history f) (sym er)
    (λ x l. ap (λ (z : ℕ). slice_index history (4 * x + z)) (row_back c (terminals us x).latency (short x l)) ∙ h x l)))
