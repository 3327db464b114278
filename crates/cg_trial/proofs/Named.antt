-- The names of registers: they are names, and no two are equal.
use Rattle.std.proofs.Common.{◌≡◌, ◌≢◌, ℕ, zero, suc, ◌+◌, ◌^◌, ◌<◌, ◌≤◌, true, false, List, [], ◌∷◌, ◌++◌, refl, ap, sym, ◌∙◌, arith, bytes_eq, append_assoc}
use Rattle.std.specs.Prelude.{map, fold, decimal}
use Rattle.std.specs.List.{range_with_len, list_any}
use Rattle.std.proofs.lemmas.Bool.{false_from_ne_true}
use Rattle.std.proofs.lemmas.Fmt.{decimal_injective}
use Rattle.std.proofs.lemmas.List.{append-nil}
use Rattle.std.proofs.lemmas.Slice.Eq.{bytes_eq-Decides}
use Rattle.cg_parts.specs.Parts.{with_name, distinct}
use Rattle.cg_trial.specs.Trial.{out_names, register_name, register_names}
use Rattle.cg_trial.proofs.Scans.{past, any_last}

pub name_same : (k : ℕ) → bytes_eq (register_name k) (register_name k) ≡ true
name_same k = (bytes_eq-Decides (register_name k) (register_name k)).1 refl

decimals : (j k : ℕ) → register_name j ≡ register_name k → decimal j ≡ decimal k
decimals j k e = let f : ◌≡◌ {A = List ℕ} (104 ∷ decimal j) (104 ∷ decimal k) = e in cc

pub name_apart : (j k : ℕ) → j < 2 ^ 64 → k < 2 ^ 64 → j ≢ k → bytes_eq (register_name j) (register_name k) ≡ false
name_apart j k l m n =
    false_from_ne_true (bytes_eq (register_name j) (register_name k)) (λ e. n (decimal_injective j k l m (decimals j k ((bytes_eq-Decides (register_name j) (register_name k)).0 e))))

-- one after another, each is a new one
fold_names : (acc : List (List ℕ)) (a n m : ℕ) → m ≡ a + n → m ≤ 1000 → ((k : ℕ) → a ≤ k → k < m → list_any (bytes_eq (register_name k)) acc ≡ false)
    → fold with_name acc (map register_name (range_with_len a n)) ≡ acc ++ map register_name (range_with_len a n)
fold_names acc a zero m e s h = sym (append-nil acc)
fold_names acc a (suc n) m e s h =
    ap (λ z. fold with_name z (map register_name (range_with_len (a + 1) n))) (past (list_any (bytes_eq (register_name a)) acc) acc (acc ++ register_name a ∷ []) (h a (omega arith) (omega arith)))
    ∙ fold_names (acc ++ register_name a ∷ []) (a + 1) n m (omega arith) s
    (λ k l u. any_last (bytes_eq (register_name k)) acc (register_name a) (h k (omega arith) u)
    (let apart : k ≢ a = omega arith in name_apart k a (omega arith) (omega arith) apart))
    ∙ append_assoc acc (register_name a ∷ []) (map register_name (range_with_len (a + 1) n))

pub distinct_registers : (n : ℕ) → n ≤ 1000 → distinct (register_names n) ≡ register_names n
unfolding distinct
distinct_registers n s = fold_names [] 0 n n (omega arith) s (λ k l u. refl)

pub distinct_drivers : (n : ℕ) → n ≤ 1000 → distinct (out_names ++ register_names n) ≡ out_names ++ register_names n
unfolding distinct
distinct_drivers n s = fold_names out_names 0 n n (omega arith) s (λ k l u. refl)
