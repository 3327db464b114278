-- Lists that are drawn item by item, each time with what is left to draw.
use Rattle.std.proofs.Common.{◌≡◌, ℕ, suc, ◌+◌, ◌-◌, ◌<◌, List, [], ◌∷◌, ◌++◌, ap, ap₂, sym, ◌∙◌, arith, append_assoc}
use Rattle.std.specs.Prelude.{map}
use Rattle.std.specs.List.{range_with_len}
use Rattle.std.proofs.lemmas.List.{append-nil}
use Rattle.std.proofs.lemmas.List.FromFn.{map-range_with_len_more}
use Rattle.rand_pcg.specs.Lcg.{Lcg}
use Rattle.cg_model.specs.declared.kernel.Node.{Node}
use Rattle.cg_trial.specs.Trial.{out_names, register_name, register_names}
use Rattle.cg_trial.specs.Drawn.{drawn_node, after_node, drawn_nodes}

-- one more item
module _ {X : Type 0} (all : ℕ → Lcg → List X) (g : Lcg) (x : X) (h : Lcg) where
  pub one_more : (list : List X) (whole : List X) (n k : ℕ) → k < n → ((m : ℕ) → all (suc m) g ≡ x ∷ all m h) → list ++ all (n - k) g ≡ whole → (list ++ x ∷ []) ++ all (n - (k + 1)) h ≡ whole
  one_more list whole n k l step e =
      let s : n - k ≡ suc (n - (k + 1)) = omega arith in
      append_assoc list (x ∷ []) (all (n - (k + 1)) h) ∙ ap (λ z. list ++ z) (sym (step (n - (k + 1)))) ∙ ap (λ m. list ++ all m g) (sym s) ∙ e

-- the generator goes on
module _ (go : ℕ → Lcg → Lcg) (g h : Lcg) where
  pub go_on : (end : Lcg) (n k : ℕ) → k < n → ((m : ℕ) → go (suc m) g ≡ go m h) → go (n - k) g ≡ end → go (n - (k + 1)) h ≡ end
  go_on end n k l step e = let s : n - k ≡ suc (n - (k + 1)) = omega arith in sym (step (n - (k + 1))) ∙ ap (λ m. go m g) (sym s) ∙ e

-- none is left
module _ {X : Type 0} (all : ℕ → Lcg → List X) (g : Lcg) where
  pub all_made : (list whole : List X) (n k : ℕ) → n ≡ k → ((z : Lcg) → all 0 z ≡ []) → list ++ all (n - k) g ≡ whole → list ≡ whole
  all_made list whole n k l none e =
      let s : n - k ≡ 0 = omega arith in sym (append-nil list) ∙ ap (λ z. list ++ z) (sym (none g)) ∙ ap (λ m. list ++ all m g) (sym s) ∙ e

module _ (go : ℕ → Lcg → Lcg) (g : Lcg) where
  pub all_gone : (end : Lcg) (n k : ℕ) → n ≡ k → ((z : Lcg) → go 0 z ≡ z) → go (n - k) g ≡ end → g ≡ end
  all_gone end n k l none e = let s : n - k ≡ 0 = omega arith in sym (none g) ∙ ap (λ m. go m g) (sym s) ∙ e

-- one more node
pub one_node : (list : List Node) (x : Node) (g h : Lcg) (first n k : ℕ) → k < n → x ≡ drawn_node (first + k) g → h ≡ after_node g
    → (list ++ x ∷ []) ++ drawn_nodes (first + (k + 1)) (n - (k + 1)) h ≡ list ++ drawn_nodes (first + k) (n - k) g
unfolding drawn_nodes
one_node list x g h first n k l e f =
    let s : n - k ≡ suc (n - (k + 1)) = omega arith in
    let t : first + (k + 1) ≡ first + k + 1 = omega arith in
    append_assoc list (x ∷ []) (drawn_nodes (first + (k + 1)) (n - (k + 1)) h)
    ∙ ap (λ z. list ++ x ∷ drawn_nodes z (n - (k + 1)) h) t
    ∙ ap₂ (λ y i. list ++ y ∷ drawn_nodes (first + k + 1) (n - (k + 1)) i) e f
    ∙ ap (λ m. list ++ drawn_nodes (first + k) m g) (sym s)

pub all_nodes : (list : List Node) (g : Lcg) (first n k : ℕ) → n ≡ k → list ≡ list ++ drawn_nodes (first + k) (n - k) g
unfolding drawn_nodes
all_nodes list g first n k e =
    let s : n - k ≡ 0 = omega arith in sym (append-nil list) ∙ ap (λ m. list ++ drawn_nodes (first + k) m g) (sym s)

-- one more register's name
pub one_name : (list more : List (List ℕ)) (name : List ℕ) (k : ℕ) → more ≡ list ++ name ∷ [] → list ≡ out_names ++ register_names k → name ≡ register_name k
    → more ≡ out_names ++ register_names (k + 1)
one_name list more name k e f h =
    let next : register_names (k + 1) ≡ register_names k ++ register_name k ∷ [] = map-range_with_len_more register_name 0 k k (omega arith) in
    e ∙ ap₂ (λ xs x. xs ++ x ∷ []) f h ∙ append_assoc out_names (register_names k) (register_name k ∷ []) ∙ ap (λ z. out_names ++ z) (sym next)

-- one more item that is made of a number
pub one_made : {X : Type 0} (f : ℕ → X) (list more : List X) (x : X) (k : ℕ) → more ≡ list ++ x ∷ [] → list ≡ map f (range_with_len 0 k) → x ≡ f k → more ≡ map f (range_with_len 0 (k + 1))
one_made f list more x k e g h = e ∙ ap₂ (λ xs y. xs ++ y ∷ []) g h ∙ sym (map-range_with_len_more f 0 k k (omega arith))
