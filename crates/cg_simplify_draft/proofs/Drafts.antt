-- A kernel of which an operand is set: it is valid, and has the other nodes and operands.
use Rattle.std.proofs.Common.{◌≡◌, ℕ, zero, suc, ◌<◌, ◌≤◌, List, [], ◌∷◌, length, Some, refl, sym, ap, ◌∙◌, subst, arith, ⊎_elim, inl, inr, get_or-set_other, get_or-set_same}
use Rattle.std.specs.Prelude.{◌⊎◌, slice_get, slice_set}
use Rattle.std.proofs.lemmas.Bool.{cases_eq}
use Rattle.std.proofs.lemmas.Option.{slice_get-get_or}
use Rattle.cg_word.specs.Word.{words, arity, has_value, has_port, is_output}
use Rattle.cg_model.specs.Names.{IsName}
use Rattle.cg_model.specs.Limits.{last_port, longest_node_name, most_nodes}
use Rattle.cg_model.specs.declared.kernel.Operand.{Operand}
use Rattle.cg_model.specs.declared.kernel.Operand.TheVariants.{Const as Constant, Edge}
use Rattle.cg_model.specs.declared.kernel.Node.{Node}
use Rattle.cg_model.specs.Kernel.{Kernel, HasOperand, IsKernel, IsNamed, IsOrder, IsWired, no_node, node, size}
use Rattle.cg_simplify_draft.specs.Settings.{Fits, FitsConstant, FitsEdge, with_operand}

-- no order edge
pub none_ordered : (K : Kernel) → IsOrder (record { nodes = K.nodes; order = [] })
none_ordered K =
    record {
      few = omega arith;
      known = λ e u v d h. absurd (cc);
      forward = λ e u v h. absurd (cc);
      near = λ e u v d h. absurd (cc);
    }

pub unordered : (K : Kernel) → IsKernel K → IsKernel (record { nodes = K.nodes; order = [] })
unordered K good =
    record {
      few = good.few;
      named = record { names = good.named.names; apart = good.named.apart };
      wired = record { sources = good.wired.sources; forward = good.wired.forward; constants = good.wired.constants };
      order = none_ordered K;
      arities = good.arities;
      valued = good.valued;
      near = good.near;
      inits = good.inits;
      init_words = good.init_words;
      one_constant = good.one_constant;
      ports = good.ports;
      no_ports = good.no_ports;
      one_output = good.one_output;
    }

-- an item of a list of which one was set
set_get : (xs : List Operand) (at : ℕ) (y : Operand) (p : ℕ) (o : Operand) → slice_get (slice_set xs at y) p ≡ Some o → (slice_get xs p ≡ Some o) ⊎ ((p ≡ at) × (o ≡ y))
set_get [] at y p o h = inl h
set_get (x ∷ xs) zero y zero o h = let z : y ≡ o = cc in inr (refl, sym z)
set_get (x ∷ xs) zero y (suc p) o h = inl h
set_get (x ∷ xs) (suc at) y zero o h = inl h
set_get (x ∷ xs) (suc at) y (suc p) o h = ⊎_elim (λ t. inl t) (λ t. inr (ap suc t.0, t.1)) (set_get xs at y p o h)

pub set_size : {X : Type 0} (xs : List X) (at : ℕ) (y : X) → length (slice_set xs at y) ≡ length xs
set_size [] at y = refl
set_size (x ∷ xs) zero y = refl
set_size (x ∷ xs) (suc at) y = ap suc (set_size xs at y)

-- where an operand comes from
abbrev CameFrom : Kernel → ℕ → ℕ → Operand → ℕ → ℕ → Operand → Type 0
CameFrom K v p o w q x = HasOperand K w q x ⊎ ((w ≡ v) × (q ≡ p) × (x ≡ o))

module _ (K : Kernel) (v p : ℕ) (o : Operand) (inside : v < size K) where
  changed : Node
  changed = record (node K v) { operands = slice_set (node K v).operands p o }

  pub at_same : node (with_operand K v p o) v ≡ record (node K v) { operands = slice_set (node K v).operands p o }
  at_same = get_or-set_same K.nodes v (record (node K v) { operands = slice_set (node K v).operands p o }) no_node inside

  at_other : (w : ℕ) → (w ≡ v → ⊥) → node (with_operand K v p o) w ≡ node K w
  at_other w ne = get_or-set_other K.nodes v w (record (node K v) { operands = slice_set (node K v).operands p o }) no_node ne

  -- what holds of the new node and of each old one
  pub each_operand : (P : ℕ → Node → Type 0) → P v (node (with_operand K v p o) v) → ((w : ℕ) → P w (node K w)) → (w : ℕ) → P w (node (with_operand K v p o) w)
  each_operand P here others w =
      ⊎_elim
      (λ e. subst (λ (z : ℕ). P z (node (with_operand K v p o) z)) (sym e) here)
      (λ ne. subst (P w) (sym (at_other w ne)) (others w))
      (cases_eq w v)

  pub sized : size (with_operand K v p o) ≡ size K
  sized = set_size K.nodes v (record (node K v) { operands = slice_set (node K v).operands p o })

  pub same_name : (w : ℕ) → (node (with_operand K v p o) w).name ≡ (node K w).name
  same_name w =
      ⊎_elim
      (λ e. subst (λ (z : ℕ). (node (with_operand K v p o) z).name ≡ (node K z).name) (sym e) (ap (λ (n : Node). n.name) at_same))
      (λ ne. ap (λ (n : Node). n.name) (at_other w ne))
      (cases_eq w v)

  pub same_op : (w : ℕ) → (node (with_operand K v p o) w).op ≡ (node K w).op
  same_op w =
      ⊎_elim
      (λ e. subst (λ (z : ℕ). (node (with_operand K v p o) z).op ≡ (node K z).op) (sym e) (ap (λ (n : Node). n.op) at_same))
      (λ ne. ap (λ (n : Node). n.op) (at_other w ne))
      (cases_eq w v)

  pub same_port : (w : ℕ) → (node (with_operand K v p o) w).port ≡ (node K w).port
  same_port w =
      ⊎_elim
      (λ e. subst (λ (z : ℕ). (node (with_operand K v p o) z).port ≡ (node K z).port) (sym e) (ap (λ (n : Node). n.port) at_same))
      (λ ne. ap (λ (n : Node). n.port) (at_other w ne))
      (cases_eq w v)

  pub same_count : (w : ℕ) → length (node (with_operand K v p o) w).operands ≡ length (node K w).operands
  same_count w =
      ⊎_elim
      (λ e. subst (λ (z : ℕ). length (node (with_operand K v p o) z).operands ≡ length (node K z).operands) (sym e)
      (ap (λ (n : Node). length n.operands) at_same ∙ set_size (node K v).operands p o))
      (λ ne. ap (λ (n : Node). length n.operands) (at_other w ne))
      (cases_eq w v)

  pub came : (w q : ℕ) (x : Operand) → HasOperand (with_operand K v p o) w q x → CameFrom K v p o w q x
  came w q x h =
      ⊎_elim
      (λ e.
      let h' : slice_get (slice_set (node K v).operands p o) q ≡ Some x =
      subst (λ (n : Node). slice_get n.operands q ≡ Some x) at_same (subst (λ (z : ℕ). HasOperand (with_operand K v p o) z q x) e h) in
      ⊎_elim
      (λ t. inl (subst (λ (z : ℕ). HasOperand K z q x) (sym e) t))
      (λ t. inr (e, t.0, t.1))
      (set_get (node K v).operands p o q x h'))
      (λ ne. inl (subst (λ (n : Node). slice_get n.operands q ≡ Some x) (at_other w ne) h))
      (cases_eq w v)

-- an edge that fits
edge_fits : (K : Kernel) (v p w q u d : ℕ) (init : List ℕ) (o : Operand) → Fits K v p o → (w ≡ v) × (q ≡ p) × (Edge u d init ≡ o) → FitsEdge K w u d init
edge_fits K v p w q u d init o fits e =
    subst (λ (z : ℕ). FitsEdge K z u d init) (sym e.0) (let f : Fits K v p (Edge u d init) = subst (Fits K v p) (sym e.2) fits in f)

-- a constant that fits
constant_fits : (K : Kernel) (v p w q c : ℕ) (o : Operand) → Fits K v p o → (w ≡ v) × (q ≡ p) × (Constant c ≡ o) → FitsConstant K v p c
constant_fits K v p w q c o fits e = let f : Fits K v p (Constant c) = subst (Fits K v p) (sym e.2) fits in f

-- an edge of a valid kernel fits
pub fits_edge : (K : Kernel) (w q u d : ℕ) (init : List ℕ) → IsKernel K → w < size K → HasOperand K w q (Edge u d init) → FitsEdge K w u d init
fits_edge K w q u d init good l h =
    record {
      known = good.wired.sources w q u d init l h;
      valued = good.valued w q u d init l h;
      earlier = λ z. good.wired.forward w q u init l (subst (λ (y : ℕ). HasOperand K w q (Edge u y init)) z h);
      near = good.near w q u d init l h;
      long = good.inits w q u d init l h;
      init_words = λ k. good.init_words w q u d k init l h;
    }

module _ (K : Kernel) (v p : ℕ) (o : Operand) (inside : v < size K) (good : IsKernel K) (fits : Fits K v p o) where
  low : (w : ℕ) → w < size (with_operand K v p o) → w < size K
  low w l = omega (arith, l, sized K v p o inside)

  high : (w : ℕ) → w < size K → w < size (with_operand K v p o)
  high w l = omega (arith, l, sized K v p o inside)

  edge : (w q u d : ℕ) (init : List ℕ) → w < size (with_operand K v p o) → HasOperand (with_operand K v p o) w q (Edge u d init) → FitsEdge K w u d init
  edge w q u d init l h =
      ⊎_elim
      (λ t. fits_edge K w q u d init good (low w l) t)
      (λ t. edge_fits K v p w q u d init o fits t)
      (came K v p o inside w q (Edge u d init) h)

  constant_word : (w q c : ℕ) → w < size (with_operand K v p o) → HasOperand (with_operand K v p o) w q (Constant c) → c < words
  constant_word w q c l h =
      ⊎_elim
      (λ t. good.wired.constants w q c (low w l) t)
      (λ t. (constant_fits K v p w q c o fits t).word)
      (came K v p o inside w q (Constant c) h)

  one_of : (w q r a b : ℕ) → w < size (with_operand K v p o) → HasOperand (with_operand K v p o) w q (Constant a) → HasOperand (with_operand K v p o) w r (Constant b) → q ≡ r
  one_of w q r a b l g h =
      ⊎_elim
      (λ s. ⊎_elim
      (λ t. good.one_constant w q r a b (low w l) s t)
      (λ t. (constant_fits K v p w r b o fits t).alone q a (subst (λ (z : ℕ). HasOperand K z q (Constant a)) t.0 s) ∙ sym t.1)
      (came K v p o inside w r (Constant b) h))
      (λ s. ⊎_elim
      (λ t. s.1 ∙ sym ((constant_fits K v p w q a o fits s).alone r b (subst (λ (z : ℕ). HasOperand K z r (Constant b)) s.0 t)))
      (λ t. s.1 ∙ sym t.1)
      (came K v p o inside w r (Constant b) h))
      (came K v p o inside w q (Constant a) g)

  wired : IsWired (with_operand K v p o)
  wired =
      record {
        sources = λ w q u d init l h. high u (edge w q u d init l h).known;
        forward = λ w q u init l h. (edge w q u 0 init l h).earlier refl;
        constants = constant_word;
      }

  named : IsNamed (with_operand K v p o)
  named =
      record {
        names = λ w l. subst (IsName longest_node_name) (sym (same_name K v p o inside w)) (good.named.names w (low w l));
        apart = λ w x l m e. good.named.apart w x (low w l) (low x m) (sym (same_name K v p o inside w) ∙ e ∙ same_name K v p o inside x);
      }

  ordered : IsOrder (with_operand K v p o)
  ordered =
      record {
        few = good.order.few;
        known = λ e u w d h. let z = good.order.known e u w d h in (high u z.0, high w z.1);
        forward = good.order.forward;
        near = good.order.near;
      }

  pub valid : IsKernel (with_operand K v p o)
  valid =
      record {
        few = subst (λ (z : ℕ). z ≤ most_nodes) (sym (sized K v p o inside)) good.few;
        named = named;
        wired = wired;
        order = ordered;
        arities = λ w l. same_count K v p o inside w ∙ good.arities w (low w l) ∙ ap arity (sym (same_op K v p o inside w));
        valued = λ w q u d init l h. ap has_value (same_op K v p o inside u) ∙ (edge w q u d init l h).valued;
        near = λ w q u d init l h. (edge w q u d init l h).near;
        inits = λ w q u d init l h. (edge w q u d init l h).long;
        init_words = λ w q u d k init l h. (edge w q u d init l h).init_words k;
        one_constant = one_of;
        ports = λ w l. subst (λ (z : ℕ). z ≤ last_port) (sym (same_port K v p o inside w)) (good.ports w (low w l));
        no_ports = λ w l e. same_port K v p o inside w ∙ good.no_ports w (low w l) (ap has_port (sym (same_op K v p o inside w)) ∙ e);
        one_output = λ w x l m a b e.
            good.one_output w x (low w l) (low x m)
            (ap is_output (sym (same_op K v p o inside w)) ∙ a)
            (ap is_output (sym (same_op K v p o inside x)) ∙ b)
            (sym (same_port K v p o inside w) ∙ e ∙ same_port K v p o inside x);
      }

-- two operands at one place
pub one_operand : (K : Kernel) (v p : ℕ) (o q : Operand) → HasOperand K v p o → HasOperand K v p q → o ≡ q
one_operand K v p o q g h = let z : Some o ≡ Some q = sym g ∙ h in cc

pub some_operand : (K : Kernel) (v p : ℕ) → p < length (node K v).operands → (o : Operand) × HasOperand K v p o
some_operand K v p l = (_, slice_get-get_or (node K v).operands p (Constant 0) l)
