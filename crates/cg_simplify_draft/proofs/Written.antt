-- A kernel of which a node gets another text is valid.
use Rattle.std.proofs.Common.{◌≡◌, ℕ, zero, suc, ◌<◌, ◌≤◌, true, false, List, [], ◌∷◌, length, Some, None, refl, sym, ◌∙◌, subst, arith, ⊎_elim, get_or-set_other, get_or-set_same}
use Rattle.std.specs.Prelude.{slice_get}
use Rattle.std.proofs.lemmas.Bool.{cases_eq}
use Rattle.cg_word.specs.declared.op.Op.{Op}
use Rattle.cg_word.specs.declared.op.Op.TheVariants.{Const}
use Rattle.cg_word.specs.Word.{words, arity, has_value, has_port, is_output}
use Rattle.cg_model.specs.Names.{IsName}
use Rattle.cg_model.specs.Limits.{last_port, longest_node_name, most_nodes}
use Rattle.cg_model.specs.declared.kernel.Operand.{Operand}
use Rattle.cg_model.specs.declared.kernel.Operand.TheVariants.{Const as Constant, Edge}
use Rattle.cg_model.specs.declared.kernel.Node.{Node}
use Rattle.cg_model.specs.Kernel.{Kernel, HasOperand, IsKernel, IsNamed, IsOrder, IsWired, no_node, node, size}
use Rattle.cg_simplify_draft.specs.Settings.{FitsEdge, FitsText, with_text}
use Rattle.cg_simplify_draft.proofs.Drafts.{fits_edge, set_size}

module _ (K : Kernel) (v : ℕ) (op : Op) (port : ℕ) (operands : List Operand) (inside : v < size K) where
  abbrev set : Kernel
  set = with_text K v op port operands

  abbrev new : Node
  new = record (node K v) { op = op; port = port; operands = operands }

  pub at_new : node (with_text K v op port operands) v ≡ record (node K v) { op = op; port = port; operands = operands }
  at_new = get_or-set_same K.nodes v new no_node inside

  pub at_old : (w : ℕ) → (w ≡ v → ⊥) → node (with_text K v op port operands) w ≡ node K w
  at_old w ne = get_or-set_other K.nodes v w new no_node ne

  pub text_sized : size (with_text K v op port operands) ≡ size K
  text_sized = set_size K.nodes v new

  -- what holds of the new node and of each other one
  pub each_node : (P : ℕ → Node → Type 0) → P v (record (node K v) { op = op; port = port; operands = operands }) → ((w : ℕ) → (w ≡ v → ⊥) → P w (node K w))
      → (w : ℕ) → P w (node (with_text K v op port operands) w)
  each_node P here others w =
      ⊎_elim
      (λ e. subst (λ (z : ℕ). P z (node set z)) (sym e) (subst (P v) (sym at_new) here))
      (λ ne. subst (P w) (sym (at_old w ne)) (others w ne))
      (cases_eq w v)

  pub text_name : (w : ℕ) → (node (with_text K v op port operands) w).name ≡ (node K w).name
  text_name = each_node (λ w n. n.name ≡ (node K w).name) refl (λ w ne. refl)

module _ (K : Kernel) (v : ℕ) (op : Op) (port : ℕ) (operands : List Operand) (inside : v < size K) (good : IsKernel K) (fits : FitsText K v op port operands) where
  abbrev made : Kernel
  made = with_text K v op port operands

  low : (w : ℕ) → w < size (with_text K v op port operands) → w < size K
  low w l = omega (arith, l, text_sized K v op port operands inside)

  high : (w : ℕ) → w < size K → w < size (with_text K v op port operands)
  high w l = omega (arith, l, text_sized K v op port operands inside)

  edge : (w : ℕ) → w < size K → (q u d : ℕ) (init : List ℕ) → HasOperand (with_text K v op port operands) w q (Edge u d init) → FitsEdge K w u d init
  edge =
      each_node K v op port operands inside
      (λ w n. w < size K → (q u d : ℕ) (init : List ℕ) → slice_get n.operands q ≡ Some (Edge u d init) → FitsEdge K w u d init)
      (λ l. fits.edges)
      (λ w ne l q u d init h. fits_edge K w q u d init good l h)

  constant : (w : ℕ) → w < size K → (q c : ℕ) → HasOperand (with_text K v op port operands) w q (Constant c) → c < words
  constant =
      each_node K v op port operands inside
      (λ w n. w < size K → (q c : ℕ) → slice_get n.operands q ≡ Some (Constant c) → c < words)
      (λ l. fits.constants)
      (λ w ne l q c h. good.wired.constants w q c l h)

  keeps_value : (w : ℕ) → has_value (node K w).op ≡ true → has_value (node (with_text K v op port operands) w).op ≡ true
  keeps_value =
      each_node K v op port operands inside
      (λ w n. has_value (node K w).op ≡ true → has_value n.op ≡ true)
      fits.valued
      (λ w ne e. e)

  one_of : (w : ℕ) → w < size K → (p q a b : ℕ) → HasOperand (with_text K v op port operands) w p (Constant a) → HasOperand (with_text K v op port operands) w q (Constant b) → p ≡ q
  one_of =
      each_node K v op port operands inside
      (λ w n. w < size K → (p q a b : ℕ) → slice_get n.operands p ≡ Some (Constant a) → slice_get n.operands q ≡ Some (Constant b) → p ≡ q)
      (λ l. fits.one_constant)
      (λ w ne l p q a b g h. good.one_constant w p q a b l g h)

  count : (w : ℕ) → w < size K → length (node (with_text K v op port operands) w).operands ≡ arity (node (with_text K v op port operands) w).op
  count =
      each_node K v op port operands inside
      (λ w n. w < size K → length n.operands ≡ arity n.op)
      (λ l. fits.long)
      (λ w ne l. good.arities w l)

  port_small : (w : ℕ) → w < size K → (node (with_text K v op port operands) w).port ≤ last_port
  port_small =
      each_node K v op port operands inside
      (λ w n. w < size K → n.port ≤ last_port)
      (λ l. fits.port_small)
      (λ w ne l. good.ports w l)

  no_port : (w : ℕ) → w < size K → has_port (node (with_text K v op port operands) w).op ≡ false → (node (with_text K v op port operands) w).port ≡ 0
  no_port =
      each_node K v op port operands inside
      (λ w n. w < size K → has_port n.op ≡ false → n.port ≡ 0)
      (λ l. fits.no_port)
      (λ w ne l e. good.no_ports w l e)

  output : (w : ℕ) → is_output (node (with_text K v op port operands) w).op ≡ true → (is_output (node K w).op ≡ true) × ((node (with_text K v op port operands) w).port ≡ (node K w).port)
  output =
      each_node K v op port operands inside
      (λ w n. is_output n.op ≡ true → (is_output (node K w).op ≡ true) × (n.port ≡ (node K w).port))
      fits.output
      (λ w ne e. (e, refl))

  wired : IsWired (with_text K v op port operands)
  wired =
      record {
        sources = λ w q u d init l h. high u (edge w (low w l) q u d init h).known;
        forward = λ w q u init l h. (edge w (low w l) q u 0 init h).earlier refl;
        constants = λ w q c l h. constant w (low w l) q c h;
      }

  named : IsNamed (with_text K v op port operands)
  named =
      record {
        names = λ w l. subst (IsName longest_node_name) (sym (text_name K v op port operands inside w)) (good.named.names w (low w l));
        apart = λ w x l m e. good.named.apart w x (low w l) (low x m) (sym (text_name K v op port operands inside w) ∙ e ∙ text_name K v op port operands inside x);
      }

  ordered : IsOrder (with_text K v op port operands)
  ordered =
      record {
        few = good.order.few;
        known = λ e u w d h. let z = good.order.known e u w d h in (high u z.0, high w z.1);
        forward = good.order.forward;
        near = good.order.near;
      }

  pub text_valid : IsKernel (with_text K v op port operands)
  text_valid =
      record {
        few = subst (λ (z : ℕ). z ≤ most_nodes) (sym (text_sized K v op port operands inside)) good.few;
        named = named;
        wired = wired;
        order = ordered;
        arities = λ w l. count w (low w l);
        valued = λ w q u d init l h. keeps_value u (edge w (low w l) q u d init h).valued;
        near = λ w q u d init l h. (edge w (low w l) q u d init h).near;
        inits = λ w q u d init l h. (edge w (low w l) q u d init h).long;
        init_words = λ w q u d k init l h. (edge w (low w l) q u d init h).init_words k;
        one_constant = λ w p q a b l g h. one_of w (low w l) p q a b g h;
        ports = λ w l. port_small w (low w l);
        no_ports = λ w l e. no_port w (low w l) e;
        one_output = λ w x l m a b e.
            let y = output w a in
            let z = output x b in
            good.one_output w x (low w l) (low x m) y.0 z.0 (sym y.1 ∙ e ∙ z.1);
      }

-- the `const` of a word
no_edge : (c p u d : ℕ) (init : List ℕ) → slice_get (Constant c ∷ []) p ≡ Some (Edge u d init) → ⊥
no_edge c zero u d init h = absurd (cc)
no_edge c (suc p) u d init h = let bad : None ≡ Some (Edge u d init) = h in absurd (cc)

the_constant : (c p a : ℕ) → slice_get (Constant c ∷ []) p ≡ Some (Constant a) → (p ≡ 0) × (a ≡ c)
the_constant c zero a h = let e : Constant c ≡ Constant a = cc in (refl, sym (constant_word c a e))
  where
    constant_word : (x y : ℕ) → Constant x ≡ Constant y → x ≡ y
    constant_word x y e = cc
the_constant c (suc p) a h = let bad : None ≡ Some (Constant a) = h in absurd (cc)

pub const_fits : (K : Kernel) (v c : ℕ) (operands : List Operand) → c < words → operands ≡ Constant c ∷ [] → FitsText K v Const 0 operands
const_fits K v c operands small e = subst (FitsText K v Const 0) (sym e) fits
  where
    fits : FitsText K v Const 0 (Constant c ∷ [])
    fits =
        record {
          long = refl;
          valued = λ h. refl;
          edges = λ p u d init h. absurd (no_edge c p u d init h);
          constants = λ p a h. subst (λ (z : ℕ). z < words) (sym (the_constant c p a h).1) small;
          one_constant = λ p q a b g h. (the_constant c p a g).0 ∙ sym (the_constant c q b h).0;
          port_small = omega arith;
          no_port = λ h. refl;
          output = λ h. absurd (cc);
        }
