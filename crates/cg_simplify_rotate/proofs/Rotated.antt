-- Nodes that are turned round one after the other.
use Rattle.std.proofs.Common.{◌≡◌, ℕ, suc, ◌-◌, ◌<◌, Bool, true, false, List, [], length, refl, sym, ap, ◌∙◌, subst, arith}
use Rattle.std.specs.Prelude.{slice_index_or}
use Rattle.cg_word.specs.declared.op.Op.{Op}
use Rattle.cg_model.specs.declared.kernel.Node.{Node}
use Rattle.cg_model.specs.declared.kernel.OrderEdge.{OrderEdge}
use Rattle.cg_model.specs.Kernel.{IsKernel, Kernel, no_node, node, size}
use Rattle.cg_simplify_draft.specs.Rewritten.{IsRewritten}
use Rattle.cg_simplify_draft.proofs.Twice.{rewritten_itself, rewritten_twice}
use Rattle.cg_simplify_rotate.specs.declared.turning.Turn.{Turn}
use Rattle.cg_simplify_rotate.specs.Moving.{moved_node, place_from}
use Rattle.cg_simplify_rotate.specs.Rows.{AreAlike}
use Rattle.cg_simplify_rotate.specs.Turning.{IsRotated, IsTurn, kernel_of, turned}
use Rattle.cg_simplify_rotate.proofs.Fitting.{plain}
use Rattle.cg_simplify_rotate.proofs.Moved.{IsMoved, moved_kernel, moved_rewritten, node_u, node_v, only_moved, taken_moved}
use Rattle.cg_simplify_rotate.proofs.Turned.{turned_kernel, turned_rewritten, turned_size}

pub rotated_none : (ns : List Node) → IsKernel (kernel_of ns) → IsRotated ns ns false
rotated_none ns good =
    record { valid = good; rewritten = rewritten_itself (kernel_of ns) [] good.wired; sized = refl; unchanged = λ e. refl }

pub rotated_again : (a b c : List Node) (x y z : Bool) → IsRotated a b x → IsRotated b c y → (z ≡ false → (x ≡ false) × (y ≡ false)) → IsRotated a c z
rotated_again a b c x y z f g h =
    record {
      valid = g.valid;
      rewritten = rewritten_twice (kernel_of a) (kernel_of b) (kernel_of c) f.rewritten g.rewritten;
      sized = g.sized ∙ f.sized;
      unchanged = λ e. g.unchanged (h e).1 ∙ f.unchanged (h e).0;
    }

-- node u of a turn moved to just before its v
module _ (old mid : List Node) (t : Turn) (good : IsKernel (kernel_of old)) (turn : IsTurn (kernel_of old) t) (sized : length mid ≡ length old)
    (nodes : (k : ℕ) → k < length old → slice_index_or mid k no_node ≡ moved_node t.u t.v (slice_index_or old (place_from t.u t.v k) no_node)) where
  abbrev K : Kernel
  K = kernel_of old

  abbrev L : Kernel
  L = kernel_of mid

  pub later : t.u < t.v
  later = good.wired.forward t.v t.i t.u turn.is_taken.init turn.is_taken.known_v turn.is_taken.taken

  moves : IsMoved (kernel_of old) (kernel_of mid) t.u t.v t.i
  moves =
      record {
        good = good;
        less = later;
        known = turn.is_taken.known_v;
        sized = sized;
        nodes = nodes;
        none = refl;
        plain = (plain (node K t.u).op turn.row.given_u).no_access;
        only = turn.is_taken.only;
      }

  abbrev nearer : Turn
  nearer = record { u = t.v - 1; v = t.v; i = t.i; j = t.j; row = t.row }

  pub mid_valid : IsKernel (kernel_of mid)
  mid_valid = moved_kernel K L t.u t.v t.i moves

  op_u : (node (kernel_of mid) (t.v - 1)).op ≡ (node (kernel_of old) t.u).op
  op_u = ap (λ (n : Node). n.op) (node_u K L t.u t.v t.i moves)

  op_v : (node (kernel_of mid) t.v).op ≡ (node (kernel_of old) t.v).op
  op_v = ap (λ (n : Node). n.op) (node_v K L t.u t.v t.i moves)

  pub mid_turn : IsTurn (kernel_of mid) (record { u = t.v - 1; v = t.v; i = t.i; j = t.j; row = t.row })
  mid_turn =
      let a = later in
      let b = turn.is_taken.known_v in
      record {
        known_u = omega arith;
        place_j = turn.place_j;
        is_taken =
            record {
              known_v = omega arith;
              two = turn.is_taken.two;
              init = turn.is_taken.init;
              taken = taken_moved K L t.u t.v t.i moves turn.is_taken.init turn.is_taken.taken;
              only = only_moved K L t.u t.v t.i moves;
            };
        row = subst (λ (x : Op). AreAlike x t.i (node L (t.v - 1)).op t.j t.row) (sym op_v) (subst (λ (x : Op). AreAlike (node K t.v).op t.i x t.j t.row) (sym op_u) turn.row);
      }

  next : t.v ≡ suc (t.v - 1)
  next = let a = later in omega arith

  pub rotated_once : (new : List Node) → kernel_of new ≡ turned (kernel_of mid) (record { u = t.v - 1; v = t.v; i = t.i; j = t.j; row = t.row }) → IsRotated old new true
  rotated_once new e =
      record {
        valid = subst IsKernel (sym e) (turned_kernel L nearer mid_valid mid_turn next);
        rewritten =
            rewritten_twice K L (kernel_of new) (moved_rewritten K L t.u t.v t.i moves)
            (subst (λ (M : Kernel). IsRewritten L M) (sym e) (turned_rewritten L nearer mid_valid mid_turn next));
        sized = ap (λ (M : Kernel). size M) e ∙ turned_size L nearer mid_valid mid_turn next ∙ sized;
        unchanged = λ z. absurd (let bad : true ≡ false = z in cc);
      }

-- a kernel without order edges is that of its nodes
pub kernel_is : (M : Kernel) (ns : List Node) → M.nodes ≡ ns → M.order ≡ [] → M ≡ kernel_of ns
kernel_is M ns e f =
    ap (λ (os : List OrderEdge). record { nodes = M.nodes; order = os }) f ∙ ap kernel_of e

-- the nodes of a kernel, turned round
pub rotated_kernel : (K : Kernel) (new : List Node) (changed : Bool) → IsKernel K → IsRotated K.nodes new changed → IsRewritten K (kernel_of new)
rotated_kernel K new changed good r = rewritten_twice K (kernel_of K.nodes) (kernel_of new) (rewritten_itself K [] good.wired) r.rewritten
