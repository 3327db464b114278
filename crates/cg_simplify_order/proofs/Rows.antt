-- A worked need.
use Rattle.std.proofs.Common.{◌≡◌, ℕ, zero, suc, ◌<◌, ◌≤◌, List, [], ◌∷◌, refl, ap, arith}
use Rattle.cg_word.specs.declared.op.Op.TheVariants.{Add, Iter, Load, Store}
use Rattle.cg_word.specs.Word.{apply_of}
use Rattle.cg_model.specs.declared.kernel.Operand.TheVariants.{Const as Constant, Edge}
use Rattle.cg_model.specs.declared.kernel.OrderEdge.{OrderEdge}
use Rattle.cg_model.specs.Kernel.{Kernel, HasOperand}
use Rattle.cg_model.specs.Order.{Links, by_data, by_order, Chain, one, more}
use Rattle.cg_depend.specs.Affine.{pair_of, pairs}
use Rattle.cg_depend.specs.Depend.{first}
use Rattle.cg_simplify_order.specs.Needs.{IsNeed}
use Rattle.cg_simplify_order.specs.Found.{edge}

-- i = iter; x = load [i]; a = add [i, 2]; s = store [a, x]; s before x of the next turn
abbrev copying : Kernel
copying =
    record {
      nodes =
          record { name = 105 ∷ []; op = Iter; port = 0; operands = [] } ∷ record { name = 120 ∷ []; op = Load; port = 0; operands = Edge 0 0 [] ∷ [] }
          ∷ record { name = 97 ∷ []; op = Add; port = 0; operands = Edge 0 0 [] ∷ Constant 2 ∷ [] } ∷ record { name = 115 ∷ []; op = Store; port = 0; operands = Edge 2 0 [] ∷ Edge 1 0 [] ∷ [] } ∷ [];
      order = record { from = 3; to = 1; distance = 1 } ∷ [];
    }

earlier : (u : ℕ) → u < 3 → u ≡ 3 → ⊥
earlier u l e = omega arith

-- no operand is the store
unread : (v p d : ℕ) (init : List ℕ) → v < 4 → HasOperand copying v p (Edge 3 d init) → ⊥
unread zero p d init l h = absurd (cc)
unread (suc zero) zero d init l h = absurd (earlier 0 (omega arith) (cc))
unread (suc zero) (suc p) d init l h = absurd (cc)
unread (suc (suc zero)) zero d init l h = absurd (earlier 0 (omega arith) (cc))
unread (suc (suc zero)) (suc zero) d init l h = absurd (cc)
unread (suc (suc zero)) (suc (suc p)) d init l h = absurd (cc)
unread (suc (suc (suc zero))) zero d init l h = absurd (earlier 2 (omega arith) (cc))
unread (suc (suc (suc zero))) (suc zero) d init l h = absurd (earlier 1 (omega arith) (cc))
unread (suc (suc (suc zero))) (suc (suc p)) d init l h = absurd (cc)
unread (suc (suc (suc (suc v)))) p d init l h = absurd (omega arith)

leaving : (u v d : ℕ) → u ≡ 3 → Links copying u v d → 1 ≤ d
leaving u v d e (by_data p init l h) = absurd (let h' = rw e at h in unread v p d init l h')
leaving u v d e (by_order zero h) = let same : edge 3 1 1 ≡ edge u v d = cc in let z : 1 ≡ d = ap (λ (x : OrderEdge). x.distance) same in omega arith
leaving u v d e (by_order (suc k) h) = absurd (cc)

far : (u v d : ℕ) → u ≡ 3 → Chain copying u v d → 1 ≤ d
far u v d z (one l) = leaving u v d z l
far u w x z (more {v = v} {d = d} {e = e} l c) = let h : 1 ≤ d = leaving u v d z l in omega arith

-- the store reaches the load's word 2 turns later first, though a chain orders them over 1 turn
need : IsNeed copying copying 3 1 2
unfolding pairs apply_of
need =
    record {
      first = omega arith;
      second = omega arith;
      other = λ e. omega arith;
      meet = refl;
      before = 3;
      after = 1;
      least = 1;
      turns = 2;
      source = record { inside = omega arith; named = refl };
      target = record { inside = omega arith; named = refl };
      chain = record { chain = one (by_order 0 refl); least = λ e c. far 3 1 e refl c };
      gap = first (pair_of 2 1) (pair_of 0 1) 2 (record { of_source = refl; of_target = refl; one = refl }) (omega arith) (omega arith) refl (λ y a b e. omega arith);
      near = refl;
    }
