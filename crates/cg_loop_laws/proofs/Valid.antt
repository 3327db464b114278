-- The kernel of a loop is a kernel.
use Rattle.std.proofs.Common.{ℕ, ◌<◌, ◌≤◌, length, sym, subst, arith}
use Rattle.cg_model.specs.Limits.{most_nodes, most_order_edges}
use Rattle.cg_model.specs.Kernel.{IsKernel, node, size}
use Rattle.cg_loop_syntax.specs.Loop.{Body, extent, carry}
use Rattle.cg_loop_laws.specs.Translate.{ends, first_env, loop_kernel_of}
use Rattle.cg_loop_laws.proofs.Sound.{IsDistinct, is_carry, IsBody, IsRuled}
use Rattle.cg_loop_laws.proofs.Wired.{wired}
use Rattle.cg_loop_laws.proofs.Edges.{order_valid}
use Rattle.cg_loop_laws.proofs.Nodes.{IsNode, nodes_at, body_nodes, one_constant_of, carried_known}
use Rattle.cg_loop_laws.proofs.Numbered.{named}
use Rattle.cg_loop_laws.proofs.Values.{fed}
use Rattle.cg_loop_laws.proofs.Outputs.{distinct_at, body_outputs}

pub valid : (P : Body) → IsBody P → IsRuled P → size (loop_kernel_of P) ≤ most_nodes → length (loop_kernel_of P).order ≤ most_order_edges → IsKernel (loop_kernel_of P)
valid P good ruled few few_edges =
    let ps = subst IsDistinct (sym (body_outputs (extent P.decls) (first_env P) 0 P.stmts good.stmts)) ruled.distinct in
    record {
      few = few;
      named = named P few;
      wired = wired P good;
      order = order_valid P few_edges;
      arities = λ v l. (kept v l).operands;
      valued = λ v p u d init l o. (fed P good v p u d init o).valued;
      near = λ v p u d init l o. let h = (fed P good v p u d init o).near in omega arith;
      inits = λ v p u d init l o. (fed P good v p u d init o).inits;
      init_words = λ v p u d k init l o. (fed P good v p u d init o).init_words k;
      one_constant = λ v p q a b l e f. one_constant_of (node (loop_kernel_of P) v).operands p q a b (kept v l).constants e f;
      ports = λ v l. (kept v l).port;
      no_ports = λ v l. (kept v l).no_port;
      one_output = λ v w lv lw a b e. distinct_at (loop_kernel_of P).nodes v w ps lv lw a b e;
    }
  where
    kept : (v : ℕ) → v < size (loop_kernel_of P) → IsNode (node (loop_kernel_of P) v)
    kept v l =
        nodes_at (loop_kernel_of P).nodes v l
        (body_nodes (extent P.decls) (λ x. is_carry (carry P.decls x)) (first_env P) 0 P.stmts (λ x h. carried_known (ends P.stmts x) (carry P.decls x) h) good.stmts ruled.scoped)
