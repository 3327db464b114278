-- A loop keeps what the proofs ask.
use Rattle.std.proofs.Common.{[]}
use Rattle.std.specs.List.{flat_map}
use Rattle.cg_loop_syntax.specs.Loop.{Body}
use Rattle.cg_loop_syntax.specs.Uses.{body_uses, stmt_uses, decls_uses, is_unknown, is_misplaced, is_bad_port}
use Rattle.cg_loop_laws.specs.Laws.{IsLoop}
use Rattle.cg_loop_laws.proofs.Sound.{IsBody, IsRuled}
use Rattle.cg_loop_laws.proofs.Firsts.{passes_append, faultless}
use Rattle.cg_loop_laws.proofs.Right.{right_stmts, distinct_ports}
use Rattle.cg_loop_laws.proofs.Scopes.{scoped}
use Rattle.cg_loop_laws.proofs.Assigned.{starts, assigned}
use Rattle.cg_loop_laws.proofs.Places.{low, apart}

pub body_sound : (P : Body) → IsLoop P → IsBody P
body_sound P h =
    let f = faultless (body_uses P) h.ruled in
    let placed = (passes_append is_misplaced [] (decls_uses P.decls) (flat_map stmt_uses P.stmts) f.placed).0 in
    let ported = (passes_append is_bad_port [] (decls_uses P.decls) (flat_map stmt_uses P.stmts) f.ported).1 in
    record {
      stmts = right_stmts _ P.stmts h.stmts ported;
      assigned = λ x w e. assigned P.decls P.stmts x w e f.assigned;
      starts = λ x w e. starts P.decls x w h.decls e;
      low = low [] P.decls placed;
      apart = apart [] P.decls placed;
    }

pub body_ruled : (P : Body) → IsLoop P → IsRuled P
body_ruled P h =
    let f = faultless (body_uses P) h.ruled in
    record {
      scoped = scoped P.decls P.stmts h.stmts (passes_append is_unknown [] (decls_uses P.decls) (flat_map stmt_uses P.stmts) f.known).1;
      distinct = (distinct_ports _ P.stmts (passes_append is_bad_port [] (decls_uses P.decls) (flat_map stmt_uses P.stmts) f.ported).1).0;
    }
