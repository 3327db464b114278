-- A whole text that is read, or not.
use Rattle.std.proofs.Common.{◌≡◌, true, false, List, [], ◌∷◌, ◌++◌, ap, ◌∙◌}
use Rattle.std.specs.Prelude.{codes}
use Rattle.std.specs.List.{flat_map}
use Rattle.cg_loop_syntax.specs.declared.body.Decl.{Decl}
use Rattle.cg_tokens.specs.Tokens.{tokens_at}
use Rattle.cg_loop_text_spec.specs.Grammar.{decl_tokens, stmt_tokens}
use Rattle.cg_loop_text_spec.specs.Meaning.{decls_uses, stmt_uses}
use Rattle.cg_loop_text_spec.specs.Rules.{Exactly, Lines}
use Rattle.cg_loop_text_spec.specs.Read as read
use Rattle.cg_loop_text_spec.proofs.Lines as lines
use Rattle.cg_loop_text_spec.proofs.Rows as rows
use Rattle.cg_loop_reader.specs.declared.read.Parts.{Parts}
use Rattle.cg_loop_reader.specs.declared.reader.Reader.{Reader}
use Rattle.cg_loop_reader.specs.declared.fault.Misfit.{Misfit}
use Rattle.cg_loop_reader.specs.declared.fault.Misfit.TheVariants.{Memory, Text}
use Rattle.cg_loop_reader.specs.Doubled.{double}
use Rattle.cg_loop_reader.specs.Left.{left, noted, Takes, Misses}
use Rattle.cg_loop_reader.specs.Lines.{FindsDecls, FindsStmts}
use Rattle.cg_loop_reader.specs.Whole.{FindsText, MissesText}
use Rattle.cg_loop_reader.proofs.Taken.{taken, after, noted_after}

pub text_found : (parts : Parts) (old a b m new : Reader) → Takes (codes "cgl1") old a → Takes (codes ";") a b → FindsDecls parts.decls.items b m → FindsStmts parts.stmts.items m new → tokens_at double new.bytes.now new.at ≡ [] → FindsText parts old new
text_found parts old a b m new f c x y e = record {
  tree = record { format = f.token; end = c.token; decls = x.trees; stmts = y.trees };
  is = record { format = f.is; end = c.is; decls = x.are; stmts = y.are };
  spelled = f.spelled ∙ ap (λ v. f.token ∷ v) (c.spelled ∙ ap (λ v. c.token ∷ v) (after (left b) (left m) (left new) (flat_map decl_tokens x.trees) (flat_map stmt_tokens y.trees) x.spelled y.spelled));
  none = e;
  noted = noted_after (noted b) (noted m) (noted new) (decls_uses x.trees) (flat_map stmt_uses y.trees) x.noted y.noted ∙ ap (λ v. v ++ (decls_uses x.trees ++ flat_map stmt_uses y.trees)) (c.kept.noted ∙ f.kept.noted);
  stand = record { decls = x.value; stmts = y.value; decls_well = x.well; stmts_well = y.well };
}

pub format_missed : (e : Misfit) (old new : Reader) → Misses e (Exactly (codes "cgl1") ∷ []) old new → MissesText e old new
format_missed Memory old new x = tt
format_missed Text old new x = lines.file_misses (left old) (left new) (rows.format_misses (left old) (left new) x)

pub format_end_missed : (e : Misfit) (old a new : Reader) → Takes (codes "cgl1") old a → Misses e (Exactly (codes ";") ∷ []) a new → MissesText e old new
format_end_missed Memory old a new f x = tt
format_end_missed Text old a new f x = lines.file_misses (left old) (left new) (rows.format_end_misses (left old) (left a) (left new) (taken f) x)

pub decls_missed : (e : Misfit) (old a b new : Reader) → Takes (codes "cgl1") old a → Takes (codes ";") a b → Misses e (Lines true ∷ []) b new → MissesText e old new
decls_missed Memory old a b new f c x = tt
decls_missed Text old a b new f c x = lines.file_misses (left old) (left new) (rows.file_lines_stop (left old) (left a) (left b) (left new) (taken f) (taken c) x)

pub stmts_missed : (e : Misfit) (ds : List Decl) (old a b m new : Reader) → Takes (codes "cgl1") old a → Takes (codes ";") a b → FindsDecls ds b m → read.begins_with (codes "array") (left m) ≡ false → read.begins_with (codes "carry") (left m) ≡ false → Misses e (Lines false ∷ []) m new → MissesText e old new
stmts_missed Memory ds old a b m new f c x s t y = tt
stmts_missed Text ds old a b m new f c x s t y =
    lines.file_misses (left old) (left new)
    (rows.file_lines_stop (left old) (left a) (left b) (left new) (taken f) (taken c)
    (lines.lines_stop true false (left b) (left m) (left new) (lines.lines_on true true false (left b) (left m) (left m) x.ran (lines.decls_over (left m) s t)) y))
