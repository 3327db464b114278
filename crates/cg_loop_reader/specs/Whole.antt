-- What reading finds in a whole text.
use Rattle.std.specs.Prelude.{◌≡◌, true, [], ◌++◌, map, Some}
use Rattle.std.specs.List.{list_all}
use Rattle.cg_tokens.specs.Table.{run}
use Rattle.cg_tokens.specs.Tokens.{tokens_at}
use Rattle.cg_loop_syntax.specs.Grouped.{stmt_of}
use Rattle.cg_loop_syntax.specs.Well.{is_well_stmt, is_well_decl}
use Rattle.cg_loop_text_spec.specs.Grammar as grammar
use Rattle.cg_loop_text_spec.specs.Grammar.{IsText, text_tokens}
use Rattle.cg_loop_text_spec.specs.Meaning.{stmt_value, decl_value, text_uses}
use Rattle.cg_loop_text_spec.specs.Rules.{rule, start}
use Rattle.cg_loop_reader.specs.declared.read.Parts.{Parts}
use Rattle.cg_loop_reader.specs.declared.reader.Reader.{Reader}
use Rattle.cg_loop_reader.specs.declared.fault.Misfit.{Misfit}
use Rattle.cg_loop_reader.specs.declared.fault.Misfit.TheVariants.{Memory, Text}
use Rattle.cg_loop_reader.specs.Doubled.{double}
use Rattle.cg_loop_reader.specs.Left.{left, noted}

-- the parts are those of the tree, and keep the rules
pub record ArePartsOf (tree : grammar.Text) (parts : Parts) : Type 0 where
  pub decls : parts.decls.items ≡ map decl_value tree.decls
  pub stmts : map stmt_of parts.stmts.items ≡ map stmt_value tree.stmts
  pub decls_well : list_all is_well_decl parts.decls.items ≡ true
  pub stmts_well : list_all is_well_stmt parts.stmts.items ≡ true

-- a whole text is read, and no token is left
pub record FindsText (parts : Parts) (old new : Reader) : Type 0 where
  pub tree : grammar.Text
  pub is : IsText tree
  pub spelled : left old ≡ text_tokens tree ++ left new
  pub none : tokens_at double new.bytes.now new.at ≡ []
  pub noted : noted new ≡ noted old ++ text_uses tree
  pub stand : ArePartsOf tree parts

abbrev pub MissesText : Misfit → Reader → Reader → Type 0
MissesText Memory old new = Unit {0}
MissesText Text old new = run rule start (left old) ≡ Some (left new)
