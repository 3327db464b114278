-- What an assignment's target is.
use Rattle.std.proofs.Common.{◌≡◌, ℕ, List, [], ◌++◌, Option, sym, ap, subst, true}
use Rattle.cg_c_syntax.specs.declared.expression.Binary.{Binary}
use Rattle.cg_c_syntax.specs.declared.statement.Signedness.{Signedness}
use Rattle.cg_c_check.specs.declared.program.Array.{Array}
use Rattle.cg_c_check.specs.declared.program.Element.{Element as MadeElement}
use Rattle.cg_c_check.specs.declared.program.Target.{Target as MadeTarget}
use Rattle.cg_c_check.specs.declared.program.Target.TheVariants as targets
use Rattle.cg_c_check.specs.Program.{Expr, Assign, Target, TheWord, TheElement}
use Rattle.cg_c_check.specs.Written.{exprs_of, target_of}
use Rattle.cg_c_meaning.specs.Meaning.{stmt}
use Rattle.cg_c_meaning.specs.Typed.{AreApart, IsTypedExpr, IsTypedStmt, IsTypedTarget, inputs, stmt_inputs, target_inputs}
use Rattle.cg_c_turn.specs.Draft.{Draft}
use Rattle.cg_c_turn.specs.Translated.{IsTranslated}

pub word_target : (target : MadeTarget) (number : ℕ) (s : Signedness) → target ≡ targets.Word number s → target_of target ≡ TheWord number s
word_target target number s is = ap target_of is

pub element_target : (target : MadeTarget) (x : MadeElement) → target ≡ targets.Element x → target_of target ≡ TheElement x.array x.place x.signedness (exprs_of x.indices.items)
element_target target x is = ap target_of is

pub typed_value : (arrays : List Array) (target : Target) (op : Option Binary) (e : Expr) → IsTypedStmt arrays true (Assign target op e) → IsTypedExpr arrays true e
unfolding IsTypedStmt
typed_value arrays target op e h = h.1

pub typed_target : (arrays : List Array) (target whole : Target) (op : Option Binary) (e : Expr) → target ≡ whole → IsTypedStmt arrays true (Assign target op e) → IsTypedTarget arrays true whole
unfolding IsTypedStmt
typed_target arrays target whole op e is h = subst (λ (z : Target). IsTypedTarget arrays true z) is h.0

pub apart_parts : (target whole : Target) (op : Option Binary) (e : Expr) → target ≡ whole → AreApart (stmt_inputs (Assign target op e)) → AreApart (target_inputs whole ++ inputs e)
unfolding stmt_inputs
apart_parts target whole op e is h = subst (λ (z : Target). AreApart (target_inputs z ++ inputs e)) is h

pub assigned_to : (a b : Draft) (target whole : Target) (op : Option Binary) (e : Expr) → target ≡ whole → IsTranslated a b (λ c. stmt c (Assign whole op e)) (target_inputs whole ++ inputs e) [] → IsTranslated a b (λ c. stmt c (Assign target op e)) (stmt_inputs (Assign target op e)) []
unfolding stmt_inputs
assigned_to a b target whole op e is h = subst (λ (z : Target). IsTranslated a b (λ c. stmt c (Assign z op e)) (target_inputs z ++ inputs e) []) (sym is) h
