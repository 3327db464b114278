-- The expressions and statements that walks give are typed, and the ports that walks take are theirs.
use Rattle.std.proofs.Common.{◌≡◌, ℕ, suc, Bool, false, ◌&&◌, not, List, [], ◌∷◌, ◌++◌, Option, Some, None, Ok, Err, refl, sym, ap, ap₂, ◌∙◌, append_assoc}
use Rattle.std.specs.Prelude.{option_map}
use Rattle.std.proofs.lemmas.List.{append-nil}
use Rattle.cg_c_syntax.specs.Tree as tree
use Rattle.cg_c_syntax.specs.declared.expression.Sign.{Sign}
use Rattle.cg_c_syntax.specs.declared.expression.Binary.{Binary}
use Rattle.cg_c_syntax.specs.declared.expression.Cast.{Cast}
use Rattle.cg_c_syntax.specs.declared.statement.Signedness.{Signedness}
use Rattle.cg_c_check.specs.declared.program.Array.{Array}
use Rattle.cg_c_check.specs.declared.program.Constant.{Constant}
use Rattle.cg_c_check.specs.declared.fault.CheckFault.TheVariants.{BadPort, BadShift}
use Rattle.cg_c_check.specs.Rules.{common, reading_of, is_conditional, folded_sign, folded_cast}
use Rattle.cg_c_check.specs.Program.{Expr, Literal, Two, Choice, Assign, signedness_of}
use Rattle.cg_c_check.specs.Names.{array_named, writable_named}
use Rattle.cg_c_check.specs.Constants.{number, count}
use Rattle.cg_c_check.specs.Expressions.{expr, exprs, accessed, value_named, literal_of, folded_or, number_of_two, number_of_choice, two, signed, converted, choice, is_wide_by}
use Rattle.cg_c_check.specs.Statements.{is_wide_change, word_named, assigned, target, declarations, stmt, stmts}
use Rattle.cg_c_meaning.specs.Typed.{IsTypedExpr, IsTypedExprs, IsTypedTarget, AreTypedInitials, IsTypedStmt, AreTypedStmts, inputs, inputs_of, target_inputs, initial_inputs, stmt_inputs, stmts_inputs, stmt_outputs, stmts_outputs}
use Rattle.cg_c_meaning.proofs.Walking.{Ports, Typing, WhereOk, IsKnown, IsPlain, IsPlainTarget, bind, bind_rest, given, named, named_one, stepped, knows, needed, declaring_word, within, at_input, at_output}

-- ---- ports

abbrev pub so_far : (ins outs : List ℕ) → Ports
so_far ins outs = record { ins = ins; outs = outs }

abbrev pub with_ins : Ports → List ℕ → Ports
with_ins from ins = so_far (from.ins ++ ins) from.outs

abbrev pub with_both : Ports → (ins outs : List ℕ) → Ports
with_both from ins outs = so_far (from.ins ++ ins) (from.outs ++ outs)

no_ins : (from : Ports) → from ≡ with_ins from []
no_ins from = ap (λ ins. so_far ins from.outs) (sym (append-nil from.ins))

more_ins : (from : Ports) (a b : List ℕ) → with_ins (with_ins from a) b ≡ with_ins from (a ++ b)
more_ins from a b = ap (λ ins. so_far ins from.outs) (append_assoc from.ins a b)

no_outs : (from : Ports) (a : List ℕ) → with_ins from a ≡ with_both from a []
no_outs from a = ap (λ outs. so_far (from.ins ++ a) outs) (sym (append-nil from.outs))

both_behind : (from : Ports) (a b c : List ℕ) → with_both (with_ins from a) b c ≡ with_both from (a ++ b) c
both_behind from a b c = ap (λ ins. so_far ins (from.outs ++ c)) (append_assoc from.ins a b)

pub more_both : (from : Ports) (a b c d : List ℕ) → with_both (with_both from a c) b d ≡ with_both from (a ++ b) (c ++ d)
more_both from a b c d = ap₂ (λ ins outs. so_far ins outs) (append_assoc from.ins a b) (append_assoc from.outs c d)

pub none_of_both : (from : Ports) → from ≡ with_both from [] []
none_of_both from = ap₂ (λ ins outs. so_far ins outs) (sym (append-nil from.ins)) (sym (append-nil from.outs))

-- ---- folded operations

no_inputs : (e : Expr) (c : Constant) → literal_of e ≡ Some c → inputs e ≡ []
unfolding inputs
no_inputs (Literal d) c h = refl
no_inputs _ c h = absurd cc

inputs_by_two : (op : Binary) (e a b : Expr) (x y : Option Constant) → literal_of a ≡ x → literal_of b ≡ y → inputs e ≡ inputs a ++ inputs b → inputs (folded_or (number_of_two op x y) e) ≡ inputs a ++ inputs b
unfolding inputs
inputs_by_two op e a b (Some x) (Some y) h g is = sym (ap₂ (λ (m n : List ℕ). m ++ n) (no_inputs a x h) (no_inputs b y g))
inputs_by_two op e a b (Some x) None h g is = is
inputs_by_two op e a b None y h g is = is

inputs_two : (op : Binary) (a b : Expr) → inputs (two op a b) ≡ inputs a ++ inputs b
unfolding inputs
inputs_two op a b = inputs_by_two op _ a b (literal_of a) (literal_of b) refl refl refl

typed_or : (arrays : List Array) (each : Bool) (o : Option Constant) (e : Expr) → IsTypedExpr arrays each e → IsTypedExpr arrays each (folded_or o e)
unfolding IsTypedExpr
typed_or arrays each (Some c) e h = tt
typed_or arrays each None e h = h

typed_two : (arrays : List Array) (each : Bool) (op : Binary) (a b : Expr) → IsTypedExpr arrays each a → IsTypedExpr arrays (each && not (is_conditional op)) b → IsTypedExpr arrays each (two op a b)
unfolding IsTypedExpr
typed_two arrays each op a b h g = typed_or arrays each (number_of_two op (literal_of a) (literal_of b)) (Two op (reading_of op (signedness_of a) (signedness_of b)) a b) (h, g)

typed_choice : (arrays : List Array) (each : Bool) (c a b : Expr) → IsTypedExpr arrays each c → IsTypedExpr arrays false a → IsTypedExpr arrays false b → IsTypedExpr arrays each (choice c a b)
unfolding IsTypedExpr
typed_choice arrays each c a b h g k = typed_or arrays each (number_of_choice (literal_of c) (literal_of a) (literal_of b)) (Choice (common (signedness_of a) (signedness_of b)) c a b) (h, g, k)

inputs_by_one : (f : Constant → Constant) (e a : Expr) (x : Option Constant) → literal_of a ≡ x → inputs e ≡ inputs a → inputs (folded_or (option_map f x) e) ≡ inputs a
unfolding inputs
inputs_by_one f e a (Some x) h is = sym (no_inputs a x h)
inputs_by_one f e a None h is = is

inputs_signed : (sign : Sign) (a : Expr) → inputs (signed sign a) ≡ inputs a
unfolding inputs
inputs_signed sign a = inputs_by_one (folded_sign sign) _ a (literal_of a) refl refl

inputs_converted : (to : Cast) (a : Expr) → inputs (converted to a) ≡ inputs a
unfolding inputs
inputs_converted to a = inputs_by_one (folded_cast to) _ a (literal_of a) refl refl

inputs_by_three : (e c a b : Expr) (x y z : Option Constant) → literal_of c ≡ x → literal_of a ≡ y → literal_of b ≡ z → inputs e ≡ inputs c ++ inputs a ++ inputs b
    → inputs (folded_or (number_of_choice x y z) e) ≡ inputs c ++ inputs a ++ inputs b
unfolding inputs
inputs_by_three e c a b (Some x) (Some y) (Some z) h g k is =
    sym (ap₂ (λ (m n : List ℕ). m ++ n) (ap₂ (λ (m n : List ℕ). m ++ n) (no_inputs c x h) (no_inputs a y g)) (no_inputs b z k))
inputs_by_three e c a b (Some x) (Some y) None h g k is = is
inputs_by_three e c a b (Some x) None z h g k is = is
inputs_by_three e c a b None y z h g k is = is

inputs_choice : (c a b : Expr) → inputs (choice c a b) ≡ inputs c ++ inputs a ++ inputs b
unfolding inputs
inputs_choice c a b = inputs_by_three _ c a b (literal_of c) (literal_of a) (literal_of b) refl refl refl refl

-- ---- expressions

plain_value : (arrays : List Array) (each : Bool) (from : Ports) (r : _) → WhereOk r IsPlain → WhereOk r (λ a. IsTypedExpr arrays each a × (from ≡ with_ins from (inputs a)))
plain_value arrays each from (Ok a) h = (h.0 arrays each, no_ins from ∙ ap (with_ins from) (sym h.1))
plain_value arrays each from (Err fault) h = tt

mutual
  unfolding expr exprs accessed IsTypedExpr inputs

  pub type_expr : (arrays : List Array) (from : Ports) (each : Bool) (e : tree.Expr) → Typing arrays from (IsTypedExpr arrays each) (λ a. with_ins from (inputs a)) (expr each e)
  type_expr arrays from each (tree.Num n) = bind (stepped (λ names. number n)) (λ c _. given _ (no_ins from) tt)
  type_expr arrays from each (tree.Access name indices) = bind (knows name) (λ meaning h. type_accessed arrays from each name.place meaning indices h)
  type_expr arrays from each (tree.Signed sign place e) =
      bind (type_expr arrays from each e) (λ a h. given (signed sign a) (ap (with_ins from) (sym (inputs_signed sign a))) (typed_or arrays each (option_map (folded_sign sign) (literal_of a)) _ h))
  type_expr arrays from each (tree.Converted to place e) =
      bind (type_expr arrays from each e) (λ a h. given (converted to a) (ap (with_ins from) (sym (inputs_converted to a))) (typed_or arrays each (option_map (folded_cast to) (literal_of a)) _ h))
  type_expr arrays from each (tree.Input place port) = bind (at_input port) (λ p lt. bind_rest (needed each (BadPort place)) (λ _ is. given _ refl (is, lt)))
  type_expr arrays from each (tree.Picked pick place first second) =
      bind (type_expr arrays from each first) (λ a h. bind (type_expr arrays (with_ins from (inputs a)) each second) (λ b g. given _ (more_ins from (inputs a) (inputs b)) (h, g)))
  type_expr arrays from each (tree.Two op place left right) =
      bind (type_expr arrays from each left) (λ a h.
      bind (type_expr arrays (with_ins from (inputs a)) (each && not (is_conditional op)) right) (λ b g.
      bind_rest (needed (not (is_wide_by op b)) (BadShift place)) (λ _ _.
      given (two op a b) (more_ins from (inputs a) (inputs b) ∙ ap (with_ins from) (sym (inputs_two op a b))) (typed_two arrays each op a b h g))))
  type_expr arrays from each (tree.Choice place condition chosen other) =
      bind (type_expr arrays from each condition) (λ c h.
      bind (type_expr arrays (with_ins from (inputs c)) false chosen) (λ a g.
      bind (type_expr arrays (with_ins (with_ins from (inputs c)) (inputs a)) false other) (λ b k.
      given (choice c a b)
      (ap (λ p. with_ins p (inputs b)) (more_ins from (inputs c) (inputs a)) ∙ more_ins from (inputs c ++ inputs a) (inputs b) ∙ ap (with_ins from) (sym (inputs_choice c a b)))
      (typed_choice arrays each c a b h g k))))

  type_exprs : (arrays : List Array) (from : Ports) (each : Bool) (es : tree.Exprs) → Typing arrays from (IsTypedExprs arrays each) (λ more. with_ins from (inputs_of more)) (exprs each es)
  type_exprs arrays from each tree.NoExprs = given _ (no_ins from) tt
  type_exprs arrays from each (tree.MoreExprs e es) =
      bind (type_expr arrays from each e) (λ a h. bind (type_exprs arrays (with_ins from (inputs a)) each es) (λ more g. given _ (more_ins from (inputs a) (inputs_of more)) (h, g)))

  type_accessed : (arrays : List Array) (from : Ports) (each : Bool) (place : ℕ) (meaning : _) (es : tree.Exprs) → IsKnown arrays meaning
      → Typing arrays from (IsTypedExpr arrays each) (λ a. with_ins from (inputs a)) (accessed each place meaning es)
  type_accessed arrays from each place meaning tree.NoExprs h = named (λ names. value_named place meaning) (λ names _. plain_value arrays each from (value_named place meaning) (h.value place))
  type_accessed arrays from each place meaning (tree.MoreExprs e es) h =
      bind (named_one (λ names. array_named place (suc (count es)) meaning) (λ names _. h.array place (suc (count es)))) (λ shape is.
      bind (type_expr arrays from each e) (λ a g.
      bind (type_exprs arrays (with_ins from (inputs a)) each es) (λ more k. given _ (more_ins from (inputs a) (inputs_of more)) (is, (g, k)))))

-- ---- statements

plain_word : (arrays : List Array) (each : Bool) (from : Ports) (r : _) → WhereOk r IsPlainTarget → WhereOk r (λ t. IsTypedTarget arrays each t × (from ≡ with_ins from (target_inputs t)))
plain_word arrays each from (Ok t) h = (h.0 arrays each, no_ins from ∙ ap (with_ins from) (sym h.1))
plain_word arrays each from (Err fault) h = tt

type_assigned : (arrays : List Array) (from : Ports) (each : Bool) (place : ℕ) (meaning : _) (es : tree.Exprs) → IsKnown arrays meaning
    → Typing arrays from (IsTypedTarget arrays each) (λ t. with_ins from (target_inputs t)) (assigned each place meaning es)
unfolding IsTypedExpr inputs
type_assigned arrays from each place meaning tree.NoExprs h = named (λ names. word_named place meaning) (λ names _. plain_word arrays each from (word_named place meaning) (h.word place))
type_assigned arrays from each place meaning (tree.MoreExprs e es) h =
    bind (named_one (λ names. writable_named place (suc (count es)) meaning) (λ names _. h.writable place (suc (count es)))) (λ shape is.
    bind (type_expr arrays from each e) (λ a g.
    bind (type_exprs arrays (with_ins from (inputs a)) each es) (λ more k. given _ (more_ins from (inputs a) (inputs_of more)) (is.0, is.1, (g, k)))))

type_target : (arrays : List Array) (from : Ports) (each : Bool) (t : tree.Target) → Typing arrays from (IsTypedTarget arrays each) (λ a. with_ins from (target_inputs a)) (target each t)
unfolding target
type_target arrays from each t = bind (knows t.name) (λ meaning h. type_assigned arrays from each t.name.place meaning t.indices h)

type_declarations : (arrays : List Array) (from : Ports) (each : Bool) (signedness : Signedness) (ws : List tree.Word)
    → Typing arrays from (AreTypedInitials arrays each) (λ is. with_ins from (initial_inputs is)) (declarations each signedness ws)
unfolding declarations
type_declarations arrays from each signedness [] = given _ (no_ins from) tt
type_declarations arrays from each signedness (w ∷ ws) =
    bind (type_expr arrays from each w.value) (λ value h.
    bind (declaring_word w.name signedness) (λ number _.
    bind (type_declarations arrays (with_ins from (inputs value)) each signedness ws) (λ more g. given _ (more_ins from (inputs value) (initial_inputs more)) (h, g))))

mutual
  unfolding stmt stmts IsTypedStmt stmt_inputs stmt_outputs

  type_stmt : (arrays : List Array) (from : Ports) (each : Bool) (t : tree.Stmt) → Typing arrays from (IsTypedStmt arrays each) (λ a. with_both from (stmt_inputs a) (stmt_outputs a)) (stmt each t)
  type_stmt arrays from each (tree.Words signedness words) = bind (type_declarations arrays from each signedness words) (λ is h. given _ (no_outs from (initial_inputs is)) h)
  type_stmt arrays from each (tree.Block body) = bind (within (type_stmts arrays from each body)) (λ inner h. given _ refl h)
  type_stmt arrays from each (tree.If condition chosen) =
      bind (type_expr arrays from each condition) (λ c h.
      bind (type_stmt arrays (with_ins from (inputs c)) false chosen) (λ a g. given _ (both_behind from (inputs c) (stmt_inputs a) (stmt_outputs a)) (h, g)))
  type_stmt arrays from each (tree.IfElse condition chosen other) =
      bind (type_expr arrays from each condition) (λ c h.
      bind (type_stmt arrays (with_ins from (inputs c)) false chosen) (λ a g.
      bind (type_stmt arrays (with_both (with_ins from (inputs c)) (stmt_inputs a) (stmt_outputs a)) false other) (λ b k.
      given _
      (ap (λ p. with_both p (stmt_inputs b) (stmt_outputs b)) (both_behind from (inputs c) (stmt_inputs a) (stmt_outputs a)) ∙ more_both from (inputs c ++ stmt_inputs a) (stmt_inputs b) (stmt_outputs a) (stmt_outputs b))
      (h, g, k))))
  type_stmt arrays from each (tree.Output port value) =
      bind (at_output port) (λ p lt. bind (type_expr arrays (so_far from.ins (from.outs ++ p ∷ [])) each value) (λ a h. given _ refl (lt, h)))
  type_stmt arrays from each (tree.Assign left op value) =
      bind (type_target arrays from each left) (λ t h.
      bind (type_expr arrays (with_ins from (target_inputs t)) each value) (λ a g.
      bind_rest (needed (not (is_wide_change op a)) (BadShift left.name.place)) (λ _ _. given (Assign t op a) (more_ins from (target_inputs t) (inputs a) ∙ no_outs from (target_inputs t ++ inputs a)) (h, g))))

  pub type_stmts : (arrays : List Array) (from : Ports) (each : Bool) (ts : tree.Stmts) → Typing arrays from (AreTypedStmts arrays each) (λ more. with_both from (stmts_inputs more) (stmts_outputs more)) (stmts each ts)
  type_stmts arrays from each tree.NoStmts = given _ (none_of_both from) tt
  type_stmts arrays from each (tree.MoreStmts t ts) =
      bind (type_stmt arrays from each t) (λ a h.
      bind (type_stmts arrays (with_both from (stmt_inputs a) (stmt_outputs a)) each ts) (λ more g.
      given _ (more_both from (stmt_inputs a) (stmts_inputs more) (stmt_outputs a) (stmts_outputs more)) (h, g)))
