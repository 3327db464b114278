-- Tests of uses that no use of an expression passes.
use Rattle.std.proofs.Common.{◌≡◌, ℕ, Bool, false, List, ◌++◌, Option, Some, None, refl, ◌∙◌}
use Rattle.std.specs.List.{list_any}
use Rattle.std.proofs.lemmas.Bool.{or_from}
use Rattle.std.proofs.lemmas.List.Folds.{list_any-append}
use Rattle.cg_loop_syntax.specs.declared.uses.Role.TheVariants as roles
use Rattle.cg_loop_syntax.specs.Loop.{Expr, Num, Turn, In, Scalar, Item, Two, Three}
use Rattle.cg_loop_syntax.specs.Uses.{Use, of_name, of_port, expr_uses, guard_uses}

pub record IsQuiet (p : Use → Bool) : Type 0 where
  pub inputs : (q : ℕ) → p (of_port (roles.Input q)) ≡ false
  pub scalars : (x : List ℕ) → p (of_name roles.Scalar x) ≡ false
  pub items : (a : List ℕ) → p (of_name roles.Item a) ≡ false

pub none_of_both : (p : Use → Bool) (us vs : List Use) → list_any p us ≡ false → list_any p vs ≡ false → list_any p (us ++ vs) ≡ false
none_of_both p us vs a b = list_any-append p us vs ∙ or_from _ _ a b

pub quiet_expr : (p : Use → Bool) → IsQuiet p → (e : Expr) → list_any p (expr_uses e) ≡ false
quiet_expr p h (Num w) = refl
quiet_expr p h Turn = refl
quiet_expr p h (In q) = or_from _ _ (h.inputs q) refl
quiet_expr p h (Scalar x) = or_from _ _ (h.scalars x) refl
quiet_expr p h (Item a e) = or_from _ _ (h.items a) (quiet_expr p h e)
quiet_expr p h (Two op a b) = none_of_both p _ _ (quiet_expr p h a) (quiet_expr p h b)
quiet_expr p h (Three op a b c) = none_of_both p _ _ (quiet_expr p h a) (none_of_both p _ _ (quiet_expr p h b) (quiet_expr p h c))

pub quiet_guard : (p : Use → Bool) → IsQuiet p → (g : Option Expr) → list_any p (guard_uses g) ≡ false
quiet_guard p h None = refl
quiet_guard p h (Some e) = quiet_expr p h e
