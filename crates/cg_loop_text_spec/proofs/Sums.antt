-- Steps of reading a product, a sum, an expression and the operands of an operation.
use Rattle.std.proofs.Common.{◌≡◌, ℕ, zero, suc, Bool, true, false, cond, ◌&&◌, ◌||◌, not, List, [], ◌∷◌, ◌++◌, codes, Some, None, ⊎_elim, refl, sym, ◌∙◌, ap, subst}
use Rattle.std.specs.Prelude.{is_some}
use Rattle.cg_word.specs.declared.op.Op.{Op}
use Rattle.cg_word.specs.declared.op.Op.TheVariants.{Eq, Lts}
use Rattle.cg_tokens.specs.Table.{going, run}
use Rattle.cg_tokens.specs.Tokens.{Placed}
use Rattle.cg_loop_text_spec.specs.Words.{added_by, compared_by}
use Rattle.cg_loop_text_spec.specs.Rules.{Closer, Further, Symbol, Exactly, Operand, After, Close, same, close_rule, after_rule, rule}
use Rattle.cg_loop_text_spec.specs.Read.{begins_with, begins_adding, begins_comparing, Takes, Stops, ReadsAtom, StopsAtom, ReadsExpr, StopsExpr, ReadsArgs, StopsArgs}
use Rattle.cg_loop_text_spec.proofs.Texts.{chosen, same_is, or_right}
use Rattle.cg_loop_text_spec.proofs.Runs.{same_run, by_rule, by_taken, no_miss}

pub adding_rule : (c : Closer) (k : Bool) (room : ℕ) (t : List ℕ) (o : Op) → added_by t ≡ Some o → after_rule c k room t ≡ Some (Operand c k room ∷ [])
adding_rule c k room t o h =
    ap (λ b. cond b (Some (Operand c k room ∷ [])) (cond (is_some (compared_by t) && not k) (Some (Operand c true room ∷ [])) (close_rule c room t))) (or_right (same t (codes "*")) (is_some (added_by t)) (ap is_some h))

pub comparing_rule : (c : Closer) (room : ℕ) (t : List ℕ) (o : Op) → compared_by t ≡ Some o → after_rule c false room t ≡ Some (Operand c true room ∷ [])
comparing_rule c room t o h = ⊎_elim (λ w. at (codes "==") (same_is t (codes "==") w.0) refl)
    (λ w. ⊎_elim (λ v. at (codes "<") (same_is t (codes "<") v.0) refl) (λ v. let none = v.1 in cc) (chosen (same t (codes "<")) (Some Lts) None (Some o) w.1))
    (chosen (same t (codes "==")) (Some Eq) (cond (same t (codes "<")) (Some Lts) None) (Some o) h)
  where
    at : (s : List ℕ) → t ≡ s → after_rule c false room s ≡ Some (Operand c true room ∷ []) → after_rule c false room t ≡ Some (Operand c true room ∷ [])
    at s e r = ap (after_rule c false room) e ∙ r

-- ---- products and sums

pub prod_more : (room : ℕ) (old now l new : List Placed) → ReadsAtom room old now → Takes (codes "*") now l → ReadsAtom room l new → ReadsAtom room old new
prod_more room old now l new a e b = record { ran = λ c k stack. a.ran c k stack ∙ by_taken (After c k room) (codes "*") (Operand c k room ∷ []) stack now l e refl ∙ b.ran c k stack }

pub prod_misses : (room : ℕ) (old now l new : List Placed) → ReadsAtom room old now → Takes (codes "*") now l → StopsAtom room l new → StopsAtom room old new
prod_misses room old now l new a e b = record { ran = λ c k stack. a.ran c k stack ∙ by_taken (After c k room) (codes "*") (Operand c k room ∷ []) stack now l e refl ∙ b.ran c k stack }

pub star_misses : (room : ℕ) (old now new : List Placed) → begins_with (codes "*") now ≡ true → Stops (Exactly (codes "*") ∷ []) now new → StopsAtom room old new
star_misses room old now new h f = absurd (no_miss (codes "*") now new h f)

pub sum_more : (room : ℕ) (o : Op) (t : Placed) (old now l new : List Placed) → ReadsAtom room old now → now ≡ t ∷ l → added_by t.text ≡ Some o → ReadsAtom room l new → ReadsAtom room old new
sum_more room o t old now l new a e h b = record { ran = λ c k stack. a.ran c k stack ∙ by_rule (After c k room) t (Operand c k room ∷ []) stack now l e (adding_rule c k room t.text o h) ∙ b.ran c k stack }

pub sum_misses : (room : ℕ) (o : Op) (t : Placed) (old now l new : List Placed) → ReadsAtom room old now → now ≡ t ∷ l → added_by t.text ≡ Some o → StopsAtom room l new → StopsAtom room old new
sum_misses room o t old now l new a e h b = record { ran = λ c k stack. a.ran c k stack ∙ by_rule (After c k room) t (Operand c k room ∷ []) stack now l e (adding_rule c k room t.text o h) ∙ b.ran c k stack }

-- ---- expressions

closed_plain : (c : Closer) (room : ℕ) (stack : List Symbol) (now : List Placed) → begins_with (codes "*") now ≡ false → begins_adding now ≡ false → begins_comparing now ≡ false → run rule (After c false room ∷ stack) now ≡ run rule (Close c room ∷ stack) now
closed_plain c room stack [] s a p = refl
closed_plain c room stack (t ∷ l) s a p =
    ap (λ o. going o (λ x. run rule (x ++ stack) l) (t ∷ l))
    (ap (λ b. cond (b || is_some (added_by t.text)) (Some (Operand c false room ∷ [])) (cond (is_some (compared_by t.text) && true) (Some (Operand c true room ∷ [])) (close_rule c room t.text))) s
    ∙ ap (λ b. cond b (Some (Operand c false room ∷ [])) (cond (is_some (compared_by t.text) && true) (Some (Operand c true room ∷ [])) (close_rule c room t.text))) a
    ∙ ap (λ b. cond (b && true) (Some (Operand c true room ∷ [])) (close_rule c room t.text)) p)

closed_compared : (c : Closer) (room : ℕ) (stack : List Symbol) (now : List Placed) → begins_with (codes "*") now ≡ false → begins_adding now ≡ false → run rule (After c true room ∷ stack) now ≡ run rule (Close c room ∷ stack) now
closed_compared c room stack [] s a = refl
closed_compared c room stack (t ∷ l) s a =
    ap (λ o. going o (λ x. run rule (x ++ stack) l) (t ∷ l))
    (ap (λ b. cond (b || is_some (added_by t.text)) (Some (Operand c true room ∷ [])) (cond (is_some (compared_by t.text) && false) (Some (Operand c true room ∷ [])) (close_rule c room t.text))) s
    ∙ ap (λ b. cond b (Some (Operand c true room ∷ [])) (cond (is_some (compared_by t.text) && false) (Some (Operand c true room ∷ [])) (close_rule c room t.text))) a
    ∙ elim (is_some (compared_by t.text)) as (λ b. cond (b && false) (Some (Operand c true room ∷ [])) (close_rule c room t.text) ≡ close_rule c room t.text) [ true ↦ refl | false ↦ refl ])

pub plain_read : (room : ℕ) (old now : List Placed) → ReadsAtom room old now → begins_with (codes "*") now ≡ false → begins_adding now ≡ false → begins_comparing now ≡ false → ReadsExpr room old now
plain_read room old now a s p q = record { ran = λ c stack. a.ran c false stack ∙ closed_plain c room stack now s p q }

pub compared_read : (room : ℕ) (o : Op) (t : Placed) (old now l new : List Placed) → ReadsAtom room old now → now ≡ t ∷ l → compared_by t.text ≡ Some o → ReadsAtom room l new → begins_with (codes "*") new ≡ false → begins_adding new ≡ false → ReadsExpr room old new
compared_read room o t old now l new a e h b s p = record {
  ran = λ c stack.
      a.ran c false stack ∙ by_rule (After c false room) t (Operand c true room ∷ []) stack now l e (comparing_rule c room t.text o h) ∙ b.ran c true stack ∙ closed_compared c room stack new s p;
}

pub plain_misses : (room : ℕ) (old new : List Placed) → StopsAtom room old new → StopsExpr room old new
plain_misses room old new a = record { ran = λ c stack. a.ran c false stack }

pub compared_misses : (room : ℕ) (o : Op) (t : Placed) (old now l new : List Placed) → ReadsAtom room old now → now ≡ t ∷ l → compared_by t.text ≡ Some o → StopsAtom room l new → StopsExpr room old new
compared_misses room o t old now l new a e h b = record {
  ran = λ c stack. a.ran c false stack ∙ by_rule (After c false room) t (Operand c true room ∷ []) stack now l e (comparing_rule c room t.text o h) ∙ b.ran c true stack;
}

-- ---- operands of an operation

pub last_read : (room n : ℕ) (old now new : List Placed) → ReadsExpr room old now → n ≡ 0 → Takes (codes ")") now new → ReadsArgs room n old new
last_read room n old now new a z e = subst (λ m. ReadsArgs room m old new) (sym z) (record { ran = λ stack. a.ran (Further zero) stack ∙ by_taken (Close (Further zero) room) (codes ")") [] stack now new e refl })

pub last_misses : (room n : ℕ) (old now new : List Placed) → ReadsExpr room old now → n ≡ 0 → Stops (Exactly (codes ")") ∷ []) now new → StopsArgs room n old new
last_misses room n old now new a z e = subst (λ m. StopsArgs room m old new) (sym z) (record { ran = λ stack. a.ran (Further zero) stack ∙ same_run (Close (Further zero) room) (Exactly (codes ")")) stack now (λ _. refl) ∙ e.ran stack })

pub args_misses : (room n : ℕ) (old new : List Placed) → StopsExpr room old new → StopsArgs room n old new
args_misses room n old new a = record { ran = λ stack. a.ran (Further n) stack }

pub more_read : (room n m : ℕ) (old now l new : List Placed) → ReadsExpr room old now → n ≡ suc m → Takes (codes ",") now l → ReadsArgs room m l new → ReadsArgs room n old new
more_read room n m old now l new a z e b = subst (λ x. ReadsArgs room x old new) (sym z) (record { ran = λ stack. a.ran (Further (suc m)) stack ∙ by_taken (Close (Further (suc m)) room) (codes ",") (Operand (Further m) false room ∷ []) stack now l e refl ∙ b.ran stack })

pub more_misses : (room n m : ℕ) (old now l new : List Placed) → ReadsExpr room old now → n ≡ suc m → Takes (codes ",") now l → StopsArgs room m l new → StopsArgs room n old new
more_misses room n m old now l new a z e b = subst (λ x. StopsArgs room x old new) (sym z) (record { ran = λ stack. a.ran (Further (suc m)) stack ∙ by_taken (Close (Further (suc m)) room) (codes ",") (Operand (Further m) false room ∷ []) stack now l e refl ∙ b.ran stack })

comma_run : (room m : ℕ) (stack : List Symbol) (now : List Placed) → run rule (Close (Further (suc m)) room ∷ stack) now ≡ run rule (Exactly (codes ",") ∷ Operand (Further m) false room ∷ stack) now
comma_run room m stack [] = refl
comma_run room m stack (t ∷ l) = elim (same t.text (codes ",")) as (λ b. going (cond b (Some (Operand (Further m) false room ∷ [])) None) (λ x. run rule (x ++ stack) l) (t ∷ l) ≡ going (cond b (Some []) None) (λ x. run rule (x ++ (Operand (Further m) false room ∷ stack)) l) (t ∷ l)) [ true ↦ refl | false ↦ refl ]

comma_stops : (room n m : ℕ) (old now new : List Placed) → ReadsExpr room old now → n ≡ suc m → Stops (Exactly (codes ",") ∷ []) now new → StopsArgs room n old new
comma_stops room n m old now new a z e = subst (λ x. StopsArgs room x old new) (sym z) (record { ran = λ stack. a.ran (Further (suc m)) stack ∙ comma_run room m stack now ∙ e.ran (Operand (Further m) false room ∷ stack) })

pub comma_misses : (room n : ℕ) (old now new : List Placed) → ReadsExpr room old now → (n ≡ 0 → ⊥) → Stops (Exactly (codes ",") ∷ []) now new → StopsArgs room n old new
comma_misses room zero old now new a z f = absurd (z refl)
comma_misses room (suc m) old now new a z f = comma_stops room (suc m) m old now new a refl f
