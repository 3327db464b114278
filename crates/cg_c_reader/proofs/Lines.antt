-- The lines of expressions, each from its first token on.
use Rattle.std.proofs.Common.{◌≡◌, ℕ, zero, suc, ◌+◌, ◌<◌, ◌≤◌, Bool, true, false, cond, codes, List, [], ◌∷◌, ◌++◌, length, Option, Some, None, refl, sym, ap, ◌∙◌, subst, arith, add-one, length-append}
use Rattle.std.proofs.lemmas.Bool.{lt-leb, le-leb}
use Rattle.cg_c_syntax.specs.declared.token.Kind.{Kind}
use Rattle.cg_c_syntax.specs.declared.token.Kind.TheVariants.{Word, Number, Mark, Stdint, Cgra, Define, LineEnd, TextEnd, Stray}
use Rattle.cg_c_syntax.specs.declared.expression.Binary.{Binary}
use Rattle.cg_c_syntax.specs.declared.expression.Cast.{Cast}
use Rattle.cg_c_syntax.specs.declared.expression.Pick.{Pick}
use Rattle.cg_c_syntax.specs.declared.expression.Pick.TheVariants.{Min, Max}
use Rattle.cg_c_syntax.specs.declared.expression.Sign.{Sign}
use Rattle.cg_c_syntax.specs.declared.opening.Opening.{Opening}
use Rattle.cg_c_syntax.specs.declared.opening.Opening.TheVariants as openings
use Rattle.cg_c_syntax.specs.Tokens.{Token}
use Rattle.cg_c_syntax.specs.Tree.{Num, Access, Signed, Converted, Input, Picked, Two, Choice, NoExprs, MoreExprs}
use Rattle.cg_c_syntax.specs.Words.{is_the_mark, is_word, is_number, named, number_of, cast_of, binary_of, at_level, opening_by, opening_of, mark_opening, word_opening, sign_called}
use Rattle.cg_c_syntax.specs.Symbols.{TheMark, Expression, Chosen, Operators, Further, Bracketed, CastOperand, Indices}
use Rattle.cg_c_syntax.specs.Grammar.{barred, at_limit, is_sign, operand_step, operator_step, bracketed_step}
use Rattle.cg_c_reader.specs.Left.{Rest, all, Leads, FailsTo}
use Rattle.cg_c_reader.proofs.Composed.{fails_stops, fails_bars}
use Rattle.cg_c_reader.proofs.Single.{if_true, if_false}
use Rattle.cg_c_reader.proofs.Leading.{takes, begins}

-- ---- the limit

limit_free : (depth place : ℕ) → depth < 60 → at_limit depth place ≡ None
limit_free depth place h = if_false _ _ (lt-leb 60 depth h)

limit_bars : (depth place : ℕ) → 60 ≤ depth → at_limit depth place ≡ Some place
limit_bars depth place h = if_true _ _ (le-leb 60 depth h)

-- ---- expressions

pub expression_bars : (depth : ℕ) (r : Rest) → 60 ≤ depth → FailsTo (Expression depth) (Some r.head.place) r r
expression_bars depth r h = fails_bars r (limit_bars depth r.head.place h)

pub expression_begins : (depth : ℕ) (r : Rest) → depth < 60 → Leads (Expression depth) (Operators 10 (depth + 1) ∷ Chosen (depth + 1) ∷ []) (λ v. v.1.0 v.0) r r
expression_begins depth r h =
    subst (λ (d : ℕ). Leads (Expression depth) (Operators 10 d ∷ Chosen d ∷ []) (λ v. v.1.0 v.0) r r) (sym (add-one depth))
    (begins {s = Expression depth} (record { symbols = Operators 10 (suc depth) ∷ Chosen (suc depth) ∷ []; value = λ v. v.1.0 v.0 }) (limit_free depth r.head.place h) refl)

pub chosen_takes : (depth : ℕ) (old mid : Rest) → is_the_mark (codes "?") old.head ≡ true → old.more ≡ all mid
    → Leads (Chosen depth) (Expression depth ∷ TheMark (codes ":") ∷ Expression depth ∷ []) (λ v. λ condition. Choice old.head.place condition v.0 v.1.1.0) old mid
chosen_takes depth old mid h more = takes {s = Chosen depth} _ refl (if_true _ _ h) more

pub chosen_ends : (depth : ℕ) (r : Rest) → is_the_mark (codes "?") r.head ≡ false → Leads (Chosen depth) [] (λ v. λ e. e) r r
chosen_ends depth r h = begins {s = Chosen depth} _ refl (if_false _ _ h)

-- ---- operators

pub operators_begin : (level less depth : ℕ) (r : Rest) → level ≡ suc less → Leads (Operators level depth) (Operators less depth ∷ Further level depth ∷ []) (λ v. v.1.0 v.0) r r
operators_begin level less depth r e =
    subst (λ (n : ℕ). Leads (Operators n depth) (Operators less depth ∷ Further n depth ∷ []) (λ v. v.1.0 v.0) r r) (sym e)
    (begins {s = Operators (suc less) depth} (record { symbols = Operators less depth ∷ Further (suc less) depth ∷ []; value = λ v. v.1.0 v.0 }) refl refl)

further_of : (less depth : ℕ) (op : Binary) (old mid : Rest) → at_level (suc less) (binary_of old.head) ≡ Some op → old.more ≡ all mid
    → Leads (Further (suc less) depth) (Operators less depth ∷ Further (suc less) depth ∷ []) (λ v. λ operand. v.1.0 (Two op old.head.place operand v.0)) old mid
further_of less depth op old mid h more = takes {s = Further (suc less) depth} _ refl (ap (operator_step (suc less) depth old.head.place) h) more

pub further_takes : (level less depth : ℕ) (op : Binary) (old mid : Rest) → level ≡ suc less → at_level level (binary_of old.head) ≡ Some op → old.more ≡ all mid
    → Leads (Further level depth) (Operators less depth ∷ Further level depth ∷ []) (λ v. λ operand. v.1.0 (Two op old.head.place operand v.0)) old mid
further_takes level less depth op old mid e h more =
    subst
    (λ (n : ℕ). at_level n (binary_of old.head) ≡ Some op → Leads (Further n depth) (Operators less depth ∷ Further n depth ∷ []) (λ v. λ operand. v.1.0 (Two op old.head.place operand v.0)) old mid)
    (sym e) (λ x. further_of less depth op old mid x more) h

further_none : (less depth : ℕ) (r : Rest) → at_level (suc less) (binary_of r.head) ≡ None → Leads (Further (suc less) depth) [] (λ v. λ e. e) r r
further_none less depth r h = begins {s = Further (suc less) depth} _ refl (ap (operator_step (suc less) depth r.head.place) h)

pub further_ends : (level less depth : ℕ) (r : Rest) → level ≡ suc less → at_level level (binary_of r.head) ≡ None → Leads (Further level depth) [] (λ v. λ e. e) r r
further_ends level less depth r e h =
    subst (λ (n : ℕ). at_level n (binary_of r.head) ≡ None → Leads (Further n depth) [] (λ v. λ e. e) r r) (sym e) (λ x. further_none less depth r x) h

-- ---- operands

operand_free : (depth : ℕ) (t : Token) (o : Opening) → opening_of t ≡ o → is_sign o ≡ false → barred (Operators 0 depth) t ≡ None
operand_free depth t o h plain = ap (λ (x : Opening). cond (is_sign x) (at_limit depth t.place) None) h ∙ if_false _ _ plain

pub sign_bars : (depth : ℕ) (sign : Sign) (r : Rest) → 60 ≤ depth → opening_of r.head ≡ openings.Sign sign → FailsTo (Operators 0 depth) (Some r.head.place) r r
sign_bars depth sign r full h = fails_bars r (ap (λ (x : Opening). cond (is_sign x) (at_limit depth r.head.place) None) h ∙ limit_bars depth r.head.place full)

pub sign_takes : (depth : ℕ) (sign : Sign) (old mid : Rest) → depth < 60 → opening_of old.head ≡ openings.Sign sign → old.more ≡ all mid
    → Leads (Operators 0 depth) (Operators 0 (depth + 1) ∷ []) (λ v. Signed sign old.head.place v.0) old mid
sign_takes depth sign old mid room h more =
    subst (λ (d : ℕ). Leads (Operators 0 depth) (Operators 0 d ∷ []) (λ v. Signed sign old.head.place v.0) old mid) (sym (add-one depth))
    (takes {s = Operators 0 depth} (record { symbols = Operators 0 (suc depth) ∷ []; value = λ v. Signed sign old.head.place v.0 })
    (ap (λ (x : Opening). cond (is_sign x) (at_limit depth old.head.place) None) h ∙ limit_free depth old.head.place room) (ap (operand_step depth old.head) h) more)

pub bracket_takes : (depth : ℕ) (old mid : Rest) → opening_of old.head ≡ openings.Bracket → old.more ≡ all mid → Leads (Operators 0 depth) (Bracketed old.head.place depth ∷ []) (λ v. v.0) old mid
bracket_takes depth old mid h more = takes {s = Operators 0 depth} _ (operand_free depth old.head _ h refl) (ap (operand_step depth old.head) h) more

pub number_takes : (depth : ℕ) (old mid : Rest) → opening_of old.head ≡ openings.Number → old.more ≡ all mid → Leads (Operators 0 depth) [] (λ v. Num (number_of old.head)) old mid
number_takes depth old mid h more = takes {s = Operators 0 depth} _ (operand_free depth old.head _ h refl) (ap (operand_step depth old.head) h) more

pub name_takes : (depth : ℕ) (old mid : Rest) → opening_of old.head ≡ openings.Name → old.more ≡ all mid → Leads (Operators 0 depth) (Indices 3 depth ∷ []) (λ v. Access (named old.head) v.0) old mid
name_takes depth old mid h more = takes {s = Operators 0 depth} _ (operand_free depth old.head _ h refl) (ap (operand_step depth old.head) h) more

pub input_takes : (depth : ℕ) (old mid : Rest) → opening_of old.head ≡ openings.Input → old.more ≡ all mid
    → Leads (Operators 0 depth) (TheMark (codes "(") ∷ Expression depth ∷ TheMark (codes ")") ∷ []) (λ v. Input old.head.place v.1.0) old mid
input_takes depth old mid h more = takes {s = Operators 0 depth} _ (operand_free depth old.head _ h refl) (ap (operand_step depth old.head) h) more

pub pick_takes : (depth : ℕ) (pick : Pick) (old mid : Rest) → opening_of old.head ≡ openings.Pick pick → old.more ≡ all mid
    → Leads (Operators 0 depth) (TheMark (codes "(") ∷ Expression depth ∷ TheMark (codes ",") ∷ Expression depth ∷ TheMark (codes ")") ∷ []) (λ v. Picked pick old.head.place v.1.0 v.1.1.1.0) old mid
pick_takes depth pick old mid h more = takes {s = Operators 0 depth} _ (operand_free depth old.head _ h refl) (ap (operand_step depth old.head) h) more

pub nothing_stops : (depth : ℕ) (r : Rest) → opening_of r.head ≡ openings.Nothing → FailsTo (Operators 0 depth) None r r
nothing_stops depth r h = fails_stops r (operand_free depth r.head _ h refl) (ap (operand_step depth r.head) h)

-- ---- brackets

pub cast_takes : (place depth : ℕ) (to : Cast) (old mid : Rest) → cast_of old.head ≡ Some to → old.more ≡ all mid
    → Leads (Bracketed place depth) (TheMark (codes ")") ∷ CastOperand place depth ∷ []) (λ v. Converted to place v.1.0) old mid
cast_takes place depth to old mid h more = takes {s = Bracketed place depth} _ refl (ap (bracketed_step place depth) h) more

pub bracketed_begins : (place depth : ℕ) (r : Rest) → cast_of r.head ≡ None → Leads (Bracketed place depth) (Expression depth ∷ TheMark (codes ")") ∷ []) (λ v. v.0) r r
bracketed_begins place depth r h = begins {s = Bracketed place depth} _ refl (ap (bracketed_step place depth) h)

pub cast_operand_bars : (place depth : ℕ) (r : Rest) → 60 ≤ depth → FailsTo (CastOperand place depth) (Some place) r r
cast_operand_bars place depth r h = fails_bars r (limit_bars depth place h)

pub cast_operand_begins : (place depth : ℕ) (r : Rest) → depth < 60 → Leads (CastOperand place depth) (Operators 0 (depth + 1) ∷ []) (λ v. v.0) r r
cast_operand_begins place depth r h =
    subst (λ (d : ℕ). Leads (CastOperand place depth) (Operators 0 d ∷ []) (λ v. v.0) r r) (sym (add-one depth))
    (begins {s = CastOperand place depth} (record { symbols = Operators 0 (suc depth) ∷ []; value = λ v. v.0 }) (limit_free depth place h) refl)

-- ---- indices

index_of : (less depth : ℕ) (old mid : Rest) → is_the_mark (codes "[") old.head ≡ true → old.more ≡ all mid
    → Leads (Indices (suc less) depth) (Expression depth ∷ TheMark (codes "]") ∷ Indices less depth ∷ []) (λ v. MoreExprs v.0 v.1.1.0) old mid
index_of less depth old mid h more = takes {s = Indices (suc less) depth} _ refl (if_true _ _ h) more

pub index_takes : (room less depth : ℕ) (old mid : Rest) → room ≡ suc less → is_the_mark (codes "[") old.head ≡ true → old.more ≡ all mid
    → Leads (Indices room depth) (Expression depth ∷ TheMark (codes "]") ∷ Indices less depth ∷ []) (λ v. MoreExprs v.0 v.1.1.0) old mid
index_takes room less depth old mid e h more =
    subst (λ (n : ℕ). Leads (Indices n depth) (Expression depth ∷ TheMark (codes "]") ∷ Indices less depth ∷ []) (λ v. MoreExprs v.0 v.1.1.0) old mid) (sym e)
    (index_of less depth old mid h more)

pub indices_end : (room depth : ℕ) (r : Rest) → is_the_mark (codes "[") r.head ≡ false → Leads (Indices room depth) [] (λ v. NoExprs) r r
indices_end zero depth r h = begins {s = Indices zero depth} _ refl refl
indices_end (suc room) depth r h = begins {s = Indices (suc room) depth} _ refl (if_false _ _ h)

pub indices_full : (room depth : ℕ) (r : Rest) → room ≡ 0 → Leads (Indices room depth) [] (λ v. NoExprs) r r
indices_full room depth r e = subst (λ (n : ℕ). Leads (Indices n depth) [] (λ v. NoExprs) r r) (sym e) (begins {s = Indices zero depth} _ refl refl)

-- ---- what tokens begin

cond_no_name : (b : Bool) → cond b openings.Bracket openings.Nothing ≡ openings.Name → ⊥
cond_no_name true h = cc
cond_no_name false h = cc

mark_no_name : (s : List ℕ) (o : Option Sign) → mark_opening s o ≡ openings.Name → ⊥
unfolding mark_opening
mark_no_name s (Some sign) h = cc
mark_no_name s None h = cond_no_name _ h

pub name_is_word : (kind : Kind) (s : List ℕ) → opening_by kind s ≡ openings.Name → is_word kind ≡ true
name_is_word Word s h = refl
name_is_word Number s h = cc
name_is_word Mark s h = absurd (mark_no_name s (sign_called s) h)
name_is_word Stdint s h = cc
name_is_word Cgra s h = cc
name_is_word Define s h = cc
name_is_word LineEnd s h = cc
name_is_word TextEnd s h = cc
name_is_word Stray s h = cc

cond_no_number : (b : Bool) → cond b openings.Bracket openings.Nothing ≡ openings.Number → ⊥
cond_no_number true h = cc
cond_no_number false h = cc

mark_no_number : (s : List ℕ) (o : Option Sign) → mark_opening s o ≡ openings.Number → ⊥
unfolding mark_opening
mark_no_number s (Some sign) h = cc
mark_no_number s None h = cond_no_number _ h

conds_no_number : (a b c d : Bool) → cond a openings.Input (cond b (openings.Pick Min) (cond c (openings.Pick Max) (cond d openings.Nothing openings.Name))) ≡ openings.Number → ⊥
conds_no_number true b c d h = cc
conds_no_number false true c d h = cc
conds_no_number false false true d h = cc
conds_no_number false false false true h = cc
conds_no_number false false false false h = cc

word_no_number : (s : List ℕ) → word_opening s ≡ openings.Number → ⊥
unfolding word_opening
word_no_number s h = conds_no_number _ _ _ _ h

pub number_is_number : (kind : Kind) (s : List ℕ) → opening_by kind s ≡ openings.Number → is_number kind ≡ true
number_is_number Word s h = absurd (word_no_number s h)
number_is_number Number s h = refl
number_is_number Mark s h = absurd (mark_no_number s (sign_called s) h)
number_is_number Stdint s h = cc
number_is_number Cgra s h = cc
number_is_number Define s h = cc
number_is_number LineEnd s h = cc
number_is_number TextEnd s h = cc
number_is_number Stray s h = cc

-- ---- fewer tokens are left

pub fewer : (old mid new : Rest) (front : List Token) → old.more ≡ all mid → all mid ≡ front ++ all new → length (all new) < length (all old)
fewer old mid new front more e = omega (arith, ap length more, ap length e, length-append front (all new))
