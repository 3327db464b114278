-- Steps of reading an expression.
use Rattle.std.proofs.Common.{◌≡◌, ℕ, zero, suc, Bool, true, false, cond, ◌||◌, List, [], ◌∷◌, ◌++◌, codes, Option, Some, None, refl, sym, ◌∙◌, ap, subst}
use Rattle.cg_word.specs.declared.op.Op.{Op}
use Rattle.cg_word.specs.declared.op.Op.TheVariants as ops
use Rattle.cg_word.specs.Word.{arity, name_of}
use Rattle.cg_tokens.specs.Table.{going, run}
use Rattle.cg_tokens.specs.Tokens.{Placed}
use Rattle.cg_loop_syntax.specs.Well.{is_word_op, is_loop_name}
use Rattle.cg_loop_text_spec.specs.Words.{is_number, op_called}
use Rattle.cg_loop_text_spec.specs.Rules.{Closer, Round, Square, Further, Symbol, Exactly, Name, Digits, Operand, Named, After, Close, same, after_rule, index_rule, further_of, apply_rule, open_rule, operand_rule, rule_of, rule}
use Rattle.cg_loop_text_spec.specs.Read.{begins_with, Takes, Reads, Stops, ReadsAtom, StopsAtom, ReadsIndex, StopsIndex, ReadsExpr, StopsExpr, ReadsArgs, StopsArgs}
use Rattle.cg_loop_text_spec.proofs.Texts.{apart, name_number, op_name}
use Rattle.cg_loop_text_spec.proofs.Runs.{same_run, by_rule, by_taken, by_none, by_end, begins_taken, no_miss}

-- ---- a name, a number

pub a_name_read : (t : Placed) (old new : List Placed) → old ≡ t ∷ new → is_loop_name t.text ≡ true → Reads (Name ∷ []) old new
a_name_read t old new e h = record { ran = λ stack. by_rule Name t [] stack old new e (ap (λ b. cond b (Some []) None) h) }

pub a_name_misses : (t : Placed) (old l : List Placed) → old ≡ t ∷ l → is_loop_name t.text ≡ false → Stops (Name ∷ []) old old
a_name_misses t old l e h = record { ran = λ stack. by_none Name t stack old l e (ap (λ b. cond b (Some []) None) h) }

pub a_number_read : (t : Placed) (old new : List Placed) → old ≡ t ∷ new → is_number t.text ≡ true → Reads (Digits ∷ []) old new
a_number_read t old new e h = record { ran = λ stack. by_rule Digits t [] stack old new e (ap (λ b. cond b (Some []) None) h) }

pub a_number_misses : (t : Placed) (old l : List Placed) → old ≡ t ∷ l → is_number t.text ≡ false → Stops (Digits ∷ []) old old
a_number_misses t old l e h = record { ran = λ stack. by_none Digits t stack old l e (ap (λ b. cond b (Some []) None) h) }

-- where no token is left
pub none_left : (s : Symbol) (old : List Placed) → old ≡ [] → Stops (s ∷ []) old old
none_left s old e = record { ran = λ stack. by_end s stack old e }

-- ---- the rules of an operand

pub number_rule : (c : Closer) (k : Bool) (room : ℕ) (t : List ℕ) → is_number t ≡ true → operand_rule c k room t ≡ Some (After c k room ∷ [])
number_rule c k room t h =
    ap (λ b. cond (b || same t (codes "turn")) (Some (After c k room ∷ [])) (cond (same t (codes "in")) (Some (Digits ∷ After c k room ∷ [])) (cond (is_loop_name t) (Some (Named c k room ∷ [])) (open_rule c k room t)))) h

-- what is no number and none of the words
pub past_rule : (c : Closer) (k : Bool) (room : ℕ) (t : List ℕ) → is_number t ≡ false → same t (codes "turn") ≡ false → same t (codes "in") ≡ false → operand_rule c k room t ≡ cond (is_loop_name t) (Some (Named c k room ∷ [])) (open_rule c k room t)
past_rule c k room t n w i =
    ap (λ b. cond (b || same t (codes "turn")) (Some (After c k room ∷ [])) (cond (same t (codes "in")) (Some (Digits ∷ After c k room ∷ [])) (cond (is_loop_name t) (Some (Named c k room ∷ [])) (open_rule c k room t)))) n
    ∙ ap (λ b. cond b (Some (After c k room ∷ [])) (cond (same t (codes "in")) (Some (Digits ∷ After c k room ∷ [])) (cond (is_loop_name t) (Some (Named c k room ∷ [])) (open_rule c k room t)))) w
    ∙ ap (λ b. cond b (Some (Digits ∷ After c k room ∷ [])) (cond (is_loop_name t) (Some (Named c k room ∷ [])) (open_rule c k room t))) i

pub name_rule : (c : Closer) (k : Bool) (room : ℕ) (t : List ℕ) → is_loop_name t ≡ true → operand_rule c k room t ≡ Some (Named c k room ∷ [])
name_rule c k room t h =
    past_rule c k room t (name_number t h) (apart is_loop_name t (codes "turn") h refl) (apart is_loop_name t (codes "in") h refl)
    ∙ ap (λ b. cond b (Some (Named c k room ∷ [])) (open_rule c k room t)) h

pub other_rule : (c : Closer) (k : Bool) (room : ℕ) (t : List ℕ) → is_number t ≡ false → same t (codes "turn") ≡ false → same t (codes "in") ≡ false → is_loop_name t ≡ false → operand_rule c k room t ≡ open_rule c k room t
other_rule c k room t n w i h = past_rule c k room t n w i ∙ ap (λ b. cond b (Some (Named c k room ∷ [])) (open_rule c k room t)) h

bracket_at : (c : Closer) (k : Bool) (room less : ℕ) → room ≡ suc less → operand_rule c k room (codes "(") ≡ Some (Operand Round false less ∷ After c k room ∷ [])
bracket_at c k room less z = subst (λ r. operand_rule c k r (codes "(") ≡ Some (Operand Round false less ∷ After c k r ∷ [])) (sym z) refl

named_op : (c : Closer) (k : Bool) (less : ℕ) (o : Op) → is_word_op o ≡ true → operand_rule c k (suc less) (name_of o) ≡ apply_rule c k less (further_of (Some o))
named_op c k less ops.Const h = cc
named_op c k less ops.Iter h = cc
named_op c k less ops.Input h = cc
named_op c k less ops.Add h = refl
named_op c k less ops.Sub h = refl
named_op c k less ops.Mul h = refl
named_op c k less ops.And h = refl
named_op c k less ops.Or h = refl
named_op c k less ops.Xor h = refl
named_op c k less ops.Shl h = refl
named_op c k less ops.Shr h = refl
named_op c k less ops.Sar h = refl
named_op c k less ops.Eq h = refl
named_op c k less ops.Ne h = refl
named_op c k less ops.Lts h = refl
named_op c k less ops.Ltu h = refl
named_op c k less ops.Mins h = refl
named_op c k less ops.Maxs h = refl
named_op c k less ops.Select h = refl
named_op c k less ops.Load h = cc
named_op c k less ops.Store h = cc
named_op c k less ops.Output h = cc
named_op c k less ops.LoadIf h = cc
named_op c k less ops.StoreIf h = cc
named_op c k less ops.OutputIf h = cc

pub op_rule : (c : Closer) (k : Bool) (less n : ℕ) (t : List ℕ) (o : Op) → op_called t ≡ Some o → arity o ≡ suc n → operand_rule c k (suc less) t ≡ Some (Exactly (codes "(") ∷ Operand (Further n) false less ∷ After c k (suc less) ∷ [])
op_rule c k less n t o h a =
    let w = op_name t o h in
    ap (operand_rule c k (suc less)) w.1 ∙ named_op c k less o w.0 ∙ ap (λ x. apply_rule c k less (further_from x)) a
  where
    further_from : ℕ → Option ℕ
    further_from zero = None
    further_from (suc m) = Some m

op_at : (c : Closer) (k : Bool) (room less n : ℕ) (t : List ℕ) (o : Op) → op_called t ≡ Some o → arity o ≡ suc n → room ≡ suc less → operand_rule c k room t ≡ Some (Exactly (codes "(") ∷ Operand (Further n) false less ∷ After c k room ∷ [])
op_at c k room less n t o h a z = subst (λ r. operand_rule c k r t ≡ Some (Exactly (codes "(") ∷ Operand (Further n) false less ∷ After c k r ∷ [])) (sym z) (op_rule c k less n t o h a)

-- ---- operands

pub number_read : (room : ℕ) (t : Placed) (old new : List Placed) → old ≡ t ∷ new → is_number t.text ≡ true → ReadsAtom room old new
number_read room t old new e h = record { ran = λ c k stack. by_rule (Operand c k room) t (After c k room ∷ []) stack old new e (number_rule c k room t.text h) }

pub turn_read : (room : ℕ) (old new : List Placed) → Takes (codes "turn") old new → ReadsAtom room old new
turn_read room old new t = record { ran = λ c k stack. by_taken (Operand c k room) (codes "turn") (After c k room ∷ []) stack old new t refl }

pub input_read : (room : ℕ) (old l new : List Placed) → Takes (codes "in") old l → Reads (Digits ∷ []) l new → ReadsAtom room old new
input_read room old l new t d = record { ran = λ c k stack. by_taken (Operand c k room) (codes "in") (Digits ∷ After c k room ∷ []) stack old l t refl ∙ d.ran (After c k room ∷ stack) }

pub input_misses : (room : ℕ) (old l new : List Placed) → Takes (codes "in") old l → Stops (Digits ∷ []) l new → StopsAtom room old new
input_misses room old l new t d = record { ran = λ c k stack. by_taken (Operand c k room) (codes "in") (Digits ∷ After c k room ∷ []) stack old l t refl ∙ d.ran (After c k room ∷ stack) }

pub name_read : (room : ℕ) (t : Placed) (old now new : List Placed) → old ≡ t ∷ now → is_loop_name t.text ≡ true → ReadsIndex room now new → ReadsAtom room old new
name_read room t old now new e h i = record { ran = λ c k stack. by_rule (Operand c k room) t (Named c k room ∷ []) stack old now e (name_rule c k room t.text h) ∙ i.ran c k stack }

pub name_misses : (room : ℕ) (t : Placed) (old now new : List Placed) → old ≡ t ∷ now → is_loop_name t.text ≡ true → StopsIndex room now new → StopsAtom room old new
name_misses room t old now new e h i = record { ran = λ c k stack. by_rule (Operand c k room) t (Named c k room ∷ []) stack old now e (name_rule c k room t.text h) ∙ i.ran c k stack }

pub end_misses : (room : ℕ) (old : List Placed) → old ≡ [] → StopsAtom room old old
end_misses room old e = record { ran = λ c k stack. by_end (Operand c k room) stack old e }

-- a token that begins no operand where no bracket may be opened
pub room_misses : (room : ℕ) (t : Placed) (old l : List Placed) → old ≡ t ∷ l → is_number t.text ≡ false → same t.text (codes "turn") ≡ false → same t.text (codes "in") ≡ false → is_loop_name t.text ≡ false → room ≡ 0 → StopsAtom room old old
room_misses room t old l e n w i h z = record { ran = λ c k stack. by_none (Operand c k room) t stack old l e (other_rule c k room t.text n w i h ∙ ap (λ r. open_rule c k r t.text) z) }

-- a token that begins no operand at all
pub op_misses : (room : ℕ) (t : Placed) (old l : List Placed) → old ≡ t ∷ l → is_number t.text ≡ false → same t.text (codes "turn") ≡ false → same t.text (codes "in") ≡ false → is_loop_name t.text ≡ false → same t.text (codes "(") ≡ false → op_called t.text ≡ None
    → StopsAtom room old old
op_misses room t old l e n w i h b f = record { ran = λ c k stack. by_none (Operand c k room) t stack old l e (other_rule c k room t.text n w i h ∙ closed c k room) }
  where
    closed : (c : Closer) (k : Bool) (room : ℕ) → open_rule c k room t.text ≡ None
    closed c k zero = refl
    closed c k (suc less) = ap (λ x. cond x (Some (Operand Round false less ∷ After c k (suc less) ∷ [])) (apply_rule c k less (further_of (op_called t.text)))) b ∙ ap (λ x. apply_rule c k less (further_of x)) f

-- a bracket
pub bracket_read : (room less : ℕ) (old l now new : List Placed) → Takes (codes "(") old l → room ≡ suc less → ReadsExpr less l now → Takes (codes ")") now new → ReadsAtom room old new
bracket_read room less old l now new b z x f = record {
  ran = λ c k stack.
      by_taken (Operand c k room) (codes "(") (Operand Round false less ∷ After c k room ∷ []) stack old l b (bracket_at c k room less z)
      ∙ x.ran Round (After c k room ∷ stack) ∙ by_taken (Close Round less) (codes ")") [] (After c k room ∷ stack) now new f refl;
}

pub bracket_misses : (room less : ℕ) (old l new : List Placed) → Takes (codes "(") old l → room ≡ suc less → StopsExpr less l new → StopsAtom room old new
bracket_misses room less old l new b z x = record {
  ran = λ c k stack. by_taken (Operand c k room) (codes "(") (Operand Round false less ∷ After c k room ∷ []) stack old l b (bracket_at c k room less z) ∙ x.ran Round (After c k room ∷ stack);
}

pub bracket_end_misses : (room less : ℕ) (old l now new : List Placed) → Takes (codes "(") old l → room ≡ suc less → ReadsExpr less l now → Stops (Exactly (codes ")") ∷ []) now new → StopsAtom room old new
bracket_end_misses room less old l now new b z x f = record {
  ran = λ c k stack.
      by_taken (Operand c k room) (codes "(") (Operand Round false less ∷ After c k room ∷ []) stack old l b (bracket_at c k room less z)
      ∙ x.ran Round (After c k room ∷ stack) ∙ same_run (Close Round less) (Exactly (codes ")")) (After c k room ∷ stack) now (λ _. refl) ∙ f.ran (After c k room ∷ stack);
}

pub bracket_open_misses : (room : ℕ) (old new : List Placed) → begins_with (codes "(") old ≡ true → Stops (Exactly (codes "(") ∷ []) old new → StopsAtom room old new
bracket_open_misses room old new h f = absurd (no_miss (codes "(") old new h f)

-- an operation; further n are the operands after the first
pub apply_read : (room less n : ℕ) (o : Op) (t : Placed) (old l now new : List Placed) → old ≡ t ∷ l → op_called t.text ≡ Some o → arity o ≡ suc n → room ≡ suc less → Takes (codes "(") l now → ReadsArgs less n now new → ReadsAtom room old new
apply_read room less n o t old l now new e h a z g x = record {
  ran = λ c k stack.
      by_rule (Operand c k room) t (Exactly (codes "(") ∷ Operand (Further n) false less ∷ After c k room ∷ []) stack old l e (op_at c k room less n t.text o h a z)
      ∙ by_taken (Exactly (codes "(")) (codes "(") [] (Operand (Further n) false less ∷ After c k room ∷ stack) l now g refl ∙ x.ran (After c k room ∷ stack);
}

pub apply_misses : (room less n : ℕ) (o : Op) (t : Placed) (old l now new : List Placed) → old ≡ t ∷ l → op_called t.text ≡ Some o → arity o ≡ suc n → room ≡ suc less → Takes (codes "(") l now → StopsArgs less n now new → StopsAtom room old new
apply_misses room less n o t old l now new e h a z g x = record {
  ran = λ c k stack.
      by_rule (Operand c k room) t (Exactly (codes "(") ∷ Operand (Further n) false less ∷ After c k room ∷ []) stack old l e (op_at c k room less n t.text o h a z)
      ∙ by_taken (Exactly (codes "(")) (codes "(") [] (Operand (Further n) false less ∷ After c k room ∷ stack) l now g refl ∙ x.ran (After c k room ∷ stack);
}

pub apply_open_misses : (room less n : ℕ) (o : Op) (t : Placed) (old l new : List Placed) → old ≡ t ∷ l → op_called t.text ≡ Some o → arity o ≡ suc n → room ≡ suc less → Stops (Exactly (codes "(") ∷ []) l new → StopsAtom room old new
apply_open_misses room less n o t old l new e h a z g = record {
  ran = λ c k stack.
      by_rule (Operand c k room) t (Exactly (codes "(") ∷ Operand (Further n) false less ∷ After c k room ∷ []) stack old l e (op_at c k room less n t.text o h a z) ∙ g.ran (Operand (Further n) false less ∷ After c k room ∷ stack);
}

pub apply_op_misses : (room : ℕ) (s : List ℕ) (old new : List Placed) → begins_with s old ≡ true → Stops (Exactly s ∷ []) old new → StopsAtom room old new
apply_op_misses room s old new h f = absurd (no_miss s old new h f)

-- ---- what follows a name

pub no_index_read : (room : ℕ) (old : List Placed) → begins_with (codes "[") old ≡ false → ReadsIndex room old old
no_index_read room [] h = record { ran = λ c k stack. refl }
no_index_read room (t ∷ l) h = record { ran = λ c k stack. ap (λ b. going (cond b (index_rule c k room) (after_rule c k room t.text)) (λ x. run rule (x ++ stack) l) (t ∷ l)) h }

index_at : (c : Closer) (k : Bool) (room less : ℕ) → room ≡ suc less → rule_of (Named c k room) (codes "[") ≡ Some (Operand Square false less ∷ After c k room ∷ [])
index_at c k room less z = subst (λ r. rule_of (Named c k r) (codes "[") ≡ Some (Operand Square false less ∷ After c k r ∷ [])) (sym z) refl

pub index_room_misses : (room : ℕ) (old : List Placed) → begins_with (codes "[") old ≡ true → room ≡ 0 → StopsIndex room old old
index_room_misses room old h z =
    let b = begins_taken (codes "[") old h in
    record { ran = λ c k stack. by_none (Named c k room) b.1.token stack old b.0 b.1.whole (ap (rule_of (Named c k room)) b.1.is ∙ ap (λ r. rule_of (Named c k r) (codes "[")) z) }

pub index_read : (room less : ℕ) (old l now new : List Placed) → Takes (codes "[") old l → room ≡ suc less → ReadsExpr less l now → Takes (codes "]") now new → ReadsIndex room old new
index_read room less old l now new e z x f = record {
  ran = λ c k stack.
      by_taken (Named c k room) (codes "[") (Operand Square false less ∷ After c k room ∷ []) stack old l e (index_at c k room less z)
      ∙ x.ran Square (After c k room ∷ stack) ∙ by_taken (Close Square less) (codes "]") [] (After c k room ∷ stack) now new f refl;
}

pub index_misses : (room less : ℕ) (old l new : List Placed) → Takes (codes "[") old l → room ≡ suc less → StopsExpr less l new → StopsIndex room old new
index_misses room less old l new e z x = record {
  ran = λ c k stack. by_taken (Named c k room) (codes "[") (Operand Square false less ∷ After c k room ∷ []) stack old l e (index_at c k room less z) ∙ x.ran Square (After c k room ∷ stack);
}

pub index_end_misses : (room less : ℕ) (old l now new : List Placed) → Takes (codes "[") old l → room ≡ suc less → ReadsExpr less l now → Stops (Exactly (codes "]") ∷ []) now new → StopsIndex room old new
index_end_misses room less old l now new e z x f = record {
  ran = λ c k stack.
      by_taken (Named c k room) (codes "[") (Operand Square false less ∷ After c k room ∷ []) stack old l e (index_at c k room less z)
      ∙ x.ran Square (After c k room ∷ stack) ∙ same_run (Close Square less) (Exactly (codes "]")) (After c k room ∷ stack) now (λ _. refl) ∙ f.ran (After c k room ∷ stack);
}

pub index_open_misses : (room : ℕ) (old new : List Placed) → begins_with (codes "[") old ≡ true → Stops (Exactly (codes "[") ∷ []) old new → StopsIndex room old new
index_open_misses room old new h f = absurd (no_miss (codes "[") old new h f)
