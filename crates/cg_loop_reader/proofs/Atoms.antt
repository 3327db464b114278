-- Atoms that are read.
use Rattle.std.proofs.Common.{◌≡◌, ℕ, suc, ◌-◌, true, false, ◌&&◌, List, [], ◌∷◌, ◌++◌, Some, refl, sym, ap, ap₂, ◌∙◌, subst, arith, length, append_assoc}
use Rattle.std.specs.Prelude.{codes, nat_lt, nat_le, eqb, map}
use Rattle.std.specs.List.{list_all}
use Rattle.std.specs.Char.{is_ascii_digit}
use Rattle.std.proofs.lemmas.Bool.{and_parts, and_from, lt-ltb, eq-eqb}
use Rattle.cg_word.specs.declared.op.Op.{Op}
use Rattle.cg_word.specs.declared.op.Op.TheVariants as ops
use Rattle.cg_word.specs.Word.{words, arity}
use Rattle.cg_tokens.specs.declared.token.Token.{Token}
use Rattle.cg_tokens.specs.Tokens.{seen}
use Rattle.cg_loop_syntax.specs.declared.uses.Role.TheVariants as roles
use Rattle.cg_loop_syntax.specs.declared.syntax.Atom.{Atom}
use Rattle.cg_loop_syntax.specs.declared.syntax.Atom.TheVariants as atoms
use Rattle.cg_loop_syntax.specs.declared.syntax.Expr.{Expr}
use Rattle.cg_loop_syntax.specs.Loop as loops
use Rattle.cg_loop_syntax.specs.Grouped.{expr_of, atom_of, applied}
use Rattle.cg_loop_syntax.specs.Uses.{Use}
use Rattle.cg_loop_syntax.specs.Well.{is_loop_name, is_word_op, is_well_expr, is_well_atom}
use Rattle.cg_loop_text_spec.specs.Words.{is_number, number_of, op_called, op_of}
use Rattle.cg_loop_text_spec.specs.Grammar as grammar
use Rattle.cg_loop_text_spec.specs.Grammar.{expr_tokens, args_tokens}
use Rattle.cg_loop_text_spec.specs.Meaning.{of_name, of_port, expr_uses, args_uses, expr_value, args_values}
use Rattle.cg_loop_text_spec.specs.Read as read
use Rattle.cg_loop_text_spec.proofs.Steps as steps
use Rattle.cg_loop_text_spec.proofs.Sums as sums
use Rattle.cg_loop_reader.specs.declared.reader.Reader.{Reader}
use Rattle.cg_loop_reader.specs.declared.reader.Numeral.{Numeral}
use Rattle.cg_loop_reader.specs.Left.{left, noted, Keeps, Takes, TakesNumber, Notes}
use Rattle.cg_loop_reader.specs.Found.{FindsAtom, FindsIndex, FindsExpr, FindsOperands}
use Rattle.cg_loop_reader.proofs.Taken.{taken, between, noted_after, none_noted}

some_room : (room less : ℕ) → room ≡ suc less → nat_lt 0 room ≡ true
some_room room less z = lt-ltb 0 room (omega (arith, z))

room_less : (room less : ℕ) → room ≡ suc less → room - 1 ≡ less
room_less room less z = omega (arith, z)

pub number_found : (room v : ℕ) (t : Token) (old new : Reader) → is_number t.text.now ≡ true → number_of t.text.now ≡ v → left old ≡ seen t ∷ left new → Keeps old new → FindsAtom room (atoms.Num v) old new
number_found room v t old new h n e k = record {
  tree = grammar.Number (seen t);
  is = h;
  spelled = e;
  noted = none_noted (noted old) (noted new) k.noted;
  value = ap loops.Num (sym n);
  well = ap (λ z. nat_lt z words) (sym n) ∙ (and_parts (nat_lt 0 (length t.text.now) && (nat_le (length t.text.now) 10 && list_all is_ascii_digit t.text.now)) (nat_lt (number_of t.text.now) words) (group h)).1;
  ran = steps.number_read room (seen t) (left old) (left new) e h;
}
  where
    group : is_number t.text.now ≡ true → ((nat_lt 0 (length t.text.now) && (nat_le (length t.text.now) 10 && list_all is_ascii_digit t.text.now)) && nat_lt (number_of t.text.now) words) ≡ true
    group x = x

pub turn_found : (room : ℕ) (t : Token) (old new : Reader) → t.text.now ≡ codes "turn" → left old ≡ seen t ∷ left new → Keeps old new → FindsAtom room atoms.Turn old new
turn_found room t old new h e k = record {
  tree = grammar.Turn (seen t);
  is = h;
  spelled = e;
  noted = none_noted (noted old) (noted new) k.noted;
  value = refl;
  well = refl;
  ran = steps.turn_read room (left old) (left new) (record { token = seen t; is = h; whole = e });
}

-- the word, the port's number, and the note
pub input_found : (room : ℕ) (t : Token) (n : Numeral) (old l m new : Reader) → t.text.now ≡ codes "in" → left old ≡ seen t ∷ left l → Keeps old l → TakesNumber n l m → Notes (record { role = roles.Input n.value; name = []; place = n.place }) m new → FindsAtom room (atoms.Input n.value) old new
input_found room t n old l m new h e k d w =
    let left_new : left l ≡ d.token ∷ left new = d.spelled ∙ ap (λ x. d.token ∷ x) (sym w.left) in
    record {
      tree = grammar.Input (seen t) d.token;
      is = (h, d.is);
      spelled = e ∙ ap (λ x. seen t ∷ x) left_new;
      noted = w.noted ∙ ap₂ (λ x y. x ++ y ∷ []) (d.kept.noted ∙ k.noted) (sym (ap₂ (λ (v p : ℕ). record { role = roles.Input v; name = []; place = p }) d.value d.place));
      value = ap loops.In (sym d.value);
      well = refl;
      ran = steps.input_read room (left old) (left l) (left new) (record { token = seen t; is = h; whole = e }) (steps.a_number_read d.token (left l) (left new) left_new d.is);
    }

-- a scalar, behind which no index stands
pub scalar_found : (room : ℕ) (t : Token) (own : List ℕ) (old new : Reader) → is_loop_name t.text.now ≡ true → own ≡ t.text.now → read.begins_with (codes "[") (left old) ≡ false → Notes (record { role = roles.Scalar; name = t.text.now; place = t.place }) old new → FindsIndex room t (atoms.Scalar own) old new
scalar_found room t own old new h o b w = record {
  tree = grammar.Scalar (seen t);
  is = h;
  spelled = ap (λ x. seen t ∷ x) (sym w.left);
  noted = w.noted;
  value = ap loops.Scalar o;
  well = ap is_loop_name o ∙ h;
  ran = subst (λ x. read.ReadsIndex room (left old) x) (sym w.left) (steps.no_index_read room (left old) b);
}

-- a word of an array
pub item_found : (room less : ℕ) (t : Token) (own : List ℕ) (a : Atom) (e : Expr) (old m n p new : Reader) → is_loop_name t.text.now ≡ true → own ≡ t.text.now → room ≡ suc less → atom_of a ≡ loops.Item own (expr_of e) → is_well_atom room a ≡ ((nat_lt 0 room && is_loop_name own) && is_well_expr (room - 1) e)
    → Notes (record { role = roles.Item; name = t.text.now; place = t.place }) old m → Takes (codes "[") m n → FindsExpr less e n p → Takes (codes "]") p new → FindsIndex room t a old new
item_found room less t own a e old m n p new h o z av aw w b x c =
    let opens : read.Takes (codes "[") (left old) (left n) = subst (λ y. read.Takes (codes "[") y (left n)) w.left (taken b) in
    record {
      tree = grammar.Item (seen t) b.token x.tree c.token;
      is = (h, b.is, c.is, (less, z, x.is));
      spelled = ap (λ y. seen t ∷ y) (between (left old) (left n) (left p) (left new) b.token c.token (expr_tokens x.tree) (sym w.left ∙ b.spelled) x.spelled c.spelled);
      noted = c.kept.noted ∙ noted_after (noted old) (noted n) (noted p) (of_name roles.Item (seen t) ∷ []) (expr_uses x.tree) (b.kept.noted ∙ w.noted) x.noted;
      value = av ∙ ap₂ loops.Item o x.value;
      well = aw ∙ and_from (nat_lt 0 room && is_loop_name own) (is_well_expr (room - 1) e) (and_from (nat_lt 0 room) (is_loop_name own) (some_room room less z) (ap is_loop_name o ∙ h)) (ap (λ r. is_well_expr r e) (room_less room less z) ∙ x.well);
      ran = steps.index_read room less (left old) (left n) (left p) (left new) opens z x.ran (taken c);
    }

-- a name, and what follows it
pub named_found : (room : ℕ) (t : Token) (a : Atom) (old l new : Reader) → is_loop_name t.text.now ≡ true → left old ≡ seen t ∷ left l → Keeps old l → FindsIndex room t a l new → FindsAtom room a old new
named_found room t a old l new h e k x = record {
  tree = x.tree;
  is = x.is;
  spelled = e ∙ x.spelled;
  noted = x.noted ∙ ap (λ y. y ++ grammar_uses x.tree) k.noted;
  value = x.value;
  well = x.well;
  ran = steps.name_read room (seen t) (left old) (left l) (left new) e h x.ran;
}
  where
    grammar_uses : grammar.Atom → List Use
    grammar_uses = Rattle.cg_loop_text_spec.specs.Meaning.atom_uses

-- an expression in brackets
pub bracket_found : (room less : ℕ) (t : Token) (a : Atom) (e : Expr) (old l p new : Reader) → t.text.now ≡ codes "(" → room ≡ suc less → atom_of a ≡ expr_of e → is_well_atom room a ≡ (nat_lt 0 room && is_well_expr (room - 1) e)
    → left old ≡ seen t ∷ left l → Keeps old l → FindsExpr less e l p → Takes (codes ")") p new → FindsAtom room a old new
bracket_found room less t a e old l p new h z av aw s k x c = record {
  tree = grammar.Bracket (seen t) x.tree c.token;
  is = (h, c.is, (less, z, x.is));
  spelled = between (left old) (left l) (left p) (left new) (seen t) c.token (expr_tokens x.tree) s x.spelled c.spelled;
  noted = c.kept.noted ∙ x.noted ∙ ap (λ y. y ++ expr_uses x.tree) k.noted;
  value = av ∙ x.value;
  well = aw ∙ and_from (nat_lt 0 room) (is_well_expr (room - 1) e) (some_room room less z) (ap (λ r. is_well_expr r e) (room_less room less z) ∙ x.well);
  ran = steps.bracket_read room less (left old) (left l) (left p) (left new) (record { token = seen t; is = h; whole = s }) z x.ran (taken c);
}

-- ---- operations by their names

pub last_found : (room n : ℕ) (e : Expr) (before new_items : List Expr) (old m new : Reader) → n ≡ 0 → new_items ≡ before ++ e ∷ [] → FindsExpr room e old m → Takes (codes ")") m new → FindsOperands room n before new_items old new
last_found room n e before new_items old m new z a x c = record {
  tree = grammar.One x.tree;
  closing = c.token;
  found = e ∷ [];
  is = (z, x.is);
  closes = c.is;
  spelled = x.spelled ∙ ap (λ y. expr_tokens x.tree ++ y) c.spelled;
  appended = a;
  noted = c.kept.noted ∙ x.noted;
  values = ap (λ y. y ∷ []) x.value;
  well = and_from (is_well_expr room e) true x.well refl;
  ran = sums.last_read room n (left old) (left m) (left new) x.ran z (taken c);
}

pub more_found : (room n k : ℕ) (e : Expr) (before mid new_items : List Expr) (old m l new : Reader) → n ≡ suc k → mid ≡ before ++ e ∷ [] → FindsExpr room e old m → Takes (codes ",") m l → FindsOperands room k mid new_items l new → FindsOperands room n before new_items old new
more_found room n k e before mid new_items old m l new z a x c y = record {
  tree = grammar.More x.tree c.token y.tree;
  closing = y.closing;
  found = e ∷ y.found;
  is = (c.is, (k, z, x.is, y.is));
  closes = y.closes;
  spelled = x.spelled ∙ ap (λ v. expr_tokens x.tree ++ v) (c.spelled ∙ ap (λ v. c.token ∷ v) y.spelled) ∙ sym (append_assoc (expr_tokens x.tree) (c.token ∷ args_tokens y.tree) (y.closing ∷ left new));
  appended = y.appended ∙ ap (λ v. v ++ y.found) a ∙ append_assoc before (e ∷ []) y.found;
  noted = noted_after (noted old) (noted l) (noted new) (expr_uses x.tree) (args_uses y.tree) (c.kept.noted ∙ x.noted) y.noted;
  values = ap₂ (λ u v. u ∷ v) x.value y.values;
  well = and_from (is_well_expr room e) (list_all (is_well_expr room) y.found) x.well y.well;
  ran = sums.more_read room n k (left old) (left m) (left l) (left new) x.ran z (taken c) y.ran;
}

found_many : (room n : ℕ) (args : grammar.Args) → grammar.IsArgs room n args → length (args_values args) ≡ suc n
found_many room n (grammar.One e) h = ap suc (sym h.0)
found_many room n (grammar.More e comma args) h = ap suc (found_many room h.1.0 args h.1.3 ∙ sym h.1.1)

length_map : {X Y : Type 0} (f : X → Y) (xs : List X) → length (map f xs) ≡ length xs
length_map f [] = refl
length_map f (x ∷ xs) = ap suc (length_map f xs)

-- the name, the bracket, and the operands
pub apply_found : (room less n : ℕ) (op : Op) (t : Token) (a : Atom) (items : List Expr) (old l m new : Reader) → op_called t.text.now ≡ Some op → arity op ≡ suc n → room ≡ suc less
    → atom_of a ≡ applied op (map expr_of items) → is_well_atom room a ≡ ((nat_lt 0 room && (is_word_op op && eqb (length items) (arity op))) && list_all (is_well_expr (room - 1)) items)
    → left old ≡ seen t ∷ left l → Keeps old l → Takes (codes "(") l m → FindsOperands less n [] items m new → FindsAtom room a old new
apply_found room less n op t a items old l m new h ar z av aw s k b y =
    let named = Rattle.cg_loop_text_spec.proofs.Texts.op_name t.text.now op h in
    let same : items ≡ y.found = y.appended in
    let many : length items ≡ arity op = sym (length_map expr_of items) ∙ ap length (ap (map expr_of) same ∙ y.values) ∙ found_many less n y.tree y.is ∙ sym ar in
    record {
      tree = grammar.Apply (seen t) b.token y.tree y.closing;
      is = (b.is, y.closes, (op, n, less, h, ar, z, y.is));
      spelled = s ∙ ap (λ v. seen t ∷ v) (b.spelled ∙ ap (λ v. b.token ∷ v) (y.spelled ∙ sym (append_assoc (args_tokens y.tree) (y.closing ∷ []) (left new))));
      noted = y.noted ∙ ap (λ v. v ++ args_uses y.tree) (b.kept.noted ∙ k.noted);
      value = av ∙ ap₂ applied (ap op_of (sym h)) (ap (map expr_of) same ∙ y.values);
      well = aw ∙ and_from (nat_lt 0 room && (is_word_op op && eqb (length items) (arity op))) (list_all (is_well_expr (room - 1)) items)
          (and_from (nat_lt 0 room) (is_word_op op && eqb (length items) (arity op)) (some_room room less z) (and_from (is_word_op op) (eqb (length items) (arity op)) named.0 (eq-eqb (length items) (arity op) many)))
          (ap₂ (λ r v. list_all (is_well_expr r) v) (room_less room less z) same ∙ y.well);
      ran = steps.apply_read room less n op (seen t) (left old) (left l) (left m) (left new) s h ar z (taken b) y.ran;
    }

-- an operation that an expression may name has two or three operands
pub word_further : (op : Op) → is_word_op op ≡ true → (n : ℕ) × (arity op ≡ suc n)
word_further ops.Iter h = cc
word_further ops.Input h = cc
word_further ops.Const h = (0, refl)
word_further ops.Load h = (0, refl)
word_further ops.Output h = (0, refl)
word_further ops.Add h = (1, refl)
word_further ops.Sub h = (1, refl)
word_further ops.Mul h = (1, refl)
word_further ops.And h = (1, refl)
word_further ops.Or h = (1, refl)
word_further ops.Xor h = (1, refl)
word_further ops.Shl h = (1, refl)
word_further ops.Shr h = (1, refl)
word_further ops.Sar h = (1, refl)
word_further ops.Eq h = (1, refl)
word_further ops.Ne h = (1, refl)
word_further ops.Lts h = (1, refl)
word_further ops.Ltu h = (1, refl)
word_further ops.Mins h = (1, refl)
word_further ops.Maxs h = (1, refl)
word_further ops.Store h = (1, refl)
word_further ops.LoadIf h = (1, refl)
word_further ops.OutputIf h = (1, refl)
word_further ops.Select h = (2, refl)
word_further ops.StoreIf h = (2, refl)
