-- Where reading an expression stops.
use Rattle.std.proofs.Common.{◌≡◌, ℕ, suc, true, List, [], ◌∷◌, Some, subst}
use Rattle.std.specs.Prelude.{codes}
use Rattle.cg_word.specs.declared.op.Op.{Op}
use Rattle.cg_word.specs.Word.{arity}
use Rattle.cg_tokens.specs.declared.token.Token.{Token}
use Rattle.cg_tokens.specs.Tokens.{seen}
use Rattle.cg_loop_syntax.specs.declared.syntax.Atom.{Atom}
use Rattle.cg_loop_syntax.specs.declared.syntax.Expr.{Expr}
use Rattle.cg_loop_syntax.specs.declared.syntax.Prod.{Prod}
use Rattle.cg_loop_syntax.specs.declared.syntax.Term.{Term}
use Rattle.cg_loop_syntax.specs.declared.syntax.Sum.{Sum}
use Rattle.cg_loop_syntax.specs.Uses as uses
use Rattle.cg_loop_syntax.specs.Well.{is_loop_name}
use Rattle.cg_loop_text_spec.specs.Words.{op_called, added_by, compared_by}
use Rattle.cg_loop_text_spec.specs.Read as read
use Rattle.cg_loop_text_spec.specs.Rules.{Exactly, Digits}
use Rattle.cg_loop_text_spec.proofs.Steps as steps
use Rattle.cg_loop_text_spec.proofs.Sums as sums
use Rattle.cg_loop_reader.specs.declared.reader.Reader.{Reader}
use Rattle.cg_loop_reader.specs.declared.fault.Misfit.{Misfit}
use Rattle.cg_loop_reader.specs.declared.fault.Misfit.TheVariants.{Memory, Text}
use Rattle.cg_loop_reader.specs.Left.{left, Takes, TakesSign, Notes, Misses}
use Rattle.cg_loop_reader.specs.Found.{FindsProduct, FindsTerms, FindsSum, FindsExpr, MissesAtom, MissesIndex, MissesExpr, MissesArgs}
use Rattle.cg_loop_reader.proofs.Taken.{taken}

pub input_missed : (e : Misfit) (room : ℕ) (t : Token) (old l new : Reader) → t.text.now ≡ codes "in" → left old ≡ seen t ∷ left l → Misses e (Digits ∷ []) l new → MissesAtom e room old new
input_missed Memory room t old l new h s m = tt
input_missed Text room t old l new h s m = steps.input_misses room (left old) (left l) (left new) (record { token = seen t; is = h; whole = s }) m

pub named_missed : (e : Misfit) (room : ℕ) (t : Token) (old l new : Reader) → is_loop_name t.text.now ≡ true → left old ≡ seen t ∷ left l → MissesIndex e room l new → MissesAtom e room old new
named_missed Memory room t old l new h s m = tt
named_missed Text room t old l new h s m = steps.name_misses room (seen t) (left old) (left l) (left new) s h m

pub bracket_missed : (e : Misfit) (room less : ℕ) (t : Token) (old l new : Reader) → t.text.now ≡ codes "(" → room ≡ suc less → left old ≡ seen t ∷ left l → MissesExpr e less l new → MissesAtom e room old new
bracket_missed Memory room less t old l new h z s m = tt
bracket_missed Text room less t old l new h z s m = steps.bracket_misses room less (left old) (left l) (left new) (record { token = seen t; is = h; whole = s }) z m

pub bracket_end_missed : (e : Misfit) (room less : ℕ) (t : Token) (x : Expr) (old l p new : Reader) → t.text.now ≡ codes "(" → room ≡ suc less → left old ≡ seen t ∷ left l → FindsExpr less x l p → Misses e (Exactly (codes ")") ∷ []) p new → MissesAtom e room old new
bracket_end_missed Memory room less t x old l p new h z s f m = tt
bracket_end_missed Text room less t x old l p new h z s f m = steps.bracket_end_misses room less (left old) (left l) (left p) (left new) (record { token = seen t; is = h; whole = s }) z f.ran m

pub apply_open_missed : (e : Misfit) (room less n : ℕ) (o : Op) (t : Token) (old l new : Reader) → op_called t.text.now ≡ Some o → arity o ≡ suc n → room ≡ suc less → left old ≡ seen t ∷ left l → Misses e (Exactly (codes "(") ∷ []) l new → MissesAtom e room old new
apply_open_missed Memory room less n o t old l new h ar z s m = tt
apply_open_missed Text room less n o t old l new h ar z s m = steps.apply_open_misses room less n o (seen t) (left old) (left l) (left new) s h ar z m

pub apply_missed : (e : Misfit) (room less n : ℕ) (o : Op) (t : Token) (old l p new : Reader) → op_called t.text.now ≡ Some o → arity o ≡ suc n → room ≡ suc less → left old ≡ seen t ∷ left l → Takes (codes "(") l p → MissesArgs e less n p new → MissesAtom e room old new
apply_missed Memory room less n o t old l p new h ar z s c m = tt
apply_missed Text room less n o t old l p new h ar z s c m = steps.apply_misses room less n o (seen t) (left old) (left l) (left p) (left new) s h ar z (taken c) m

-- an index, behind the note of its name
pub item_open_missed : (e : Misfit) (room : ℕ) (u : uses.Use) (old m new : Reader) → read.begins_with (codes "[") (left old) ≡ true → Notes u old m → Misses e (Exactly (codes "[") ∷ []) m new → MissesIndex e room old new
item_open_missed Memory room u old m new b w x = tt
item_open_missed Text room u old m new b w x = steps.index_open_misses room (left old) (left new) b (subst (λ y. read.Stops (Exactly (codes "[") ∷ []) y (left new)) w.left x)

opened : (u : uses.Use) (old m n : Reader) → Notes u old m → Takes (codes "[") m n → read.Takes (codes "[") (left old) (left n)
opened u old m n w c = subst (λ y. read.Takes (codes "[") y (left n)) w.left (taken c)

pub item_missed : (e : Misfit) (room less : ℕ) (u : uses.Use) (old m n new : Reader) → room ≡ suc less → Notes u old m → Takes (codes "[") m n → MissesExpr e less n new → MissesIndex e room old new
item_missed Memory room less u old m n new z w c x = tt
item_missed Text room less u old m n new z w c x = steps.index_misses room less (left old) (left n) (left new) (opened u old m n w c) z x

pub item_end_missed : (e : Misfit) (room less : ℕ) (u : uses.Use) (a : Expr) (old m n p new : Reader) → room ≡ suc less → Notes u old m → Takes (codes "[") m n → FindsExpr less a n p → Misses e (Exactly (codes "]") ∷ []) p new → MissesIndex e room old new
item_end_missed Memory room less u a old m n p new z w c f x = tt
item_end_missed Text room less u a old m n p new z w c f x = steps.index_end_misses room less (left old) (left n) (left p) (left new) (opened u old m n w c) z f.ran x

pub last_missed : (e : Misfit) (room n : ℕ) (a : Expr) (old m new : Reader) → n ≡ 0 → FindsExpr room a old m → Misses e (Exactly (codes ")") ∷ []) m new → MissesArgs e room n old new
last_missed Memory room n a old m new z f x = tt
last_missed Text room n a old m new z f x = sums.last_misses room n (left old) (left m) (left new) f.ran z x

pub comma_missed : (e : Misfit) (room n : ℕ) (a : Expr) (old m new : Reader) → (n ≡ 0 → ⊥) → FindsExpr room a old m → Misses e (Exactly (codes ",") ∷ []) m new → MissesArgs e room n old new
comma_missed Memory room n a old m new z f x = tt
comma_missed Text room n a old m new z f x = sums.comma_misses room n (left old) (left m) (left new) f.ran z x

pub more_missed : (e : Misfit) (room n k : ℕ) (a : Expr) (old m l new : Reader) → n ≡ suc k → FindsExpr room a old m → Takes (codes ",") m l → MissesArgs e room k l new → MissesArgs e room n old new
more_missed Memory room n k a old m l new z f c x = tt
more_missed Text room n k a old m l new z f c x = sums.more_misses room n k (left old) (left m) (left l) (left new) f.ran z (taken c) x

pub factor_missed : (e : Misfit) (room : ℕ) (xs : List Atom) (old m l new : Reader) → FindsProduct room xs old m → Takes (codes "*") m l → MissesAtom e room l new → MissesAtom e room old new
factor_missed Memory room xs old m l new f c x = tt
factor_missed Text room xs old m l new f c x = sums.prod_misses room (left old) (left m) (left l) (left new) f.ran (taken c) x

pub term_missed : (e : Misfit) (room : ℕ) (p : Prod) (ts : List Term) (op : Op) (old m l new : Reader) → FindsTerms room p ts old m → TakesSign added_by op m l → MissesAtom e room l new → MissesAtom e room old new
term_missed Memory room p ts op old m l new f c x = tt
term_missed Text room p ts op old m l new f c x = sums.sum_misses room op c.token (left old) (left m) (left l) (left new) f.ran c.spelled c.is x

pub plain_missed : (e : Misfit) (room : ℕ) (old new : Reader) → MissesAtom e room old new → MissesExpr e room old new
plain_missed Memory room old new x = tt
plain_missed Text room old new x = sums.plain_misses room (left old) (left new) x

pub compared_missed : (e : Misfit) (room : ℕ) (s : Sum) (op : Op) (old m l new : Reader) → FindsSum room s old m → TakesSign compared_by op m l → MissesAtom e room l new → MissesExpr e room old new
compared_missed Memory room s op old m l new f c x = tt
compared_missed Text room s op old m l new f c x = sums.compared_misses room op c.token (left old) (left m) (left l) (left new) f.ran c.spelled c.is x
