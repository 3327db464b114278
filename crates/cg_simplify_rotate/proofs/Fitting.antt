-- The new texts of two nodes that are turned round: that they fit, and their values.
use Rattle.std.proofs.Common.{◌≡◌, ℕ, zero, suc, ◌-◌, ◌<◌, true, false, List, [], ◌∷◌, length, map, Some, None, refl, sym, ap, ◌∙◌, subst, arith, ⊎_elim, inl, inr}
use Rattle.std.specs.Prelude.{◌⊎◌, slice_get, slice_index, slice_index_or}
use Rattle.cg_word.specs.declared.op.Op.{Op}
use Rattle.cg_word.specs.declared.op.Op.TheVariants.{Add, Sub, Mul, And, Or, Xor, Mins, Maxs}
use Rattle.cg_word.specs.Word.{apply_of, arity, has_port, has_value, is_access, is_output, is_store, words}
use Rattle.cg_simplify_facts.proofs.Values.{value_small}
use Rattle.cg_model.specs.declared.kernel.Node.{Node}
use Rattle.cg_model.specs.declared.kernel.Operand.{Operand}
use Rattle.cg_model.specs.declared.kernel.Operand.TheVariants.{Const as Constant, Edge}
use Rattle.cg_model.specs.Kernel.{Kernel, IsKernel, HasOperand, node, size}
use Rattle.cg_model.specs.Work.{Image, value_by}
use Rattle.cg_model.specs.Turns.{operand}
use Rattle.cg_simplify_draft.specs.Settings.{FitsEdge, FitsText, with_text}
use Rattle.cg_simplify_draft.proofs.Drafts.{fits_edge}
use Rattle.cg_simplify_draft.proofs.Written.{const_fits, each_node, text_sized}
use Rattle.cg_simplify_rotate.specs.declared.rows.Row.{Row}
use Rattle.cg_simplify_rotate.specs.Rows.{is_turning, joined}
use Rattle.cg_simplify_rotate.specs.Texts.{first_op, first_operands, paired}

-- ---- the operations

-- what holds of the operations of the rows
pub record IsPlain (op : Op) : Type 0 where
  pub two : arity op ≡ 2
  pub valued : has_value op ≡ true
  pub no_port : has_port op ≡ false
  pub no_access : is_access op ≡ false
  pub no_store : is_store op ≡ false
  pub no_output : is_output op ≡ false

pub plain : (op : Op) → is_turning op ≡ true → IsPlain op
plain Add h = record { two = refl; valued = refl; no_port = refl; no_access = refl; no_store = refl; no_output = refl }
plain Sub h = record { two = refl; valued = refl; no_port = refl; no_access = refl; no_store = refl; no_output = refl }
plain Mul h = record { two = refl; valued = refl; no_port = refl; no_access = refl; no_store = refl; no_output = refl }
plain And h = record { two = refl; valued = refl; no_port = refl; no_access = refl; no_store = refl; no_output = refl }
plain Or h = record { two = refl; valued = refl; no_port = refl; no_access = refl; no_store = refl; no_output = refl }
plain Xor h = record { two = refl; valued = refl; no_port = refl; no_access = refl; no_store = refl; no_output = refl }
plain Mins h = record { two = refl; valued = refl; no_port = refl; no_access = refl; no_store = refl; no_output = refl }
plain Maxs h = record { two = refl; valued = refl; no_port = refl; no_access = refl; no_store = refl; no_output = refl }
plain _ h = absurd (cc)

-- their value is that of their operands
pub value_turning : (image : Image) (memory : List ℕ) (port turn : ℕ) (args : List ℕ) (op : Op) → is_turning op ≡ true →
    value_by image memory port turn args op ≡ apply_of op (slice_index args 0) (slice_index args 1) (slice_index args 2)
unfolding value_by
value_turning image memory port turn args Add h = refl
value_turning image memory port turn args Sub h = refl
value_turning image memory port turn args Mul h = refl
value_turning image memory port turn args And h = refl
value_turning image memory port turn args Or h = refl
value_turning image memory port turn args Xor h = refl
value_turning image memory port turn args Mins h = refl
value_turning image memory port turn args Maxs h = refl
value_turning image memory port turn args _ h = absurd (cc)

pub joined_value : (image : Image) (memory : List ℕ) (port turn : ℕ) (op : Op) (k : ℕ) (f : Operand → ℕ) (x y : Operand) → is_turning op ≡ true →
    value_by image memory port turn (map f (paired k x y)) op ≡ joined op k (f x) (f y)
joined_value image memory port turn op zero f x y h = value_turning image memory port turn (f x ∷ f y ∷ []) op h
joined_value image memory port turn op (suc k) f x y h = value_turning image memory port turn (f y ∷ f x ∷ []) op h

pub first_value : (image : Image) (memory : List ℕ) (port turn : ℕ) (r : Row) (V : ℕ → ℕ → ℕ) (i : ℕ) (a b : Operand) → is_turning r.first ≡ true →
    value_by image memory port turn (map (operand V i) (first_operands r a b)) (first_op r a b) ≡ joined r.first r.place_of_a (operand V i a) (operand V i b)
unfolding value_by apply_of
first_value image memory port turn r V i (Constant x) (Constant y) h = refl
first_value image memory port turn r V i (Constant x) (Edge s d init) h = joined_value image memory port turn r.first r.place_of_a (operand V i) (Constant x) (Edge s d init) h
first_value image memory port turn r V i (Edge s d init) b h = joined_value image memory port turn r.first r.place_of_a (operand V i) (Edge s d init) b h

pub first_no_access : (r : Row) (a b : Operand) → is_turning r.first ≡ true → is_access (first_op r a b) ≡ false
first_no_access r (Constant x) (Constant y) h = refl
first_no_access r (Constant x) (Edge s d init) h = (plain r.first h).no_access
first_no_access r (Edge s d init) b h = (plain r.first h).no_access

pub first_no_store : (r : Row) (a b : Operand) → is_turning r.first ≡ true → is_store (first_op r a b) ≡ false
first_no_store r (Constant x) (Constant y) h = refl
first_no_store r (Constant x) (Edge s d init) h = (plain r.first h).no_store
first_no_store r (Edge s d init) b h = (plain r.first h).no_store

pub first_no_output : (r : Row) (a b : Operand) → is_turning r.first ≡ true → is_output (first_op r a b) ≡ false
first_no_output r (Constant x) (Constant y) h = refl
first_no_output r (Constant x) (Edge s d init) h = (plain r.first h).no_output
first_no_output r (Edge s d init) b h = (plain r.first h).no_output

joined_small : (op : Op) (k x y : ℕ) → x < words → y < words → joined op k x y < words
joined_small op zero x y a b = let h = value_small op x y 0 a b (omega arith) in omega arith
joined_small op (suc k) x y a b = let h = value_small op y x 0 b a (omega arith) in omega arith

-- ---- two operands

-- two operands are those at both places
pub two_operands : (xs : List Operand) (k : ℕ) → length xs ≡ 2 → k < 2 → xs ≡ paired k (slice_index_or xs k (Constant 0)) (slice_index_or xs (1 - k) (Constant 0))
two_operands [] k e l = absurd (omega arith)
two_operands (x ∷ []) k e l = absurd (omega arith)
two_operands (x ∷ y ∷ []) zero e l = refl
two_operands (x ∷ y ∷ []) (suc zero) e l = refl
two_operands (x ∷ y ∷ []) (suc (suc k)) e l = absurd (omega arith)
two_operands (x ∷ y ∷ z ∷ xs) k e l = absurd (omega arith)

pub paired_length : (k : ℕ) (x y : Operand) → length (paired k x y) ≡ 2
paired_length zero x y = refl
paired_length (suc k) x y = refl

abbrev place_of : ℕ → ℕ
place_of zero = 0
place_of (suc k) = 1

-- an operand of two
paired_at : (k : ℕ) (x y : Operand) (p : ℕ) (o : Operand) → slice_get (paired k x y) p ≡ Some o → ((x ≡ o) × (p ≡ place_of k)) ⊎ ((y ≡ o) × (p ≡ 1 - place_of k))
paired_at zero x y zero o h = let e : x ≡ o = cc in inl (e, refl)
paired_at zero x y (suc zero) o h = let e : y ≡ o = cc in inr (e, refl)
paired_at zero x y (suc (suc p)) o h = let bad : None ≡ Some o = h in absurd (cc)
paired_at (suc k) x y zero o h = let e : y ≡ o = cc in inr (e, refl)
paired_at (suc k) x y (suc zero) o h = let e : x ≡ o = cc in inl (e, refl)
paired_at (suc k) x y (suc (suc p)) o h = let bad : None ≡ Some o = h in absurd (cc)

-- ---- operands that fit

-- a valid kernel stays valid if node v has that operand
abbrev pub Sits : Kernel → ℕ → Operand → Type 0
Sits K v (Constant c) = c < words
Sits K v (Edge u d init) = FitsEdge K v u d init

pub sits_edge : (K : Kernel) (v u d : ℕ) (init : List ℕ) (o : Operand) → Sits K v o → o ≡ Edge u d init → FitsEdge K v u d init
sits_edge K v u d init o s e = let f : Sits K v (Edge u d init) = subst (Sits K v) e s in f

pub sits_constant : (K : Kernel) (v c : ℕ) (o : Operand) → Sits K v o → o ≡ Constant c → c < words
sits_constant K v c o s e = let f : Sits K v (Constant c) = subst (Sits K v) e s in f

-- the operands of a valid kernel
pub sits_there : (K : Kernel) (v p : ℕ) (o : Operand) → IsKernel K → v < size K → HasOperand K v p o → Sits K v o
sits_there K v p (Constant c) good l h = good.wired.constants v p c l h
sits_there K v p (Edge u d init) good l h = fits_edge K v p u d init good l h

-- at another node too, if its source is early enough
pub sits_at : (K : Kernel) (v w : ℕ) (o : Operand) → Sits K v o → ((u : ℕ) (init : List ℕ) → o ≡ Edge u 0 init → u < w) → Sits K w o
sits_at K v w (Constant c) s early = s
sits_at K v w (Edge u d init) s early =
    record {
      known = s.known;
      valued = s.valued;
      earlier = λ z. early u init (ap (λ (y : ℕ). Edge u y init) z);
      near = s.near;
      long = s.long;
      init_words = s.init_words;
    }

-- in a kernel of which another text is set too
pub sits_set : (K : Kernel) (w : ℕ) (op : Op) (port : ℕ) (operands : List Operand) → w < size K → FitsText K w op port operands → (v : ℕ) (o : Operand) → Sits K v o → Sits (with_text K w op port operands) v o
sits_set K w op port operands l fits v (Constant c) s = s
sits_set K w op port operands l fits v (Edge u d init) s =
    let keeps = each_node K w op port operands l (λ (x : ℕ) (n : Node). has_value (node K x).op ≡ true → has_value n.op ≡ true) fits.valued (λ x ne e. e) in
    record {
      known = subst (λ z. u < z) (sym (text_sized K w op port operands l)) s.known;
      valued = keeps u s.valued;
      earlier = s.earlier;
      near = s.near;
      long = s.long;
      init_words = s.init_words;
    }

module _ (K : Kernel) (v : ℕ) (op : Op) (k : ℕ) (x y : Operand) (turning : is_turning op ≡ true) (sx : Sits K v x) (sy : Sits K v y) (apart : (a b : ℕ) → x ≡ Constant a → y ≡ Constant b → ⊥) where
  pair_edges : (p u d : ℕ) (init : List ℕ) → slice_get (paired k x y) p ≡ Some (Edge u d init) → FitsEdge K v u d init
  pair_edges p u d init h = ⊎_elim (λ e. sits_edge K v u d init x sx e.0) (λ e. sits_edge K v u d init y sy e.0) (paired_at k x y p (Edge u d init) h)

  pair_constants : (p c : ℕ) → slice_get (paired k x y) p ≡ Some (Constant c) → c < words
  pair_constants p c h = ⊎_elim (λ e. sits_constant K v c x sx e.0) (λ e. sits_constant K v c y sy e.0) (paired_at k x y p (Constant c) h)

  pair_one : (p q a b : ℕ) → slice_get (paired k x y) p ≡ Some (Constant a) → slice_get (paired k x y) q ≡ Some (Constant b) → p ≡ q
  pair_one p q a b g h =
      ⊎_elim
      (λ e. ⊎_elim (λ f. e.1 ∙ sym f.1) (λ f. absurd (apart a b e.0 f.0)) (paired_at k x y q (Constant b) h))
      (λ e. ⊎_elim (λ f. absurd (apart b a f.0 e.0)) (λ f. e.1 ∙ sym f.1) (paired_at k x y q (Constant b) h))
      (paired_at k x y p (Constant a) g)

  pub pair_fits : FitsText K v op 0 (paired k x y)
  pair_fits =
      let is = plain op turning in
      record {
        long = paired_length k x y ∙ sym is.two;
        valued = λ h. is.valued;
        edges = pair_edges;
        constants = pair_constants;
        one_constant = pair_one;
        port_small = omega arith;
        no_port = λ h. refl;
        output = λ h. absurd (let bad : true ≡ false = sym h ∙ is.no_output in cc);
      }

pub edge_apart : (u d : ℕ) (init : List ℕ) (o : Operand) → o ≡ Edge u d init → (c : ℕ) → o ≡ Constant c → ⊥
edge_apart u d init o e c f = cc

pub first_fits : (K : Kernel) (v : ℕ) (r : Row) (a b : Operand) → is_turning r.first ≡ true → Sits K v a → Sits K v b → FitsText K v (first_op r a b) 0 (first_operands r a b)
first_fits K v r (Constant x) (Constant y) t sa sb = const_fits K v (joined r.first r.place_of_a x y) _ (joined_small r.first r.place_of_a x y sa sb) refl
first_fits K v r (Constant x) (Edge s d init) t sa sb =
    pair_fits K v r.first r.place_of_a (Constant x) (Edge s d init) t sa sb (λ p q e f. edge_apart s d init (Edge s d init) refl q f)
first_fits K v r (Edge s d init) b t sa sb =
    pair_fits K v r.first r.place_of_a (Edge s d init) b t sa sb (λ p q e f. edge_apart s d init (Edge s d init) refl p e)
