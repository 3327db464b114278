-- One more unit reached.
use Rattle.std.proofs.Common.{◌≡◌, ◌≢◌, ℕ, ◌+◌, ◌<◌, ◌≤◌, List, [], ◌∷◌, ◌++◌, length, set, Bool, true, false, Option, Some, None, refl, sym, ap, ◌∙◌, subst, arith, inl, inr, ⊎_elim, length-set, get_or-set_other, get_or-set_same}
use Rattle.std.specs.Prelude.{◌⊎◌, unwrap_or}
use Rattle.std.proofs.lemmas.Bool.{cases_eq, cases_lt, false≢true}
use Rattle.std.proofs.lemmas.List.{get_or_append_left, get_or_push, length_push}
use Rattle.cg_word.specs.Sets.{among}
use Rattle.cg_model.specs.declared.kernel.Node.{Node}
use Rattle.cg_model.specs.declared.array.Unit.{Unit}
use Rattle.cg_class.specs.declared.search.Move.{Move}
use Rattle.cg_class.specs.Search.{op_at, ops_at, no_move, move, is_seen, IsMove, IsLogged, IsFrom}

module _ (nodes : List Node) (units : List Unit) (places : List ℕ) (log : List Move) (seen : List Bool) (m : Move) (good : IsLogged nodes units places log seen) (new : IsMove nodes units places log (length log) m) (unseen : is_seen seen m.unit ≡ false) where
  pub log' : List Move
  log' = log ++ m ∷ []

  pub seen' : List Bool
  seen' = set seen m.unit true

  pub kept : (i : ℕ) → i < length log → move log' i ≡ move log i
  unfolding log'
  kept i l = get_or_append_left log (m ∷ []) no_move i l

  last : move log' (length log) ≡ m
  unfolding log'
  last = get_or_push log m no_move (length log) refl

  pub longer : length log' ≡ length log + 1
  unfolding log'
  longer = length_push log m

  cases : (i : ℕ) → i < length log' → (i < length log) ⊎ (length log ≡ i)
  cases i l = ⊎_elim (λ h. inl h) (λ h. inr (let e = longer in omega arith)) (cases_lt i (length log))

  marked_new : is_seen seen' m.unit ≡ true
  unfolding seen'
  marked_new = get_or-set_same seen m.unit true false (let a = good.each in let b = new.unit in omega arith)

  marked_other : (x : ℕ) → x ≢ m.unit → is_seen seen' x ≡ is_seen seen x
  unfolding seen'
  marked_other x ne = get_or-set_other seen m.unit x true false ne

  pub still : (x : ℕ) → is_seen seen x ≡ true → is_seen seen' x ≡ true
  still x h = ⊎_elim (λ (e : x ≡ m.unit). ap (is_seen seen') e ∙ marked_new) (λ ne. marked_other x ne ∙ h) (cases_eq x m.unit)

  pub marked_at : (x : ℕ) → x ≡ m.unit → is_seen seen' x ≡ true
  marked_at x e = ap (is_seen seen') e ∙ marked_new

  move_kept : (i : ℕ) (n : Move) → i ≤ length log → IsMove nodes units places log i n → IsMove nodes units places log' i n
  move_kept i n l a =
      record {
        unit = a.unit;
        offered = a.offered;
        from = ⊎_elim (λ x. inl x) (λ (b, c, d). inr (b, c, d ∙ sym (ap (λ z. z.unit) (kept n.before (omega arith))))) a.from;
      }

  not_before : (i : ℕ) → i < length log → (move log i).unit ≡ m.unit → ⊥
  not_before i l e = false≢true (sym unseen ∙ sym (ap (is_seen seen) e) ∙ good.marks i l)

  each' : length seen' ≡ length units
  unfolding seen'
  each' = length-set seen m.unit true ∙ good.each

  pub pushed : IsLogged nodes units places log' seen'
  pushed =
      record {
        moves = λ i l. ⊎_elim
            (λ h. subst (λ z. IsMove nodes units places log' i z) (sym (kept i h)) (move_kept i (move log i) (omega arith) (good.moves i h)))
            (λ e. subst (λ z. IsMove nodes units places log' z (move log' z)) e (subst (λ z. IsMove nodes units places log' (length log) z) (sym last) (move_kept (length log) m (omega arith) new)))
            (cases i l);
        apart = λ i j l k e.
            let a = longer in
            let il : i < length log = omega arith in
            ⊎_elim
            (λ h. good.apart i j l h (sym (ap (λ z. z.unit) (kept i il)) ∙ e ∙ ap (λ z. z.unit) (kept j h)))
            (λ q. not_before i il (sym (ap (λ z. z.unit) (kept i il)) ∙ e ∙ ap (λ z. (move log' z).unit) (sym q) ∙ ap (λ z. z.unit) last))
            (cases j k);
        each = each';
        marked = λ x l h. ⊎_elim
            (λ (e : x ≡ m.unit). (length log, let a = longer in omega arith, ap (λ z. z.unit) last ∙ sym e))
            (λ ne. let (i, k, u) = good.marked x l (sym (marked_other x ne) ∙ h) in (i, let a = longer in omega arith, ap (λ z. z.unit) (kept i k) ∙ u))
            (cases_eq x m.unit);
        marks = λ i l. ⊎_elim
            (λ h. ap (λ z. is_seen seen' z.unit) (kept i h) ∙ still (move log i).unit (good.marks i h))
            (λ q. ap (λ z. is_seen seen' (move log' z).unit) (sym q) ∙ ap (λ z. is_seen seen' z.unit) last ∙ marked_new)
            (cases i l);
      }

-- the move that the code makes
pub new_move : (nodes : List Node) (units : List Unit) (places : List ℕ) (log0 log : List Move) (y node : ℕ) (before : Option ℕ) → IsFrom places log0 node before → length log0 ≤ length log → ((i : ℕ) → i < length log0 → move log i ≡ move log0 i) →
    y < length units → among (ops_at units y) (op_at nodes node) ≡ true → IsMove nodes units places log (length log) (record { unit = y; node = node; before = unwrap_or before (length log) })
new_move nodes units places log0 log y node None f l k ly h = record { unit = ly; offered = h; from = inl (refl, f) }
new_move nodes units places log0 log y node (Some b) (f, g, e) l k ly h = record { unit = ly; offered = h; from = inr (omega arith, f, e ∙ sym (ap (λ z. z.unit) (k b g))) }

-- the state of the loop over the units
module _ (nodes : List Node) (units : List Unit) (places : List ℕ) (log0 : List Move) (seen0 : List Bool) (node : ℕ) where
  pub record IsStage (log : List Move) (seen : List Bool) (y : ℕ) : Type 0 where
    pub good : IsLogged nodes units places log seen
    pub longer : length log0 ≤ length log
    pub kept : (i : ℕ) → i < length log0 → move log i ≡ move log0 i
    pub still : (x : ℕ) → is_seen seen0 x ≡ true → is_seen seen x ≡ true
    pub covers : (x : ℕ) → x < y → among (ops_at units x) (op_at nodes node) ≡ true → is_seen seen x ≡ true

  pub stage_same : (log : List Move) (seen : List Bool) (y : ℕ) → IsStage log seen y → (among (ops_at units y) (op_at nodes node) ≡ true → is_seen seen y ≡ true) → IsStage log seen (y + 1)
  stage_same log seen y s h =
      record {
        good = s.good;
        longer = s.longer;
        kept = s.kept;
        still = s.still;
        covers = λ x l o. ⊎_elim (λ z. s.covers x z o) (λ z. let q : y ≡ x = omega arith in subst (λ v. is_seen seen v ≡ true) q (h (subst (λ v. among (ops_at units v) (op_at nodes node) ≡ true) (sym q) o))) (cases_lt x y);
      }

  pub stage_more : (log : List Move) (seen : List Bool) (y : ℕ) (before : Option ℕ) → IsStage log seen y → IsFrom places log0 node before → y < length units → among (ops_at units y) (op_at nodes node) ≡ true → is_seen seen y ≡ false →
      IsStage (log ++ record { unit = y; node = node; before = unwrap_or before (length log) } ∷ []) (set seen y true) (y + 1)
  unfolding log' seen'
  stage_more log seen y before s f l o u =
      let m : Move = record { unit = y; node = node; before = unwrap_or before (length log) } in
      let n = new_move nodes units places log0 log y node before f s.longer s.kept l o in
      record {
        good = pushed nodes units places log seen m s.good n u;
        longer = let a = s.longer in let b = longer nodes units places log seen m s.good n u in omega arith;
        kept = λ i h. kept nodes units places log seen m s.good n u i (let a = s.longer in omega arith) ∙ s.kept i h;
        still = λ x h. still nodes units places log seen m s.good n u x (s.still x h);
        covers = λ x k h. ⊎_elim (λ z. still nodes units places log seen m s.good n u x (s.covers x z h)) (λ z. marked_at nodes units places log seen m s.good n u x (omega arith)) (cases_lt x y);
      }

  pub stage_to : (log log' : List Move) (seen seen' : List Bool) (y : ℕ) → IsStage log seen y → log' ≡ log → seen' ≡ seen → IsStage log' seen' y
  stage_to log next seen marked y s e f = subst (λ z. IsStage z marked y) (sym e) (subst (λ z. IsStage log z y) (sym f) s)

  pub stage_pushed : (log log' : List Move) (seen seen' : List Bool) (y b at : ℕ) (before : Option ℕ) → IsStage log seen y → IsFrom places log0 node before → y < length units → among (ops_at units y) (op_at nodes node) ≡ true → is_seen seen y ≡ false →
      log' ≡ log ++ record { unit = y; node = node; before = b } ∷ [] → b ≡ unwrap_or before at → at ≡ length log → seen' ≡ set seen y true → IsStage log' seen' (y + 1)
  stage_pushed log next seen marked y b at before s f l o u e g h k =
      stage_to _ next _ marked (y + 1) (stage_more log seen y before s f l o u) (e ∙ ap (λ z. log ++ record { unit = y; node = node; before = z } ∷ []) (g ∙ ap (unwrap_or before) h)) k
