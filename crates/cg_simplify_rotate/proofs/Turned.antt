-- A kernel of which two nodes are turned round leaves the same.
use Rattle.std.proofs.Common.{◌≡◌, ℕ, suc, ◌+◌, ◌-◌, ◌*◌, ◌<◌, true, false, eqb, List, [], length, map, refl, sym, ap, ◌∙◌, subst, arith, ⊎_elim, cond, ltb, eq-eqb}
use Rattle.std.specs.Prelude.{slice_index}
use Rattle.std.proofs.lemmas.Bool.{cases_eq, cases_Bool, cond-false, eqb-true, and_left, true≢false, le-ltb}
use Rattle.std.proofs.lemmas.Option.{slice_get-get_or}
use Rattle.cg_word.specs.declared.op.Op.{Op}
use Rattle.cg_word.specs.Word.{is_access, is_output, is_store, words}
use Rattle.cg_model.specs.declared.kernel.Node.{Node}
use Rattle.cg_model.specs.declared.kernel.Operand.{Operand}
use Rattle.cg_model.specs.declared.kernel.Operand.TheVariants.{Const as Constant, Edge}
use Rattle.cg_model.specs.Kernel.{Kernel, IsKernel, HasOperand, node, size}
use Rattle.cg_model.specs.Work.{Image, IsImage, Reaches, Work, missed, misses, sends, sent, stored, stores, value}
use Rattle.cg_model.specs.Turns.{before, operand, val, work, work_of}
use Rattle.cg_model.proofs.Elements.{map_same}
use Rattle.cg_overlap.proofs.Sequence.{work_is}
use Rattle.cg_simplify_facts.proofs.Words.{of_words, operand_word, val_word}
use Rattle.cg_simplify_draft.specs.Follows.{Follows, RunsAlike, StandsFor}
use Rattle.cg_simplify_draft.specs.Rewritten.{IsRewritten, LeavesAlike}
use Rattle.cg_simplify_draft.specs.Settings.{FitsText, with_text}
use Rattle.cg_simplify_draft.proofs.Drafts.{one_operand}
use Rattle.cg_simplify_draft.proofs.Stands.{same_stands}
use Rattle.cg_simplify_draft.proofs.Turns.{runs_alike}
use Rattle.cg_simplify_draft.proofs.Written.{at_new, at_old, text_name, text_sized, text_valid}
use Rattle.cg_simplify_rotate.specs.declared.rows.Row.{Row}
use Rattle.cg_simplify_rotate.specs.declared.turning.Turn.{Turn}
use Rattle.cg_simplify_rotate.specs.Rows.{is_turning, joined}
use Rattle.cg_simplify_rotate.specs.Texts.{first_text, paired, second_text, the_a, the_b, the_edge, the_p}
use Rattle.cg_simplify_rotate.specs.Turning.{IsTurn, turned}
use Rattle.cg_simplify_rotate.proofs.Fitting.{Sits, edge_apart, first_fits, first_no_access, first_no_output, first_no_store, first_value, joined_value, pair_fits, plain, sits_at, sits_set, sits_there, two_operands}

-- ---- operations without effects

idle_stored : (w : Work) → is_store w.op ≡ false → (memory : List ℕ) → stored memory w ≡ memory
unfolding stored
idle_stored w h memory = cond-false (stores w) _ memory (and_left _ _ h)

idle_sent : (w : Work) → is_output w.op ≡ false → (port : ℕ) → sent port w ≡ []
unfolding sent
idle_sent w h port = cond-false (sends port w) _ [] (and_left _ _ h)

idle_missed : (w : Work) → is_access w.op ≡ false → (room : ℕ) → missed room w ≡ 0
unfolding missed
idle_missed w h room = cond-false (misses room w) _ _ (and_left _ _ h)

-- no access, store or output stands for another one that has its value
idle_stands : (K : Kernel) (image : Image) (k : ℕ) (w : Work) (x : ℕ) → value image (before K image k).memory w ≡ x
    → is_access w.op ≡ false → is_store w.op ≡ false → is_output w.op ≡ false
    → is_store (work K image k).op ≡ false → is_output (work K image k).op ≡ false → StandsFor K image k w x
idle_stands K image k w x e a s o t p =
    record {
      gives = e;
      writes = λ memory. idle_stored w s memory ∙ sym (idle_stored (work K image k) t memory);
      appends = λ port. idle_sent w o port ∙ sym (idle_sent (work K image k) p port);
      misses = λ room. let z = idle_missed w a room in omega arith;
    }

choose_at : (u w : ℕ) (x y : ℕ) → w ≡ u → cond (eqb w u) x y ≡ x
choose_at u w x y e = rw (eq-eqb w u e) refl

choose_other : (u w : ℕ) (x y : ℕ) → (w ≡ u → ⊥) → cond (eqb w u) x y ≡ y
choose_other u w x y ne = ⊎_elim (λ e. absurd (ne (eqb-true w u e))) (λ e. cond-false (eqb w u) x y e) (cases_Bool (eqb w u))

module _ (K : Kernel) (t : Turn) (good : IsKernel K) (turn : IsTurn K t) (next : t.v ≡ suc t.u) where
  abbrev r : Row
  r = t.row

  abbrev op_u : Op
  op_u = (node K t.u).op

  abbrev op_v : Op
  op_v = (node K t.v).op

  -- ---- the operands

  length_u : length (node K t.u).operands ≡ 2
  length_u = good.arities t.u turn.known_u ∙ (plain op_u turn.row.given_u).two

  length_v : length (node K t.v).operands ≡ 2
  length_v = good.arities t.v turn.is_taken.known_v ∙ (plain op_v turn.row.given_v).two

  has_p : HasOperand K t.u t.j (the_p K t)
  has_p = slice_get-get_or (node K t.u).operands t.j (Constant 0) (let a = length_u in let b = turn.place_j in omega arith)

  has_a : HasOperand K t.u (1 - t.j) (the_a K t)
  has_a = slice_get-get_or (node K t.u).operands (1 - t.j) (Constant 0) (let a = length_u in let b = turn.place_j in omega arith)

  has_edge : HasOperand K t.v t.i (the_edge K t)
  has_edge = slice_get-get_or (node K t.v).operands t.i (Constant 0) (let a = length_v in let b = turn.is_taken.two in omega arith)

  has_b : HasOperand K t.v (1 - t.i) (the_b K t)
  has_b = slice_get-get_or (node K t.v).operands (1 - t.i) (Constant 0) (let a = length_v in let b = turn.is_taken.two in omega arith)

  edge_is : the_edge K t ≡ Edge t.u 0 turn.is_taken.init
  edge_is = one_operand K t.v t.i (the_edge K t) (Edge t.u 0 turn.is_taken.init) has_edge turn.is_taken.taken

  -- an operand that isn't from node u
  abbrev IsOther : Operand → Type 0
  IsOther o = (d : ℕ) (init : List ℕ) → o ≡ Edge t.u d init → ⊥

  elsewhere : (w q : ℕ) (o : Operand) → w < size K → HasOperand K w q o → ((w ≡ t.v) × (q ≡ t.i) → ⊥) → IsOther o
  elsewhere w q o l has unlike d init e = unlike (turn.is_taken.only w q d init l (subst (λ (x : Operand). HasOperand K w q x) e has))

  other_p : IsOther (the_p K t)
  other_p = elsewhere t.u t.j (the_p K t) turn.known_u has_p (λ h. let a = h.0 in let b = next in omega arith)

  other_a : IsOther (the_a K t)
  other_a = elsewhere t.u (1 - t.j) (the_a K t) turn.known_u has_a (λ h. let a = h.0 in let b = next in omega arith)

  other_b : IsOther (the_b K t)
  other_b = elsewhere t.v (1 - t.i) (the_b K t) turn.is_taken.known_v has_b (λ h. let a = h.1 in let b = turn.is_taken.two in omega arith)

  -- ---- the kernel is valid

  early : (w q : ℕ) (o : Operand) → w < size K → HasOperand K w q o → (s : ℕ) (init : List ℕ) → o ≡ Edge s 0 init → s < w
  early w q o l has s init e = good.wired.forward w q s init l (subst (λ (x : Operand). HasOperand K w q x) e has)

  sits_a : Sits K t.u (the_a K t)
  sits_a = sits_there K t.u (1 - t.j) (the_a K t) good turn.known_u has_a

  sits_b : Sits K t.u (the_b K t)
  sits_b =
      sits_at K t.v t.u (the_b K t) (sits_there K t.v (1 - t.i) (the_b K t) good turn.is_taken.known_v has_b)
      (λ s init e.
      let a = early t.v (1 - t.i) (the_b K t) turn.is_taken.known_v has_b s init e in
      let b = next in
      let ne : s ≡ t.u → ⊥ = λ z. other_b 0 init (e ∙ ap (λ (y : ℕ). Edge y 0 init) z) in
      omega arith)

  fits_first : FitsText K t.u (first_text K t).op 0 (first_text K t).operands
  fits_first = first_fits K t.u r (the_a K t) (the_b K t) turn.row.first sits_a sits_b

  abbrev half : Kernel
  half = with_text K t.u (first_text K t).op 0 (first_text K t).operands

  sits_p : Sits K t.v (the_p K t)
  sits_p =
      sits_at K t.u t.v (the_p K t) (sits_there K t.u t.j (the_p K t) good turn.known_u has_p)
      (λ s init e. let a = early t.u t.j (the_p K t) turn.known_u has_p s init e in let b = next in omega arith)

  sits_half : (o : Operand) → Sits K t.v o → Sits (with_text K t.u (first_text K t).op 0 (first_text K t).operands) t.v o
  sits_half = sits_set K t.u (first_text K t).op 0 (first_text K t).operands turn.known_u fits_first t.v

  fits_second : FitsText (with_text K t.u (first_text K t).op 0 (first_text K t).operands) t.v (second_text K t).op 0 (second_text K t).operands
  fits_second =
      pair_fits half t.v r.second r.place_of_p (the_p K t) (the_edge K t) turn.row.second
      (sits_half (the_p K t) sits_p)
      (sits_half (the_edge K t) (sits_there K t.v t.i (the_edge K t) good turn.is_taken.known_v has_edge))
      (λ a b e f. edge_apart t.u 0 turn.is_taken.init (the_edge K t) edge_is b f)

  half_known : t.v < size (with_text K t.u (first_text K t).op 0 (first_text K t).operands)
  half_known = subst (λ z. t.v < z) (sym (text_sized K t.u (first_text K t).op 0 (first_text K t).operands turn.known_u)) turn.is_taken.known_v

  pub turned_kernel : IsKernel (turned K t)
  turned_kernel =
      text_valid half t.v (second_text K t).op 0 (second_text K t).operands half_known
      (text_valid K t.u (first_text K t).op 0 (first_text K t).operands turn.known_u good fits_first) fits_second

  -- ---- its nodes

  pub turned_size : size (turned K t) ≡ size K
  turned_size =
      text_sized half t.v (second_text K t).op 0 (second_text K t).operands half_known
      ∙ text_sized K t.u (first_text K t).op 0 (first_text K t).operands turn.known_u

  low : (w : ℕ) → w < size (turned K t) → w < size K
  low w l = subst (λ z. w < z) turned_size l

  apart : t.u ≡ t.v → ⊥
  apart e = let a = next in omega arith

  at_v : node (turned K t) t.v ≡ record (node half t.v) { op = (second_text K t).op; port = 0; operands = (second_text K t).operands }
  at_v = at_new half t.v (second_text K t).op 0 (second_text K t).operands half_known

  at_u : node (turned K t) t.u ≡ record (node K t.u) { op = (first_text K t).op; port = 0; operands = (first_text K t).operands }
  at_u =
      at_old half t.v (second_text K t).op 0 (second_text K t).operands half_known t.u apart
      ∙ at_new K t.u (first_text K t).op 0 (first_text K t).operands turn.known_u

  at_other : (w : ℕ) → (w ≡ t.u → ⊥) → (w ≡ t.v → ⊥) → node (turned K t) w ≡ node K w
  at_other w a b =
      at_old half t.v (second_text K t).op 0 (second_text K t).operands half_known w b
      ∙ at_old K t.u (first_text K t).op 0 (first_text K t).operands turn.known_u w a

  -- what holds at u, at v and at each other node
  each : (P : ℕ → Type 0) → P t.u → P t.v → ((w : ℕ) → (w ≡ t.u → ⊥) → (w ≡ t.v → ⊥) → P w) → (w : ℕ) → P w
  each P a b others w =
      ⊎_elim
      (λ e. subst P (sym e) a)
      (λ ne. ⊎_elim (λ e. subst P (sym e) b) (λ unlike. others w ne unlike) (cases_eq w t.v))
      (cases_eq w t.u)

  accesses : (w : ℕ) → is_access (node (turned K t) w).op ≡ true → is_access (node K w).op ≡ true
  accesses =
      each (λ w. is_access (node (turned K t) w).op ≡ true → is_access (node K w).op ≡ true)
      (λ e. absurd (true≢false (sym e ∙ ap (λ (n : Node). is_access n.op) at_u ∙ first_no_access r (the_a K t) (the_b K t) turn.row.first)))
      (λ e. absurd (true≢false (sym e ∙ ap (λ (n : Node). is_access n.op) at_v ∙ (plain r.second turn.row.second).no_access)))
      (λ w a b e. ap (λ (n : Node). is_access n.op) (sym (at_other w a b)) ∙ e)

  same_stores : (w : ℕ) → is_store (node (turned K t) w).op ≡ true → is_store (node K w).op ≡ true
  same_stores =
      each (λ w. is_store (node (turned K t) w).op ≡ true → is_store (node K w).op ≡ true)
      (λ e. absurd (true≢false (sym e ∙ ap (λ (n : Node). is_store n.op) at_u ∙ first_no_store r (the_a K t) (the_b K t) turn.row.first)))
      (λ e. absurd (true≢false (sym e ∙ ap (λ (n : Node). is_store n.op) at_v ∙ (plain r.second turn.row.second).no_store)))
      (λ w a b e. ap (λ (n : Node). is_store n.op) (sym (at_other w a b)) ∙ e)

  named : (w : ℕ) → (node (turned K t) w).name ≡ (node K w).name
  named w =
      text_name half t.v (second_text K t).op 0 (second_text K t).operands half_known w
      ∙ text_name K t.u (first_text K t).op 0 (first_text K t).operands turn.known_u w

  -- ---- their words

  module _ (image : Image) (are : IsImage image) where
    abbrev V : ℕ → ℕ → ℕ
    V = val K image

    -- the word of node u in turn i: a and b joined
    abbrev fresh : ℕ → ℕ
    fresh i = joined r.first r.place_of_a (operand (val K image) i (the_a K t)) (operand (val K image) i (the_b K t))

    abbrev W : ℕ → ℕ → ℕ
    W w i = cond (eqb w t.u) (fresh i) (val K image w i)

    same_operand : (i : ℕ) (o : Operand) → IsOther o → operand W i o ≡ operand (val K image) i o
    same_operand i (Constant c) unlike = refl
    same_operand i (Edge s d init) unlike =
        let ne : s ≡ t.u → ⊥ = λ e. unlike d init (ap (λ (y : ℕ). Edge y d init) e) in
        ap (λ z. cond (ltb i d) (slice_index init i) z) (choose_other t.u s (fresh (i - d)) (val K image s (i - d)) ne)

    -- the edge from u carries the word of u
    edge_word : (X : ℕ → ℕ → ℕ) (i : ℕ) → operand X i (the_edge K t) ≡ X t.u i
    edge_word X i =
        ap (operand X i) edge_is
        ∙ cond-false (ltb i 0) (slice_index turn.is_taken.init i) (X t.u (i - 0)) (le-ltb i 0 (omega arith))
        ∙ ap (X t.u) (let e : i - 0 ≡ i = omega arith in e)

    -- the values of u and v in K
    given_value : (w q i : ℕ) (x y : Operand) → w < size K → is_turning (node K w).op ≡ true → (node K w).operands ≡ paired q x y →
        val K image w i ≡ joined (node K w).op q (operand (val K image) i x) (operand (val K image) i y)
    given_value w q i x y l turning e =
        ap (value image (before K image (i * size K + w)).memory) (work_is K image good.wired i w l)
        ∙ ap (λ (os : List Operand). value image (before K image (i * size K + w)).memory (record { op = (node K w).op; port = (node K w).port; turn = i; args = map (operand (val K image) i) os })) e
        ∙ joined_value image (before K image (i * size K + w)).memory (node K w).port i (node K w).op q (operand (val K image) i) x y turning

    value_u : (i : ℕ) → val K image t.u i ≡ joined (node K t.u).op t.j (operand (val K image) i (the_p K t)) (operand (val K image) i (the_a K t))
    value_u i = given_value t.u t.j i (the_p K t) (the_a K t) turn.known_u turn.row.given_u (two_operands (node K t.u).operands t.j length_u turn.place_j)

    value_v : (i : ℕ) → val K image t.v i ≡ joined (node K t.v).op t.i (joined (node K t.u).op t.j (operand (val K image) i (the_p K t)) (operand (val K image) i (the_a K t))) (operand (val K image) i (the_b K t))
    value_v i =
        given_value t.v t.i i (the_edge K t) (the_b K t) turn.is_taken.known_v turn.row.given_v (two_operands (node K t.v).operands t.i length_v turn.is_taken.two)
        ∙ ap (λ z. joined (node K t.v).op t.i z (operand (val K image) i (the_b K t))) (edge_word (val K image) i ∙ value_u i)

    small : (i w q : ℕ) (o : Operand) → w < size K → HasOperand K w q o → operand (val K image) i o < words
    small i w q o l has = operand_word (val K image) i o (val_word K good image are) (of_words K good w l q o has)

    law : (i : ℕ) → joined r.second r.place_of_p (operand (val K image) i (the_p K t)) (fresh i) ≡ val K image t.v i
    law i =
        turn.row.alike (operand (val K image) i (the_p K t)) (operand (val K image) i (the_a K t)) (operand (val K image) i (the_b K t))
        (small i t.u t.j (the_p K t) turn.known_u has_p)
        (small i t.u (1 - t.j) (the_a K t) turn.known_u has_a)
        (small i t.v (1 - t.i) (the_b K t) turn.is_taken.known_v has_b)
        ∙ sym (value_v i)

    given_work : (w i : ℕ) → w < size K → (work K image (i * size K + w)).op ≡ (node K w).op
    given_work w i l = ap (λ (x : Work). x.op) (work_is K image good.wired i w l)

    does_u : (i : ℕ) → StandsFor K image (i * size K + t.u) (work_of (node (turned K t) t.u) i W) (W t.u i)
    does_u i =
        let is = given_work t.u i turn.known_u in
        let op = ap (λ (n : Node). n.op) at_u in
        idle_stands K image (i * size K + t.u) (work_of (node (turned K t) t.u) i W) (W t.u i)
        (ap (λ (n : Node). value image (before K image (i * size K + t.u)).memory (work_of n i W)) at_u
        ∙ first_value image (before K image (i * size K + t.u)).memory 0 i r W i (the_a K t) (the_b K t) turn.row.first
        ∙ ap (λ z. joined r.first r.place_of_a z (operand W i (the_b K t))) (same_operand i (the_a K t) other_a)
        ∙ ap (λ z. joined r.first r.place_of_a (operand (val K image) i (the_a K t)) z) (same_operand i (the_b K t) other_b)
        ∙ sym (choose_at t.u t.u (fresh i) (val K image t.u i) refl))
        (ap is_access op ∙ first_no_access r (the_a K t) (the_b K t) turn.row.first)
        (ap is_store op ∙ first_no_store r (the_a K t) (the_b K t) turn.row.first)
        (ap is_output op ∙ first_no_output r (the_a K t) (the_b K t) turn.row.first)
        (ap is_store is ∙ (plain op_u turn.row.given_u).no_store)
        (ap is_output is ∙ (plain op_u turn.row.given_u).no_output)

    does_v : (i : ℕ) → StandsFor K image (i * size K + t.v) (work_of (node (turned K t) t.v) i W) (W t.v i)
    does_v i =
        let is = given_work t.v i turn.is_taken.known_v in
        let op = ap (λ (n : Node). n.op) at_v in
        let two = plain r.second turn.row.second in
        idle_stands K image (i * size K + t.v) (work_of (node (turned K t) t.v) i W) (W t.v i)
        (ap (λ (n : Node). value image (before K image (i * size K + t.v)).memory (work_of n i W)) at_v
        ∙ joined_value image (before K image (i * size K + t.v)).memory 0 i r.second r.place_of_p (operand W i) (the_p K t) (the_edge K t) turn.row.second
        ∙ ap (λ z. joined r.second r.place_of_p z (operand W i (the_edge K t))) (same_operand i (the_p K t) other_p)
        ∙ ap (λ z. joined r.second r.place_of_p (operand (val K image) i (the_p K t)) z) (edge_word W i ∙ choose_at t.u t.u (fresh i) (val K image t.u i) refl)
        ∙ law i
        ∙ sym (choose_other t.u t.v (fresh i) (val K image t.v i) (λ e. apart (sym e))))
        (ap is_access op ∙ two.no_access)
        (ap is_store op ∙ two.no_store)
        (ap is_output op ∙ two.no_output)
        (ap is_store is ∙ (plain op_v turn.row.given_v).no_store)
        (ap is_output is ∙ (plain op_v turn.row.given_v).no_output)

    -- every other node does what it did
    other_work : (w i : ℕ) → w < size K → (w ≡ t.u → ⊥) → (w ≡ t.v → ⊥) → work_of (node (turned K t) w) i W ≡ work K image (i * size K + w)
    other_work w i l a b =
        ap (λ (n : Node). work_of n i W) (at_other w a b)
        ∙ ap (λ (args : List ℕ). record { op = (node K w).op; port = (node K w).port; turn = i; args = args })
        (map_same (operand W i) (operand (val K image) i) (node K w).operands (λ q o has. same_operand i o (elsewhere w q o l has (λ h. b h.0))))
        ∙ sym (work_is K image good.wired i w l)

    does_other : (w i : ℕ) → w < size K → (w ≡ t.u → ⊥) → (w ≡ t.v → ⊥) → StandsFor K image (i * size K + w) (work_of (node (turned K t) w) i W) (W w i)
    does_other w i l a b =
        subst (StandsFor K image (i * size K + w) (work_of (node (turned K t) w) i W)) (sym (choose_other t.u w (fresh i) (val K image w i) a))
        (same_stands K image (i * size K + w) (work_of (node (turned K t) w) i W) (other_work w i l a b))

    follows : (n : ℕ) → Follows K (turned K t) image n (λ w. w) W
    follows n =
        record {
          inside = low;
          apart = λ v w l b e. e;
          effects = λ w i l b has. (w, subst (λ z. w < z) (sym turned_size) l, refl);
          ordered = λ v w b l a c st. b;
          does = λ w i l b.
              each (λ w. w < size K → StandsFor K image (i * size K + w) (work_of (node (turned K t) w) i W) (W w i))
              (λ z. does_u i) (λ z. does_v i) (λ w a b z. does_other w i z a b) w (low w l);
        }

    alike : (n : ℕ) → RunsAlike K (turned K t) image n W
    alike n = runs_alike K (turned K t) image n (λ w. w) W good turned_kernel.wired (follows n)

    turned_runs : (n : ℕ) → LeavesAlike K (turned K t) image n
    turned_runs n = let h = alike n in record { memory = h.memory; streams = h.streams; outside = h.outside; left = h.left }

    -- u and v access nothing
    idle : (w i a : ℕ) → (is_access (node (turned K t) w).op ≡ false) → Reaches (work_of (node (turned K t) w) i W) a → ⊥
    idle w i a unlike h = true≢false (sym h.is ∙ unlike)

    turned_reaches : (w i a : ℕ) → w < size (turned K t) → Reaches (work (turned K t) image (i * size (turned K t) + w)) a → Reaches (work K image (i * size K + w)) a
    turned_reaches w i a l h =
        let is : work (turned K t) image (i * size (turned K t) + w) ≡ work_of (node (turned K t) w) i W = (alike (suc i)).works w i l (omega arith) in
        each (λ w. w < size K → Reaches (work_of (node (turned K t) w) i W) a → Reaches (work K image (i * size K + w)) a)
        (λ z g. absurd (idle t.u i a (ap (λ (n : Node). is_access n.op) at_u ∙ first_no_access r (the_a K t) (the_b K t) turn.row.first) g))
        (λ z g. absurd (idle t.v i a (ap (λ (n : Node). is_access n.op) at_v ∙ (plain r.second turn.row.second).no_access) g))
        (λ w b c z g. subst (λ (x : Work). Reaches x a) (other_work w i z b c) g)
        w (low w l) (subst (λ (x : Work). Reaches x a) is h)

  pub turned_rewritten : IsRewritten K (turned K t)
  turned_rewritten =
      record {
        from = λ w. w;
        inside = low;
        apart = λ v w l b e. e;
        named = λ w l. named w;
        accesses = λ w l e. accesses w e;
        stores = λ w l e. same_stores w e;
        ordered = λ v w b l a c st. b;
        runs = λ image n are. turned_runs image are n;
        reaches = λ image w i a are l h. turned_reaches image are w i a l h;
      }
