-- Questions that are asked one after the other, and the edges that answer them.
use Rattle.std.proofs.Common.{◌≡◌, ℕ, zero, suc, ◌+◌, ◌≤◌, List, [], ◌∷◌, ◌++◌, length, refl, sym, ap, ◌∙◌, arith}
use Rattle.std.specs.Prelude.{flat_map}
use Rattle.std.specs.List.{range_with_len}
use Rattle.std.proofs.lemmas.Bool.{le-ltb}
use Rattle.std.proofs.lemmas.List.{append_assoc, append-nil, length-append, map-id}
use Rattle.std.proofs.lemmas.List.Concat.{flat_map-append}
use Rattle.std.proofs.lemmas.List.FromFn.{map-range_with_len_more}
use Rattle.cg_model.specs.declared.kernel.OrderEdge.{OrderEdge}
use Rattle.cg_model.specs.Kernel.{Kernel}
use Rattle.cg_depend.specs.declared.gather.Needed.{Needed}
use Rattle.cg_depend.specs.Depend.{Ask, Added, none, apart, chained, added, asks_of}
use Rattle.cg_depend.specs.Gathered.{Gains, Answers, IsGathered}

added_append : (K : Kernel) (qs rs : List Ask) (es fs : List OrderEdge) → Added K qs es → Added K rs fs → Added K (qs ++ rs) (es ++ fs)
added_append K [] rs [] fs none b = b
added_append K [] rs (e ∷ es) fs a b = elim a [ ]
added_append K (q ∷ qs) rs es fs (apart gap rest) b = apart gap (added_append K qs rs es fs rest b)
added_append K (q ∷ qs) rs es fs (chained g gap chain rest) b = chained g gap chain (added_append K qs rs es fs rest b)
added_append K (q ∷ qs) rs (e ∷ es) fs (added g gap unchained rest) b = added g gap unchained (added_append K qs rs es fs rest b)

pub gains_none : (a : Needed) → Gains [] a a
gains_none a = record { total = omega arith; kept = λ few. sym (append-nil a.edges.items) }

gains_then : (es fs : List OrderEdge) (a b c : Needed) → Gains es a b → Gains fs b c → Gains (es ++ fs) a c
gains_then es fs a b c p q = record {
  total = let x = p.total in let y = q.total in omega (arith, length-append es fs);
  kept = λ few. q.kept few ∙ ap (λ xs. xs ++ fs) (p.kept (let y = q.total in omega arith)) ∙ append_assoc a.edges.items es fs;
}

pub answers_none : (K : Kernel) (a : Needed) → Answers K [] a a
answers_none K a = ([], none, gains_none a)

pub answers_then : (K : Kernel) (qs rs : List Ask) (a b c : Needed) → Answers K qs a b → Answers K rs b c → Answers K (qs ++ rs) a c
answers_then K qs rs a b c p q = (p.0 ++ q.0, added_append K qs rs p.0 q.0 p.1 q.1, gains_then p.0 q.0 a b c p.2 q.2)

pub gathered_start : (K : Kernel) (a : Needed) → a.total ≡ length K.order → a.edges.items ≡ [] → IsGathered K [] a
gathered_start K a total empty = record { edges = []; are = none; total = omega (arith, total); kept = λ few. empty }

pub gathered_then : (K : Kernel) (qs rs : List Ask) (a b : Needed) → IsGathered K qs a → Answers K rs a b → IsGathered K (qs ++ rs) b
gathered_then K qs rs a b g p =
    let gains = p.2 in
    record {
      edges = g.edges ++ p.0;
      are = added_append K qs rs g.edges p.0 g.are p.1;
      total = let x = g.total in let y = gains.total in omega (arith, length-append g.edges p.0);
      kept = λ few. gains.kept few ∙ ap (λ xs. xs ++ p.0) (g.kept (let y = gains.total in omega arith));
    }

-- ---- rows of questions

range_more : (n : ℕ) → range_with_len 0 (n + 1) ≡ range_with_len 0 n ++ n ∷ []
range_more n = sym (map-id (range_with_len 0 (n + 1))) ∙ map-range_with_len_more (λ x. x) 0 n n (omega arith) ∙ ap (λ xs. xs ++ n ∷ []) (map-id (range_with_len 0 n))

-- one more in a row
pub row_more : {T : Type 0} (f : ℕ → List T) (n : ℕ) → flat_map f (range_with_len 0 (n + 1)) ≡ flat_map f (range_with_len 0 n) ++ f n
row_more f n = ap (flat_map f) (range_more n) ∙ flat_map-append f (range_with_len 0 n) (n ∷ []) ∙ ap (λ xs. flat_map f (range_with_len 0 n) ++ xs) (append-nil (f n))

-- a node doesn't ask about those before it and itself
pub row_start : (K : Kernel) (u n : ℕ) → n ≤ u + 1 → flat_map (asks_of K u) (range_with_len 0 n) ≡ []
row_start K u zero h = refl
row_start K u (suc n) h =
    ap (λ z. flat_map (asks_of K u) (range_with_len 0 z)) (let e : suc n ≡ n + 1 = omega arith in e)
    ∙ row_more (asks_of K u) n
    ∙ ap (λ xs. xs ++ asks_of K u n) (row_start K u n (omega arith))
    ∙ rw (le-ltb u n (omega arith)) refl
