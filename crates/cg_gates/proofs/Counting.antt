-- Counts of names.
use Rattle.std.proofs.Common.{◌≡◌, ℕ, ◌+◌, ◌<◌, ◌≤◌, Bool, true, false, cond, List, [], ◌∷◌, ◌++◌, length, map, take, get_or, Option, Some, refl, ap, sym, ◌∙◌, arith}
use Rattle.std.specs.Prelude.{String, bytes_eq, unwrap_or, count_by}
use Rattle.std.specs.declared.alloc.Global.{Global}
use Rattle.std.proofs.lemmas.List.{length-take-le, length-map, map_more}
use Rattle.std.proofs.lemmas.List.Sums.{count_by-le-length, sum_by-append}
use Rattle.std.proofs.lemmas.Slice.Eq.{bytes_eq-Decides}
use Rattle.indexmap.specs.IndexMap.{IndexMap}
use Rattle.cg_netlist.specs.declared.parts.Cell.{Cell}
use Rattle.cg_reading.specs.Numbers.{found_in}
use Rattle.cg_gates.specs.Shape.{Shape, shape_of}
use Rattle.cg_gates.specs.Numbers.{counted, by_net, AreCounts}

step : (b : Bool) (o : Option ℕ) (n m : ℕ) → (b ≡ true → n ≡ m) → m ≡ unwrap_or o 0 → unwrap_or (cond b (Some (n + 1)) o) 0 ≡ m + cond b 1 0
step true o n m same is = let e = same refl in omega arith
step false o n m same is = omega arith

-- one name's count grows by 1
pub one_more : {S : Type 0} (old new : IndexMap (String Global) ℕ S) (name other : List ℕ) (n : ℕ) → n ≡ counted old name → found_in new other ≡ cond (bytes_eq name other) (Some (n + 1)) (found_in old other)
    → counted new other ≡ counted old other + cond (bytes_eq name other) 1 0
one_more old new name other n is updated =
    ap (λ o. unwrap_or o 0) updated
    ∙ step (bytes_eq name other) (found_in old other) n (counted old other) (λ same. is ∙ ap (counted old) ((bytes_eq-Decides name other).0 same)) refl

-- ---- one cell more

count_push : (t : Shape → Bool) (cells : List Shape) (c : Shape) → count_by t (cells ++ c ∷ []) ≡ count_by t cells + cond (t c) 1 0
count_push t cells c =
    let both = sum_by-append (λ (d : Shape). cond (t d) 1 0) cells (c ∷ []) in
    let last : 0 + cond (t c) 1 0 ≡ cond (t c) 1 0 = omega arith in
    both ∙ ap (λ n. count_by t cells + n) last

pub counts_more : {S : Type 0} (old new : IndexMap (String Global) ℕ S) (cells : List Cell) (i : ℕ) (x : Cell) → x ≡ get_or cells i x → i < length cells → AreCounts old (map shape_of (take i cells))
    → ((other : List ℕ) → counted new other ≡ counted old other + cond (bytes_eq (shape_of x).q other) 1 0) → AreCounts new (map shape_of (take (i + 1) cells))
counts_more old new cells i x is l before more = record {
  found = λ net.
      let t : Shape → Bool = by_net net in
      let longer : map shape_of (take (i + 1) cells) ≡ map shape_of (take i cells) ++ shape_of x ∷ [] = map_more shape_of cells i x l ∙ ap (λ (c : Cell). map shape_of (take i cells) ++ shape_of c ∷ []) (sym is) in
      more net ∙ ap (λ n. n + cond (t (shape_of x)) 1 0) (before.found net)
      ∙ sym (ap (count_by t) longer ∙ count_push t (map shape_of (take i cells)) (shape_of x));
}

-- a count is no greater than the number of cells
pub few_counted : {S : Type 0} (counts : IndexMap (String Global) ℕ S) (cells : List Cell) (i : ℕ) (net : List ℕ) → i ≤ length cells → AreCounts counts (map shape_of (take i cells)) → counted counts net ≤ i
few_counted counts cells i net within h =
    let most = count_by-le-length (by_net net) (map shape_of (take i cells)) in
    let same = length-map (take i cells) shape_of in
    let long = length-take-le i cells within in
    let is = h.found net in
    omega arith
