-- After all positions were claimed, the table has a clash just where two positions aren't alike.
use Rattle.std.proofs.Common.{◌≡◌, ◌≢◌, ℕ, suc, ◌+◌, ◌*◌, ◌%◌, ◌<◌, Bool, true, false, cond, List, [], ◌∷◌, ◌++◌, length, replicate, drop, get_or, add-one, Option, Some, None, Contains, refl, sym, ap, ◌∙◌, subst, arith, ⊎_elim, eqb-true, eq-eqb, append_assoc}
use Rattle.std.specs.Prelude.{◌&&◌, flat_map}
use Rattle.std.proofs.lemmas.Bool.{and_parts, and_from, not_from_true, not_from_false, cases_Bool, both_ways}
use Rattle.std.proofs.lemmas.List.{get_or-set_same, get_or-set_other, length-set, get_or-replicate, length-replicate, append-nil}
use Rattle.std.proofs.lemmas.List.Elements.{Contains-push, Contains-push_cases, Contains-append_left}
use Rattle.std.proofs.lemmas.Nat.{mul-add-lt, mod_below}
use Rattle.std.proofs.Math.Seq.{drop-cons}
use Rattle.cg_model.specs.Kernel.{Kernel}
use Rattle.cg_model.specs.Array.{Arch}
use Rattle.cg_model.specs.declared.kernel.Operand.{Operand}
use Rattle.cg_model.specs.declared.kernel.Operand.TheVariants.{Const as Constant, Edge}
use Rattle.cg_model.specs.declared.mapping.Route.{Route}
use Rattle.cg_model.specs.Mapping.{Mapping, Position, positions, positions_on, of_operand, leaves}
use Rattle.cg_check.specs.Edges.{DataEdge, data_edge}
use Rattle.cg_check.specs.declared.rule.RulePlace.TheVariants as at
use Rattle.cg_check.specs.declared.stop.Stop.{Stop}
use Rattle.cg_check.specs.declared.stop.Sharing.{Sharing}
use Rattle.cg_check.specs.declared.stop.Sharing.TheVariants.{Value, Way}
use Rattle.cg_check.specs.declared.stop.Cell.{Cell}
use Rattle.cg_check.specs.declared.stop.Cell.TheVariants.{Free, Held, Clash}
use Rattle.cg_check.specs.Rules.{is_on, clashes, first_clash, violated}
use Rattle.cg_check.specs.Claims.{position_of, alike, rule_of, with_claim, cell, index_of, claimed, claims, is_clash, clash_in}
use Rattle.cg_check.proofs.Lists.{any_of, any_none, first_below_same}
use Rattle.cg_check.proofs.Meeting.{values_same, same_values, ways_same, same_ways}
use Rattle.cg_model.proofs.Bools.{and_not}
use Rattle.cg_model.proofs.Lookups.{Contains-nil}
use Rattle.cg_model.proofs.Mappings.{places_apart}

-- ---- to be alike is an equivalence

pub alike_itself : (sharing : Sharing) (p : Position) → alike sharing p p ≡ true
alike_itself Value p = same_values p p (refl, refl)
alike_itself Way p = same_ways p p refl

pub alike_joined : (sharing : Sharing) (p q r : Position) → alike sharing p q ≡ true → alike sharing p r ≡ true → alike sharing q r ≡ true
alike_joined Value p q r h k =
    let (a, b) = values_same p q h in
    let (c, d) = values_same p r k in
    same_values q r (sym a ∙ c, sym b ∙ d)
alike_joined Way p q r h k = same_ways q r (sym (ways_same p q h) ∙ ways_same p r k)

-- ---- one cell

-- the cell knows the positions that pass a test: which are there, and whether all share with the first
abbrev pub IsCell : Sharing → (Position → Bool) → List Position → Cell → Type 0
IsCell sharing here ps Free = (p : Position) → Contains ps p → here p ≡ false
IsCell sharing here ps (Held c) =
    Contains ps (position_of c) × (here (position_of c) ≡ true) × ((p : Position) → Contains ps p → here p ≡ true → alike sharing (position_of c) p ≡ true)
IsCell sharing here ps Clash =
    (p : Position) × (q : Position) × Contains ps p × Contains ps q × (here p ≡ true) × (here q ≡ true) × (alike sharing p q ≡ false)

-- one more position that is elsewhere
elsewhere : (sharing : Sharing) (here : Position → Bool) (ps : List Position) (c : Cell) (p : Position) → here p ≡ false → IsCell sharing here ps c → IsCell sharing here (ps ++ p ∷ []) c
elsewhere sharing here ps Free p away h = λ q m. ⊎_elim (λ l. h q l) (λ e. ap here (sym e) ∙ away) (Contains-push_cases ps p q m)
elsewhere sharing here ps (Held c) p away (a, b, h) =
    (Contains-append_left ps (p ∷ []) _ a, b, λ q m on. ⊎_elim (λ l. h q l on) (λ e. absurd (both_ways (here q) (ap here (sym e) ∙ away) on)) (Contains-push_cases ps p q m))
elsewhere sharing here ps Clash p away (q, r, a, b, c, d, e) = (q, r, Contains-append_left ps (p ∷ []) q a, Contains-append_left ps (p ∷ []) r b, c, d, e)

-- one more position that is there
held_by : (sharing : Sharing) (here : Position → Bool) (ps : List Position) (c : Stop) (p : Position) (b : Bool) → alike sharing (position_of c) p ≡ b → here p ≡ true →
    IsCell sharing here ps (Held c) → IsCell sharing here (ps ++ p ∷ []) (cond b (Held c) Clash)
held_by sharing here ps c p true same on (a, b, h) =
    (Contains-append_left ps (p ∷ []) _ a, b, λ q m on_q. ⊎_elim (λ l. h q l on_q) (λ e. subst (λ z. alike sharing (position_of c) z ≡ true) e same) (Contains-push_cases ps p q m))
held_by sharing here ps c p false same on (a, b, h) = (position_of c, p, Contains-append_left ps (p ∷ []) _ a, Contains-push ps p, b, on, same)

there : (sharing : Sharing) (here : Position → Bool) (ps : List Position) (c : Cell) (p : Position) → here p ≡ true → IsCell sharing here ps c → IsCell sharing here (ps ++ p ∷ []) (with_claim sharing c p)
there sharing here ps Free p on h =
    (Contains-push ps p, on, λ q m on_q. ⊎_elim (λ l. absurd (both_ways (here q) (h q l) on_q)) (λ e. subst (λ z. alike sharing p z ≡ true) e (alike_itself sharing p)) (Contains-push_cases ps p q m))
there sharing here ps (Held c) p on h = held_by sharing here ps c p (alike sharing (position_of c) p) refl on h
there sharing here ps Clash p on (q, r, a, b, c, d, e) = (q, r, Contains-append_left ps (p ∷ []) q a, Contains-append_left ps (p ∷ []) r b, c, d, e)

-- the cell tells whether there is a clash
pub told : (sharing : Sharing) (ii r s : ℕ) (ps : List Position) (c : Cell) → IsCell sharing (is_on ii r s) ps c → is_clash c ≡ clashes (alike sharing) ii ps r s
unfolding clashes
told sharing ii r s ps Free h =
    sym (any_none (λ p. is_on ii r s p && _) ps (λ p m. and_not (is_on ii r s p) _ (λ on. absurd (both_ways _ (h p m) on))))
told sharing ii r s ps (Held c) (a, b, h) =
    sym (any_none _ ps (λ p m. and_not (is_on ii r s p) _ (λ on. any_none _ ps (λ q n. and_not (is_on ii r s q) _ (λ on_q. not_from_true _ (alike_joined sharing (position_of c) p q (h p m on) (h q n on_q)))))))
told sharing ii r s ps Clash (p, q, a, b, c, d, e) =
    sym (any_of _ ps p a (and_from _ _ c (any_of _ ps q b (and_from _ _ d (not_from_false _ e)))))

-- ---- the table

pub record IsTable (sharing : Sharing) (ii resources : ℕ) (ps : List Position) (table : List Cell) : Type 0 where
  pub long : length table ≡ resources * ii
  pub cells : (r s : ℕ) → r < resources → s < ii → IsCell sharing (is_on ii r s) ps (cell table (r * ii + s))

pub begun : (sharing : Sharing) (ii resources : ℕ) → IsTable sharing ii resources [] (replicate (resources * ii) Free)
begun sharing ii resources = record {
  long = length-replicate (resources * ii) Free;
  cells = λ r s lr ls.
      subst (λ c. IsCell sharing (is_on ii r s) [] c) (sym (get_or-replicate (resources * ii) (r * ii + s) Free Free (in_table r s ii resources lr ls))) (λ p m. absurd (Contains-nil p m));
}
  where
    in_table : (r s ii n : ℕ) → r < n → s < ii → r * ii + s < n * ii
    in_table r s ii n lr ls = let h = mul-add-lt r ii s n lr ls in omega (arith, h)

one_cell : (sharing : Sharing) (ii resources : ℕ) (ps : List Position) (table : List Cell) (p : Position) (r s : ℕ) → 0 < ii → IsTable sharing ii resources ps table → r < resources → s < ii →
    IsCell sharing (is_on ii r s) (ps ++ p ∷ []) (cell (claimed sharing ii table p) (r * ii + s))
unfolding claimed
one_cell sharing ii resources ps table p r s some t lr ls =
    ⊎_elim (λ on.
    let (a, b) = and_parts _ _ on in
    let same : index_of ii p ≡ r * ii + s = ap (λ z. z * ii + p.time % ii) (eqb-true _ _ a) ∙ ap (λ z. r * ii + z) (eqb-true _ _ b) in
    let bound = mul-add-lt r ii s resources lr ls in
    let long = t.long in
    let within : index_of ii p < length table = omega (arith, bound, same, long) in
    let old : IsCell sharing (is_on ii r s) ps (cell table (index_of ii p)) = subst (λ i. IsCell sharing (is_on ii r s) ps (cell table i)) (sym same) (t.cells r s lr ls) in
    subst (λ i. IsCell sharing (is_on ii r s) (ps ++ p ∷ []) (cell (claimed sharing ii table p) i)) same
    (subst (λ c. IsCell sharing (is_on ii r s) (ps ++ p ∷ []) c) (sym (get_or-set_same table (index_of ii p) _ Free within)) (there sharing (is_on ii r s) ps _ p on old)))
    (λ off.
    let apart : r * ii + s ≢ index_of ii p =
    λ e. let (a, b) = places_apart ii r s p.resource (p.time % ii) ls (mod_below p.time ii some) e in both_ways _ off (and_from _ _ (eq-eqb _ _ (sym a)) (eq-eqb _ _ (sym b))) in
    subst (λ c. IsCell sharing (is_on ii r s) (ps ++ p ∷ []) c) (sym (get_or-set_other table (index_of ii p) (r * ii + s) _ Free apart)) (elsewhere sharing (is_on ii r s) ps _ p off (t.cells r s lr ls)))
    (cases_Bool (is_on ii r s p))

one_more : (sharing : Sharing) (ii resources : ℕ) (ps : List Position) (table : List Cell) (p : Position) → 0 < ii → IsTable sharing ii resources ps table →
    IsTable sharing ii resources (ps ++ p ∷ []) (claimed sharing ii table p)
unfolding claimed
one_more sharing ii resources ps table p some t = record {
  long = length-set table _ _ ∙ t.long;
  cells = λ r s lr ls. one_cell sharing ii resources ps table p r s some t lr ls;
}

pub all_claimed : (sharing : Sharing) (ii resources : ℕ) (ps qs : List Position) (table : List Cell) → 0 < ii → IsTable sharing ii resources ps table →
    IsTable sharing ii resources (ps ++ qs) (claims sharing ii table qs)
all_claimed sharing ii resources ps [] table some t = subst (λ z. IsTable sharing ii resources z table) (sym (append-nil ps)) t
all_claimed sharing ii resources ps (q ∷ qs) table some t =
    subst (λ z. IsTable sharing ii resources z (claims sharing ii (claimed sharing ii table q) qs)) (append_assoc ps (q ∷ []) qs)
    (all_claimed sharing ii resources (ps ++ q ∷ []) qs (claimed sharing ii table q) some (one_more sharing ii resources ps table q some t))

-- the first clash in the table of all positions is the first place at which two aren't alike
first_in_table : (sharing : Sharing) (A : Arch) (K : Kernel) (M : Mapping) → 0 < M.ii →
    clash_in (claims sharing M.ii (replicate (length A.resources * M.ii) Free) (positions A K M)) M.ii (length A.resources) ≡ first_clash (alike sharing) A K M
first_in_table sharing A K M some =
    let t = all_claimed sharing M.ii (length A.resources) [] (positions A K M) _ some (begun sharing M.ii (length A.resources)) in
    first_below_same _ _ (length A.resources) (λ r lr. first_below_same _ _ M.ii (λ s ls.
    ap (λ b. cond b (Some (at.Resource r s)) None) (told sharing M.ii r s (positions A K M) _ (t.cells r s lr ls))))

-- so it is the first place at which the rule is violated
first_by : (sharing : Sharing) (A : Arch) (K : Kernel) (M : Mapping) → first_clash (alike sharing) A K M ≡ violated (rule_of sharing) A K M
unfolding violated
first_by Value A K M = refl
first_by Way A K M = refl

pub violated_in_table : (sharing : Sharing) (A : Arch) (K : Kernel) (M : Mapping) → 0 < M.ii →
    clash_in (claims sharing M.ii (replicate (length A.resources * M.ii) Free) (positions A K M)) M.ii (length A.resources) ≡ violated (rule_of sharing) A K M
violated_in_table sharing A K M some = first_in_table sharing A K M some ∙ first_by sharing A K M

-- ---- the positions of routes

-- one list after another
claims-append : (sharing : Sharing) (ii : ℕ) (table : List Cell) (ps qs : List Position) → claims sharing ii table (ps ++ qs) ≡ claims sharing ii (claims sharing ii table ps) qs
claims-append sharing ii table [] qs = refl
claims-append sharing ii table (p ∷ ps) qs = claims-append sharing ii (claimed sharing ii table p) ps qs

-- one route, and then those after it
pub claims-routes : (f : Route → List Position) (sharing : Sharing) (ii : ℕ) (table : List Cell) (routes : List Route) (i : ℕ) (route : Route) → i < length routes → route ≡ get_or routes i route →
    claims sharing ii (claims sharing ii table (f route)) (flat_map f (drop (i + 1) routes)) ≡ claims sharing ii table (flat_map f (drop i routes))
claims-routes f sharing ii table routes i route l at =
    let opened : flat_map f (drop i routes) ≡ f route ++ flat_map f (drop (i + 1) routes) =
    ap (flat_map f) (drop-cons routes i route l) ∙ ap (λ z. f z ++ flat_map f (drop (suc i) routes)) (sym at) ∙ ap (λ n. f route ++ flat_map f (drop n routes)) (sym (add-one i)) in
    sym (ap (claims sharing ii table) opened ∙ claims-append sharing ii table (f route) (flat_map f (drop (i + 1) routes)))

-- the positions of a path for an edge, if there is one
unfoldable edge_positions : Arch → Mapping → List ℕ → Option DataEdge → List Position
edge_positions A M path None = []
edge_positions A M path (Some e) = positions_on A e.source (leaves A M e.source) path

of_edge : (A : Arch) (M : Mapping) (path : List ℕ) (o : Option Operand) → of_operand A M path o ≡ edge_positions A M path (data_edge o)
unfolding edge_positions
of_edge A M path None = refl
of_edge A M path (Some (Constant w)) = refl
of_edge A M path (Some (Edge u d init)) = refl

pub no_edge : (A : Arch) (M : Mapping) (path : List ℕ) (o : Option Operand) → data_edge o ≡ None → of_operand A M path o ≡ []
unfolding edge_positions
no_edge A M path o e = of_edge A M path o ∙ ap (edge_positions A M path) e

pub an_edge : (A : Arch) (M : Mapping) (path : List ℕ) (o : Option Operand) (edge : DataEdge) → data_edge o ≡ Some edge → of_operand A M path o ≡ positions_on A edge.source (leaves A M edge.source) path
unfolding edge_positions
an_edge A M path o edge e = of_edge A M path o ∙ ap (edge_positions A M path) e
