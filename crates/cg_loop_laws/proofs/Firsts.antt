-- Tests that find nothing in a list of uses, at any of its places.
use Rattle.std.proofs.Common.{◌≡◌, Bool, true, false, List, [], ◌∷◌, ◌++◌, Option, Some, None, refl, ap, sym, ◌∙◌, subst, append_assoc, ⊎_elim}
use Rattle.std.specs.Prelude.{is_none}
use Rattle.std.specs.Option.{option_map, option_or}
use Rattle.std.proofs.lemmas.Bool.{cases_Bool, cond-true, cond-false, false≢true}
use Rattle.std.proofs.lemmas.List.{append-nil}
use Rattle.cg_loop_syntax.specs.Uses.{Use, is_unknown, is_misassigned, is_misplaced, is_bad_port, first_where, fault_of}

-- the test is false at each use, with the uses before it and behind it
abbrev pub Passes : (List Use → Use → List Use → Bool) → List Use → List Use → Type 0
Passes test before [] = Unit {0}
Passes test before (u ∷ rest) = (test before u rest ≡ false) × Passes test (before ++ u ∷ []) rest

passes : (test : List Use → Use → List Use → Bool) (before us : List Use) → is_none (first_where test before us) ≡ true → Passes test before us
passes test before [] h = tt
passes test before (u ∷ rest) h =
    ⊎_elim
    (λ t. absurd (false≢true (ap is_none (sym (cond-true (test before u rest) (Some u.place) (first_where test (before ++ u ∷ []) rest) t)) ∙ h)))
    (λ f. (f, passes test (before ++ u ∷ []) rest (ap is_none (sym (cond-false (test before u rest) (Some u.place) (first_where test (before ++ u ∷ []) rest) f)) ∙ h)))
    (cases_Bool (test before u rest))

pub passes_append : (test : List Use → Use → List Use → Bool) (before us vs : List Use) → Passes test before (us ++ vs) →
    Passes (λ b u rest. test b u (rest ++ vs)) before us × Passes test (before ++ us) vs
passes_append test before [] vs h = (tt, subst (λ b. Passes test b vs) (sym (append-nil before)) h)
passes_append test before (u ∷ us) vs h =
    let r = passes_append test (before ++ u ∷ []) us vs h.1 in
    ((h.0, r.0), subst (λ b. Passes test b vs) (append_assoc before (u ∷ []) us) r.1)

none_both : {X : Type 0} (o p : Option X) → is_none (option_or o p) ≡ true → (is_none o ≡ true) × (is_none p ≡ true)
none_both None p h = (refl, h)
none_both (Some x) p h = absurd (false≢true h)

none_before : {X Y : Type 0} (f : X → Y) (o : Option X) → is_none (option_map f o) ≡ true → is_none o ≡ true
none_before f None h = refl
none_before f (Some x) h = absurd (false≢true h)

-- what a body without a fault keeps
pub record IsFaultless (us : List Use) : Type 0 where
  pub known : Passes is_unknown [] us
  pub assigned : Passes is_misassigned [] us
  pub placed : Passes is_misplaced [] us
  pub ported : Passes is_bad_port [] us

pub faultless : (us : List Use) → is_none (fault_of us) ≡ true → IsFaultless us
faultless us h =
    let a = none_both _ _ h in
    let b = none_both _ _ a.1 in
    let c = none_both _ _ b.1 in
    let d = none_both _ _ c.1 in
    record {
      known = passes is_unknown [] us (none_before _ _ a.0);
      assigned = passes is_misassigned [] us (none_before _ _ c.0);
      placed = passes is_misplaced [] us (none_before _ _ d.0);
      ported = passes is_bad_port [] us (none_before _ _ d.1);
    }
