-- Positions in buckets: how they are filled, and that nothing that meets is missed there.
use Rattle.std.proofs.Common.{◌≡◌, ℕ, ◌+◌, ◌*◌, ◌%◌, ◌<◌, Bool, true, false, cond, List, [], ◌∷◌, ◌++◌, length, map, take, get_or, set, replicate, Option, Some, None, refl, sym, ap, ◌∙◌, subst, ⊎_elim, eqb-true, eq-eqb}
use Rattle.std.specs.Prelude.{◌^◌, ◌&&◌, not, eqb, filter}
use Rattle.std.proofs.lemmas.Bool.{and_parts, cases_eq, cases_Bool, cond-false, ne_eqb}
use Rattle.std.proofs.lemmas.List.{append-nil, map-append, map_more, get_or-set_same, get_or-set_other, length-set, get_or-replicate, length-replicate}
use Rattle.std.proofs.lemmas.List.Elements.{filter-append}
use Rattle.std.proofs.lemmas.Nat.{mod_below}
use Rattle.cg_model.specs.First.{first_such}
use Rattle.cg_model.specs.Kernel.{Kernel}
use Rattle.cg_model.specs.Array.{Arch}
use Rattle.cg_model.specs.Mapping.{Mapping, Position, positions}
use Rattle.cg_check.specs.declared.rule.Rule.{Rule}
use Rattle.cg_check.specs.declared.rule.RulePlace.{RulePlace}
use Rattle.cg_check.specs.declared.rule.RulePlace.TheVariants as at
use Rattle.cg_check.specs.declared.stop.Stop.{Stop}
use Rattle.cg_check.specs.declared.stop.Sharing.{Sharing}
use Rattle.cg_check.specs.declared.stop.Sharing.TheVariants.{Value, Way}
use Rattle.cg_check.specs.Rules.{same_value, same_way, is_on}
use Rattle.cg_check.specs.Claims.{position_of}
use Rattle.cg_violations.specs.Faults.{first_on, first_unlike, source_name, way_name, meeting_text, sharing_of, resource_text, place_text}
use Rattle.cg_violations.specs.Buckets.{bucket_of, bucket, in_bucket, HasPositions, IsFilled}

-- each is one of them
pub below : (count ii r s : ℕ) → 0 < count → bucket_of count ii r s < count
unfolding bucket_of
below count ii r s some = mod_below (((r * ii) % 2 ^ 64 + s) % 2 ^ 64) count some

-- ---- to fill them

-- empty lists hold no position
pub none_filled : (count n ii : ℕ) (lists : List (List Stop)) → lists ≡ replicate count [] → n ≡ length lists → HasPositions n ii [] lists
none_filled count n ii lists e long =
    let many : n ≡ count = long ∙ ap length e ∙ length-replicate count [] in
    record {
      long = sym long;
      each = λ b l.
          ap (λ (ls : List (List Stop)). map position_of (get_or ls b [])) e
          ∙ ap (map position_of) (get_or-replicate count b [] [] (subst (λ z. b < z) many l));
    }

-- a list that got one more
grown : (t : Position → Bool) (ps : List Position) (old : List Stop) (stop : Stop) → map position_of old ≡ filter t ps → t (position_of stop) ≡ true →
    map position_of (old ++ stop ∷ []) ≡ filter t (ps ++ position_of stop ∷ [])
grown t ps old stop e on =
    map-append position_of old (stop ∷ []) ∙ ap (λ z. z ++ position_of stop ∷ []) e
    ∙ ap (λ b. filter t ps ++ cond b (position_of stop ∷ []) []) (sym on) ∙ sym (filter-append t ps (position_of stop ∷ []))

-- one that didn't
stayed : (t : Position → Bool) (ps : List Position) (old : List Stop) (p : Position) → map position_of old ≡ filter t ps → t p ≡ false → map position_of old ≡ filter t (ps ++ p ∷ [])
stayed t ps old p e off =
    e ∙ sym (append-nil (filter t ps)) ∙ ap (λ b. filter t ps ++ cond b (p ∷ []) []) (sym off) ∙ sym (filter-append t ps (p ∷ []))

-- one more stop in its bucket
pushed : (count ii : ℕ) (ps : List Position) (lists : List (List Stop)) (stop : Stop) (here : ℕ) → here ≡ bucket count ii (position_of stop) → here < count → HasPositions count ii ps lists →
    HasPositions count ii (ps ++ position_of stop ∷ []) (set lists here (get_or lists here [] ++ stop ∷ []))
pushed count ii ps lists stop here is within h = record {
  long = length-set lists here (get_or lists here [] ++ stop ∷ []) ∙ h.long;
  each = λ b l. ⊎_elim
      (λ e. subst (λ z. map position_of (get_or (set lists here (get_or lists here [] ++ stop ∷ [])) z []) ≡ in_bucket count ii z (ps ++ position_of stop ∷ [])) (sym e)
      (ap (map position_of) (get_or-set_same lists here (get_or lists here [] ++ stop ∷ []) [] (subst (λ z. here < z) (sym h.long) within))
      ∙ grown (λ p. eqb (bucket count ii p) here) ps (get_or lists here []) stop (h.each here within) (eq-eqb _ _ (sym is))))
      (λ ne. ap (map position_of) (get_or-set_other lists here b (get_or lists here [] ++ stop ∷ []) [] ne)
      ∙ stayed (λ p. eqb (bucket count ii p) b) ps (get_or lists b []) (position_of stop) (h.each b l) (ne_eqb _ _ (λ e. ne (sym e ∙ sym is))))
      (cases_eq b here);
}

-- the stop at place k, after those before it
pub next_filled : (count ii k : ℕ) (stops : List Stop) (lists new : List (List Stop)) (stop d : Stop) (here : ℕ) → k < length stops → stop ≡ get_or stops k d → here ≡ bucket count ii (position_of stop) → here < count →
    new ≡ set lists here (get_or lists here [] ++ stop ∷ []) → HasPositions count ii (map position_of (take k stops)) lists → HasPositions count ii (map position_of (take (k + 1) stops)) new
next_filled count ii k stops lists new stop d here l read is within e h =
    let more : map position_of (take (k + 1) stops) ≡ map position_of (take k stops) ++ position_of stop ∷ [] =
    map_more position_of stops k d l ∙ ap (λ (z : Stop). map position_of (take k stops) ++ position_of z ∷ []) (sym read) in
    subst (HasPositions count ii (map position_of (take (k + 1) stops))) (sym e)
    (subst (λ z. HasPositions count ii z (set lists here (get_or lists here [] ++ stop ∷ []))) (sym more) (pushed count ii _ lists stop here is within h))

-- ---- to look only there

-- the first to pass a test among those that pass a weaker one
kept_here : (t : Position → Bool) (p : Position) (ps : List Position) (o : Option Position) (c : Bool) → (t p ≡ true → c ≡ true) → first_such t ps ≡ o →
    first_such t (cond c (p ∷ ps) ps) ≡ cond (t p) (Some p) o
kept_here t p ps o true h e = ap (cond (t p) (Some p)) e
kept_here t p ps o false h e =
    e ∙ ⊎_elim (λ on. let bad : false ≡ true = h on in absurd (cc)) (λ off. sym (cond-false (t p) (Some p) o off)) (cases_Bool (t p))

pub first_kept : (t u : Position → Bool) → ((p : Position) → t p ≡ true → u p ≡ true) → (ps : List Position) → first_such t (filter u ps) ≡ first_such t ps
first_kept t u h [] = refl
first_kept t u h (p ∷ ps) = kept_here t p (filter u ps) (first_such t ps) (u p) (h p) (first_kept t u h ps)

module _ (count ii r s : ℕ) where
  -- what is on resource r in slot s is in its bucket
  there : (p : Position) → is_on ii r s p ≡ true → eqb (bucket count ii p) (bucket_of count ii r s) ≡ true
  there p h =
      let (a, b) = and_parts (eqb p.resource r) (eqb (p.time % ii) s) h in
      eq-eqb _ _ (ap (λ z. bucket_of count ii z (p.time % ii)) (eqb-true _ _ a) ∙ ap (bucket_of count ii r) (eqb-true _ _ b))

  on_there : (ps : List Position) → first_on ii (in_bucket count ii (bucket_of count ii r s) ps) r s ≡ first_on ii ps r s
  on_there ps = first_kept (is_on ii r s) (λ p. eqb (bucket count ii p) (bucket_of count ii r s)) there ps

  unlike_there : (alike : Position → Position → Bool) (ps : List Position) (o : Option Position) →
      first_unlike alike ii (in_bucket count ii (bucket_of count ii r s) ps) r s o ≡ first_unlike alike ii ps r s o
  unlike_there alike ps None = refl
  unlike_there alike ps (Some p) =
      first_kept (λ q. is_on ii r s q && not (alike p q)) (λ q. eqb (bucket count ii q) (bucket_of count ii r s)) (λ q h. there q (and_parts (is_on ii r s q) (not (alike p q)) h).0) ps

  pub text_there : (A : Arch) (K : Kernel) (ps : List Position) (sharing : Sharing) →
      resource_text A K ii (in_bucket count ii (bucket_of count ii r s) ps) sharing r s ≡ resource_text A K ii ps sharing r s
  text_there A K ps Value =
      let here = in_bucket count ii (bucket_of count ii r s) ps in
      ap (λ o. meeting_text A r s (source_name K o) (source_name K (first_unlike same_value ii here r s o))) (on_there ps)
      ∙ ap (λ o. meeting_text A r s (source_name K (first_on ii ps r s)) (source_name K o)) (unlike_there same_value ps (first_on ii ps r s))
  text_there A K ps Way =
      let here = in_bucket count ii (bucket_of count ii r s) ps in
      ap (λ o. meeting_text A r s (way_name A o) (way_name A (first_unlike same_way ii here r s o))) (on_there ps)
      ∙ ap (λ o. meeting_text A r s (way_name A (first_on ii ps r s)) (way_name A o)) (unlike_there same_way ps (first_on ii ps r s))

-- what is said of a place from the stops in its bucket
pub place_there : (A : Arch) (K : Kernel) (M : Mapping) (rule : Rule) (p : RulePlace) (r s ii made : ℕ) (sharing : Sharing) (lists : List (List Stop)) (stops : List Stop) → IsFilled M.ii (positions A K M) made lists →
    p ≡ at.Resource r s → ii ≡ M.ii → sharing ≡ sharing_of rule → stops ≡ get_or lists (bucket_of (length lists) made r s) [] →
    resource_text A K ii (map position_of stops) sharing r s ≡ place_text A K M rule p
place_there A K M rule p r s ii made sharing lists stops f is i sh st =
    let b = bucket_of (length lists) made r s in
    let c = bucket_of (length lists) M.ii r s in
    let same : b ≡ c = ap (λ z. bucket_of (length lists) z r s) f.interval in
    let held : map position_of stops ≡ in_bucket (length lists) M.ii c (positions A K M) =
    ap (map position_of) st ∙ f.has.each b (below (length lists) made r s f.some) ∙ ap (λ z. in_bucket (length lists) M.ii z (positions A K M)) same in
    ap (λ z. resource_text A K z (map position_of stops) sharing r s) i
    ∙ ap (λ z. resource_text A K M.ii z sharing r s) held
    ∙ text_there (length lists) M.ii r s A K (positions A K M) sharing
    ∙ ap (λ z. resource_text A K M.ii (positions A K M) z r s) sh
    ∙ ap (λ z. place_text A K M rule z) (sym is)
