-- Tokens that are read do not fail, and fail in one way.
use Rattle.std.proofs.Common.{◌≡◌, ℕ, List, [], ◌∷◌, ◌++◌, Option, Some, None, refl, sym, ◌∙◌, ap, ap₂, subst}
use Rattle.cg_c_syntax.specs.Reading as reading
use Rattle.cg_c_syntax.specs.Reading.{Values, Line, Step, Takes, Begins, Stops, first, Reads, ReadsAll, Fails, FailsAll}
use Rattle.cg_c_syntax.proofs.One.{tail, same_first, seamed, after, carried, taken, begun, one}

module _ {S T : Type 0} (V : S → Type 0) (step : (s : S) → T → Step V s) (barred : S → T → Option ℕ) where
  failed : {s : S} (line line' : Line V s) (a : List T) (t : T) (q : Option ℕ) → line ≡ line' → FailsAll V step barred line'.symbols a t q → FailsAll V step barred line.symbols a t q
  failed line line' a t q e h = subst (λ (l : Line V _). FailsAll V step barred l.symbols a t q) (sym e) h

  mutual
    -- what fails is not read
    pub never : {s : S} {a : List T} {t : T} {q : Option ℕ} → Fails V step barred s a t q → (r a' : List T) (t' : T) (v' : V s) (r' : List T) → Reads V step barred s a' t' v' → a ++ t ∷ r ≡ a' ++ t' ∷ r' → ⊥
    never {s = s} {t = t} (reading.bars {place = place} b) r (u' ∷ a') t' v' r' (reading.takes line' vs' free' e' h') same =
        let token : t ≡ u' = same_first V step barred [] t r (u' ∷ a') t' r' same in
        let other : Some place ≡ None = sym b ∙ ap (barred s) token ∙ free' in cc
    never {s = s} {t = t} (reading.bars {place = place} b) r a' t' v' r' (reading.begins line' vs' free' e' h') same =
        let token : t ≡ first a' t' = same_first V step barred [] t r a' t' r' same in
        let other : Some place ≡ None = sym b ∙ ap (barred s) token ∙ free' in cc
    never {s = s} {t = t} (reading.stops free e) r (u' ∷ a') t' v' r' (reading.takes line' vs' free' e' h') same =
        let token : t ≡ u' = same_first V step barred [] t r (u' ∷ a') t' r' same in
        let other : Stops ≡ Takes line' = sym e ∙ ap (step s) token ∙ e' in cc
    never {s = s} {t = t} (reading.stops free e) r a' t' v' r' (reading.begins line' vs' free' e' h') same =
        let token : t ≡ first a' t' = same_first V step barred [] t r a' t' r' same in
        let other : Stops ≡ Begins line' = sym e ∙ ap (step s) token ∙ e' in cc
    never {s = s} {a = u ∷ a} {t = t} (reading.takes line free e h) r (u' ∷ a') t' v' r' (reading.takes line' vs' free' e' h') same =
        let token : u ≡ u' = cc in
        let c = carried V step barred line line' a' t' (taken V step barred (step s u) line line' e (ap (step s) token ∙ e')) vs' h' in
        never_all h r a' t' c.0 r' c.1 (cc)
    never {s = s} {a = u ∷ a} {t = t} (reading.takes line free e h) r a' t' v' r' (reading.begins line' vs' free' e' h') same =
        let token : u ≡ first a' t' = same_first V step barred (u ∷ a) t r a' t' r' same in
        let other : Takes line ≡ Begins line' = sym e ∙ ap (step s) token ∙ e' in cc
    never {s = s} {a = a} {t = t} (reading.begins line free e h) r (u' ∷ a') t' v' r' (reading.takes line' vs' free' e' h') same =
        let token : first a t ≡ u' = same_first V step barred a t r (u' ∷ a') t' r' same in
        let other : Begins line ≡ Takes line' = sym e ∙ ap (step s) token ∙ e' in cc
    never {s = s} {a = a} {t = t} (reading.begins line free e h) r a' t' v' r' (reading.begins line' vs' free' e' h') same =
        let token : first a t ≡ first a' t' = same_first V step barred a t r a' t' r' same in
        let c = carried V step barred line line' a' t' (begun V step barred (step s (first a t)) line line' e (ap (step s) token ∙ e')) vs' h' in
        never_all h r a' t' c.0 r' c.1 same

    pub never_all : {ss : List S} {w : List T} {t : T} {q : Option ℕ} → FailsAll V step barred ss w t q → (r w' : List T) (t' : T) (vs' : Values V ss) (r' : List T) → ReadsAll V step barred ss w' t' vs' → w ++ t ∷ r ≡ w' ++ t' ∷ r' → ⊥
    never_all {w = w} {t = t} (reading.here h) r w' t' vs' r' (reading.next a' b' e' h' hs') same =
        never h r a' (first b' t') _ (tail V step barred b' t' r') h' (same ∙ seamed V step barred a' b' t' r' w' e')
    never_all {w = w} {t = t} (reading.later a b v e h hs) r w' t' vs' r' (reading.next a' b' e' h' hs') same =
        let q = one V step barred h (tail V step barred b t r) a' (first b' t') _ (tail V step barred b' t' r') h' (sym (seamed V step barred a b t r w e) ∙ same ∙ seamed V step barred a' b' t' r' w' e') in
        never_all hs r b' t' _ r' hs' (after V step barred a b t r w a' b' t' r' w' e e' q.0 same)

  mutual
    -- what fails, fails at one token, and in one way
    pub alike : {s : S} {a : List T} {t : T} {q : Option ℕ} → Fails V step barred s a t q → (r a' : List T) (t' : T) (q' : Option ℕ) (r' : List T) → Fails V step barred s a' t' q' → a ++ t ∷ r ≡ a' ++ t' ∷ r' → (a ≡ a') × (q ≡ q')
    alike {s = s} {t = t} (reading.bars {place = place} b) r _ t' _ r' (reading.bars b') same =
        let token : t ≡ t' = same_first V step barred [] t r [] t' r' same in
        (refl, sym b ∙ ap (barred s) token ∙ b')
    alike {s = s} {t = t} (reading.bars {place = place} b) r _ t' _ r' (reading.stops free' e') same =
        let token : t ≡ t' = same_first V step barred [] t r [] t' r' same in
        let other : Some place ≡ None = sym b ∙ ap (barred s) token ∙ free' in cc
    alike {s = s} {t = t} (reading.bars {place = place} b) r (u' ∷ a') t' q' r' (reading.takes line' free' e' h') same =
        let token : t ≡ u' = same_first V step barred [] t r (u' ∷ a') t' r' same in
        let other : Some place ≡ None = sym b ∙ ap (barred s) token ∙ free' in cc
    alike {s = s} {t = t} (reading.bars {place = place} b) r a' t' q' r' (reading.begins line' free' e' h') same =
        let token : t ≡ first a' t' = same_first V step barred [] t r a' t' r' same in
        let other : Some place ≡ None = sym b ∙ ap (barred s) token ∙ free' in cc
    alike {s = s} {t = t} (reading.stops free e) r _ t' _ r' (reading.bars {place = place} b') same =
        let token : t ≡ t' = same_first V step barred [] t r [] t' r' same in
        let other : None ≡ Some place = sym free ∙ ap (barred s) token ∙ b' in cc
    alike {s = s} {t = t} (reading.stops free e) r _ t' _ r' (reading.stops free' e') same = (refl, refl)
    alike {s = s} {t = t} (reading.stops free e) r (u' ∷ a') t' q' r' (reading.takes line' free' e' h') same =
        let token : t ≡ u' = same_first V step barred [] t r (u' ∷ a') t' r' same in
        let other : Stops ≡ Takes line' = sym e ∙ ap (step s) token ∙ e' in cc
    alike {s = s} {t = t} (reading.stops free e) r a' t' q' r' (reading.begins line' free' e' h') same =
        let token : t ≡ first a' t' = same_first V step barred [] t r a' t' r' same in
        let other : Stops ≡ Begins line' = sym e ∙ ap (step s) token ∙ e' in cc
    alike {s = s} {a = u ∷ a} {t = t} (reading.takes line free e h) r _ t' _ r' (reading.bars {place = place} b') same =
        let token : u ≡ t' = same_first V step barred (u ∷ a) t r [] t' r' same in
        let other : None ≡ Some place = sym free ∙ ap (barred s) token ∙ b' in cc
    alike {s = s} {a = u ∷ a} {t = t} (reading.takes line free e h) r _ t' _ r' (reading.stops free' e') same =
        let token : u ≡ t' = same_first V step barred (u ∷ a) t r [] t' r' same in
        let other : Takes line ≡ Stops = sym e ∙ ap (step s) token ∙ e' in cc
    alike {s = s} {a = u ∷ a} {t = t} {q = q} (reading.takes line free e h) r (u' ∷ a') t' q' r' (reading.takes line' free' e' h') same =
        let token : u ≡ u' = cc in
        let lines = taken V step barred (step s u) line line' e (ap (step s) token ∙ e') in
        let w = alike_all h r a' t' q' r' (failed line line' a' t' q' lines h') (cc) in
        (ap₂ (λ (x : T) (y : List T). x ∷ y) token w.0, w.1)
    alike {s = s} {a = u ∷ a} {t = t} (reading.takes line free e h) r a' t' q' r' (reading.begins line' free' e' h') same =
        let token : u ≡ first a' t' = same_first V step barred (u ∷ a) t r a' t' r' same in
        let other : Takes line ≡ Begins line' = sym e ∙ ap (step s) token ∙ e' in cc
    alike {s = s} {a = a} {t = t} (reading.begins line free e h) r _ t' _ r' (reading.bars {place = place} b') same =
        let token : first a t ≡ t' = same_first V step barred a t r [] t' r' same in
        let other : None ≡ Some place = sym free ∙ ap (barred s) token ∙ b' in cc
    alike {s = s} {a = a} {t = t} (reading.begins line free e h) r _ t' _ r' (reading.stops free' e') same =
        let token : first a t ≡ t' = same_first V step barred a t r [] t' r' same in
        let other : Begins line ≡ Stops = sym e ∙ ap (step s) token ∙ e' in cc
    alike {s = s} {a = a} {t = t} (reading.begins line free e h) r (u' ∷ a') t' q' r' (reading.takes line' free' e' h') same =
        let token : first a t ≡ u' = same_first V step barred a t r (u' ∷ a') t' r' same in
        let other : Begins line ≡ Takes line' = sym e ∙ ap (step s) token ∙ e' in cc
    alike {s = s} {a = a} {t = t} (reading.begins line free e h) r a' t' q' r' (reading.begins line' free' e' h') same =
        let token : first a t ≡ first a' t' = same_first V step barred a t r a' t' r' same in
        let lines = begun V step barred (step s (first a t)) line line' e (ap (step s) token ∙ e') in
        alike_all h r a' t' q' r' (failed line line' a' t' q' lines h') same

    pub alike_all : {ss : List S} {w : List T} {t : T} {q : Option ℕ} → FailsAll V step barred ss w t q → (r w' : List T) (t' : T) (q' : Option ℕ) (r' : List T) → FailsAll V step barred ss w' t' q' → w ++ t ∷ r ≡ w' ++ t' ∷ r' → (w ≡ w') × (q ≡ q')
    alike_all {w = w} {t = t} (reading.here h) r w' t' q' r' (reading.here h') same = alike h r w' t' q' r' h' same
    alike_all {w = w} {t = t} (reading.here h) r w' t' q' r' (reading.later a' b' v' e' h' hs') same =
        absurd (never h r a' (first b' t') v' (tail V step barred b' t' r') h' (same ∙ seamed V step barred a' b' t' r' w' e'))
    alike_all {w = w} {t = t} (reading.later a b v e h hs) r w' t' q' r' (reading.here h') same =
        absurd (never h' r' a (first b t) v (tail V step barred b t r) h (sym same ∙ seamed V step barred a b t r w e))
    alike_all {w = w} {t = t} (reading.later a b v e h hs) r w' t' q' r' (reading.later a' b' v' e' h' hs') same =
        let p = one V step barred h (tail V step barred b t r) a' (first b' t') v' (tail V step barred b' t' r') h' (sym (seamed V step barred a b t r w e) ∙ same ∙ seamed V step barred a' b' t' r' w' e') in
        let w'' = alike_all hs r b' t' q' r' hs' (after V step barred a b t r w a' b' t' r' w' e e' p.0 same) in
        (e ∙ ap₂ (λ (x y : List T). x ++ y) p.0 w''.0 ∙ sym e', w''.1)
