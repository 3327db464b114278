-- What one token decides is decided: tokens are read in one way, or fail in one way.
use Rattle.std.proofs.Common.{◌≡◌, ℕ, List, [], ◌∷◌, ◌++◌, Option, refl, sym, ◌∙◌, ap, ap₂, subst, append_assoc}
use Rattle.std.proofs.lemmas.List.{append_cancel_left}
use Rattle.cg_c_syntax.specs.Reading as reading
use Rattle.cg_c_syntax.specs.Reading.{Values, Line, Step, Takes, Begins, Stops, first, Reads, ReadsAll, Fails, FailsAll}

module _ {S T : Type 0} (V : S → Type 0) (step : (s : S) → T → Step V s) (barred : S → T → Option ℕ) where
  -- what follows the first of the tokens
  pub tail : List T → T → List T → List T
  tail [] t r = r
  tail (u ∷ b) t r = b ++ t ∷ r

  pub parts : (b : List T) (t : T) (r : List T) → b ++ t ∷ r ≡ first b t ∷ tail b t r
  unfolding tail
  parts [] t r = refl
  parts (u ∷ b) t r = refl

  pub same_first : (a : List T) (t : T) (r a' : List T) (t' : T) (r' : List T) → a ++ t ∷ r ≡ a' ++ t' ∷ r' → first a t ≡ first a' t'
  same_first a t r a' t' r' e = let h : first a t ∷ tail a t r ≡ first a' t' ∷ tail a' t' r' = sym (parts a t r) ∙ e ∙ parts a' t' r' in cc

  -- two lists of tokens, each in two parts
  pub seamed : (a b : List T) (t : T) (r w : List T) → w ≡ a ++ b → w ++ t ∷ r ≡ a ++ first b t ∷ tail b t r
  seamed a b t r w e = ap (λ (x : List T). x ++ t ∷ r) e ∙ append_assoc a b (t ∷ r) ∙ ap (λ (x : List T). a ++ x) (parts b t r)

  pub after : (a b : List T) (t : T) (r w a' b' : List T) (t' : T) (r' w' : List T) → w ≡ a ++ b → w' ≡ a' ++ b' → a ≡ a' → w ++ t ∷ r ≡ w' ++ t' ∷ r' → b ++ t ∷ r ≡ b' ++ t' ∷ r'
  after a b t r w a' b' t' r' w' e e' same h =
      append_cancel_left a (b ++ t ∷ r) (b' ++ t' ∷ r')
      (sym (append_assoc a b (t ∷ r)) ∙ ap (λ (x : List T). x ++ t ∷ r) (sym e) ∙ h ∙ ap (λ (x : List T). x ++ t' ∷ r') e' ∙ append_assoc a' b' (t' ∷ r') ∙ ap (λ (x : List T). x ++ (b' ++ t' ∷ r')) (sym same))

  -- what is read by a line is read by an equal one
  pub carried : {s : S} (line line' : Line V s) (a : List T) (t : T) → line ≡ line' → (vs' : Values V line'.symbols) → ReadsAll V step barred line'.symbols a t vs'
      → (vs : Values V line.symbols) × ReadsAll V step barred line.symbols a t vs × (line.value vs ≡ line'.value vs')
  carried {s} line line' a t e =
      subst (λ (l : Line V s). (vs' : Values V l.symbols) → ReadsAll V step barred l.symbols a t vs' → (vs : Values V line.symbols) × ReadsAll V step barred line.symbols a t vs × (line.value vs ≡ l.value vs')) e
      (λ vs' h. (vs', h, refl))

  pub taken : {s : S} (x : Step V s) (line line' : Line V s) → x ≡ Takes line → x ≡ Takes line' → line ≡ line'
  taken x line line' e f = cc

  pub begun : {s : S} (x : Step V s) (line line' : Line V s) → x ≡ Begins line → x ≡ Begins line' → line ≡ line'
  begun x line line' e f = cc

  mutual
    pub one : {s : S} {a : List T} {t : T} {v : V s} → Reads V step barred s a t v → (r a' : List T) (t' : T) (v' : V s) (r' : List T) → Reads V step barred s a' t' v' → a ++ t ∷ r ≡ a' ++ t' ∷ r' → (a ≡ a') × (v ≡ v')
    one {s = s} {a = u ∷ a} {t = t} (reading.takes line vs free e h) r (u' ∷ a') t' v' r' (reading.takes line' vs' free' e' h') same =
        let token : u ≡ u' = cc in
        let lines : line ≡ line' = taken (step s u) line line' e (ap (step s) token ∙ e') in
        let c = carried line line' a' t' lines vs' h' in
        let q = one_all h r a' t' c.0 r' c.1 (cc) in
        (ap₂ (λ (x : T) (y : List T). x ∷ y) token q.0, ap line.value q.1 ∙ c.2)
    one {s = s} {a = u ∷ a} {t = t} (reading.takes line vs free e h) r a' t' v' r' (reading.begins line' vs' free' e' h') same =
        let token : u ≡ first a' t' = same_first (u ∷ a) t r a' t' r' same in
        let other : Takes line ≡ Begins line' = sym e ∙ ap (step s) token ∙ e' in cc
    one {s = s} {a = a} {t = t} (reading.begins line vs free e h) r (u' ∷ a') t' v' r' (reading.takes line' vs' free' e' h') same =
        let token : first a t ≡ u' = same_first a t r (u' ∷ a') t' r' same in
        let other : Begins line ≡ Takes line' = sym e ∙ ap (step s) token ∙ e' in cc
    one {s = s} {a = a} {t = t} (reading.begins line vs free e h) r a' t' v' r' (reading.begins line' vs' free' e' h') same =
        let token : first a t ≡ first a' t' = same_first a t r a' t' r' same in
        let lines : line ≡ line' = begun (step s (first a t)) line line' e (ap (step s) token ∙ e') in
        let c = carried line line' a' t' lines vs' h' in
        let q = one_all h r a' t' c.0 r' c.1 same in
        (q.0, ap line.value q.1 ∙ c.2)

    pub one_all : {ss : List S} {w : List T} {t : T} {vs : Values V ss} → ReadsAll V step barred ss w t vs → (r w' : List T) (t' : T) (vs' : Values V ss) (r' : List T) → ReadsAll V step barred ss w' t' vs' → w ++ t ∷ r ≡ w' ++ t' ∷ r' → (w ≡ w') × (vs ≡ vs')
    one_all reading.none r w' t' vs' r' reading.none same = (refl, refl)
    one_all {w = w} {t = t} (reading.next a b e h hs) r w' t' vs' r' (reading.next a' b' e' h' hs') same =
        let q = one h (tail b t r) a' (first b' t') _ (tail b' t' r') h' (sym (seamed a b t r w e) ∙ same ∙ seamed a' b' t' r' w' e') in
        let qs = one_all hs r b' t' _ r' hs' (after a b t r w a' b' t' r' w' e e' q.0 same) in
        (e ∙ ap₂ (λ (x y : List T). x ++ y) q.0 qs.0 ∙ sym e', ap₂ (λ x y. (x, y)) q.1 qs.1)
