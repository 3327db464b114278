-- What fails goes on otherwise: tokens before a failure are the first of some that are read.
use Rattle.std.proofs.Common.{◌≡◌, ℕ, List, [], ◌∷◌, ◌++◌, Bool, true, false, Option, refl, sym, ◌∙◌, ap, subst, append_assoc, append-nil}
use Rattle.std.specs.Prelude.{if◌then◌else◌}
use Rattle.cg_c_syntax.specs.declared.token.Kind.TheVariants.{TextEnd}
use Rattle.cg_c_syntax.specs.Tokens.{Token, empty}
use Rattle.cg_c_syntax.specs.Symbols.{Symbol, File, TextEnds, Value}
use Rattle.cg_c_syntax.specs.Grammar.{step, barred, begins, is_kind}
use Rattle.cg_c_syntax.specs.Source.{GoesOn, SomeGoesOn}
use Rattle.cg_c_syntax.specs.Reading as reading
use Rattle.cg_c_syntax.specs.Reading.{Values, Line, Step, Takes, Begins, Stops, first, Fails, FailsAll}
use Rattle.cg_c_syntax.proofs.Fillers.{filler, fillers, calm, fit, ready, is_none, ready_all, good}
use Rattle.cg_c_syntax.proofs.Freed.{Read, ReadAll, freed, or_true, good_taken, ready_taken, good_begun, calm_begun}
use Rattle.cg_c_syntax.proofs.Calm.{again, good_first, good_rest}
use Rattle.cg_c_syntax.proofs.Completed.{extended}
use Rattle.cg_c_syntax.proofs.Filled.{filled, filled_all}

-- with others after them, the tokens are read as the symbol before each token that lets it end
abbrev pub Goes : Symbol → List Token → Type 0
Goes s a = (more : List Token) × ((t : Token) → ready s t ≡ true → (v : Value s) × Read s (a ++ more) t v)

abbrev pub GoesAll : List Symbol → List Token → Type 0
GoesAll ss w = (more : List Token) × ((t : Token) → ready_all ss t ≡ true → (vs : Values Value ss) × ReadAll ss (w ++ more) t vs)

moved : (ss : List Symbol) (w w' : List Token) (t : Token) → w ≡ w' → (vs : Values Value ss) × ReadAll ss w t vs → (vs : Values Value ss) × ReadAll ss w' t vs
moved ss w w' t e h = subst (λ (x : List Token). (vs : Values Value ss) × ReadAll ss x t vs) e h

mutual
  -- a failure drops no token: the symbol is read from nothing, or by its line
  pub goes : {s : Symbol} {a : List Token} {t : Token} {q : Option ℕ} → Fails Value step barred s a t q → fit s ≡ true → Goes s a
  goes {s = s} (reading.bars b) f = (filler s, filled s f)
  goes {s = s} (reading.stops free e) f = (filler s, filled s f)
  goes {s = s} {a = u ∷ a} (reading.takes line free e h) f =
      let q = goes_all h (good_taken s u line f e) in
      (q.0, λ t r. let p = q.1 t (ready_taken s u t line f e r) in (line.value p.0, reading.takes line p.0 refl e p.1))
  goes {s = s} {a = []} (reading.begins line free e h) f = (filler s, filled s f)
  goes {s = s} {a = u ∷ a} (reading.begins line free e h) f =
      let q = goes_all h (good_begun s u line f e) in
      (q.0, λ t r. let p = q.1 t (or_true (is_none line.symbols) (calm t) (calm_begun s u t line f e r)) in (line.value p.0, reading.begins line p.0 refl e p.1))

  pub goes_all : {ss : List Symbol} {w : List Token} {t : Token} {q : Option ℕ} → FailsAll Value step barred ss w t q → good ss ≡ true → GoesAll ss w
  goes_all {ss = s ∷ ss} {w = w} (reading.here h) g =
      let p = goes h (good_first s ss g) in
      (p.0 ++ fillers ss, λ t r. moved (s ∷ ss) ((w ++ p.0) ++ fillers ss) (w ++ (p.0 ++ fillers ss)) t (append_assoc w p.0 (fillers ss)) (extended s ss (w ++ p.0) g p.1 (filled_all ss (good_rest s ss g)) t r))
  goes_all {ss = s ∷ ss} {w = w} (reading.later a [] v e h hs) g = (
    fillers ss,
    λ t r. moved (s ∷ ss) (a ++ fillers ss) (w ++ fillers ss) t (ap (λ (x : List Token). x ++ fillers ss) (sym (e ∙ append-nil a)))
        (extended s ss a g (λ t' r'. again (freed h) t' (good_first s ss g) r') (filled_all ss (good_rest s ss g)) t r),
  )
  goes_all {ss = s ∷ ss} {w = w} (reading.later a (u ∷ b) v e h hs) g =
      let q = goes_all hs (good_rest s ss g) in (
        q.0,
        λ t r. let p = q.1 t (or_true (is_none ss) (calm t) r) in
            ((v, p.0), reading.next a ((u ∷ b) ++ q.0) (ap (λ (x : List Token). x ++ q.0) e ∙ append_assoc a (u ∷ b) q.0) (freed h) p.1),
      )

-- ---- the whole text

some_symbol : {ss : List Symbol} {w : List Token} {t : Token} {q : Option ℕ} → FailsAll Value step barred ss w t q → is_none ss ≡ false
some_symbol (reading.here h) = refl
some_symbol (reading.later a b v e h hs) = refl

end_step : Bool → Step Value TextEnds
end_step is_end = if is_end then begins [] (λ v. tt) else Stops

end_takes : (b : Bool) (line : Line Value TextEnds) → end_step b ≡ Takes line → ⊥
unfolding end_step
end_takes true line e = let bad : begins [] (λ v. tt) ≡ Takes line = e in cc
end_takes false line e = let bad : Stops ≡ Takes line = e in cc

end_begins : (b : Bool) (line : Line Value TextEnds) → end_step b ≡ Begins line → is_none line.symbols ≡ true
unfolding end_step
end_begins true line e = let same : record { symbols = []; value = λ v. tt } ≡ line = cc in ap (λ (l : Line Value TextEnds). is_none l.symbols) (sym same)
end_begins false line e = let bad : Stops ≡ Begins line = e in cc

-- the end of the text fails before any token
nothing_taken : {b : List Token} {t : Token} {q : Option ℕ} → Fails Value step barred TextEnds b t q → b ≡ []
unfolding end_step
nothing_taken (reading.bars p) = refl
nothing_taken (reading.stops free e) = refl
nothing_taken {b = u ∷ b} (reading.takes line free e h) = absurd (end_takes (is_kind TextEnd u.kind) line e)
nothing_taken {b = b} {t = t} (reading.begins line free e h) =
    let symbols = end_begins (is_kind TextEnd (first b t).kind) line e in
    let bad : true ≡ false = sym symbols ∙ some_symbol h in cc

at_end : {b : List Token} {t : Token} {q : Option ℕ} → FailsAll Value step barred (TextEnds ∷ []) b t q → b ≡ []
at_end (reading.here h) = nothing_taken h
at_end (reading.later a b v e h hs) = let bad : true ≡ false = some_symbol hs in cc

end : Token
end = empty TextEnd 0

-- a file, and the end of the text after it
ended : (front more w : List Token) → w ≡ front ++ more → ((t : Token) → ready File t ≡ true → (v : Value File) × Read File w t v) → GoesOn front
unfolding end
ended front more w e h =
    let p = h end refl in
    let ends : ReadAll (TextEnds ∷ []) [] end (tt, tt) = reading.next [] [] refl (reading.begins (record { symbols = []; value = λ v. tt }) tt refl refl reading.none) reading.none in
    record { more = more; end = end; source = p.0; reads = reading.next w [] (sym e ∙ sym (append-nil w)) p.1 ends }

pub some_goes_on : SomeGoesOn
some_goes_on front t q (reading.here h) = let p = goes h refl in ended front p.0 (front ++ p.0) refl p.1
some_goes_on front t q (reading.later a [] v e h hs) = ended front [] a (sym (append-nil a) ∙ sym e ∙ sym (append-nil front)) (λ t' r. again (freed h) t' refl r)
some_goes_on front t q (reading.later a (u ∷ b) v e h hs) = let bad : u ∷ b ≡ [] = at_end hs in cc
