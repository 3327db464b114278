-- An assignment to an element of an array.
use Rattle.std.proofs.Common.{◌≡◌, ℕ, ◌<◌, true, List, [], ◌++◌, length, map, Option, Some, None, refl, sym, ap, ◌∙◌, append-nil, subst}
use Rattle.cg_c_syntax.specs.declared.expression.Binary.{Binary}
use Rattle.cg_c_syntax.specs.declared.statement.Signedness.{Signedness}
use Rattle.cg_c_check.specs.declared.program.Array.{Array}
use Rattle.cg_c_check.specs.Rules.{reading_of}
use Rattle.cg_c_check.specs.Program.{Expr, Exprs, Assign, TheElement, signedness_of}
use Rattle.cg_c_values.specs.declared.value.Value.{Value}
use Rattle.cg_c_values.specs.Values.{Words}
use Rattle.cg_c_meaning.specs.Meaning.{State, ◌>>=◌, address_in, array_at, changed, defined, give, loaded, stmt, stored, value, values}
use Rattle.cg_c_meaning.specs.Typed.{AreApart, IsTypedExpr, IsTypedExprs, inputs, inputs_of}
use Rattle.cg_c_turn.specs.Draft.{Draft, Effect}
use Rattle.cg_c_turn.specs.Leads.{IsInside}
use Rattle.cg_c_turn.specs.Pieces.{Addresses, AreTranslated, Joins, Leaves, Loads}
use Rattle.cg_c_turn.specs.Stands.{Any, Agrees, IsFormed, Performs, TheWord, Translates}
use Rattle.cg_c_turn.specs.Stores.{Changes, Stores}
use Rattle.cg_c_turn.specs.Translated.{IsTranslated}
use Rattle.cg_c_turn.proofs.Composing.{takes_value, under_word}
use Rattle.cg_c_turn.proofs.Doing.{given_more}
use Rattle.cg_c_turn.proofs.Elements.{addresses_yield, takes_defined, takes_values}
use Rattle.cg_c_turn.proofs.Growing.{apart_second, leaves_all, steps_refl, steps_then, steps_with}
use Rattle.cg_c_turn.proofs.Leaves.{result_of}
use Rattle.cg_c_turn.proofs.Yielding.{TakesOnly, steps_of, yields_pure, yields_then, yields_weaker}
use Rattle.cg_c_turn.proofs.AssignAfter.{performs_after}
use Rattle.cg_c_turn.proofs.AssignWord.{joins_words, kept_is, more_values, operated_is}
use Rattle.cg_c_turn.proofs.Sent.{sends_nothing, sends_then}

-- ---- the word that is stored

abbrev state_in : State → Option (ℕ × State) → State
state_in s None = s
state_in s (Some r) = r.1

takes_loaded : (at : ℕ) → TakesOnly (λ c. loaded at) []
takes_loaded at = record { takes = λ c s t w goes. let same : s ≡ t = ap (state_in s) goes in subst (λ (z : State). Leaves s z []) same (leaves_all s []) }

-- without an operator it is that of the value
pub changes_none : (d : Draft) (array address new : ℕ) (o : Option Binary) (s t : Signedness) → IsFormed d → new < length d.values → o ≡ None → Changes d d [] array address (changed o s t) new new
changes_none d array address new o s t formed within none =
    record {
      steps = steps_refl d formed;
      within = within;
      yields = λ at. yields_pure d d (λ E. (E address ≡ at) × IsInside d.arrays array at) (λ c. loaded at) [] (λ E old. E new ≡ changed o s t old (E new)) formed (steps_refl d formed)
          (λ x E m c before after old runs sound holding h matches ready goes. kept_is o s t old (E new) none);
    }

-- with an operator it is what the operator makes of the old word
pub changes_some : (a b : Draft) (vs : List Value) (fs : List Effect) (array address new old v : ℕ) (o : Option Binary) (op : Binary) (s t reading : Signedness) → Loads a b fs array address old → o ≡ Some op → reading ≡ reading_of op s t → Joins b.values vs op reading old new TheWord v
    → Changes a (more_values b vs) (fs ++ []) array address (changed o s t) new v
changes_some a b vs fs array address new old v o op s t reading l is read j =
    let q = steps_with b vs l.steps.formed j.kept in
    record {
      steps = steps_then a b (more_values b vs) fs [] l.steps q;
      within = j.within;
      yields = λ at.
          let H = λ (E : Words). (E address ≡ at) × IsInside a.arrays array at in
          yields_weaker a (more_values b vs) (fs ++ []) H H (λ c. loaded at >>= (λ w. give w)) (λ c. loaded at) [] [] (λ E w. E v ≡ changed o s t w (E new)) (λ E w. E v ≡ changed o s t w (E new))
          (λ x E fits h. h) (λ x E c u z w fits h goes. goes) (λ x u ready. ready) (λ x E w fits h. h)
          (yields_then a b (more_values b vs) fs [] H (λ c. loaded at) [] (λ E w. E old ≡ w) (λ w c. give w) [] (λ E w. E v ≡ changed o s t w (E new)) 0
          l.steps q (takes_loaded at) tt (l.yields at)
          (λ w. yields_pure b (more_values b vs) (λ E. H E × (E old ≡ w)) (λ c. give w) [] (λ E u. E v ≡ changed o s t u (E new)) l.steps.formed q
          (λ x E m c u z r runs sound holding h matches ready goes.
          joins_words b.values vs op reading old new v j x E runs.fits
          ∙ operated_is o op s t reading (E old) (E new) is read
          ∙ ap (λ y. changed o s t y (E new)) (h.1 ∙ ap result_of goes))));
    }

-- ---- the whole

abbrev IsAt : Draft → ℕ → ℕ → List ℕ → List ℕ → ℕ → Words → Type 0
IsAt b array address vs ws at E = (Unit {0} × (map E vs ≡ ws)) × ((E address ≡ at) × IsInside b.arrays array at)

store_after : (b n k l : Draft) (gs hs : List Effect) (array address new word at z : ℕ) (vs ws : List ℕ) (f : (old new : ℕ) → ℕ) → n.arrays ≡ b.arrays → Changes n k gs array address f new word → Stores k l hs array address word
    → Performs n l (gs ++ hs) (λ E. IsAt b array address vs ws at E × Agrees TheWord (E new) z) (λ c. loaded at >>= (λ old. stored at (f old z))) []
store_after b n k l gs hs array address new word at z vs ws f same ch st =
    let H = λ (E : Words). IsAt b array address vs ws at E × Agrees TheWord (E new) z in
    let there = λ (E : Words) (h : H E). subst (λ (y : List Array). IsInside y array at) (sym same) h.0.1.1 in
    performs_after n k l gs hs H (λ c. loaded at) [] (λ E old. E word ≡ f old (E new)) (λ old c. stored at (f old z)) [] 0 ch.steps (takes_loaded at) tt
    (yields_weaker n k gs (λ E. (E address ≡ at) × IsInside n.arrays array at) H (λ c. loaded at) (λ c. loaded at) [] [] (λ E old. E word ≡ f old (E new)) (λ E old. E word ≡ f old (E new))
    (λ x E fits h. (h.0.1.0, there E h)) (λ x E c u v w fits h goes. goes) (λ x u ready. ready) (λ x E w fits h. h) (ch.yields at))
    (λ old. given_more (λ E. (E address ≡ at) × IsInside k.arrays array at × (E word ≡ f old z)) (λ E. H E × (E word ≡ f old (E new)))
    (λ E h. (h.0.0.1.0, subst (λ (y : List Array). IsInside y array at) (sym ch.steps.grows.arrays) (there E h.0), h.1 ∙ ap (λ y. f old y) h.0.1))
    (st.performs at (f old z)))

pub element_assigned : (a b d n k l : Draft) (es fs gs hs : List Effect) (array place address new word : ℕ) (vs : List ℕ) (is : Exprs) (e : Expr) (o : Option Binary) (s t : Signedness) → IsTypedExprs a.arrays true is → IsTypedExpr a.arrays true e → AreApart (inputs_of is ++ inputs e) → t ≡ signedness_of e
    → AreTranslated a b es is vs → Addresses b d array vs address → Translates d n fs e TheWord new → Changes n k gs array address (changed o s t) new word → Stores k l hs array address word
    → IsTranslated a l (λ c. stmt c (Assign (TheElement array place s is) o e)) (inputs_of is ++ inputs e) []
unfolding stmt
element_assigned a b d n k l es fs gs hs array place address new word vs is e o s t typed_is typed apart read tr ad va ch st =
    let last = append-nil (inputs e) in
    let apart' = subst (λ (q : List ℕ). AreApart (inputs_of is ++ q)) (sym last) apart in
    let H = λ (ws : List ℕ) (E : Words). Unit {0} × (map E vs ≡ ws) in
    record {
      added = es ++ ([] ++ (fs ++ (gs ++ hs)));
      performs = subst (λ (q : List ℕ). Performs a l (es ++ ([] ++ (fs ++ (gs ++ hs)))) Any (λ c. stmt c (Assign (TheElement array place s is) o e)) (inputs_of is ++ q)) last
          (subst (λ (r : Signedness). Performs a l (es ++ ([] ++ (fs ++ (gs ++ hs)))) Any
          (λ c. values c is >>= (λ ws. defined (address_in (array_at c array) ws) >>= (λ at. value c e >>= (λ z. loaded at >>= (λ old. stored at (changed o s r old z)))))) (inputs_of is ++ (inputs e ++ []))) read
          (performs_after a b l es ([] ++ (fs ++ (gs ++ hs))) Any (λ c. values c is) (inputs_of is) (λ E ws. map E vs ≡ ws)
          (λ ws c. defined (address_in (array_at c array) ws) >>= (λ at. value c e >>= (λ z. loaded at >>= (λ old. stored at (changed o s t old z))))) (inputs e ++ []) []
          tr.steps (takes_values a.arrays true is typed_is) apart' tr.yields
          (λ ws. performs_after b d l [] (fs ++ (gs ++ hs)) (H ws) (λ c. defined (address_in (array_at c array) ws)) [] (λ E at. (E address ≡ at) × IsInside b.arrays array at)
          (λ at c. value c e >>= (λ z. loaded at >>= (λ old. stored at (changed o s t old z)))) (inputs e ++ []) 0
          ad.steps (takes_defined (λ c. address_in (array_at c array) ws)) (apart_value apart') (addresses_yield b d array vs address ws tr.steps.formed ad)
          (λ at. performs_after d n l fs (gs ++ hs) (IsAt b array address vs ws at) (λ c. value c e) (inputs e) (λ E z. Agrees TheWord (E new) z) (λ z c. loaded at >>= (λ old. stored at (changed o s t old z))) [] 0
          (steps_of d n fs e TheWord new va) (takes_value a.arrays true e typed) (apart_value apart') (under_word d n fs e TheWord new (IsAt b array address vs ws at) va)
          (λ z. store_after b n k l gs hs array address new word at z vs ws (changed o s t) (va.grows.arrays ∙ ad.steps.grows.arrays) ch st)))));
      initial = st.initial ∙ ch.steps.initial ∙ va.initial ∙ ad.steps.initial ∙ tr.steps.initial;
      sends = sends_then a b l [] [] (sends_nothing a b es tr.steps.grows.effects tr.steps.silent)
          (sends_then b d l [] [] (sends_nothing b d [] ad.steps.grows.effects refl)
          (sends_then d n l [] [] (sends_nothing d n fs va.grows.effects va.silent)
          (sends_then n k l [] [] (sends_nothing n k gs ch.steps.grows.effects ch.steps.silent)
          (sends_nothing k l hs (st.performs 0 0).grows.effects st.silent))));
    }
  where
    apart_value : AreApart (inputs_of is ++ (inputs e ++ [])) → AreApart (inputs e ++ [])
    apart_value h = apart_second (inputs_of is) (inputs e ++ []) h
