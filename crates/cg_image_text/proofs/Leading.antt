-- Parts of a text that lead from one state of reading to another, wherever they stand and whatever follows.
use Rattle.std.proofs.Common.{◌≡◌, ℕ, ◌+◌, true, false, List, [], ◌∷◌, ◌++◌, length, length-append, append_assoc, Result, Ok, Err, refl, sym, ap, subst, ◌∙◌, arith}
use Rattle.std.specs.List.{list_all}
use Rattle.cg_image_text.specs.Fields.{Field, is_solid, is_remark, remark_length, fields_from}
use Rattle.cg_image_text.specs.Numbers.{and_then}
use Rattle.cg_image_text.specs.Sections.{Reading, read_field, read_fields}
use Rattle.cg_image_text.proofs.Cuts.{field_cut, comment_cut}

-- reading the part and what follows ends as reading what follows from the other state
pub record Leads (r : Reading) (part : List ℕ) (s : Reading) : Type 0 where
  pub on : (text : List ℕ) (place : ℕ) (rest : List ℕ) → read_fields text r (fields_from 0 place (part ++ rest)) ≡ read_fields text s (fields_from 0 (place + length part) rest)

pub nothing : (r : Reading) → Leads r [] r
nothing r = record { on = λ text place rest. ap (λ p. read_fields text r (fields_from 0 p rest)) (omega arith) }

pub chain : {r s t : Reading} {a b : List ℕ} → Leads r a s → Leads s b t → Leads r (a ++ b) t
chain {r} {s} {t} {a} {b} first then = record {
  on = λ text place rest.
      let size : place + length a + length b ≡ place + length (a ++ b) = omega (arith, length-append a b) in
      ap (λ x. read_fields text r (fields_from 0 place x)) (append_assoc a b rest)
      ∙ first.on text place (b ++ rest)
      ∙ then.on text (place + length a) rest
      ∙ ap (λ p. read_fields text t (fields_from 0 p rest)) size;
}

pub arrives : {r s t : Reading} {a : List ℕ} → Leads r a s → s ≡ t → Leads r a t
arrives {r} {s} {t} {a} l e = let P : Reading → Type 0 = λ x. Leads r a x in subst P e l

pub departs : {q r s : Reading} {a : List ℕ} → Leads r a s → q ≡ r → Leads q a s
departs {q} {r} {s} {a} l e = let P : Reading → Type 0 = λ x. Leads x a s in subst P (sym e) l

pub part_is : {r s : Reading} {a b : List ℕ} → Leads r a s → b ≡ a → Leads r b s
part_is {r} {s} {a} {b} l e = let P : List ℕ → Type 0 = λ x. Leads r x s in subst P (sym e) l

-- a field that is read as a step, and the blank behind it
pub field_leads : (r s : Reading) (b : ℕ) (more : List ℕ) (c : ℕ) → is_solid b ≡ true → list_all is_solid more ≡ true → is_solid c ≡ false → ((rest : List ℕ) → remark_length c rest ≡ 0)
    → ((text : List ℕ) (place : ℕ) → read_field text r (record { text = b ∷ more; place = place }) ≡ Ok s) → Leads r ((b ∷ more) ++ c ∷ []) s
field_leads r s b more c solid all hollow plain step = record {
  on = λ text place rest.
      let size : place + length (b ∷ more) + 1 ≡ place + length ((b ∷ more) ++ c ∷ []) = omega (arith, length-append (b ∷ more) (c ∷ [])) in
      ap (λ x. read_fields text r (fields_from 0 place x)) (append_assoc (b ∷ more) (c ∷ []) rest)
      ∙ ap (read_fields text r) (field_cut b more c rest place solid all hollow (plain rest))
      ∙ ap (λ x. and_then x (λ t. read_fields text t (fields_from 0 (place + length (b ∷ more) + 1) rest))) (step text place)
      ∙ ap (λ p. read_fields text s (fields_from 0 p rest)) size;
}

-- a comment up to the end of its line
pub comment_leads : (r : Reading) (more : List ℕ) → list_all is_remark more ≡ true → Leads r ((35 ∷ more) ++ 10 ∷ []) r
comment_leads r more all = record {
  on = λ text place rest.
      let size : place + length (35 ∷ more) + 1 ≡ place + length ((35 ∷ more) ++ 10 ∷ []) = omega (arith, length-append (35 ∷ more) (10 ∷ [])) in
      ap (λ x. read_fields text r (fields_from 0 place x)) (append_assoc (35 ∷ more) (10 ∷ []) rest)
      ∙ ap (read_fields text r) (comment_cut more rest place all)
      ∙ ap (λ p. read_fields text r (fields_from 0 p rest)) size;
}

both_steps : {A B C F : Type 0} (x : Result A F) (f : A → Result B F) (g : B → Result C F) → and_then x (λ a. and_then (f a) g) ≡ and_then (and_then x f) g
both_steps (Ok a) f g = refl
both_steps (Err e) f g = refl

-- two fields with a blank behind each
pub two_lead : (r s : Reading) (b : ℕ) (more : List ℕ) (c d : ℕ) (digits : List ℕ) (e : ℕ) → is_solid b ≡ true → list_all is_solid more ≡ true → is_solid c ≡ false → ((rest : List ℕ) → remark_length c rest ≡ 0)
    → is_solid d ≡ true → list_all is_solid digits ≡ true → is_solid e ≡ false → ((rest : List ℕ) → remark_length e rest ≡ 0)
    → ((text : List ℕ) (place at : ℕ) → and_then (read_field text r (record { text = b ∷ more; place = place })) (λ q. read_field text q (record { text = d ∷ digits; place = at })) ≡ Ok s)
    → Leads r (((b ∷ more) ++ c ∷ []) ++ ((d ∷ digits) ++ e ∷ [])) s
two_lead r s b more c d digits e solid all hollow plain solid_too all_too hollow_too plain_too step = record {
  on = λ text place rest.
      let first = (b ∷ more) ++ c ∷ [] in
      let second = (d ∷ digits) ++ e ∷ [] in
      let at = place + length (b ∷ more) + 1 in
      let end = at + length (d ∷ digits) + 1 in
      let f : Field = record { text = b ∷ more; place = place } in
      let g : Field = record { text = d ∷ digits; place = at } in
      let size : end ≡ place + length (first ++ second) = omega (arith, length-append first second, length-append (b ∷ more) (c ∷ []), length-append (d ∷ digits) (e ∷ [])) in
      ap (λ x. read_fields text r (fields_from 0 place x)) (append_assoc first second rest ∙ append_assoc (b ∷ more) (c ∷ []) (second ++ rest))
      ∙ ap (read_fields text r) (field_cut b more c (second ++ rest) place solid all hollow (plain (second ++ rest)))
      ∙ ap (λ x. read_fields text r (f ∷ fields_from 0 at x)) (append_assoc (d ∷ digits) (e ∷ []) rest)
      ∙ ap (λ (x : List Field). read_fields text r (f ∷ x)) (field_cut d digits e rest at solid_too all_too hollow_too (plain_too rest))
      ∙ both_steps (read_field text r f) (λ q. read_field text q g) (λ t. read_fields text t (fields_from 0 end rest))
      ∙ ap (λ x. and_then x (λ t. read_fields text t (fields_from 0 end rest))) (step text place at)
      ∙ ap (λ p. read_fields text s (fields_from 0 p rest)) size;
}
