-- Entries of some of the items of a list, one after another.
use Rattle.std.proofs.Common.{◌≡◌, ℕ, ◌+◌, ◌<◌, ◌≤◌, ◌⊎◌, inl, inr, List, [], ◌∷◌, ◌++◌, length, map, take, get_or, ap, sym, ◌∙◌, subst, arith, ⊎_elim, length-append}
use Rattle.std.specs.Prelude.{Contains}
use Rattle.std.proofs.lemmas.Bool.{cases_lt}
use Rattle.std.proofs.lemmas.List.{get_or_append_left, get_or-map, get_or_push, length-map, take_all, take_more}
use Rattle.std.proofs.lemmas.List.Elements.{Contains-push_cases}
use Rattle.cg_model.proofs.Lookups.{Contains-nil}

-- each entry is that of an item, and each item that is wanted and done has one
pub record AreEntries {C E : Type 0} (R : C → E → Type 0) (wanted done : C → Type 0) (d : E) (es : List E) : Type 0 where
  pub each : (j : ℕ) → j < length es → (c : C) × R c (get_or es j d)
  pub all : (c : C) → done c → wanted c → (j : ℕ) × (j < length es) × R c (get_or es j d)

pub no_entries : {C E : Type 0} (R : C → E → Type 0) (wanted done : C → Type 0) (d : E) → ((c : C) → done c → ⊥) → AreEntries R wanted done d []
no_entries R wanted done d none = record { each = λ j l. absurd (omega arith); all = λ c h w. absurd (none c h) }

-- an item that isn't wanted is done
pub entries_same : {C E : Type 0} (R : C → E → Type 0) (wanted done next : C → Type 0) (d : E) (es : List E) → ((c : C) → next c → wanted c → done c) → AreEntries R wanted done d es → AreEntries R wanted next d es
entries_same R wanted done next d es more h = record { each = h.each; all = λ c n w. h.all c (more c n w) w }

-- entries of another kind
pub entries_kept : {C E : Type 0} (R S : C → E → Type 0) (wanted done : C → Type 0) (d : E) (es : List E) → ((c : C) (e : E) → R c e → S c e) → AreEntries R wanted done d es → AreEntries S wanted done d es
entries_kept R S wanted done d es keeps h = record {
  each = λ j l. let (c, r) = h.each j l in (c, keeps c (get_or es j d) r);
  all = λ c n w. let (j, l, r) = h.all c n w in (j, l, keeps c (get_or es j d) r);
}

pub old_entry : {E : Type 0} (d e : E) (es : List E) (j : ℕ) → j < length es → get_or (es ++ e ∷ []) j d ≡ get_or es j d
old_entry d e es j l = get_or_append_left es (e ∷ []) d j l

pub new_entry : {E : Type 0} (d e : E) (es : List E) (j : ℕ) → j ≡ length es → get_or (es ++ e ∷ []) j d ≡ e
new_entry d e es j is = get_or_push es e d j (sym is)

-- what holds of the old entries and of the new one holds of each
pub each_entry : {E : Type 0} (P : E → Type 0) (d e : E) (es : List E) → ((j : ℕ) → j < length es → P (get_or es j d)) → P e → (j : ℕ) → j < length (es ++ e ∷ []) → P (get_or (es ++ e ∷ []) j d)
each_entry P d e es old last j l =
    let long : length (es ++ e ∷ []) ≡ length es + 1 = length-append es (e ∷ []) in
    ⊎_elim (λ b. subst P (sym (old_entry d e es j b)) (old j b)) (λ b. subst P (sym (new_entry d e es j (omega arith))) last) (cases_lt j (length es))

-- one item more, with its entry
pub entries_more : {C E : Type 0} (R : C → E → Type 0) (wanted done next : C → Type 0) (d e : E) (es : List E) (c : C) → ((b : C) → next b → done b ⊎ (b ≡ c)) → R c e → AreEntries R wanted done d es → AreEntries R wanted next d (es ++ e ∷ [])
entries_more {C} {E} R wanted done next d e es c more is h =
    let long : length (es ++ e ∷ []) ≡ length es + 1 = length-append es (e ∷ []) in
    record {
      each = each_entry (λ x. (b : C) × R b x) d e es h.each (c, is);
      all = λ b n w.
          ⊎_elim
          (λ old. let (j, l, r) = h.all b old w in (j, omega arith, subst (R b) (sym (old_entry d e es j l)) r))
          (λ same. (length es, omega arith, subst (λ x. R b x) (sym (new_entry d e es (length es) (let r : length es ≡ length es = omega arith in r))) (let Q : C → Type 0 = λ x. R x e in subst Q (sym same) is)))
          (more b n);
    }

-- ---- the first items of a list

pub none_first : {C : Type 0} (xs : List C) (c : C) → Contains (take 0 xs) c → ⊥
none_first xs c h = Contains-nil c h

pub next_first : {C : Type 0} (xs : List C) (i : ℕ) (x : C) → i < length xs → x ≡ get_or xs i x → (c : C) → Contains (take (i + 1) xs) c → Contains (take i xs) c ⊎ (c ≡ x)
next_first {C} xs i x l is c h =
    let P : List C → Type 0 = λ ys. Contains ys c in
    ⊎_elim (λ k. inl k) (λ e. inr (sym e ∙ sym is)) (Contains-push_cases (take i xs) (get_or xs i x) c (subst P (take_more xs i x l) h))

pub all_first : {C : Type 0} (xs : List C) (i : ℕ) → length xs ≤ i → (c : C) → Contains xs c → Contains (take i xs) c
all_first {C} xs i all c h = let P : List C → Type 0 = λ ys. Contains ys c in subst P (sym (take_all i xs all)) h

-- ---- entries of the first items of a list that a function is applied to

pub mapped_next : {B C E : Type 0} (R : C → E → Type 0) (wanted : C → Type 0) (f : B → C) (bs : List B) (i : ℕ) (b : B) (d e : E) (old new : List E) → i < length bs → b ≡ get_or bs i b → R (f b) e → new ≡ old ++ e ∷ []
    → AreEntries R wanted (Contains (take i (map f bs))) d old → AreEntries R wanted (Contains (take (i + 1) (map f bs))) d new
mapped_next {B} {C} {E} R wanted f bs i b d e old new l is r more h =
    let long = length-map bs f in
    let at : f b ≡ get_or (map f bs) i (f b) = ap f is ∙ sym (get_or-map f bs i b (f b) l) in
    let P : List E → Type 0 = λ es. AreEntries R wanted (Contains (take (i + 1) (map f bs))) d es in
    subst P (sym more)
    (entries_more R wanted (Contains (take i (map f bs))) (Contains (take (i + 1) (map f bs))) d e old (f b) (next_first (map f bs) i (f b) (omega (arith, long)) at) r h)

pub mapped_skip : {B C E : Type 0} (R : C → E → Type 0) (wanted : C → Type 0) (f : B → C) (bs : List B) (i : ℕ) (b : B) (d : E) (old new : List E) → i < length bs → b ≡ get_or bs i b → (wanted (f b) → ⊥) → new ≡ old
    → AreEntries R wanted (Contains (take i (map f bs))) d old → AreEntries R wanted (Contains (take (i + 1) (map f bs))) d new
mapped_skip {B} {C} {E} R wanted f bs i b d old new l is other same h =
    let long = length-map bs f in
    let at : f b ≡ get_or (map f bs) i (f b) = ap f is ∙ sym (get_or-map f bs i b (f b) l) in
    let P : List E → Type 0 = λ es. AreEntries R wanted (Contains (take (i + 1) (map f bs))) d es in
    subst P (sym same)
    (entries_same R wanted (Contains (take i (map f bs))) (Contains (take (i + 1) (map f bs))) d old
    (λ c n w. ⊎_elim (λ k. k) (λ e. let Q : C → Type 0 = wanted in absurd (other (subst Q e w))) (next_first (map f bs) i (f b) (omega (arith, long)) at c n)) h)

pub mapped_all : {B C E : Type 0} (R : C → E → Type 0) (wanted : C → Type 0) (f : B → C) (bs : List B) (i : ℕ) (d : E) (es : List E) → length bs ≤ i
    → AreEntries R wanted (Contains (take i (map f bs))) d es → AreEntries R wanted (Contains (map f bs)) d es
mapped_all R wanted f bs i d es all h =
    let long = length-map bs f in
    entries_same R wanted (Contains (take i (map f bs))) (Contains (map f bs)) d es (λ c n w. all_first (map f bs) i (omega (arith, long)) c n) h
