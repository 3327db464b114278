-- Lists of links, and a link more.
use Rattle.std.proofs.Common.{◌≡◌, ℕ, ◌<◌, ◌≢◌, ◌⊎◌, List, [], ◌∷◌, ◌++◌, length, sym, ap, ◌∙◌, subst, arith, ⊎_elim, set, length-set}
use Rattle.std.specs.Prelude.{Contains}
use Rattle.std.proofs.lemmas.Bool.{cases_eq}
use Rattle.std.proofs.lemmas.List.{get_or-set_same, get_or-set_other}
use Rattle.std.proofs.lemmas.List.Elements.{Contains-push_cases, Contains-push, Contains-append_left}
use Rattle.cg_distance.specs.declared.links.Link.{Link}
use Rattle.cg_distance.specs.Leaving.{HasLinks, link, leaving}

pub links_same : (m : ℕ) (L L' : ℕ → ℕ → ℕ → Type 0) (lists : List (List Link)) → ((u v d : ℕ) → L u v d → L' u v d) → ((u v d : ℕ) → L' u v d → L u v d) → HasLinks m L lists → HasLinks m L' lists
links_same m L L' lists up down t = record {
  long = t.long;
  sound = λ u v d h. up u v d (t.sound u v d h);
  complete = λ u v d l. t.complete u v d (down u v d l);
}

-- a link from x to y of distance e is added
pub links_added : (m : ℕ) (L L' : ℕ → ℕ → ℕ → Type 0) (lists : List (List Link)) (x y e : ℕ) → x < m → L' x y e →
    ((u v d : ℕ) → L u v d → L' u v d) → ((u v d : ℕ) → L' u v d → L u v d ⊎ ((u ≡ x) × (v ≡ y) × (d ≡ e))) → HasLinks m L lists →
    HasLinks m L' (set lists x (leaving lists x ++ link y e ∷ []))
links_added m L L' lists x y e hx into up down t =
    let within : x < length lists = omega (arith, t.long) in
    let longer = leaving lists x ++ link y e ∷ [] in
    let new = set lists x longer in
    let here : (u : ℕ) → u ≡ x → leaving new u ≡ longer = λ u eu. ap (λ z. leaving new z) eu ∙ get_or-set_same lists x longer [] within in
    let there : (u : ℕ) → u ≢ x → leaving new u ≡ leaving lists u = λ u ne. get_or-set_other lists x u longer [] ne in
    record {
      long = length-set lists x longer ∙ t.long;
      sound = λ u v d h. ⊎_elim
          (λ eu.
          let h' : Contains longer (link v d) = subst (λ (xs : List Link). Contains xs (link v d)) (here u eu) h in
          subst (λ z. L' z v d) (sym eu)
          (⊎_elim (λ k. up x v d (t.sound x v d k))
          (λ (k : link y e ≡ link v d). subst (λ z. L' x v z) (ap (λ (z : Link). z.distance) k) (subst (λ z. L' x z e) (ap (λ (z : Link). z.to) k) into))
          (Contains-push_cases (leaving lists x) (link y e) (link v d) h')))
          (λ ne. up u v d (t.sound u v d (subst (λ (xs : List Link). Contains xs (link v d)) (there u ne) h)))
          (cases_eq u x);
      complete = λ u v d l. ⊎_elim
          (λ k. ⊎_elim
          (λ eu.
          let old : Contains (leaving lists x) (link v d) = subst (λ z. Contains (leaving lists z) (link v d)) eu (t.complete u v d k) in
          subst (λ (xs : List Link). Contains xs (link v d)) (sym (here u eu)) (Contains-append_left (leaving lists x) (link y e ∷ []) (link v d) old))
          (λ ne. subst (λ (xs : List Link). Contains xs (link v d)) (sym (there u ne)) (t.complete u v d k))
          (cases_eq u x))
          (λ k. subst (λ (xs : List Link). Contains xs (link v d)) (sym (here u k.0)) (rw (k.1, k.2) (Contains-push (leaving lists x) (link y e))))
          (down u v d l);
    }
