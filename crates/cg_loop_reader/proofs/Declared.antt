-- What is declared with one use more.
use Rattle.std.proofs.Common.{◌≡◌, ℕ, ◌+◌, ◌<◌, ◌&&◌, Bool, true, false, cond, List, [], ◌∷◌, ◌++◌, length, get_or, take, Option, Some, None, eqb, bytes_eq, refl, sym, ap, ◌∙◌}
use Rattle.std.specs.Option.{option_or}
use Rattle.std.proofs.lemmas.List.{get_or_default}
use Rattle.cg_loop_syntax.specs.declared.uses.Role.{Role}
use Rattle.cg_loop_syntax.specs.Uses.{Use, declared, declares}
use Rattle.cg_loop_reader.specs.declared.numbering.NumberedUse.{NumberedUse}
use Rattle.cg_loop_reader.specs.Numbered.{numbered_use, all_uses}
use Rattle.cg_loop_reader.proofs.Steps.{uses_more, same_number}

option_or-cond : {X : Type 0} (b : Bool) (x : X) (o p : Option X) → cond b (Some x) (option_or o p) ≡ option_or (cond b (Some x) o) p
option_or-cond true x o p = refl
option_or-cond false x o p = refl

declared_more : (us : List Use) (u : Use) (x : List ℕ) → declared (us ++ u ∷ []) x ≡ option_or (declared us x) (cond (declares u.role && bytes_eq u.name x) (Some u.role) None)
declared_more [] u x = refl
declared_more (v ∷ vs) u x =
    ap (cond (declares v.role && bytes_eq v.name x) (Some v.role)) (declared_more vs u x)
    ∙ option_or-cond (declares v.role && bytes_eq v.name x) v.role (declared vs x) _

-- a table of what is declared under each number, with one use more
pub known_more : (us xs : List NumberedUse) (i : ℕ) (d : NumberedUse) (old new : List (Option Role)) → xs ≡ us → i < length us
    → ((name : ℕ) → get_or old name None ≡ declared (all_uses (take i us)) (name ∷ []))
    → ((name : ℕ) → get_or new name None ≡ option_or (get_or old name None) (cond (declares (get_or xs i d).role && eqb (get_or xs i d).name name) (Some (get_or xs i d).role) None))
    → (name : ℕ) → get_or new name None ≡ declared (all_uses (take (i + 1) us)) (name ∷ [])
known_more us xs i d old new same lt before after name =
    let u = get_or us i d in
    after name
    ∙ ap (λ ys. option_or (get_or old name None) (cond (declares (get_or ys i d).role && eqb (get_or ys i d).name name) (Some (get_or ys i d).role) None)) same
    ∙ ap (λ o. option_or o (cond (declares u.role && eqb u.name name) (Some u.role) None)) (before name)
    ∙ ap (λ b. option_or (declared (all_uses (take i us)) (name ∷ [])) (cond (declares u.role && b) (Some u.role) None)) (sym (same_number u.name name))
    ∙ sym (declared_more (all_uses (take i us)) (numbered_use u) (name ∷ []))
    ∙ ap (λ vs. declared vs (name ∷ [])) (sym (uses_more us i d lt))

-- what a table has for a name is what is declared before
pub known_is : (us : List NumberedUse) (i n : ℕ) (known : List (Option Role)) (here : Option Role) → n < length known
    → ((name : ℕ) → get_or known name None ≡ declared (all_uses (take i us)) (name ∷ []))
    → here ≡ get_or known n here → declared (all_uses (take i us)) (n ∷ []) ≡ here
known_is us i n known here lt is at = sym (is n) ∙ get_or_default known n None here lt ∙ sym at
