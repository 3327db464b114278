-- The names that elements claim.
use Rattle.std.proofs.Common.{◌≡◌, ℕ, zero, suc, ◌+◌, ◌<◌, List, [], ◌∷◌, Some, None, Bool, true, false, ◌||◌, cond, nat_lt, bytes_eq, refl, ap, sym, ◌∙◌, arith, ⊎_elim}
use Rattle.std.specs.Prelude.{slice_get}
use Rattle.std.specs.List.{list_any}
use Rattle.std.proofs.lemmas.Slice.Eq.{bytes_eq-Decides}
use Rattle.std.proofs.lemmas.Bool.Decides.{nat_tests}
use Rattle.std.proofs.lemmas.Bool.{ltb-true, or_right}
use Rattle.cg_word.specs.declared.op.Op.{Op}
use Rattle.cg_model.specs.First.{is_before}
use Rattle.cg_model.proofs.Options.{some_cond}
use Rattle.cg_model.proofs.Elements.{any_true, any_false}
use Rattle.cg_model.proofs.Positions.{position_from-reached, not_before}
use Rattle.cg_parts.specs.declared.parts.Element.{Element}
use Rattle.cg_parts.specs.declared.parts.Element.TheVariants as element
use Rattle.cg_parts.specs.declared.entry.Entry.{Entry}
use Rattle.cg_parts.specs.Parts.{port_name, port_name_of, out_name, port_names, claims_of, name_of, entries_of}
use Rattle.cg_parts.specs.Numbers.{claims, claimer_of}
use Rattle.cg_parts.specs.Rules.{repeats_by}
use Rattle.cg_validate.proofs.Roles.{own_role, unit_role, IsPortOf, IsOutOf}

any_at : {X : Type 0} (t : X → Bool) (xs : List X) (i : ℕ) (x : X) → slice_get xs i ≡ Some x → t x ≡ true → list_any t xs ≡ true
any_at t [] i x at passes = let bad : None ≡ Some x = at in absurd (cc)
any_at t (y ∷ ys) zero x at passes = let same : y ≡ x = cc in ap (λ b. b || list_any t ys) (ap t same ∙ passes)
any_at t (y ∷ ys) (suc i) x at passes = ap (λ b. t y || b) (any_at t ys i x at passes) ∙ or_right (t y) true refl

-- ---- an element claims the names of its resources, and its own

same_bytes : (name : List ℕ) → bytes_eq name name ≡ true
same_bytes name = (bytes_eq-Decides name name).1 refl

port_names-get : (unit : List ℕ) (q : ℕ) (ports : List (List (List ℕ))) (p : ℕ) (d : List (List ℕ)) → slice_get ports p ≡ Some d → q + p < 3 → slice_get (port_names unit q ports) p ≡ Some (port_name unit (q + p))
port_names-get unit q [] p d at h = let bad : None ≡ Some d = at in absurd (cc)
port_names-get unit q (c ∷ cs) zero d at h =
    let here : nat_lt q 3 ≡ true = grind (arith, nat_tests) in
    let n : q ≡ q + 0 = omega arith in
    ap (λ b. slice_get (cond b (port_name unit q ∷ port_names unit (q + 1) cs) []) 0) here ∙ ap (λ m. Some (port_name unit m)) n
port_names-get unit q (c ∷ cs) (suc p) d at h =
    let here : nat_lt q 3 ≡ true = grind (arith, nat_tests) in
    let n : q + 1 + p ≡ q + suc p = omega arith in
    ap (λ b. slice_get (cond b (port_name unit q ∷ port_names unit (q + 1) cs) []) (suc p)) here ∙ port_names-get unit (q + 1) cs p d at (omega arith) ∙ ap (λ m. Some (port_name unit m)) n

pub own_claim : (e : Element) → claims (name_of e) e ≡ true
own_claim (element.Wire name drivers) = any_at (λ c. bytes_eq c name) (name ∷ []) 0 name refl (same_bytes name)
own_claim (element.Register name drivers) = any_at (λ c. bytes_eq c name) (name ∷ []) 0 name refl (same_bytes name)
own_claim (element.Unit name ops latency ports) = any_at (λ c. bytes_eq c name) (name ∷ out_name name ∷ port_names name 0 ports) 0 name refl (same_bytes name)

pub named_port : (unit : List ℕ) (p : ℕ) (n : List ℕ) → port_name_of unit p ≡ Some n → (p < 3) × (port_name unit p ≡ n)
named_port unit p n e = let parts = some_cond (nat_lt p 3) (port_name unit p) n e in (ltb-true p 3 parts.0, parts.1)

port_claim : (name : List ℕ) (ops : List Op) (latency : ℕ) (ports : List (List (List ℕ))) (j : ℕ) (x : Entry) (n : List ℕ) → IsPortOf name ports j x → x.name ≡ Some n → claims n (element.Unit name ops latency ports) ≡ true
port_claim name ops latency ports j x n is named =
    let port = named_port name j n (sym (ap (λ r. r.name) is.is) ∙ named) in
    let zero_j : 0 + j ≡ j = omega arith in
    let j_less : 0 + j < 3 = let h = port.0 in omega (arith, h) in
    any_at (λ c. bytes_eq c n) (name ∷ out_name name ∷ port_names name 0 ports) (suc (suc j)) n
    (port_names-get name 0 ports j is.drivers is.at j_less ∙ ap (λ m. Some (port_name name m)) zero_j ∙ ap Some port.1)
    (same_bytes n)

out_claim : (name : List ℕ) (ops : List Op) (latency : ℕ) (ports : List (List (List ℕ))) (j : ℕ) (x : Entry) (n : List ℕ) → IsOutOf name ports j x → x.name ≡ Some n → claims n (element.Unit name ops latency ports) ≡ true
out_claim name ops latency ports j x n is named =
    let e : Some (out_name name) ≡ Some n = sym (ap (λ r. r.name) is.is) ∙ named in
    any_at (λ c. bytes_eq c n) (name ∷ out_name name ∷ port_names name 0 ports) 1 n e (same_bytes n)

own_entry_claim : (name n : List ℕ) → Some name ≡ Some n → list_any (λ c. bytes_eq c n) (name ∷ []) ≡ true
own_entry_claim name n e = any_at (λ c. bytes_eq c n) (name ∷ []) 0 n e (same_bytes n)

pub entry_claim : (e : Element) (j : ℕ) (x : Entry) (n : List ℕ) → slice_get (entries_of e) j ≡ Some x → x.name ≡ Some n → claims n e ≡ true
entry_claim (element.Wire name drivers) j x n at named = own_entry_claim name n (sym (ap (λ r. r.name) (own_role _ name drivers j x at).is) ∙ named)
entry_claim (element.Register name drivers) j x n at named = own_entry_claim name n (sym (ap (λ r. r.name) (own_role _ name drivers j x at).is) ∙ named)
entry_claim (element.Unit name ops latency ports) j x n at named =
    ⊎_elim (λ is. port_claim name ops latency ports j x n is named) (λ is. out_claim name ops latency ports j x n is named) (unit_role name ops latency ports j x at)

-- ---- a claimed name tells the element

pub claimer : (es : List Element) (v : ℕ) (e : Element) (n : List ℕ) → slice_get es v ≡ Some e → repeats_by (claimer_of es) v e ≡ false → claims n e ≡ true → claimer_of es n ≡ Some v
claimer es v e n at free claimed =
    let found = any_true (λ c. bytes_eq c n) (claims_of e) claimed in
    let same : found.1.0 ≡ n = (bytes_eq-Decides found.1.0 n).0 found.1.1.1 in
    let free_here : is_before (claimer_of es n) v ≡ false = ap (λ c. is_before (claimer_of es c) v) (sym same) ∙ any_false (λ c. is_before (claimer_of es c) v) (claims_of e) found.0 found.1.0 found.1.1.0 free in
    let first = position_from-reached (claims n) 0 es v v e at claimed (omega arith) in
    let least = not_before (claimer_of es n) first.0 v first.1.0 free_here in
    let u_is : first.0 ≡ v = let most = first.1.1 in omega (arith, most, least) in
    first.1.0 ∙ ap Some u_is
