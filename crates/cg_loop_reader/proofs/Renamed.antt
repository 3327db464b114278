-- Other names for all names change no fault.
use Rattle.std.proofs.Common.{◌≡◌, ℕ, ◌+◌, eqb, ltb, ◌&&◌, ◌||◌, Bool, not, cond, List, [], ◌∷◌, ◌++◌, map, Option, Some, bytes_eq, refl, sym, ap, ◌∙◌}
use Rattle.std.specs.Option.{option_map, option_or, is_some}
use Rattle.std.specs.List.{list_any}
use Rattle.std.proofs.lemmas.List.{map-append}
use Rattle.cg_model.specs.Limits.{most_memory, last_port}
use Rattle.cg_loop_syntax.specs.declared.uses.Role.{Role}
use Rattle.cg_loop_syntax.specs.declared.uses.Role.TheVariants.{Array, Carry, Bind, Scalar, Item, Assign, Input, Output}
use Rattle.cg_loop_syntax.specs.declared.fault.LoopFault.{LoopFault}
use Rattle.cg_loop_syntax.specs.declared.fault.LoopFault.TheVariants.{UnknownName, RepeatedName, CarryAssign, BadArray, BadPort}
use Rattle.cg_loop_syntax.specs.Uses.{Use, declares, declared, may, is_carry, is_assign, assigns, meets, emits, misplaced, bad_port, is_unknown, is_repeated, is_misassigned, is_misplaced, is_bad_port, first_where, fault_of}

-- a use by another name
abbrev pub renamed : (List ℕ → List ℕ) → Use → Use
renamed name u = record { role = u.role; name = name u.name; place = u.place }

-- a renaming keeps apart what is apart
abbrev pub Keeps : (List ℕ → List ℕ) → Type 0
Keeps name = (x y : List ℕ) → bytes_eq (name x) (name y) ≡ bytes_eq x y

declared-renamed : (name : List ℕ → List ℕ) → Keeps name → (us : List Use) (x : List ℕ) → declared (map (renamed name) us) (name x) ≡ declared us x
declared-renamed name keeps [] x = refl
declared-renamed name keeps (u ∷ us) x =
    ap (λ b. cond (declares u.role && b) (Some u.role) (declared (map (renamed name) us) (name x))) (keeps u.name x)
    ∙ ap (cond (declares u.role && bytes_eq u.name x) (Some u.role)) (declared-renamed name keeps us x)

assigned-renamed : (name : List ℕ → List ℕ) → Keeps name → (x : List ℕ) (us : List Use) → list_any (assigns (name x)) (map (renamed name) us) ≡ list_any (assigns x) us
assigned-renamed name keeps x [] = refl
assigned-renamed name keeps x (u ∷ us) =
    ap (λ b. (is_assign u.role && b) || list_any (assigns (name x)) (map (renamed name) us)) (keeps u.name x)
    ∙ ap (λ b. assigns x u || b) (assigned-renamed name keeps x us)

-- a test of roles alone
any-renamed : (name : List ℕ → List ℕ) (test : Role → Bool) (us : List Use) → list_any (λ u. test u.role) (map (renamed name) us) ≡ list_any (λ u. test u.role) us
any-renamed name test [] = refl
any-renamed name test (u ∷ us) = ap (λ b. test u.role || b) (any-renamed name test us)

misplaced-renamed : (name : List ℕ → List ℕ) (us : List Use) (r : Role) → misplaced (map (renamed name) us) r ≡ misplaced us r
misplaced-renamed name us (Array at len) = ap (λ b. eqb len 0 || (ltb most_memory (at + len) || b)) (any-renamed name (meets at len) us)
misplaced-renamed name us Carry = refl
misplaced-renamed name us Bind = refl
misplaced-renamed name us Scalar = refl
misplaced-renamed name us Item = refl
misplaced-renamed name us Assign = refl
misplaced-renamed name us (Input p) = refl
misplaced-renamed name us (Output p) = refl

bad_port-renamed : (name : List ℕ → List ℕ) (us : List Use) (r : Role) → bad_port (map (renamed name) us) r ≡ bad_port us r
bad_port-renamed name us (Array at len) = refl
bad_port-renamed name us Carry = refl
bad_port-renamed name us Bind = refl
bad_port-renamed name us Scalar = refl
bad_port-renamed name us Item = refl
bad_port-renamed name us Assign = refl
bad_port-renamed name us (Input p) = refl
bad_port-renamed name us (Output p) = ap (λ b. ltb last_port p || b) (any-renamed name (emits p) us)

first-renamed : (name : List ℕ → List ℕ) (test : List Use → Use → List Use → Bool)
    → ((before : List Use) (u : Use) (rest : List Use) → test (map (renamed name) before) (renamed name u) (map (renamed name) rest) ≡ test before u rest)
    → (before us : List Use) → first_where test (map (renamed name) before) (map (renamed name) us) ≡ first_where test before us
first-renamed name test same before [] = refl
first-renamed name test same before (u ∷ rest) =
    ap (λ b. cond b (Some u.place) (first_where test (map (renamed name) before ++ renamed name u ∷ []) (map (renamed name) rest))) (same before u rest)
    ∙ ap (λ us. cond (test before u rest) (Some u.place) (first_where test us (map (renamed name) rest))) (sym (map-append (renamed name) before (u ∷ [])))
    ∙ ap (cond (test before u rest) (Some u.place)) (first-renamed name test same (before ++ u ∷ []) rest)

-- the fault by what the five tests find
abbrev judged : Option ℕ → Option ℕ → Option ℕ → Option ℕ → Option ℕ → Option LoopFault
judged a b c d e =
    option_or (option_map UnknownName a) (option_or (option_map RepeatedName b) (option_or (option_map CarryAssign c) (option_or (option_map BadArray d) (option_map BadPort e))))

judged_same : (a a' b b' c c' d d' e e' : Option ℕ) → a ≡ a' → b ≡ b' → c ≡ c' → d ≡ d' → e ≡ e' → judged a b c d e ≡ judged a' b' c' d' e'
judged_same a a' b b' c c' d d' e e' p q r s t =
    ap (λ o. judged o b c d e) p ∙ ap (λ o. judged a' o c d e) q ∙ ap (λ o. judged a' b' o d e) r ∙ ap (λ o. judged a' b' c' o e) s ∙ ap (judged a' b' c' d') t

pub fault-renamed : (name : List ℕ → List ℕ) → Keeps name → (us : List Use) → fault_of (map (renamed name) us) ≡ fault_of us
fault-renamed name keeps us =
    judged_same _ _ _ _ _ _ _ _ _ _
    (first-renamed name is_unknown (λ before u rest. ap (λ o. not (may u.role o)) (declared-renamed name keeps before u.name)) [] us)
    (first-renamed name is_repeated (λ before u rest. ap (λ o. declares u.role && is_some o) (declared-renamed name keeps before u.name)) [] us)
    (first-renamed name is_misassigned (λ before u rest.
    ap (λ b. (is_carry (Some u.role) && not b) || (is_assign u.role && list_any (assigns (name u.name)) (map (renamed name) before))) (assigned-renamed name keeps u.name rest)
    ∙ ap (λ b. (is_carry (Some u.role) && not (list_any (assigns u.name) rest)) || (is_assign u.role && b)) (assigned-renamed name keeps u.name before)) [] us)
    (first-renamed name is_misplaced (λ before u rest. misplaced-renamed name before u.role) [] us)
    (first-renamed name is_bad_port (λ before u rest. bad_port-renamed name before u.role) [] us)
