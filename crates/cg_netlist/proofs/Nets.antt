-- The nets of resources: each is there.
use Rattle.std.proofs.Common.{◌≡◌, ℕ, zero, suc, ◌<◌, Bool, true, false, cond, eqb, List, [], ◌∷◌, ◌++◌, length, get_or, refl, sym, subst, arith}
use Rattle.std.specs.Prelude.{Contains, flat_map}
use Rattle.std.proofs.lemmas.Bool.{ne_eqb}
use Rattle.std.proofs.lemmas.List.{map-append}
use Rattle.std.proofs.lemmas.List.Elements.{Contains-append_left, Contains-append_right}
use Rattle.cg_model.specs.declared.array.Resource.{Resource}
use Rattle.cg_netlist.specs.Netlist.{Net, nets_of, word_net, select_net, select_width}
use Rattle.cg_netlist.specs.Graph.{names}

-- the names of the nets of resources
abbrev pub net_names : List Resource → List (List ℕ)
net_names rs = names (flat_map nets_of rs)

names-append : (xs ys : List Net) → names (xs ++ ys) ≡ names xs ++ names ys
names-append xs ys = map-append (λ (n : Net). n.name) xs ys

first_names : (r : Resource) (rs : List Resource) → net_names (r ∷ rs) ≡ names (nets_of r) ++ net_names rs
first_names r rs = names-append (nets_of r) (flat_map nets_of rs)

along : {names more : List (List ℕ)} (name : List ℕ) → names ≡ more → Contains more name → Contains names name
along {names} {more} name is has = let P : List (List ℕ) → Type 0 = λ ns. Contains ns name in subst P (sym is) has

select_there : (b : Bool) (r : Resource) → b ≡ false → Contains (names (record { name = word_net r; width = 32 } ∷ cond b [] (record { name = select_net r; width = select_width r } ∷ []))) (select_net r)
select_there true r e = let bad : true ≡ false = e in absurd (cc)
select_there false r e = (1, omega arith, refl)

-- the net of a resource's word
pub has_word : (rs : List Resource) (k : ℕ) (d : Resource) → k < length rs → Contains (net_names rs) (word_net (get_or rs k d))
has_word [] k d h = absurd (omega arith)
has_word (r ∷ rs) zero d h = (0, omega arith, refl)
has_word (r ∷ rs) (suc k) d h =
    along (word_net (get_or rs k d)) (first_names r rs) (Contains-append_right (names (nets_of r)) (net_names rs) (word_net (get_or rs k d)) (has_word rs k d (omega arith)))

-- the net of its select, where it has drivers
pub has_select : (rs : List Resource) (k : ℕ) (d : Resource) → k < length rs → 0 < length (get_or rs k d).drivers → Contains (net_names rs) (select_net (get_or rs k d))
has_select [] k d h some = absurd (omega arith)
has_select (r ∷ rs) zero d h some =
    let driven : eqb (length r.drivers) 0 ≡ false = ne_eqb (length r.drivers) 0 (λ e. omega arith) in
    along (select_net r) (first_names r rs) (Contains-append_left (names (nets_of r)) (net_names rs) (select_net r) (select_there (eqb (length r.drivers) 0) r driven))
has_select (r ∷ rs) (suc k) d h some =
    along (select_net (get_or rs k d)) (first_names r rs) (Contains-append_right (names (nets_of r)) (net_names rs) (select_net (get_or rs k d)) (has_select rs k d (omega arith) some))
