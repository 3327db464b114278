-- The outs and ports of the units that offer an operation.
use Rattle.std.proofs.Common.{◌≡◌, ℕ, ◌+◌, ◌<◌, ◌≤◌, ◌⊎◌, inl, inr, List, [], ◌∷◌, ◌++◌, length, get_or, Bool, true, false, cond, eqb, eqb-true, refl, sym, ap, ◌∙◌, subst, arith, ⊎_elim, Contains}
use Rattle.std.specs.Prelude.{Option, Some, None, slice_get}
use Rattle.std.specs.Option.{option_eq}
use Rattle.std.proofs.lemmas.Bool.{cases_eq, cases_lt}
use Rattle.std.proofs.lemmas.List.{get_or_default, get_or_past}
use Rattle.std.proofs.lemmas.Option.{slice_get_within, get_or_from_slice_get}
use Rattle.std.proofs.lemmas.List.Elements.{Contains-append_left, Contains-push, Contains-push_cases}
use Rattle.cg_word.specs.declared.op.Op.{Op}
use Rattle.cg_word.specs.Sets.{among}
use Rattle.cg_word.proofs.Marks.{among_from, among_it}
use Rattle.cg_model.specs.declared.array.Unit.{Unit}
use Rattle.cg_model.specs.declared.array.Kind.TheVariants.{Wire, Out}
use Rattle.cg_model.specs.Array.{Arch, IsArch, unit, resource}
use Rattle.cg_model.specs.Mapping.{Goes}
use Rattle.cg_model.proofs.Lookups.{Contains-nil}
use Rattle.cg_bound_routes.specs.declared.question.Ends.{Ends}
use Rattle.cg_bound_routes.specs.declared.question.Ends.TheVariants.{Any}
use Rattle.cg_bound_routes.specs.declared.question.Question.{Question}
use Rattle.cg_bound_routes.specs.Search.{Joins, IsFound, AreBelow}
use Rattle.cg_bound_routes.specs.Question.{AreEnds, IsAskedWay, IsAnswer, AreOuts, ArePorts, IsAskedWayTo, HasAskedWay, IsFloor, lesser}
use Rattle.cg_bound_routes.proofs.Least.{found_same, found_lesser}

-- a unit that is read
pub unit_read : (A : Arch) (units : List Unit) (place : ℕ) (u : Unit) → units ≡ A.units → place < length A.units → u ≡ get_or units place u → u ≡ unit A place
unit_read A units place u e l is = is ∙ ap (λ z. get_or z place u) e ∙ get_or_default A.units place u _ l

-- whether it offers an operation
pub offered : (A : Arch) (x : ℕ) (u : Unit) (op : Op) (b : Bool) → u ≡ unit A x → b ≡ among u.ops op → b ≡ true → Contains (unit A x).ops op
offered A x u op b e is t = among_from (unit A x).ops op (ap (λ z. among z.ops op) (sym e) ∙ sym is ∙ t)

pub not_offered : (A : Arch) (x : ℕ) (u : Unit) (op : Op) (b : Bool) → u ≡ unit A x → b ≡ among u.ops op → b ≡ false → Contains (unit A x).ops op → ⊥
not_offered A x u op b e is f c = let t : among u.ops op ≡ true = ap (λ z. among z.ops op) e ∙ among_it (unit A x).ops op c in absurd (cc)

-- a unit more
module _ (A : Arch) (op : Op) (ends : Ends) (y place : ℕ) (list : List ℕ) (h : AreOuts A op ends y place list) where
  pub outs_with : (out : ℕ) → Contains (unit A place).ops op → AreEnds ends place y → out ≡ (unit A place).out → AreOuts A op ends y (place + 1) (list ++ out ∷ [])
  outs_with out c fit e = record {
    all = λ x l d f.
        ⊎_elim {C = Contains (list ++ out ∷ []) (unit A x).out} (λ g. subst (Contains (list ++ out ∷ [])) (e ∙ ap (λ z. (unit A z).out) (sym g)) (Contains-push list out))
        (λ ne. Contains-append_left list (out ∷ []) (unit A x).out (h.all x (omega arith) d f)) (cases_eq x place);
    only = λ r d.
        ⊎_elim {C = (x : ℕ) × (x < place + 1) × Contains (unit A x).ops op × AreEnds ends x y × ((unit A x).out ≡ r)}
        (λ k. let (x, l, o, f, g) = h.only r k in (x, omega arith, o, f, g))
        (λ g. (place, omega arith, c, fit, sym e ∙ g)) (Contains-push_cases list out r d);
  }

  pub outs_without : (Contains (unit A place).ops op → AreEnds ends place y → ⊥) → AreOuts A op ends y (place + 1) list
  outs_without none = record {
    all = λ x l d f.
        ⊎_elim {C = Contains list (unit A x).out} (λ g. absurd (none (subst (λ z. Contains (unit A z).ops op) g d) (subst (λ z. AreEnds ends z y) g f)))
        (λ ne. h.all x (omega arith) d f) (cases_eq x place);
    only = λ r d. let (x, l, o, f, g) = h.only r d in (x, omega arith, o, f, g);
  }

module _ (A : Arch) (op : Op) (arg place : ℕ) (list : List ℕ) (h : ArePorts A op arg place list) where
  pub ports_with : (port : ℕ) → Contains (unit A place).ops op → slice_get (unit A place).ports arg ≡ Some port → ArePorts A op arg (place + 1) (list ++ port ∷ [])
  ports_with port c e = record {
    all = λ y r l d at.
        ⊎_elim {C = Contains (list ++ port ∷ []) r}
        (λ f. let at' : slice_get (unit A place).ports arg ≡ Some r = subst (λ z. slice_get (unit A z).ports arg ≡ Some r) f at in
        let same : port ≡ r = cc in subst (Contains (list ++ port ∷ [])) same (Contains-push list port))
        (λ ne. Contains-append_left list (port ∷ []) r (h.all y r (omega arith) d at)) (cases_eq y place);
    only = λ r d.
        ⊎_elim {C = (y : ℕ) × (y < place + 1) × Contains (unit A y).ops op × (slice_get (unit A y).ports arg ≡ Some r)} (λ k. let (y, l, o, f) = h.only r k in (y, omega arith, o, f))
        (λ f. (place, omega arith, c, e ∙ ap Some f)) (Contains-push_cases list port r d);
  }

  pub ports_without : ((r : ℕ) → Contains (unit A place).ops op → slice_get (unit A place).ports arg ≡ Some r → ⊥) → ArePorts A op arg (place + 1) list
  ports_without none = record {
    all = λ y r l d at.
        ⊎_elim {C = Contains list r} (λ f. absurd (none r (subst (λ z. Contains (unit A z).ops op) f d) (subst (λ z. slice_get (unit A z).ports arg ≡ Some r) f at)))
        (λ ne. h.all y r (omega arith) d at) (cases_eq y place);
    only = λ r d. let (y, l, o, f) = h.only r d in (y, omega arith, o, f);
  }

-- a port that is found
some_if : (b : Bool) (o : Option ℕ) (r : ℕ) → cond b o None ≡ Some r → (b ≡ true) × (o ≡ Some r)
some_if true o r e = (refl, e)
some_if false o r e = absurd (cc)

none_if : (b : Bool) (o : Option ℕ) (r : ℕ) → cond b o None ≡ None → b ≡ true → o ≡ Some r → ⊥
none_if true o r e t at = absurd (cc)
none_if false o r e t at = absurd (cc)

pub port_found : (A : Arch) (x : ℕ) (u : Unit) (op : Op) (arg port : ℕ) (o : Option ℕ) → u ≡ unit A x → o ≡ cond (among u.ops op) (slice_get u.ports arg) None → o ≡ Some port →
    Contains (unit A x).ops op × (slice_get (unit A x).ports arg ≡ Some port)
port_found A x u op arg port o e is some =
    let (t, at) = some_if (among u.ops op) (slice_get u.ports arg) port (sym is ∙ some) in
    (offered A x u op true e (sym t) refl, ap (λ z. slice_get z.ports arg) (sym e) ∙ at)

pub no_port : (A : Arch) (x : ℕ) (u : Unit) (op : Op) (arg : ℕ) (o : Option ℕ) → u ≡ unit A x → o ≡ cond (among u.ops op) (slice_get u.ports arg) None → o ≡ None →
    (r : ℕ) → Contains (unit A x).ops op → slice_get (unit A x).ports arg ≡ Some r → ⊥
no_port A x u op arg o e is none r c at =
    none_if (among u.ops op) (slice_get u.ports arg) r (sym is ∙ none) (ap (λ z. among z.ops op) e ∙ among_it (unit A x).ops op c) (ap (λ z. slice_get z.ports arg) e ∙ at)

-- outs and ports are resources
pub out_known : (A : Arch) → IsArch A → (x : ℕ) → x < length A.units → (unit A x).out < length A.resources
out_known A arch x l =
    ⊎_elim {C = (unit A x).out < length A.resources} (λ h. h)
    (λ h.
    let past : (resource A (unit A x).out).kind ≡ Wire = ap (λ z. z.kind) (get_or_past A.resources (unit A x).out _ h) in
    let is = arch.outs x l in
    let bad : Wire ≡ Out = sym past ∙ is in absurd (cc))
    (cases_lt (unit A x).out (length A.resources))

pub port_known : (A : Arch) → IsArch A → (x p r : ℕ) → x < length A.units → slice_get (unit A x).ports p ≡ Some r → r < length A.resources
port_known A arch x p r l at =
    let h = arch.ports_known x p l (slice_get_within (unit A x).ports p r at) in
    let e : get_or (unit A x).ports p 0 ≡ r = get_or_from_slice_get (unit A x).ports p r 0 at in
    omega arith

pub outs_below : (A : Arch) → IsArch A → (op : Op) (ends : Ends) (y : ℕ) (list : List ℕ) → AreOuts A op ends y (length A.units) list → AreBelow (length A.resources) list
outs_below A arch op ends y list h = λ r c. let (x, l, o, f, e) = h.only r c in subst (λ z. z < length A.resources) e (out_known A arch x l)

pub ports_below : (A : Arch) → IsArch A → (op : Op) (arg : ℕ) (list : List ℕ) → ArePorts A op arg (length A.units) list → AreBelow (length A.resources) list
ports_below A arch op arg list h = λ r c. let (y, l, o, at) = h.only r c in port_known A arch y arg r l at

-- lists of one resource
single : (r q : ℕ) → Contains (r ∷ []) q → r ≡ q
single r q c = ⊎_elim {C = r ≡ q} (λ h. absurd (Contains-nil q h)) (λ e. e) (Contains-push_cases [] r q c)

pub one_below : (count r : ℕ) → r < count → AreBelow count (r ∷ [])
one_below count r l = λ q c. let e = single r q c in omega arith

-- ways between any units
abbrev pub asked_of_any : Question → Question
asked_of_any q = record { from = q.from; to = q.to; arg = q.arg; ends = Any }

pub any_ways : (A : Arch) (q : Question) (y : ℕ) (outs ports : List ℕ) → AreOuts A q.from Any y (length A.units) outs → ArePorts A q.to q.arg (length A.units) ports → (o : Option ℕ) →
    IsFound A (Joins A outs ports) o → IsFound A (IsAskedWay A (asked_of_any q)) o
any_ways A q place outs ports f t o h =
    found_same A (Joins A outs ports) (IsAskedWay A (asked_of_any q))
    (λ n (s, a, (r, b, w)).
    let (x, lx, ox, ex, e) = f.only s a in
    let (y, ly, oy, at) = t.only r b in
    (x, y, (lx, ox), (ly, oy), ex, (r, at, subst (λ z. (path : List ℕ) × Goes A z 0 path r n) (sym e) w)))
    (λ n (x, y, (lx, ox), (ly, oy), ex, (r, at, w)). ((unit A x).out, f.all x lx ox ex, (r, t.all y r ly oy at, w)))
    o h

-- they answer a question about any units
pub any_answer : (A : Arch) (q : Question) → q.ends ≡ Any → (o : Option ℕ) → IsFound A (IsAskedWay A (asked_of_any q)) o → IsAnswer A q o
any_answer A q e o h =
    found_same A (IsAskedWay A (asked_of_any q)) (IsAskedWay A q) (λ n (x, y, a, b, ends, w). (x, y, a, b, subst (λ z. AreEnds z x y) (sym e) ends, w))
    (λ n (x, y, a, b, ends, w). (x, y, a, b, tt, w)) o h

-- no answer is below them
pub any_floor : (A : Arch) (q : Question) (o : Option ℕ) → IsFound A (IsAskedWay A (asked_of_any q)) o → IsFloor A q o
any_floor A q None h = λ n (x, y, a, b, ends, w). h.least n (x, y, a, b, tt, w)
any_floor A q (Some least) h = λ n (x, y, a, b, ends, w). h.least.1 n (x, y, a, b, tt, w)

-- the ways to one unit
pub unit_ways : (A : Arch) (q : Question) (y port : ℕ) (outs : List ℕ) → Contains (unit A y).ops q.to → slice_get (unit A y).ports q.arg ≡ Some port →
    AreOuts A q.from q.ends y (length A.units) outs → (o : Option ℕ) → IsFound A (Joins A outs (port ∷ [])) o → IsFound A (IsAskedWayTo A q y) o
unit_ways A q y port outs t at f o h =
    found_same A (Joins A outs (port ∷ [])) (IsAskedWayTo A q y)
    (λ n (s, a, (r, b, w)).
    let (x, lx, ox, ex, e) = f.only s a in
    let w' = subst (λ z. (path : List ℕ) × Goes A s 0 path z n) (sym (single port r b)) w in
    (t, (x, (lx, ox), ex, (port, at, subst (λ z. (path : List ℕ) × Goes A z 0 path port n) (sym e) w'))))
    (λ n (t', (x, (lx, ox), ex, (r, at', w))).
    let same : r ≡ port = cc in
    ((unit A x).out, f.all x lx ox ex, (port, Contains-push [] port, subst (λ z. (path : List ℕ) × Goes A (unit A x).out 0 path z n) same w)))
    o h

-- one unit more
pub ways_more : (A : Arch) (q : Question) (place : ℕ) (best hops : Option ℕ) → IsFound A (HasAskedWay A q place) best → IsFound A (IsAskedWayTo A q place) hops →
    IsFound A (HasAskedWay A q (place + 1)) (lesser best hops)
ways_more A q place best hops f g =
    found_same A (λ n. HasAskedWay A q place n ⊎ IsAskedWayTo A q place n) (HasAskedWay A q (place + 1))
    (λ n h. ⊎_elim {C = HasAskedWay A q (place + 1) n} (λ (y, l, w). (y, omega arith, w)) (λ w. (place, omega arith, w)) h)
    (λ n (y, l, w).
    ⊎_elim {C = HasAskedWay A q place n ⊎ IsAskedWayTo A q place n} (λ e. inr (subst (λ z. IsAskedWayTo A q z n) e w)) (λ ne. inl (y, omega arith, w)) (cases_eq y place))
    (lesser best hops) (found_lesser A (HasAskedWay A q place) (IsAskedWayTo A q place) best hops f g)

-- a way to one of the first units is one
way_to : (A : Arch) (q : Question) (place n : ℕ) → place ≤ length A.units → HasAskedWay A q place n → IsAskedWay A q n
way_to A q place n l (y, k, (t, (x, a, ends, w))) = (x, y, a, (omega arith, t), ends, w)

-- all units
pub ways_whole : (A : Arch) (q : Question) (best : Option ℕ) → IsFound A (HasAskedWay A q (length A.units)) best → IsAnswer A q best
ways_whole A q best h =
    found_same A (HasAskedWay A q (length A.units)) (IsAskedWay A q) (λ n w. way_to A q (length A.units) n (omega arith) w)
    (λ n (x, y, a, (l, t), ends, w). (y, l, (t, (x, a, ends, w)))) best h

-- an answer that no other is below
at_floor : (A : Arch) (q : Question) (place : ℕ) (best : Option ℕ) → place ≤ length A.units → IsFloor A q best → IsFound A (HasAskedWay A q place) best → IsAnswer A q best
at_floor A q place None l f h = record { least = f; small = h.small }
at_floor A q place (Some n) l f h = record { least = (way_to A q place n l h.least.0, f); small = h.small }

same_number : (a b : Option ℕ) → option_eq eqb a b ≡ true → a ≡ b
same_number None None e = refl
same_number None (Some y) e = absurd (cc)
same_number (Some x) None e = absurd (cc)
same_number (Some x) (Some y) e = ap Some (eqb-true x y e)

pub floor_answer : (A : Arch) (q : Question) (place : ℕ) (floor best : Option ℕ) → place ≤ length A.units → IsFloor A q floor → option_eq eqb best floor ≡ true → IsFound A (HasAskedWay A q place) best →
    IsAnswer A q best
floor_answer A q place floor best l f e h = at_floor A q place best l (subst (IsFloor A q) (sym (same_number best floor e)) f) h
