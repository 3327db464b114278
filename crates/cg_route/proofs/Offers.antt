-- Drivers that are offered a way, one more at a time; what a link costs.
use Rattle.std.proofs.Common.{◌≡◌, ℕ, suc, ◌+◌, ◌<◌, ◌≤◌, ◌≢◌, eqb, Bool, true, false, List, [], ◌∷◌, length, get_or, set, take, Option, Some, None, refl, sym, ap, ◌∙◌, subst, arith, ⊎_elim, inl, inr, length-set, eqb-true}
use Rattle.std.specs.Prelude.{◌⊎◌, nat_lt, ◌&&◌, ◌||◌, if◌then◌else◌}
use Rattle.std.specs.List.{list_any}
use Rattle.std.proofs.lemmas.Bool.{cases_eq, cases_Bool, eq-eqb, and_parts, false≢true, or_right}
use Rattle.std.proofs.lemmas.List.{get_or-set_same, get_or-set_other, get_or-map}
use Rattle.std.proofs.Math.ListN.{length-map}
use Rattle.cg_model.specs.Mapping.{Position}
use Rattle.std.proofs.lemmas.List.Elements.{Contains-get_or}
use Rattle.cg_model.specs.Array.{Arch, IsArch, resource, delay}
use Rattle.cg_mrrg.specs.declared.links.MNode.{MNode}
use Rattle.cg_mrrg.specs.declared.links.Link.{Link}
use Rattle.cg_mrrg.specs.Graph.{Graph, links_into, link_from}
use Rattle.cg_mrrg.proofs.Drivers.{any_other, any_here, none_before}
use Rattle.cg_congestion.specs.Claims.{same, node_of}
use Rattle.cg_model.specs.Mapping.{same_from}
use Rattle.cg_congestion.specs.Table.{Table, toll, link_price}
use Rattle.cg_route.specs.Layers.{Step, Sought, Layer, IsSearch, size, at, drivers, link, better, AreOffered, IsBelow}

-- a claim there is the value's there
any_value : (p : Position) (ps : List Position) → list_any (same p) ps ≡ true → list_any (λ (q : Position). eqb q.source p.source && eqb q.resource p.resource && eqb q.time p.time) ps ≡ true
any_value p [] h = absurd (false≢true h)
any_value p (q ∷ ps) h =
    ⊎_elim
    (λ (a : same p q ≡ true).
    let x = and_parts (eqb p.source q.source && eqb p.resource q.resource && eqb p.time q.time) (same_from p.from q.from) a in
    let y = and_parts (eqb p.source q.source && eqb p.resource q.resource) (eqb p.time q.time) x.0 in
    let z = and_parts (eqb p.source q.source) (eqb p.resource q.resource) y.0 in
    rw (eq-eqb q.source p.source (sym (eqb-true p.source q.source z.0)), eq-eqb q.resource p.resource (sym (eqb-true p.resource q.resource z.1)), eq-eqb q.time p.time (sym (eqb-true p.time q.time y.1))) refl)
    (λ (a : same p q ≡ false).
    let rest : list_any (same p) ps ≡ true = (let w = ap (λ b. b || list_any (same p) ps) a in sym w ∙ h) in
    or_right (eqb q.source p.source && eqb q.resource p.resource && eqb q.time p.time) _ (any_value p ps rest))
    (cases_Bool (same p q))

-- what a link costs, by what the use table says
pub link_is : (T : Table) (p : Position) (n : MNode) (price : ℕ) (shared claimed : Bool) →
    shared ≡ list_any (λ (q : Position). eqb q.source p.source && eqb q.resource p.resource && eqb q.time p.time) T.positions →
    claimed ≡ list_any (same p) T.positions → n ≡ node_of T.interval p → price ≡ (if shared && claimed then 0 else toll T n) → price ≡ link_price T p
unfolding link_price
link_is T p n price true true a b c d = rw (sym b) d
link_is T p n price false true a b c d = absurd (false≢true (a ∙ any_value p T.positions (sym b)))
link_is T p n price true false a b c d = rw (sym b) (d ∙ ap (toll T) c)
link_is T p n price false false a b c d = rw (sym b) (d ∙ ap (toll T) c)

-- the links into a node, as the drivers of its resource
pub driver_at : (S : Sought) (G : Graph) (n : MNode) (items : List Link) → items ≡ links_into G n → G.arch ≡ S.table.arch →
    (length items ≡ length (drivers S n.resource)) × ((j : ℕ) → j < length items → (get_or items j (record { node = record { resource = 0; slot = 0 }; delay = 0 })).node.resource ≡ get_or (drivers S n.resource) j 0)
driver_at S G n items is same_arch =
    let d : Link = record { node = record { resource = 0; slot = 0 }; delay = 0 } in
    let ds = (resource G.arch n.resource).drivers in
    let f = link_from (delay G.arch n.resource) n.slot G.interval in
    let e : ds ≡ drivers S n.resource = ap (λ A. (resource A n.resource).drivers) same_arch in
    let long : length items ≡ length ds = ap (λ (l : List Link). length l) is ∙ length-map ds f in (
      long ∙ ap (λ (l : List ℕ). length l) e,
      λ j l. ap (λ (x : Link). x.node.resource) (ap (λ (l : List Link). get_or l j d) is ∙ get_or-map f ds j 0 d (omega arith)) ∙ ap (λ (l : List ℕ). get_or l j 0) e,
    )

module _ (S : Sought) (s r price : ℕ) where
  pub offered_none : (layer : Layer) → AreOffered S s r price [] layer layer
  offered_none layer = record { all = refl; drivers = λ q h. absurd (false≢true h); others = λ q h. refl }

  pub offered_more : (ds : List ℕ) (j : ℕ) (old now : Layer) → j < length ds → get_or ds j 0 < length old → list_any (eqb (get_or ds j 0)) (take j ds) ≡ false →
      AreOffered S s r price (take j ds) old now →
      AreOffered S s r price (take (j + 1) ds) old (set now (get_or ds j 0) (better (at now (get_or ds j 0)) (link S s r (get_or ds j 0) + price) r))
  offered_more ds j old now l known fresh h =
      let x = get_or ds j 0 in
      let v = better (at now x) (link S s r x + price) r in
      let one_more : j + 1 ≡ suc j = omega arith in
      let all = h.all in
      record {
        all = length-set now x v ∙ h.all;
        drivers = λ q m.
            ⊎_elim
            (λ (a : q ≡ x).
            subst (λ y. at (set now x v) y ≡ better (at old y) (link S s r y + price) r) (sym a)
            (get_or-set_same now x v None (omega arith) ∙ ap (λ o. better o (link S s r x + price) r) (h.others x fresh)))
            (λ (a : q ≢ x).
            get_or-set_other now x q v None a ∙ h.drivers q (sym (any_other q ds j l a) ∙ ap (λ k. list_any (eqb q) (take k ds)) (sym one_more) ∙ m))
            (cases_eq q x);
        others = λ q m.
            ⊎_elim
            (λ (a : q ≡ x).
            let here : list_any (eqb q) (take (j + 1) ds) ≡ true = ap (λ k. list_any (eqb q) (take k ds)) one_more ∙ ap (λ y. list_any (eqb y) (take (suc j) ds)) a ∙ any_here ds j l in
            absurd (false≢true (sym m ∙ here)))
            (λ (a : q ≢ x).
            get_or-set_other now x q v None a ∙ h.others q (sym (any_other q ds j l a) ∙ ap (λ k. list_any (eqb q) (take k ds)) (sym one_more) ∙ m))
            (cases_eq q x);
      }

one_of : (b : Bool) (n o s : Step) → (if b then Some n else Some o) ≡ Some s → (n ≡ s) ⊎ (o ≡ s)
one_of true n o s e = inl (cc)
one_of false n o s e = inr (cc)

-- a better way costs no more
pub better_below : (high : ℕ) (e : Option Step) (price r : ℕ) → price ≤ high → ((s : Step) → e ≡ Some s → s.price ≤ high) → (s : Step) → better e price r ≡ Some s → s.price ≤ high
better_below high None price r le h s is = let z : record { price = price; next = r } ≡ s = cc in omega (arith, ap (λ (y : Step). y.price) z)
better_below high (Some o) price r le h s is =
    ⊎_elim (λ e. omega (arith, le, ap (λ (y : Step). y.price) e)) (λ e. h s (ap Some e))
    (one_of (nat_lt price o.price || (eqb price o.price && nat_lt r o.next)) (record { price = price; next = r }) o s is)

pub set_below : (high : ℕ) (layer : Layer) (x price r : ℕ) → x < length layer → price ≤ high → IsBelow high layer → IsBelow high (set layer x (better (at layer x) price r))
set_below high layer x price r known le h q s is =
    let v = better (at layer x) price r in
    ⊎_elim
    (λ (a : q ≡ x).
    better_below high (at layer x) price r le (λ o e. h x o e) s (sym (get_or-set_same layer x v None known) ∙ subst (λ y. at (set layer x v) y ≡ Some s) a is))
    (λ (a : q ≢ x). h q s (sym (get_or-set_other layer x q v None a) ∙ is))
    (cases_eq q x)

-- a driver is in a list once
pub fresh : (A : Arch) → IsArch A → (r j : ℕ) → j < length (resource A r).drivers → list_any (eqb (get_or (resource A r).drivers j 0)) (take j (resource A r).drivers) ≡ false
fresh A good r j l =
    let ds = (resource A r).drivers in
    none_before (get_or ds j 0) ds j (omega arith) (λ k m same. let i : k ≡ j = good.once r k j (omega arith) l (sym same) in absurd (omega arith))

-- and is a resource
pub driver_known : (A : Arch) → IsArch A → (r j : ℕ) → j < length (resource A r).drivers → get_or (resource A r).drivers j 0 < length A.resources
driver_known A good r j l = good.known (get_or (resource A r).drivers j 0) r (Contains-get_or (resource A r).drivers j 0 l)

-- link i into a node starts at driver i of its resource
pub next_driver : (S : Sought) → IsSearch S → (G : Graph) (r slot : ℕ) (items : List Link) (i : ℕ) → items ≡ links_into G (record { resource = r; slot = slot }) → G.arch ≡ S.table.arch → i < length items →
    (i < length (drivers S r)) × ((get_or items i (record { node = record { resource = 0; slot = 0 }; delay = 0 })).node.resource ≡ get_or (drivers S r) i 0) × (get_or (drivers S r) i 0 < size S)
next_driver S search G r slot items i is same_arch inside =
    let (long, read) = driver_at S G (record { resource = r; slot = slot }) items is same_arch in
    let l : i < length (drivers S r) = omega (arith, long, inside) in
    (l, read i inside, driver_known S.table.arch search.arch r i l)
