-- The graph of muxes has loops where muxes form rings, and else levels.
use Rattle.std.proofs.Common.{◌≡◌, ℕ, ◌+◌, ◌-◌, ◌<◌, List, [], length, map, Option, Some, None, refl, ap, sym, ◌∙◌, subst, subst₂, arith, ⊎_elim}
use Rattle.std.specs.Prelude.{Contains, slice_index}
use Rattle.std.proofs.lemmas.Bool.{cases_lt}
use Rattle.std.proofs.lemmas.List.{length-map, get_or-map, get_or_past, get_or-drop, length-drop}
use Rattle.cg_model.specs.declared.array.Kind.TheVariants.{Wire}
use Rattle.cg_model.specs.declared.array.Resource.{Resource}
use Rattle.cg_model.specs.Array.{delay_by}
use Rattle.cg_model.proofs.Lookups.{Contains-nil}
use Rattle.cg_levelize.specs.Topological.{resource_at, AreKnown, Passes, IsTopological, IsCombinationalLoop}
use Rattle.cg_levelize.proofs.Levels.{place_of, order_levels, order_no_loop}
use Rattle.cg_levelize.proofs.Solved.{order_or_loop}
use Rattle.cg_netlist.specs.declared.forms.Form.{Form}
use Rattle.cg_netlist.specs.declared.forms.Form.TheVariants.{Context as ContextForm, Preselect as PreselectForm, Mux as MuxForm, Register as RegisterForm, Zero as ZeroForm, FunctionalUnit as UnitForm}
use Rattle.cg_netlist.specs.Netlist.{NetGraph}
use Rattle.cg_netlist.specs.Graph.{names, IsNetGraph}
use Rattle.cg_gates.specs.Shape.{Shape, shapes}
use Rattle.cg_gates.specs.Gates.{driving}
use Rattle.cg_gates.specs.Accepts.{data_now, Hears, IsMuxLoop, HasNoMuxLoop, net_name, fault_before_loops}
use Rattle.cg_gates.specs.Order.{net_number, heard, net_resource, mux_graph}
use Rattle.cg_gates.proofs.Finds.{Contains-map, Contains-map_from}
use Rattle.cg_gates.proofs.Early.{driving_from, driving_only, in_known, number_is, number_of, q_known}
use Rattle.cg_gates.proofs.Rings.{turned, turned_long, turned_at, IsRing, turned_ring}

pub graph_long : (N : NetGraph) → length (mux_graph N) ≡ length N.nets
unfolding mux_graph
graph_long N = length-map N.nets (net_resource N)

-- the nets that a mux hears are on pins of it
heard_in : (f : Form) (ins : List (List ℕ)) (d : List ℕ) → Contains (data_now f ins) d → Contains ins d
heard_in (ContextForm w) ins d m = absurd (Contains-nil d m)
heard_in (PreselectForm w) ins d m = absurd (Contains-nil d m)
heard_in (MuxForm k) ins d (j, l, e) = (1 + j, omega (arith, l, length-drop 1 ins), sym (get_or-drop 1 ins j d) ∙ e)
heard_in (RegisterForm k) ins d m = absurd (Contains-nil d m)
heard_in ZeroForm ins d m = absurd (Contains-nil d m)
heard_in (UnitForm p l h) ins d m = absurd (Contains-nil d m)

pub data_in : (c : Shape) (d : List ℕ) → Contains (data_now c.form c.ins) d → Contains c.ins d
data_in c d m = heard_in c.form c.ins d m

-- the drivers of a net of the graph
abbrev drivers_of : NetGraph → ℕ → List ℕ
drivers_of N r = map (net_number N) (heard (driving (net_name N r) (shapes N)))

drivers_at : (N : NetGraph) (r : ℕ) → r < length N.nets → (resource_at (mux_graph N) r).drivers ≡ drivers_of N r
unfolding mux_graph
drivers_at N r l = ap (λ (x : Resource). x.drivers) (get_or-map (net_resource N) N.nets r (record { name = []; width = 0 }) (record { name = []; kind = Wire; drivers = [] }) l)

wire_at : (N : NetGraph) (r : ℕ) → delay_by (resource_at (mux_graph N) r).kind ≡ 0
unfolding mux_graph
wire_at N r =
    ⊎_elim
    (λ l. ap (λ (x : Resource). delay_by x.kind) (get_or-map (net_resource N) N.nets r (record { name = []; width = 0 }) (record { name = []; kind = Wire; drivers = [] }) l))
    (λ l. ap (λ (x : Resource). delay_by x.kind) (get_or_past (mux_graph N) r (record { name = []; kind = Wire; drivers = [] }) (omega (arith, graph_long N))))
    (cases_lt r (length N.nets))

-- a net that is driven is one of the graph
net_within : (N : NetGraph) (q r : ℕ) → Contains (resource_at (mux_graph N) r).drivers q → r < length N.nets
net_within N q r m =
    ⊎_elim (λ l. l)
    (λ l. absurd (Contains-nil q (subst (λ (x : Resource). Contains x.drivers q) (get_or_past (mux_graph N) r (record { name = []; kind = Wire; drivers = [] }) (omega (arith, graph_long N))) m)))
    (cases_lt r (length N.nets))

-- net q drives net r
pub record IsHeard (N : NetGraph) (q r : ℕ) : Type 0 where
  pub first : q < length N.nets
  pub second : r < length N.nets
  pub hears : Hears N (net_name N r) (net_name N q)

module _ (N : NetGraph) (early : fault_before_loops N ≡ None) (graph : IsNetGraph N) where
  heard_by : (q r : ℕ) (o : Option Shape) → r < length N.nets → driving (net_name N r) (shapes N) ≡ o → Contains (map (net_number N) (heard o)) q → IsHeard N q r
  heard_by q r None l e m = absurd (Contains-nil q m)
  heard_by q r (Some c) l e m =
      let (d, a, same) = Contains-map_from (net_number N) (data_now c.form c.ins) q m in
      let (there, drives) = driving_from N (net_name N r) c e in
      let (low, named) = number_of N graph d (in_known N early graph c d there (data_in c d a)) in
      record {
        first = subst (λ k. k < length N.nets) (sym same) low;
        second = l;
        hears = record { cell = c; there = there; drives = drives; hears = subst (Contains (data_now c.form c.ins)) (sym (ap (net_name N) same ∙ named)) a };
      }

  pub passes_heard : (q r : ℕ) → Contains (resource_at (mux_graph N) r).drivers q → IsHeard N q r
  passes_heard q r m =
      let l = net_within N q r m in
      heard_by q r (driving (net_name N r) (shapes N)) l refl (subst (λ ds. Contains ds q) (drivers_at N r l) m)

  pub heard_passes : (q r : ℕ) → IsHeard N q r → Passes (mux_graph N) q r
  heard_passes q r h =
      let c = h.hears.cell in
      let found : driving (net_name N r) (shapes N) ≡ Some c = driving_only N early graph c (net_name N r) h.hears.there h.hears.drives in
      let one : Contains (map (net_number N) (data_now c.form c.ins)) (net_number N (net_name N q)) = Contains-map (net_number N) (data_now c.form c.ins) (net_name N q) h.hears.hears in
      let two : Contains (drivers_of N r) q =
      subst₂ (λ o k. Contains (map (net_number N) (heard o)) k) (sym found) (number_is N graph q h.first) one in
      record { driver = subst (λ ds. Contains ds q) (sym (drivers_at N r h.second)) two; at_once = wire_at N r }

  -- the net of a mux and one that it hears, by their numbers
  pub hears_heard : (q d : List ℕ) → Hears N q d → IsHeard N (net_number N d) (net_number N q)
  hears_heard q d h =
      let known : Contains (names N.nets) q = subst (Contains (names N.nets)) h.drives (q_known N early graph h.cell h.there) in
      let a = number_of N graph q known in
      let b = number_of N graph d (in_known N early graph h.cell d h.there (data_in h.cell d h.hears)) in
      record { first = b.0; second = a.0; hears = subst₂ (Hears N) (sym a.1) (sym b.1) h }

  pub hears_passes : (q d : List ℕ) → Hears N q d → Passes (mux_graph N) (net_number N d) (net_number N q)
  hears_passes q d h = heard_passes (net_number N d) (net_number N q) (hears_heard q d h)

  pub are_known : AreKnown (mux_graph N)
  are_known q r m = let low = (passes_heard q r m).first in let long = graph_long N in omega arith

  -- ---- loops

  pub loop_rings : (loop : List ℕ) → IsCombinationalLoop (mux_graph N) loop → IsMuxLoop N (turned loop)
  loop_rings loop is =
      let long = graph_long N in
      let ring : IsRing (IsHeard N) loop =
      record {
        some = is.some;
        once = is.once;
        links = λ k l. passes_heard (slice_index loop k) (slice_index loop (k + 1)) (is.links k l).driver;
        closed = passes_heard (slice_index loop (length loop - 1)) (slice_index loop 0) is.closed.driver;
        least = is.least;
      } in
      let back = turned_ring (IsHeard N) loop ring in
      record {
        some = back.some;
        known = λ k l.
            let (p, a) = turned_at loop k (omega (arith, turned_long loop)) in
            let low = is.known p a.within in
            let same = a.at in
            omega arith;
        once = back.once;
        links = λ k l. (back.links k l).hears;
        closed = back.closed.hears;
        least = back.least;
      }

  pub ring_loops : (loop : List ℕ) → IsMuxLoop N loop → IsCombinationalLoop (mux_graph N) (turned loop)
  ring_loops loop is =
      let long = graph_long N in
      let some : 0 < length loop = is.some in
      let ring : IsRing (λ a b. IsHeard N b a) loop =
      record {
        some = is.some;
        once = is.once;
        links = λ k l. record { first = is.known (k + 1) l; second = is.known k (omega arith); hears = is.links k l };
        closed = record { first = is.known 0 some; second = is.known (length loop - 1) (omega arith); hears = is.closed };
        least = is.least;
      } in
      let back = turned_ring (λ a b. IsHeard N b a) loop ring in
      record {
        some = back.some;
        known = λ k l.
            let (p, a) = turned_at loop k (omega (arith, turned_long loop)) in
            let low = is.known p a.within in
            let same = a.at in
            omega arith;
        once = back.once;
        links = λ k l. heard_passes (slice_index (turned loop) k) (slice_index (turned loop) (k + 1)) (back.links k l);
        closed = heard_passes (slice_index (turned loop) (length (turned loop) - 1)) (slice_index (turned loop) 0) back.closed;
        least = back.least;
      }

  -- ---- levels

  pub has_order : HasNoMuxLoop N → (order : List ℕ) × IsTopological (mux_graph N) order
  has_order none = ⊎_elim (λ o. o) (λ l. absurd (none (turned l.0) (loop_rings l.0 l.1))) (order_or_loop (mux_graph N) are_known)

  pub no_ring : (order : List ℕ) → IsTopological (mux_graph N) order → HasNoMuxLoop N
  no_ring order o loop l = order_no_loop (mux_graph N) order (turned loop) o (ring_loops loop l)

-- levels of nets, which rise from each net to those whose mux hears it
pub record IsRank (N : NetGraph) (rank : List ℕ → ℕ) : Type 0 where
  pub low : (net : List ℕ) → Contains (names N.nets) net → rank net < length N.nets
  pub rising : (q d : List ℕ) → Hears N q d → rank d < rank q

pub has_rank : (N : NetGraph) → fault_before_loops N ≡ None → IsNetGraph N → HasNoMuxLoop N → (rank : List ℕ → ℕ) × IsRank N rank
has_rank N early graph none =
    let (order, o) = has_order N early graph none in
    let up = order_levels (mux_graph N) order o in
    let long = graph_long N in (
      λ net. place_of order (net_number N net),
      record {
        low = λ net m. let within = (number_of N graph net m).0 in let low = up.levels (net_number N net) (omega arith) in omega arith;
        rising = λ q d h. up.rising (net_number N d) (net_number N q) (hears_passes N early graph q d h);
      },
    )
