-- The parts of cells as they are meant.
use Rattle.std.proofs.Common.{◌≡◌, ℕ, ◌+◌, ◌-◌, ◌<◌, ◌≤◌, List, [], length, map, take, drop, get_or, refl, ap, sym, ◌∙◌, arith}
use Rattle.std.proofs.lemmas.List.{drop-map, length-map, get_or-map, nil_from_length, take-map}
use Rattle.std.specs.Prelude.{slice_range}
use Rattle.cg_netlist.specs.declared.forms.Form.{Form}
use Rattle.cg_netlist.specs.declared.forms.Form.TheVariants.{Mux as MuxForm}
use Rattle.cg_netlist.specs.declared.parts.Pin.{Pin}
use Rattle.cg_netlist.specs.declared.parts.Cell.{Cell}
use Rattle.cg_gates.specs.Shape.{shape_of, nets_of_pins, clock_count, form_said}
use Rattle.cg_gates.specs.Accepts.{data_now}

-- a cell without pins drives no net
pub none_driven : (c : Cell) → length c.pins ≡ 0 → [] ≡ (shape_of c).q
unfolding shape_of
none_driven c e =
    let same = nil_from_length c.pins e in
    sym (ap (λ ps. get_or (map (λ (p : Pin). p.net) ps) (length (map (λ (p : Pin). p.net) ps) - 1) []) same)

-- another the net of its last pin
pub last_driven : (c : Cell) (p : Pin) → 0 < length c.pins → p ≡ get_or c.pins (length c.pins - 1) p → p.net ≡ (shape_of c).q
unfolding shape_of
last_driven c p some is =
    let long = length-map c.pins (λ (x : Pin). x.net) in
    ap (λ (x : Pin). x.net) is
    ∙ sym (get_or-map (λ (x : Pin). x.net) c.pins (length c.pins - 1) p [] (omega arith))
    ∙ ap (λ n. get_or (nets_of_pins c) (n - 1) []) (sym long)

-- ---- the pins between those of the clock and the reset and the last

abbrev nets : List Pin → List (List ℕ)
nets pins = map (λ (p : Pin). p.net) pins

pub ins_between : (c : Cell) (k : ℕ) (pins : List Pin) → k ≡ clock_count (form_said c) → k + 1 ≤ length c.pins → pins ≡ slice_range c.pins k (length c.pins - 1) → map (λ (p : Pin). p.net) pins ≡ (shape_of c).ins
unfolding shape_of
ins_between c k pins count some is =
    let long = length-map c.pins (λ (p : Pin). p.net) in
    ap nets is
    ∙ sym (take-map (λ (p : Pin). p.net) (length c.pins - 1 - k) (drop k c.pins))
    ∙ ap (take (length c.pins - 1 - k)) (sym (drop-map (λ (p : Pin). p.net) k c.pins))
    ∙ ap (λ n. take (n - 1 - k) (drop k (nets_of_pins c))) (sym long)
    ∙ ap (λ n. slice_range (nets_of_pins c) n (length (nets_of_pins c) - 1)) count

pub no_ins : (c : Cell) → length c.pins < clock_count (form_said c) + 1 → [] ≡ (shape_of c).ins
unfolding shape_of
no_ins c few =
    let long = length-map c.pins (λ (p : Pin). p.net) in
    let none : length (nets_of_pins c) - 1 - clock_count (form_said c) ≡ 0 = omega arith in
    sym (ap (λ n. take n (drop (clock_count (form_said c)) (nets_of_pins c))) none)

pub form_of_shape : (c : Cell) → (shape_of c).form ≡ form_said c
unfolding shape_of
form_of_shape c = refl

-- ---- those that a mux chooses among in the same cycle

data_by : (c : Cell) (f : Form) (nets : List (List ℕ)) → f ≡ form_said c → nets ≡ data_now f (shape_of c).ins → nets ≡ data_now (shape_of c).form (shape_of c).ins
data_by c f nets is e = e ∙ ap (λ g. data_now g (shape_of c).ins) (is ∙ sym (form_of_shape c))

pub data_of_mux : (c : Cell) (k : ℕ) (ins pins : List Pin) → MuxForm k ≡ form_said c → map (λ (p : Pin). p.net) ins ≡ (shape_of c).ins → pins ≡ drop 1 ins → map (λ (p : Pin). p.net) pins ≡ data_now (shape_of c).form (shape_of c).ins
data_of_mux c k ins pins is all rest =
    data_by c (MuxForm k) (nets pins) is (ap nets rest ∙ sym (drop-map (λ (p : Pin). p.net) 1 ins) ∙ ap (drop 1) all)

pub data_of_none : (c : Cell) (f : Form) → f ≡ form_said c → data_now f (shape_of c).ins ≡ [] → [] ≡ data_now (shape_of c).form (shape_of c).ins
data_of_none c f is none = data_by c f [] is (sym none)

pub name_of_shape : (c : Cell) → (shape_of c).name ≡ c.name
unfolding shape_of
name_of_shape c = refl
