-- Bytes spell a graph, or have a fault.
use Rattle.std.proofs.Common.{◌≡◌, ◌≢◌, ℕ, zero, suc, ◌-◌, ◌<◌, ◌≤◌, ◌⊎◌, inl, inr, Bool, true, false, List, [], ◌∷◌, ◌++◌, length, drop, get_or, Option, Some, None, Result, Ok, Err, refl, ap, sym, ◌∙◌, arith, length-append, length-drop}
use Rattle.std.specs.Prelude.{All, IsTrue, ◌↔◌, bytes_eq}
use Rattle.std.specs.Cmp.Lexicographic.{pointwise}
use Rattle.std.proofs.lemmas.List.{length-map, drop-map}
use Rattle.std.proofs.lemmas.List.Elements.{All-nil, All-cons}
use Rattle.std.proofs.lemmas.Slice.Eq.{bytes_eq-Decides, slice_eq-Decides}
use Rattle.std.proofs.Math.Seq.{drop-append_seam}
use Rattle.cg_tokens.specs.Faults.{AreLast}
use Rattle.cg_tokens.specs.Table.{run}
use Rattle.cg_tokens.specs.Tokens.{Placed, tokens_of, texts, place_of}
use Rattle.cg_tokens.proofs.Stacks.{accepts, fault}
use Rattle.cg_verilog.specs.Rules as grammar
use Rattle.cg_verilog.proofs.Exact.{table, text_spelled}
use Rattle.cg_verilog.proofs.Whole.{fault_in}
use Rattle.cg_netlist_reader.specs.declared.fault.VerilogFault.{VerilogFault}
use Rattle.cg_netlist_reader.specs.declared.fault.VerilogFault.TheVariants as faults
use Rattle.cg_netlist.specs.declared.forms.Form.{Form}
use Rattle.cg_netlist.specs.declared.parts.Cell.{Cell}
use Rattle.cg_netlist.specs.Forms.{form_ports, form_of}
use Rattle.cg_netlist.specs.Netlist.{NetGraph}
use Rattle.cg_netlist_reader.specs.Reading.{Spells, ports, IsFormed, IsUnknownCell, unknown_net, IsFault, IsAnswer}
use Rattle.cg_netlist_reader.specs.Ported.{graph_taken}
use Rattle.cg_netlist_reader.proofs.Checked.{graph_of, module_back}
use Rattle.cg_netlist_reader.proofs.Shapes.{formed_found, formed_missed}
use Rattle.cg_netlist_reader.proofs.Faults.{spelled}

-- ---- whether cells are of forms

decided : {P : Type 0} (b : Bool) → (IsTrue b ↔ P) → P ⊎ (P → ⊥)
decided true h = inl (h.0 refl)
decided false h = inr (λ p. let bad : false ≡ true = h.1 p in absurd (cc))

formed_by : (c : Cell) (o : Option Form) → form_of c.«module» ≡ o → IsFormed c ⊎ (IsFormed c → ⊥)
formed_by c None e = decided false (formed_missed c e)
formed_by c (Some f) e =
    let same = pointwise bytes_eq (ports c) (form_ports f) in
    decided same (formed_found c f same e (slice_eq-Decides bytes_eq-Decides (ports c) (form_ports f) same refl))

-- all cells are of forms, or one of them is the first that isn't
abbrev AreFormedOrNot : List Cell → Type 0
AreFormedOrNot cells = All IsFormed cells ⊎ ((i : ℕ) × IsUnknownCell cells i)

one_later : (c : Cell) (cells : List Cell) (i : ℕ) → IsFormed c → ((j : ℕ) (d : Cell) → j < i → IsFormed (get_or cells j d)) → (j : ℕ) (d : Cell) → j < suc i → IsFormed (get_or (c ∷ cells) j d)
one_later c cells i own before zero d l = own
one_later c cells i own before (suc j) d l = before j d (omega (arith, l))

one_more : (c : Cell) (cells : List Cell) → IsFormed c ⊎ (IsFormed c → ⊥) → AreFormedOrNot cells → AreFormedOrNot (c ∷ cells)
one_more c cells (inr never) rest = inr (0, record { within = omega arith; before = λ j d l. absurd (omega (arith, l)); there = λ d k. never k })
one_more c cells (inl own) (inl all) = inl (All-cons IsFormed c cells own all)
one_more c cells (inl own) (inr u) = inr (suc u.0, record { within = (let l = u.1.within in omega (arith, l)); before = one_later c cells u.0 own u.1.before; there = u.1.there })

formed_or_not : (cells : List Cell) → AreFormedOrNot cells
formed_or_not [] = inl (All-nil IsFormed)
formed_or_not (c ∷ cells) = one_more c cells (formed_by c (form_of c.«module») refl) (formed_or_not cells)

-- ---- answers

-- an answer of these bytes that isn't out of memory
abbrev pub SomeAnswer : List ℕ → Type 0
SomeAnswer bytes = (r : Result NetGraph VerilogFault) × (r ≢ Err faults.Memory) × IsAnswer bytes r

refused : (bytes : List ℕ) (e : VerilogFault) → e ≢ faults.Memory → IsFault e bytes → SomeAnswer bytes
refused bytes e other is = (Err e, (λ bad. let same : e ≡ faults.Memory = cc in other same), is)

of_nets : (bytes : List ℕ) (G : NetGraph) → Spells bytes G → All IsFormed G.cells → (o : Option (List ℕ)) → unknown_net G ≡ o → SomeAnswer bytes
of_nets bytes G g formed None e = (Ok G, (λ bad. cc), (graph_of G g.valid formed e, g))
of_nets bytes G g formed (Some name) e = refused bytes (faults.UnknownNet name) (λ m. cc) (G, g, formed, e)

of_cells : (bytes : List ℕ) (G : NetGraph) → Spells bytes G → AreFormedOrNot G.cells → SomeAnswer bytes
of_cells bytes G g (inl formed) = of_nets bytes G g formed (unknown_net G) refl
of_cells bytes G g (inr u) = refused bytes (faults.UnknownCell u.0) (λ m. cc) (G, g, u.1)

-- ---- tokens

behind : (n : ℕ) (all : List Placed) → n ≤ length all → AreLast (drop n all) all
behind n all l =
    let left : length (drop n all) ≡ length all - n = length-drop n all in
    let place : length all - length (drop n all) ≡ n = omega (arith, left, l) in
    ap (λ k. drop k all) place

of_run : (bytes : List ℕ) (o : Option (List (List ℕ))) → run grammar.rule grammar.start (texts (tokens_of None bytes)) ≡ o → SomeAnswer bytes
of_run bytes None e =
    let t = text_spelled (texts (tokens_of None bytes)) (accepts grammar.rule grammar.Spells table grammar.start (texts (tokens_of None bytes)) e) in
    let G = graph_taken t.0 in
    of_cells bytes G (spelled bytes t.0 G t.1 t.2 (module_back t.0)) (formed_or_not G.cells)
of_run bytes (Some rest) e =
    let all = tokens_of None bytes in
    let f = fault grammar.rule grammar.Spells table grammar.start (texts all) rest e in
    let last = drop (length f.front) all in
    let same : texts last ≡ rest = sym (drop-map (λ (t : Placed). t.text) (length f.front) all) ∙ ap (drop (length f.front)) f.whole ∙ drop-append_seam f.front rest in
    let many : length (texts all) ≡ length all = length-map all (λ (t : Placed). t.text) in
    let parts : length (texts all) ≡ length (f.front ++ rest) = ap length f.whole in
    let sum = length-append f.front rest in
    refused bytes (faults.Text (place_of (length bytes) last)) (λ m. cc)
    (fault_in bytes last (place_of (length bytes) last) (behind (length f.front) all (omega (arith, many, parts, sum))) (e ∙ ap Some (sym same)) refl)

-- any bytes have an answer
pub some_answer : (bytes : List ℕ) → SomeAnswer bytes
some_answer bytes = of_run bytes (run grammar.rule grammar.start (texts (tokens_of None bytes))) refl
