-- Bytes don't both spell a graph and have a fault, and they have one fault alone.
use Rattle.std.proofs.Common.{◌≡◌, ◌≢◌, ℕ, ⊎_elim, List, [], ◌∷◌, ◌++◌, length, Some, None, refl, ap, sym, ◌∙◌, subst}
use Rattle.std.specs.Prelude.{All}
use Rattle.std.proofs.lemmas.Bool.{cases_order}
use Rattle.cg_tokens.specs.Faults.{Begins, Ends, FaultIn}
use Rattle.cg_tokens.specs.Tokens.{Placed, texts, place_of}
use Rattle.cg_tokens.proofs.Bytes.{no_text}
use Rattle.cg_verilog.specs.Module.{IsText}
use Rattle.cg_verilog.proofs.Unique.{one_module}
use Rattle.cg_netlist_reader.specs.declared.fault.VerilogFault.{VerilogFault}
use Rattle.cg_netlist_reader.specs.declared.fault.VerilogFault.TheVariants as faults
use Rattle.cg_netlist.specs.declared.parts.Cell.{Cell}
use Rattle.cg_netlist.specs.Netlist.{NetGraph}
use Rattle.cg_netlist.specs.Graph.{IsNetGraph}
use Rattle.cg_netlist.specs.Text.{module_of}
use Rattle.cg_netlist_reader.specs.Reading.{Spells, IsFormed, IsUnknownCell, unknown_net, IsFault}
use Rattle.cg_netlist_reader.proofs.Checked.{graph_formed, graph_known, same_graph}

-- ---- one place

-- behind a first token
later_ends : (P : List (List ℕ) → Type 0) (t : List ℕ) (front rest : List (List ℕ)) → Ends P (t ∷ front) rest → Ends (λ ts. P (t ∷ ts)) front rest
later_ends P t front [] h = h
later_ends P t front (x ∷ rest) h = h

-- tokens are cut in one way before the first that no file goes on with
one_cut : (P : List (List ℕ) → Type 0) (front other rest last : List Placed) → front ++ rest ≡ other ++ last → Begins P (texts front) → Ends P (texts front) (texts rest)
    → Begins P (texts other) → Ends P (texts other) (texts last) → rest ≡ last
one_cut P [] [] rest last e b a c d = e
one_cut P [] (t ∷ other) rest last e b a c d =
    let Q : List Placed → Type 0 = λ ts. Ends P [] (texts ts) in
    let ends : Q (t ∷ (other ++ last)) = subst Q e a in
    absurd (ends (texts other ++ c.0, c.1))
one_cut P (t ∷ front) [] rest last e b a c d =
    let Q : List Placed → Type 0 = λ ts. Ends P [] (texts ts) in
    let ends : Q (t ∷ (front ++ rest)) = subst Q (sym e) d in
    absurd (ends (texts front ++ b.0, b.1))
one_cut P (t ∷ front) (u ∷ other) rest last e b a c d =
    let head : t ≡ u = cc in
    let tail : front ++ rest ≡ other ++ last = cc in
    let R : Placed → Type 0 = λ x. Begins P (x.text ∷ texts other) in
    let S : Placed → Type 0 = λ x. Ends P (x.text ∷ texts other) (texts last) in
    one_cut (λ ts. P (t.text ∷ ts)) front other rest last tail b (later_ends P t.text (texts front) (texts rest) a)
    (subst R (sym head) c) (later_ends P t.text (texts other) (texts last) (subst S (sym head) d))

one_place : (bytes : List ℕ) (p q : ℕ) → FaultIn None IsText bytes p → FaultIn None IsText bytes q → p ≡ q
one_place bytes p q h k = h.at ∙ ap (place_of (length bytes)) (one_cut IsText h.front k.front h.rest k.rest (sym h.whole ∙ k.whole) h.before h.after k.before k.after) ∙ sym k.at

-- ---- one graph

-- the bytes spell one graph
pub one_graph : (bytes : List ℕ) (G H : NetGraph) → Spells bytes G → Spells bytes H → G ≡ H
one_graph bytes G H g h = same_graph G H g.valid h.valid (one_module (module_of G) (module_of H) g.valid h.valid (sym g.tokens ∙ h.tokens))

-- and none where no text goes on so
spells_none : (bytes : List ℕ) (place : ℕ) (G : NetGraph) → FaultIn None IsText bytes place → Spells bytes G → ⊥
spells_none bytes place G f g = no_text IsText bytes place f (module_of G, g.valid, g.tokens)

-- ---- one cell

no_cell : Cell
no_cell = record { «module» = []; name = []; pins = [] }

one_cell : (cells : List Cell) (i j : ℕ) → IsUnknownCell cells i → IsUnknownCell cells j → i ≡ j
one_cell cells i j h k =
    ⊎_elim (λ e. e)
    (λ apart. ⊎_elim (λ l. absurd (h.there no_cell (k.before i no_cell l))) (λ l. absurd (k.there no_cell (h.before j no_cell l))) apart)
    (cases_order i j)

-- where all cells are of forms, there is none
not_formed : (cells : List Cell) (i : ℕ) → IsUnknownCell cells i → All IsFormed cells → ⊥
not_formed cells i h formed = h.there no_cell (formed i no_cell h.within)

-- ---- a graph, or a fault

pub not_both : (bytes : List ℕ) (G : NetGraph) (e : VerilogFault) → IsNetGraph G → Spells bytes G → e ≢ faults.Memory → IsFault e bytes → ⊥
not_both bytes G faults.Memory graph g other f = other refl
not_both bytes G (faults.Text place) graph g other f = spells_none bytes place G f g
not_both bytes G (faults.UnknownCell i) graph g other f =
    let same : G ≡ f.0 = one_graph bytes G f.0 g f.1 in
    not_formed f.0.cells i f.2 (subst (λ (K : NetGraph). All IsFormed K.cells) same (graph_formed G graph))
not_both bytes G (faults.UnknownNet name) graph g other f =
    let same : f.0 ≡ G = one_graph bytes f.0 G f.1 g in
    let none : unknown_net f.0 ≡ None = ap unknown_net same ∙ graph_known G graph in
    let bad : Some name ≡ None = sym f.3 ∙ none in
    cc

-- ---- one fault

of_text : (bytes : List ℕ) (p : ℕ) (f : VerilogFault) → f ≢ faults.Memory → IsFault (faults.Text p) bytes → IsFault f bytes → faults.Text p ≡ f
of_text bytes p faults.Memory other h k = absurd (other refl)
of_text bytes p (faults.Text q) other h k = ap faults.Text (one_place bytes p q h k)
of_text bytes p (faults.UnknownCell j) other h k = absurd (spells_none bytes p k.0 h k.1)
of_text bytes p (faults.UnknownNet name) other h k = absurd (spells_none bytes p k.0 h k.1)

of_cell : (bytes : List ℕ) (i : ℕ) (f : VerilogFault) → f ≢ faults.Memory → IsFault (faults.UnknownCell i) bytes → IsFault f bytes → faults.UnknownCell i ≡ f
of_cell bytes i faults.Memory other h k = absurd (other refl)
of_cell bytes i (faults.Text q) other h k = absurd (spells_none bytes q h.0 k h.1)
of_cell bytes i (faults.UnknownCell j) other h k =
    ap faults.UnknownCell (one_cell h.0.cells i j h.2 (subst (λ (K : NetGraph). IsUnknownCell K.cells j) (one_graph bytes k.0 h.0 k.1 h.1) k.2))
of_cell bytes i (faults.UnknownNet name) other h k = absurd (not_formed h.0.cells i h.2 (subst (λ (K : NetGraph). All IsFormed K.cells) (one_graph bytes k.0 h.0 k.1 h.1) k.2))

of_net : (bytes : List ℕ) (name : List ℕ) (f : VerilogFault) → f ≢ faults.Memory → IsFault (faults.UnknownNet name) bytes → IsFault f bytes → faults.UnknownNet name ≡ f
of_net bytes name faults.Memory other h k = absurd (other refl)
of_net bytes name (faults.Text q) other h k = absurd (spells_none bytes q h.0 k h.1)
of_net bytes name (faults.UnknownCell j) other h k = absurd (not_formed k.0.cells j k.2 (subst (λ (K : NetGraph). All IsFormed K.cells) (one_graph bytes h.0 k.0 h.1 k.1) h.2))
of_net bytes name (faults.UnknownNet n) other h k =
    let both : Some name ≡ Some n = sym h.3 ∙ ap unknown_net (one_graph bytes h.0 k.0 h.1 k.1) ∙ k.3 in
    let same : name ≡ n = cc in
    ap faults.UnknownNet same

-- two faults that the bytes have are one
pub one_fault : (bytes : List ℕ) (e f : VerilogFault) → e ≢ faults.Memory → f ≢ faults.Memory → IsFault e bytes → IsFault f bytes → e ≡ f
one_fault bytes faults.Memory f some other h k = absurd (some refl)
one_fault bytes (faults.Text p) f some other h k = of_text bytes p f other h k
one_fault bytes (faults.UnknownCell i) f some other h k = of_cell bytes i f other h k
one_fault bytes (faults.UnknownNet name) f some other h k = of_net bytes name f other h k
