-- The lines of a text, by their parts.
use Rattle.std.proofs.Common.{◌≡◌, ℕ, ◌-◌, ◌<◌, List, [], ◌∷◌, ◌++◌, length, map, refl, ap, sym, ◌∙◌, append_assoc, subst, get_or, arith}
use Rattle.std.specs.Prelude.{All, codes, decimal}
use Rattle.std.specs.List.{flat_map}
use Rattle.cg_verilog.specs.Printed.{line, header_text, wire_text, pin_text, further_pin_text, cell_text, module_text}
use Rattle.cg_netlist.specs.Netlist.{Pin, Cell, NetGraph}
use Rattle.cg_netlist.specs.Text.{wire_of, pin_of, cell_of, cell_with, module_of, net_line, cell_line, head_text, pins_text, first_text, further_text}

pub wire_line : (width : ℕ) (name : List ℕ) → codes "  wire [" ++ (decimal (width - 1) ++ (codes ":0] " ++ (name ++ codes ";\n"))) ≡ wire_text (record { width = width; name = name })
wire_line width name = simp append_assoc

pub pin_word : (port net : List ℕ) → codes "." ++ (port ++ (codes "(" ++ (net ++ codes ")"))) ≡ pin_text (record { port = port; net = net })
pin_word port net = simp append_assoc

pub flat_map-map : {X Y : Type 0} (f : Y → List ℕ) (g : X → Y) (xs : List X) → flat_map f (map g xs) ≡ flat_map (λ x. f (g x)) xs
flat_map-map f g [] = refl
flat_map-map f g (x ∷ xs) = ap (λ t. f (g x) ++ t) (flat_map-map f g xs)

parts : (form name first rest : List ℕ) → line (codes "  " ++ form ++ codes " " ++ name ++ codes " (" ++ first ++ rest ++ codes ");") ≡ (codes "  " ++ (form ++ (codes " " ++ (name ++ codes " (")))) ++ ((first ++ rest) ++ codes ");\n")
parts form name first rest = simp append_assoc

-- a cell's line is its head, its pins and the end
cell_parts : (c : Cell) (pins : List Pin) → 0 < length pins
    → cell_text (cell_with c pins) ≡ head_text c.«module» c.name ++ (pins_text pins ++ codes ");\n")
cell_parts c [] some = absurd (omega arith)
cell_parts c (p ∷ ps) some =
    ap (λ rest. line (codes "  " ++ c.«module» ++ codes " " ++ c.name ++ codes " (" ++ first_text p ++ rest ++ codes ");")) (flat_map-map further_pin_text pin_of ps)
    ∙ parts c.«module» c.name (first_text p) (flat_map further_text ps)

pub cell_is : (c : Cell) → 0 < length c.pins → cell_line c ≡ head_text c.«module» c.name ++ (pins_text c.pins ++ codes ");\n")
cell_is c some = cell_parts c c.pins some

-- what is printed of a cell, part after part
pub pushed_cell : (c : Cell) (old a b d : List ℕ) → 0 < length c.pins → a ≡ old ++ head_text c.«module» c.name → b ≡ a ++ pins_text c.pins → d ≡ b ++ codes ");\n" → d ≡ old ++ cell_line c
pushed_cell c old a b d some head pins end =
    end ∙ ap (λ t. t ++ codes ");\n") (pins ∙ ap (λ t. t ++ pins_text c.pins) head)
    ∙ regroup old (head_text c.«module» c.name) (pins_text c.pins) (codes ");\n")
    ∙ ap (λ t. old ++ t) (sym (cell_is c some))
  where
    regroup : (o h p e : List ℕ) → ((o ++ h) ++ p) ++ e ≡ o ++ (h ++ (p ++ e))
    regroup o h p e = simp append_assoc

-- and of a graph
pub whole : (G : NetGraph) (a b c d : List ℕ) → a ≡ header_text → b ≡ a ++ flat_map net_line G.nets → c ≡ b ++ flat_map cell_line G.cells → d ≡ c ++ codes "endmodule\n" → d ≡ module_text (module_of G)
whole G a b c d head nets cells end =
    end
    ∙ ap (λ t. t ++ codes "endmodule\n") (cells ∙ ap (λ t. t ++ flat_map cell_line G.cells) (nets ∙ ap (λ t. t ++ flat_map net_line G.nets) head))
    ∙ ap (λ t. (header_text ++ t ++ flat_map cell_line G.cells) ++ codes "endmodule\n") (sym (flat_map-map wire_text wire_of G.nets))
    ∙ ap (λ t. (header_text ++ flat_map wire_text (map wire_of G.nets) ++ t) ++ codes "endmodule\n") (sym (flat_map-map cell_text cell_of G.cells))

-- an item of a list, of each item of which something holds
pub of_item : {X : Type 0} (P : X → Type 0) (xs : List X) (i : ℕ) (x : X) → All P xs → x ≡ get_or xs i x → i < length xs → P x
of_item P xs i x all is l = subst P (sym is) (all i x l)
