-- The printed text is cut into the tokens of the module.
use Rattle.std.proofs.Common.{◌≡◌, ◌<◌, ◌-◌, ◌∷◌, ◌++◌, [], true, false, None, List, ℕ, codes, refl, sym, ◌∙◌, ap, append_assoc, arith}
use Rattle.std.specs.Prelude.{Result, decimal}
use Rattle.std.specs.List.{flat_map, AllByRecursion}
use Rattle.std.specs.Char.{is_ascii_digit}
use Rattle.cg_tokens.specs.Tokens.{is_letter, tokens_from, tokens_of, texts}
use Rattle.cg_tokens.proofs.Cuts.{place_free, word_cut, number_cut, mark_cut}
use Rattle.cg_verilog.specs.declared.module.Module.{Module}
use Rattle.cg_verilog.specs.declared.fault.ModuleFault.{ModuleFault}
use Rattle.cg_verilog.specs.Words.{is_word, is_name, is_name_byte}
use Rattle.cg_verilog.specs.Module.{PinText, CellText, WireText, ModuleText, IsPin, IsCell, IsWire, IsModule, pin_tokens, further_pin, cell_tokens, wire_tokens, lines_tokens, header, module_tokens}
use Rattle.cg_verilog.specs.Printed.{pin_text, further_pin_text, wire_text, cell_text, header_text, module_text}
use Rattle.cg_verilog.specs.Read.{Gives}
use Rattle.cg_verilog.specs.Laws.{IsPrinted, AreOneInPrint, AreWritten}
use Rattle.cg_verilog.proofs.Numbers.{both, decimal_parts}
use Rattle.cg_verilog.proofs.Unique.{one_module}

abbrev cut : List ℕ → List (List ℕ)
cut bytes = texts (tokens_of None bytes)

-- a name up to a byte that it does not go on with
word_at : (t : List ℕ) (c : ℕ) (rest : List ℕ) (place : ℕ) → is_word t ≡ true → is_name_byte c ≡ false → texts (tokens_from None 0 place (t ++ c ∷ rest)) ≡ t ∷ cut (c ∷ rest)
word_at [] c rest place h stop = cc
word_at (b ∷ more) c rest place h stop = let q = both (is_letter b) _ h in word_cut None b more c rest place refl q.0 q.1 stop

name_cut : (t : List ℕ) (c : ℕ) (rest : List ℕ) (place : ℕ) → is_name t ≡ true → is_name_byte c ≡ false → texts (tokens_from None 0 place (t ++ c ∷ rest)) ≡ t ∷ cut (c ∷ rest)
name_cut t c rest place h stop = word_at t c rest place (both (is_word t) _ h).0 stop

decimal_cut : (n c : ℕ) (rest : List ℕ) (place : ℕ) → n < 32 → is_ascii_digit c ≡ false → texts (tokens_from None 0 place (decimal n ++ c ∷ rest)) ≡ decimal n ∷ cut (c ∷ rest)
decimal_cut n c rest place lt stop =
    let d = decimal_parts n lt in
    ap (λ x. texts (tokens_from None 0 place (x ++ c ∷ rest))) d.whole
    ∙ number_cut None d.first d.more c rest place refl d.other d.digit d.digits stop
    ∙ ap (λ x. x ∷ cut (c ∷ rest)) (sym d.whole)

wire_cut : (w : WireText) (rest : List ℕ) → IsWire w → cut (wire_text w ++ rest) ≡ wire_tokens w ++ cut rest
wire_cut w rest h =
    let some = h.some in
    let most = h.most in
    let small : w.width - 1 < 32 = omega arith in
    let digits = decimal (w.width - 1) in
    let end = 10 ∷ rest in
    let middle = codes "0] " ++ (w.name ++ 59 ∷ end) in
    let parts : wire_text w ++ rest ≡ codes "  wire [" ++ (digits ++ 58 ∷ middle) = simp append_assoc in
    ap cut parts
    ∙ ap (λ x. codes "wire" ∷ x) (mark_cut None 91 (digits ++ 58 ∷ middle) 7 refl refl refl refl)
    ∙ ap (λ x. codes "wire" ∷ codes "[" ∷ x) (decimal_cut (w.width - 1) 58 middle 0 small refl)
    ∙ ap (λ x. codes "wire" ∷ codes "[" ∷ digits ∷ codes ":" ∷ codes "0" ∷ codes "]" ∷ x) (name_cut w.name 59 end 4 h.name refl)
    ∙ ap (λ x. codes "wire" ∷ codes "[" ∷ digits ∷ codes ":" ∷ codes "0" ∷ codes "]" ∷ w.name ∷ codes ";" ∷ x) (place_free None 0 2 0 rest)

pin_cut : (p : PinText) (rest : List ℕ) (place : ℕ) → IsPin p → texts (tokens_from None 0 place (pin_text p ++ rest)) ≡ pin_tokens p ++ cut rest
pin_cut p rest place h =
    let end = p.net ++ 41 ∷ rest in
    let parts : pin_text p ++ rest ≡ codes "." ++ (p.port ++ 40 ∷ end) = simp append_assoc in
    ap (λ x. texts (tokens_from None 0 place x)) parts
    ∙ mark_cut None 46 (p.port ++ 40 ∷ end) place refl refl refl refl
    ∙ ap (λ x. codes "." ∷ x) (name_cut p.port 40 end 0 h.port refl)
    ∙ ap (λ x. codes "." ∷ p.port ∷ x) (mark_cut None 40 end 0 refl refl refl refl)
    ∙ ap (λ x. codes "." ∷ p.port ∷ codes "(" ∷ x) (name_cut p.net 41 rest 0 h.net refl)
    ∙ ap (λ x. codes "." ∷ p.port ∷ codes "(" ∷ p.net ∷ x) (mark_cut None 41 rest 0 refl refl refl refl)

pins_cut : (ps : List PinText) (rest : List ℕ) → AllByRecursion IsPin ps → cut (flat_map further_pin_text ps ++ rest) ≡ flat_map further_pin ps ++ cut rest
pins_cut [] rest h = refl
pins_cut (p ∷ ps) rest h =
    ap cut (append_assoc (further_pin_text p) (flat_map further_pin_text ps) rest)
    ∙ ap (λ x. codes "," ∷ x) (pin_cut p (flat_map further_pin_text ps ++ rest) 2 h.0)
    ∙ ap (λ x. further_pin p ++ x) (pins_cut ps rest h.1)
    ∙ sym (append_assoc (further_pin p) (flat_map further_pin ps) (cut rest))

-- nine texts one after another
nine : (a b c d e f g h i r : List ℕ) → (a ++ b ++ c ++ d ++ e ++ f ++ g ++ h ++ i) ++ r ≡ a ++ (b ++ (c ++ (d ++ (e ++ (f ++ (g ++ (h ++ (i ++ r))))))))
nine a b c d e f g h i r =
    append_assoc (a ++ b ++ c ++ d ++ e ++ f ++ g ++ h) i r
    ∙ append_assoc (a ++ b ++ c ++ d ++ e ++ f ++ g) h (i ++ r)
    ∙ append_assoc (a ++ b ++ c ++ d ++ e ++ f) g (h ++ (i ++ r))
    ∙ append_assoc (a ++ b ++ c ++ d ++ e) f (g ++ (h ++ (i ++ r)))
    ∙ append_assoc (a ++ b ++ c ++ d) e (f ++ (g ++ (h ++ (i ++ r))))
    ∙ append_assoc (a ++ b ++ c) d (e ++ (f ++ (g ++ (h ++ (i ++ r)))))
    ∙ append_assoc (a ++ b) c (d ++ (e ++ (f ++ (g ++ (h ++ (i ++ r))))))
    ∙ append_assoc a b (c ++ (d ++ (e ++ (f ++ (g ++ (h ++ (i ++ r)))))))

cell_cut : (c : CellText) (rest : List ℕ) → IsCell c → cut (cell_text c ++ rest) ≡ cell_tokens c ++ cut rest
cell_cut c rest h =
    let end = codes ");" ++ (10 ∷ rest) in
    let further = flat_map further_pin_text c.rest ++ end in
    let pins = pin_text c.first ++ further in
    ap cut (nine (codes "  ") c.form (codes " ") c.name (codes " (") (pin_text c.first) (flat_map further_pin_text c.rest) (codes ");") (10 ∷ []) rest)
    ∙ name_cut c.form 32 (c.name ++ 32 ∷ 40 ∷ pins) 2 h.form refl
    ∙ ap (λ x. c.form ∷ x) (name_cut c.name 32 (40 ∷ pins) 1 h.name refl)
    ∙ ap (λ x. c.form ∷ c.name ∷ codes "(" ∷ x) (pin_cut c.first further 2 h.first)
    ∙ ap (λ x. c.form ∷ c.name ∷ codes "(" ∷ (pin_tokens c.first ++ x)) (pins_cut c.rest end h.rest)
    ∙ ap (λ x. c.form ∷ c.name ∷ codes "(" ∷ (pin_tokens c.first ++ (flat_map further_pin c.rest ++ (codes ")" ∷ codes ";" ∷ x)))) (place_free None 0 3 0 rest)
    ∙ ap (λ (x : List (List ℕ)). c.form ∷ c.name ∷ codes "(" ∷ (pin_tokens c.first ++ x)) (sym (append_assoc (flat_map further_pin c.rest) (codes ")" ∷ codes ";" ∷ []) (cut rest)))

wires_cut : (ws : List WireText) (rest : List ℕ) → AllByRecursion IsWire ws → cut (flat_map wire_text ws ++ rest) ≡ flat_map wire_tokens ws ++ cut rest
wires_cut [] rest h = refl
wires_cut (w ∷ ws) rest h =
    ap cut (append_assoc (wire_text w) (flat_map wire_text ws) rest)
    ∙ wire_cut w (flat_map wire_text ws ++ rest) h.0
    ∙ ap (λ x. wire_tokens w ++ x) (wires_cut ws rest h.1)
    ∙ sym (append_assoc (wire_tokens w) (flat_map wire_tokens ws) (cut rest))

cells_cut : (cs : List CellText) (rest : List ℕ) → AllByRecursion IsCell cs → cut (flat_map cell_text cs ++ rest) ≡ flat_map cell_tokens cs ++ cut rest
cells_cut [] rest h = refl
cells_cut (c ∷ cs) rest h =
    ap cut (append_assoc (cell_text c) (flat_map cell_text cs) rest)
    ∙ cell_cut c (flat_map cell_text cs ++ rest) h.0
    ∙ ap (λ x. cell_tokens c ++ x) (cells_cut cs rest h.1)
    ∙ sym (append_assoc (cell_tokens c) (flat_map cell_tokens cs) (cut rest))

lines_cut : (m : ModuleText) → IsModule m → cut (flat_map wire_text m.wires ++ (flat_map cell_text m.cells ++ (codes "endmodule" ++ 10 ∷ []))) ≡ lines_tokens m
lines_cut m h =
    wires_cut m.wires (flat_map cell_text m.cells ++ (codes "endmodule" ++ 10 ∷ [])) h.wires
    ∙ ap (λ x. flat_map wire_tokens m.wires ++ x) (cells_cut m.cells (codes "endmodule" ++ 10 ∷ []) h.cells)

pub printed : IsPrinted
printed m h =
    let lines = flat_map wire_text m.wires ++ (flat_map cell_text m.cells ++ (codes "endmodule" ++ 10 ∷ [])) in
    let parts : module_text m ≡ header_text ++ lines = simp append_assoc in
    ap cut parts ∙ ap (λ (x : List (List ℕ)). header ++ x) (place_free None 0 56 0 lines ∙ lines_cut m h)

pub one_in_print : AreOneInPrint
one_in_print m n h k e = one_module m n h k (sym (printed m h) ∙ ap (λ x. texts (tokens_of None x)) e ∙ printed n k)

pub printed_of : (bytes : List ℕ) (r : Result Module ModuleFault) → ((m : ModuleText) → IsModule m → texts (tokens_of None bytes) ≡ module_tokens m → Gives m r)
    → (m : ModuleText) → IsModule m → bytes ≡ module_text m → Gives m r
printed_of bytes r only m h e = only m h (ap (λ x. texts (tokens_of None x)) e ∙ printed m h)

pub written : AreWritten
written tokens p = (module_text p.0, printed p.0 p.1 ∙ sym p.2)
