-- A list of tokens is the text of one module at most.
use Rattle.std.proofs.Common.{◌≡◌, ◌<◌, ◌-◌, arith, ℕ, true, false, None, List, [], ◌∷◌, ◌++◌, codes, refl, sym, ◌∙◌, ap, ap₂, append_assoc}
use Rattle.std.specs.List.{flat_map, AllByRecursion}
use Rattle.cg_tokens.specs.Tokens.{tokens_of, texts}
use Rattle.cg_tokens.proofs.Bytes.{no_text}
use Rattle.cg_verilog.proofs.Numbers.{one_number}
use Rattle.std.specs.Prelude.{decimal, Result, Ok, Err, IfOk, IfErr}
use Rattle.cg_verilog.specs.declared.module.Module.{Module}
use Rattle.cg_verilog.specs.declared.fault.ModuleFault.{ModuleFault}
use Rattle.cg_verilog.specs.declared.fault.ModuleFault.TheVariants as faults
use Rattle.cg_verilog.specs.Read.{module_of, IsFault, Gives}
use Rattle.cg_verilog.specs.Words.{is_name, same}
use Rattle.std.proofs.lemmas.Cmp.{nat_list_eq_equiv}
use Rattle.cg_verilog.specs.Module.{PinText, CellText, WireText, ModuleText, IsCell, IsWire, IsModule, IsText, pin_tokens, further_pin, cell_tokens, wire_tokens, lines_tokens, module_tokens}

one_pin : (p q : PinText) → p.port ≡ q.port → p.net ≡ q.net → p ≡ q
one_pin p q a b = ap₂ (λ x y. record { port = x; net = y }) a b

heads : {t s : List ℕ} {u v : List (List ℕ)} → t ∷ u ≡ s ∷ v → t ≡ s
heads e = cc

tails : {t s : List ℕ} {u v : List (List ℕ)} → t ∷ u ≡ s ∷ v → u ≡ v
tails e = cc

apart : (t s : List ℕ) → same t s ≡ false → t ≡ s → ⊥
apart t s h e =
    let alike : same t s ≡ true = ap (same t) (sym e) ∙ nat_list_eq_equiv.refl t in
    let no_way : true ≡ false = sym alike ∙ h in
    cc

one_pins : (ps qs : List PinText) (u v : List (List ℕ)) → flat_map further_pin ps ++ (codes ")" ∷ u) ≡ flat_map further_pin qs ++ (codes ")" ∷ v) → (ps ≡ qs) × (u ≡ v)
one_pins [] [] u v e = (refl, tails e)
one_pins [] (q ∷ qs) u v e = absurd (apart (codes ")") (codes ",") refl (heads e))
one_pins (p ∷ ps) [] u v e = absurd (apart (codes ",") (codes ")") refl (heads e))
one_pins (p ∷ ps) (q ∷ qs) u v e =
    let rest : flat_map further_pin ps ++ (codes ")" ∷ u) ≡ flat_map further_pin qs ++ (codes ")" ∷ v) = cc in
    let r = one_pins ps qs u v rest in
    let port : p.port ≡ q.port = cc in
    let net : p.net ≡ q.net = cc in
    let same : p ≡ q = one_pin p q port net in
    (ap₂ (λ x y. x ∷ y) same r.0, r.1)

cell_at : (c : CellText) (u : List (List ℕ)) → cell_tokens c ++ u ≡ c.form ∷ c.name ∷ codes "(" ∷ (pin_tokens c.first ++ (flat_map further_pin c.rest ++ (codes ")" ∷ codes ";" ∷ u)))
cell_at c u = ap (λ (x : List (List ℕ)). c.form ∷ c.name ∷ codes "(" ∷ (pin_tokens c.first ++ x)) (append_assoc (flat_map further_pin c.rest) (codes ")" ∷ codes ";" ∷ []) u)

one_cell : (c d : CellText) (u v : List (List ℕ)) → cell_tokens c ++ u ≡ cell_tokens d ++ v → (c ≡ d) × (u ≡ v)
one_cell c d u v e =
    let f = sym (cell_at c u) ∙ e ∙ cell_at d v in
    let rest : flat_map further_pin c.rest ++ (codes ")" ∷ codes ";" ∷ u) ≡ flat_map further_pin d.rest ++ (codes ")" ∷ codes ";" ∷ v) = cc in
    let r = one_pins c.rest d.rest (codes ";" ∷ u) (codes ";" ∷ v) rest in
    let port : c.first.port ≡ d.first.port = cc in
    let net : c.first.net ≡ d.first.net = cc in
    let first : c.first ≡ d.first = one_pin c.first d.first port net in
    let form : c.form ≡ d.form = cc in
    let name : c.name ≡ d.name = cc in
    let both : c ≡ d = λ i. record { form = form i; name = name i; first = first i; rest = r.0 i } in
    let after = r.1 in
    let ends : u ≡ v = cc in
    (both, ends)

not_named : (t w : List ℕ) → is_name t ≡ true → is_name w ≡ false → t ≡ w → ⊥
not_named t w h g e = let same = ap is_name e in cc

one_cells : (cs ds : List CellText) → AllByRecursion IsCell cs → AllByRecursion IsCell ds → flat_map cell_tokens cs ++ (codes "endmodule" ∷ []) ≡ flat_map cell_tokens ds ++ (codes "endmodule" ∷ []) → cs ≡ ds
one_cells [] [] h k e = refl
one_cells [] (d ∷ ds) h k e = let first : d.form ≡ codes "endmodule" = sym (heads e) in absurd (not_named d.form (codes "endmodule") k.0.form refl first)
one_cells (c ∷ cs) [] h k e = let first : c.form ≡ codes "endmodule" = heads e in absurd (not_named c.form (codes "endmodule") h.0.form refl first)
one_cells (c ∷ cs) (d ∷ ds) h k e =
    let r = one_cell c d (flat_map cell_tokens cs ++ (codes "endmodule" ∷ [])) (flat_map cell_tokens ds ++ (codes "endmodule" ∷ [])) (sym (append_assoc (cell_tokens c) (flat_map cell_tokens cs) (codes "endmodule" ∷ [])) ∙ e ∙ append_assoc (cell_tokens d) (flat_map cell_tokens ds) (codes "endmodule" ∷ [])) in
    ap₂ (λ x y. x ∷ y) r.0 (one_cells cs ds h.1 k.1 r.1)

no_wire : (cs : List CellText) (r : List (List ℕ)) → AllByRecursion IsCell cs → flat_map cell_tokens cs ++ (codes "endmodule" ∷ []) ≡ codes "wire" ∷ r → ⊥
no_wire [] r h e = apart (codes "endmodule") (codes "wire") refl (heads e)
no_wire (c ∷ cs) r h e = let first : c.form ≡ codes "wire" = heads e in not_named c.form (codes "wire") h.0.form refl first

one_width : (w v : WireText) → IsWire w → IsWire v → decimal (w.width - 1) ≡ decimal (v.width - 1) → w.width ≡ v.width
one_width w v f g e =
    let a = f.some in let b = f.most in let c = g.some in let d = g.most in
    let first : w.width - 1 < 32 = omega arith in
    let second : v.width - 1 < 32 = omega arith in
    let less : w.width - 1 ≡ v.width - 1 = one_number (w.width - 1) (v.width - 1) first second e in
    omega arith

one_lines : (ws vs : List WireText) (cs ds : List CellText) → AllByRecursion IsWire ws → AllByRecursion IsWire vs → AllByRecursion IsCell cs → AllByRecursion IsCell ds
    → flat_map wire_tokens ws ++ (flat_map cell_tokens cs ++ (codes "endmodule" ∷ [])) ≡ flat_map wire_tokens vs ++ (flat_map cell_tokens ds ++ (codes "endmodule" ∷ [])) → (ws ≡ vs) × (cs ≡ ds)
one_lines [] [] cs ds f g h k e = (refl, one_cells cs ds h k e)
one_lines [] (v ∷ vs) cs ds f g h k e = absurd (no_wire cs _ h e)
one_lines (w ∷ ws) [] cs ds f g h k e = absurd (no_wire ds _ k (sym e))
one_lines (w ∷ ws) (v ∷ vs) cs ds f g h k e =
    let rest : flat_map wire_tokens ws ++ (flat_map cell_tokens cs ++ (codes "endmodule" ∷ [])) ≡ flat_map wire_tokens vs ++ (flat_map cell_tokens ds ++ (codes "endmodule" ∷ [])) = cc in
    let r = one_lines ws vs cs ds f.1 g.1 h k rest in
    let top : decimal (w.width - 1) ≡ decimal (v.width - 1) = cc in
    let width : w.width ≡ v.width = one_width w v f.0 g.0 top in
    let name : w.name ≡ v.name = cc in
    let same : w ≡ v = ap₂ (λ x y. record { width = x; name = y }) width name in
    (ap₂ (λ x y. x ∷ y) same r.0, r.1)

pub one_module : (m n : ModuleText) → IsModule m → IsModule n → module_tokens m ≡ module_tokens n → m ≡ n
one_module m n h k e =
    let lines : lines_tokens m ≡ lines_tokens n = cc in
    let r = one_lines m.wires n.wires m.cells n.cells h.wires k.wires h.cells k.cells lines in
    ap₂ (λ x y. record { wires = x; cells = y }) r.0 r.1

pub only_of : (bytes : List ℕ) (r : Result Module ModuleFault) → IfOk r (λ m. IsModule (module_of m) × (texts (tokens_of None bytes) ≡ module_tokens (module_of m))) → IfErr r (λ e. IsFault e bytes)
    → (m : ModuleText) → IsModule m → texts (tokens_of None bytes) ≡ module_tokens m → Gives m r
only_of bytes (Ok r) h f m k e = one_module (module_of r) m h.0 k (sym h.1 ∙ e)
only_of bytes (Err faults.Memory) h f m k e = refl
only_of bytes (Err (faults.Text place)) h f m k e = absurd (no_text IsText bytes place f (m, k, e))
