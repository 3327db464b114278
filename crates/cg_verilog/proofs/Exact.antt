-- The table is right for the grammar.
use Rattle.std.proofs.Common.{◌≡◌, ◌<◌, ◌-◌, ℕ, suc, lit<, arith, Bool, true, false, cond, List, [], ◌∷◌, ◌++◌, codes, Some, None, ◌⊎◌, inl, inr, ⊎_elim, refl, sym, ◌∙◌, ap, subst, append_assoc, append-nil, map}
use Rattle.std.specs.List.{flat_map, AllByRecursion}
use Rattle.std.proofs.lemmas.Cmp.{nat_list_eq_equiv}
use Rattle.std.specs.Prelude.{decimal}
use Rattle.cg_verilog.proofs.Numbers.{top_is, top_small, number_top, same_is}
use Rattle.cg_tokens.specs.Table.{Spelled, none, next, IsTable}
use Rattle.cg_verilog.specs.Words.{same, is_name}
use Rattle.cg_verilog.specs.Module.{PinText, CellText, WireText, IsPin, IsCell, IsWire, IsText, pin_tokens, further_pin, cell_tokens, wire_tokens, header}
use Rattle.cg_verilog.specs.Rules.{Symbol, is_top, top_number, Exactly, Name, Top, Pins, Cells, Lines, pin_rule, wire_rule, cell_rule, start, rule, Spells, pins_end, cells_end}

pub chosen : {A : Type 0} (b : Bool) (x y z : A) → cond b x y ≡ z → ((b ≡ true) × (x ≡ z)) ⊎ ((b ≡ false) × (y ≡ z))
chosen true x y z h = inl (refl, h)
chosen false x y z h = inr (refl, h)

-- a list of symbols, token by token
pub exactly_then : {stack : List Symbol} {ts : List (List ℕ)} {s : List ℕ} → Spelled Spells (Exactly s ∷ stack) ts → (r : List (List ℕ)) × (ts ≡ s ∷ r) × Spelled Spells stack r
exactly_then (next _ front rest e p q) = (rest, e ∙ ap (λ (x : List (List ℕ)). x ++ rest) p, q)

pub name_then : {stack : List Symbol} {ts : List (List ℕ)} → Spelled Spells (Name ∷ stack) ts → (t : List ℕ) × (r : List (List ℕ)) × (is_name t ≡ true) × (ts ≡ t ∷ r) × Spelled Spells stack r
name_then (next _ front rest e p q) = (p.0, rest, p.1, e ∙ ap (λ (x : List (List ℕ)). x ++ rest) p.2, q)

pub top_then : {stack : List Symbol} {ts : List (List ℕ)} → Spelled Spells (Top ∷ stack) ts → (n : ℕ) × (r : List (List ℕ)) × (n < 32) × (ts ≡ decimal n ∷ r) × Spelled Spells stack r
top_then (next _ front rest e p q) = (p.0, rest, p.1, e ∙ ap (λ (x : List (List ℕ)). x ++ rest) p.2, q)

pub exactly_onto : {stack : List Symbol} {ts : List (List ℕ)} (s : List ℕ) → Spelled Spells stack ts → Spelled Spells (Exactly s ∷ stack) (s ∷ ts)
exactly_onto {ts} s p = next (s ∷ ts) (s ∷ []) ts refl refl p

pub name_onto : {stack : List Symbol} {ts : List (List ℕ)} (t : List ℕ) → is_name t ≡ true → Spelled Spells stack ts → Spelled Spells (Name ∷ stack) (t ∷ ts)
name_onto {ts} t h p = next (t ∷ ts) (t ∷ []) ts refl (t, h, refl) p

pub top_onto : {stack : List Symbol} {ts : List (List ℕ)} (n : ℕ) → n < 32 → Spelled Spells stack ts → Spelled Spells (Top ∷ stack) (decimal n ∷ ts)
top_onto {ts} n h p = next (decimal n ∷ ts) (decimal n ∷ []) ts refl (n, h, refl) p

some_is : {A : Type 0} {x y : A} → Some x ≡ Some y → x ≡ y
some_is h = cc

nothing : {ts : List (List ℕ)} → Spelled Spells [] ts → ts ≡ []
nothing none = refl

-- what one symbol spells, alone on the stack
pub alone : (s : Symbol) (ts : List (List ℕ)) → Spelled Spells (s ∷ []) ts → Spells s ts
alone s ts (next _ front [] e p none) = subst (Spells s) (sym (e ∙ append-nil front)) p
alone s ts (next _ front (t ∷ rest) e p q) = elim q [ ]

pub only : (s : Symbol) (ts : List (List ℕ)) → Spells s ts → Spelled Spells (s ∷ []) ts
only s ts p = next ts ts [] (sym (append-nil ts)) p none

pub pin_then : (stack : List Symbol) (ts : List (List ℕ)) → Spelled Spells (pin_rule ++ stack) ts → (p : PinText) × (r : List (List ℕ)) × IsPin p × (ts ≡ pin_tokens p ++ r) × Spelled Spells stack r
pin_then stack ts h =
    let a = exactly_then h in
    let b = name_then a.2 in
    let c = exactly_then b.4 in
    let d = name_then c.2 in
    let e = exactly_then d.4 in
    let whole : ts ≡ codes "." ∷ b.0 ∷ codes "(" ∷ d.0 ∷ codes ")" ∷ e.0 =
    a.1 ∙ ap (λ (x : List (List ℕ)). codes "." ∷ x) (b.3 ∙ ap (λ (x : List (List ℕ)). b.0 ∷ x) (c.1 ∙ ap (λ (x : List (List ℕ)). codes "(" ∷ x) (d.3 ∙ ap (λ (x : List (List ℕ)). d.0 ∷ x) e.1))) in
    (record { port = b.0; net = d.0 }, e.0, record { port = b.2; net = d.2 }, whole, e.2)

pub pin_onto : (stack : List Symbol) (p : PinText) (r : List (List ℕ)) → IsPin p → Spelled Spells stack r → Spelled Spells (pin_rule ++ stack) (pin_tokens p ++ r)
pin_onto stack p r h q =
    exactly_onto (codes ".") (name_onto p.port h.port (exactly_onto (codes "(") (name_onto p.net h.net (exactly_onto (codes ")") q))))

last_bit : (n : ℕ) → suc n - 1 ≡ n
last_bit n = omega arith

pub wire_then : (stack : List Symbol) (ts : List (List ℕ)) → Spelled Spells (wire_rule ++ stack) ts → (w : WireText) × (r : List (List ℕ)) × IsWire w × (codes "wire" ∷ ts ≡ wire_tokens w ++ r) × Spelled Spells stack r
wire_then stack ts h =
    let a = exactly_then h in
    let b = top_then a.2 in
    let c = exactly_then b.4 in
    let d = exactly_then c.2 in
    let e = exactly_then d.2 in
    let f = name_then e.2 in
    let g = exactly_then f.4 in
    (record { width = suc b.0; name = f.0 }, g.0, record { some = omega arith; most = omega (arith, b.2); name = f.2 }, (let less = ap decimal (last_bit b.0) in let ea = a.1 in let eb = b.3 in let ec = c.1 in let ed = d.1 in let ee = e.1 in let ef = f.3 in let eg = g.1 in cc), g.2)

-- a wire without its first token
pub wire_onto : (stack : List Symbol) (w : WireText) (r : List (List ℕ)) → IsWire w → Spelled Spells stack r
    → Spelled Spells (wire_rule ++ stack) (codes "[" ∷ decimal (w.width - 1) ∷ codes ":" ∷ codes "0" ∷ codes "]" ∷ w.name ∷ codes ";" ∷ r)
wire_onto stack w r h q =
    exactly_onto (codes "[") (top_onto (w.width - 1) (let some = h.some in let most = h.most in omega arith) (exactly_onto (codes ":") (exactly_onto (codes "0") (exactly_onto (codes "]") (name_onto w.name h.name (exactly_onto (codes ";") q))))))

pub pins_then : {stack : List Symbol} {ts : List (List ℕ)} → Spelled Spells (Pins ∷ stack) ts → (pins : List PinText) × (r : List (List ℕ)) × AllByRecursion IsPin pins × (ts ≡ (flat_map further_pin pins ++ pins_end) ++ r) × Spelled Spells stack r
pins_then (next _ front rest e p q) = (p.0, rest, p.1, e ∙ ap (λ (x : List (List ℕ)). x ++ rest) p.2, q)

pub cell_then : (stack : List Symbol) (t : List ℕ) (ts : List (List ℕ)) → is_name t ≡ true → Spelled Spells (cell_rule ++ stack) ts → (c : CellText) × (r : List (List ℕ)) × IsCell c × (t ∷ ts ≡ cell_tokens c ++ r) × Spelled Spells stack r
cell_then stack t ts named h =
    let a = name_then h in
    let b = exactly_then a.4 in
    let p = pin_then (Pins ∷ stack) b.0 b.2 in
    let q = pins_then p.4 in
    let ea = a.3 in let eb = b.1 in let ep = p.3 in let eq = q.3 in
    let whole : t ∷ ts ≡ t ∷ a.0 ∷ codes "(" ∷ (pin_tokens p.0 ++ ((flat_map further_pin q.0 ++ pins_end) ++ q.1)) = cc in
    (record { form = t; name = a.0; first = p.0; rest = q.0 }, q.1, record { form = named; name = a.2; first = p.2; rest = q.2 }, whole, q.4)

pub pins_onto : {stack : List Symbol} {ts : List (List ℕ)} (pins : List PinText) → AllByRecursion IsPin pins → Spelled Spells stack ts → Spelled Spells (Pins ∷ stack) ((flat_map further_pin pins ++ pins_end) ++ ts)
pins_onto {ts} pins h q = next ((flat_map further_pin pins ++ pins_end) ++ ts) (flat_map further_pin pins ++ pins_end) ts refl (pins, h, refl) q

-- a cell without its first token, the name of its form
pub cell_onto : (stack : List Symbol) (c : CellText) (r : List (List ℕ)) → IsCell c → Spelled Spells stack r
    → Spelled Spells (cell_rule ++ stack) (c.name ∷ codes "(" ∷ (pin_tokens c.first ++ ((flat_map further_pin c.rest ++ pins_end) ++ r)))
cell_onto stack c r h q = name_onto c.name h.name (exactly_onto (codes "(") (pin_onto (Pins ∷ stack) c.first ((flat_map further_pin c.rest ++ pins_end) ++ r) h.first (pins_onto c.rest h.rest q)))

-- soundness
pub pins_sound : (t : List ℕ) (new : List Symbol) (ts : List (List ℕ)) → rule Pins t ≡ Some new → Spelled Spells new ts → Spells Pins (t ∷ ts)
pins_sound t new ts h p = ⊎_elim
    (λ w.
    let q = pin_then (Pins ∷ []) ts (subst (λ (x : List Symbol). Spelled Spells x ts) (sym (some_is w.1)) p) in
    let r = alone Pins q.1 q.4 in
    let et = same_is t (codes ",") w.0 in let eq = q.3 in let er = r.2 in
    let whole : t ∷ ts ≡ further_pin q.0 ++ (flat_map further_pin r.0 ++ pins_end) = cc in
    (q.0 ∷ r.0, (q.2, r.1), whole ∙ sym (append_assoc (further_pin q.0) (flat_map further_pin r.0) pins_end)))
    (λ w. ⊎_elim
    (λ v.
    let q = exactly_then (subst (λ (x : List Symbol). Spelled Spells x ts) (sym (some_is v.1)) p) in
    let et = same_is t (codes ")") v.0 in let eq = q.1 in let er = nothing q.2 in
    let whole : t ∷ ts ≡ pins_end = cc in
    ([], tt, whole))
    (λ v. let no = v.1 in cc)
    (chosen (same t (codes ")")) (Some (Exactly (codes ";") ∷ [])) None (Some new) w.1))
    (chosen (same t (codes ",")) (Some (pin_rule ++ (Pins ∷ []))) (cond (same t (codes ")")) (Some (Exactly (codes ";") ∷ [])) None) (Some new) h)

pub cells_sound : (t : List ℕ) (new : List Symbol) (ts : List (List ℕ)) → rule Cells t ≡ Some new → Spelled Spells new ts → Spells Cells (t ∷ ts)
cells_sound t new ts h p = ⊎_elim
    (λ w.
    let et = same_is t (codes "endmodule") w.0 in
    let er = nothing (subst (λ (x : List Symbol). Spelled Spells x ts) (sym (some_is w.1)) p) in
    let whole : t ∷ ts ≡ cells_end = cc in
    ([], tt, whole))
    (λ w. ⊎_elim
    (λ v.
    let q = cell_then (Cells ∷ []) t ts v.0 (subst (λ (x : List Symbol). Spelled Spells x ts) (sym (some_is v.1)) p) in
    let r = alone Cells q.1 q.4 in
    (q.0 ∷ r.0, (q.2, r.1), q.3 ∙ ap (λ (x : List (List ℕ)). cell_tokens q.0 ++ x) r.2 ∙ sym (append_assoc (cell_tokens q.0) (flat_map cell_tokens r.0) cells_end)))
    (λ v. let no = v.1 in cc)
    (chosen (is_name t) (Some (cell_rule ++ (Cells ∷ []))) None (Some new) w.1))
    (chosen (same t (codes "endmodule")) (Some []) (cond (is_name t) (Some (cell_rule ++ (Cells ∷ []))) None) (Some new) h)

pub lines_sound : (t : List ℕ) (new : List Symbol) (ts : List (List ℕ)) → rule Lines t ≡ Some new → Spelled Spells new ts → Spells Lines (t ∷ ts)
lines_sound t new ts h p = ⊎_elim
    (λ w.
    let q = wire_then (Lines ∷ []) ts (subst (λ (x : List Symbol). Spelled Spells x ts) (sym (some_is w.1)) p) in
    let r = alone Lines q.1 q.4 in
    let et = same_is t (codes "wire") w.0 in (
      q.0 ∷ r.0,
      r.1,
      (q.2, r.2),
      r.3,
      ap (λ (x : List ℕ). x ∷ ts) et ∙ q.3 ∙ ap (λ (x : List (List ℕ)). wire_tokens q.0 ++ x) r.4 ∙ sym (append_assoc (wire_tokens q.0) (flat_map wire_tokens r.0) (flat_map cell_tokens r.1 ++ cells_end)),
    ))
    (λ w. let r = cells_sound t new ts w.1 p in ([], r.0, tt, r.1, r.2))
    (chosen (same t (codes "wire")) (Some (wire_rule ++ (Lines ∷ []))) (rule Cells t) (Some new) h)

pub sound : (s : Symbol) (t : List ℕ) (new : List Symbol) (ts : List (List ℕ)) → rule s t ≡ Some new → Spelled Spells new ts → Spells s (t ∷ ts)
sound (Exactly s) t new ts h p = ⊎_elim
    (λ w.
    let et = same_is t s w.0 in
    let er = nothing (subst (λ (x : List Symbol). Spelled Spells x ts) (sym (some_is w.1)) p) in
    cc)
    (λ w. let no = w.1 in cc)
    (chosen (same t s) (Some []) None (Some new) h)
sound Name t new ts h p = ⊎_elim
    (λ w. (t, w.0, ap (λ (x : List (List ℕ)). t ∷ x) (nothing (subst (λ (x : List Symbol). Spelled Spells x ts) (sym (some_is w.1)) p))))
    (λ w. let no = w.1 in cc)
    (chosen (is_name t) (Some []) None (Some new) h)
sound Top t new ts h p = ⊎_elim
    (λ w. (top_number t, top_small t w.0, ap (λ x. x ∷ ts) (top_is t w.0) ∙ ap (λ (x : List (List ℕ)). decimal (top_number t) ∷ x) (nothing (subst (λ (x : List Symbol). Spelled Spells x ts) (sym (some_is w.1)) p))))
    (λ w. let no = w.1 in cc)
    (chosen (is_top t) (Some []) None (Some new) h)
sound Pins t new ts h p = pins_sound t new ts h p
sound Cells t new ts h p = cells_sound t new ts h p
sound Lines t new ts h p = lines_sound t new ts h p

-- completeness
same_self : (t : List ℕ) → same t t ≡ true
same_self t = nat_list_eq_equiv.refl t

abbrev Goes : Symbol → List ℕ → List (List ℕ) → Type 0
Goes s t ts = (new : List Symbol) × (rule s t ≡ Some new) × Spelled Spells new ts

at_token : (s : Symbol) (t u : List ℕ) (ts us : List (List ℕ)) → t ∷ ts ≡ u ∷ us → Goes s u us → Goes s t ts
at_token s t u ts us e g =
    let et : u ≡ t = cc in
    let es : us ≡ ts = cc in
    subst (λ (x : List ℕ). Goes s x ts) et (subst (λ (x : List (List ℕ)). Goes s u x) es g)

-- a name is none of the reserved words
pub named_not : (t w : List ℕ) → is_name w ≡ false → is_name t ≡ true → same t w ≡ false
named_not t w other h = elim (same t w) as (λ b. same t w ≡ b → same t w ≡ false) [ true ↦ λ e. let same_name = ap is_name (same_is t w e) in cc | false ↦ λ e. e ] refl

pins_complete : (t : List ℕ) (ts : List (List ℕ)) → Spells Pins (t ∷ ts) → Goes Pins t ts
pins_complete t ts ([], h, e) = at_token Pins t (codes ")") ts (codes ";" ∷ []) e (Exactly (codes ";") ∷ [], refl, exactly_onto (codes ";") none)
pins_complete t ts ((p ∷ pins), h, e) =
    at_token Pins t (codes ",") ts (pin_tokens p ++ (flat_map further_pin pins ++ pins_end)) (e ∙ append_assoc (further_pin p) (flat_map further_pin pins) pins_end)
    (pin_rule ++ (Pins ∷ []), refl, pin_onto (Pins ∷ []) p (flat_map further_pin pins ++ pins_end) h.0 (only Pins (flat_map further_pin pins ++ pins_end) (pins, h.1, refl)))

cells_complete : (t : List ℕ) (ts : List (List ℕ)) → Spells Cells (t ∷ ts) → Goes Cells t ts
cells_complete t ts ([], h, e) = at_token Cells t (codes "endmodule") ts [] e ([], refl, none)
cells_complete t ts ((c ∷ cells), h, e) =
    let r = flat_map cell_tokens cells ++ cells_end in
    let other : same c.form (codes "endmodule") ≡ false = named_not c.form (codes "endmodule") refl h.0.form in
    at_token Cells t c.form ts (c.name ∷ codes "(" ∷ (pin_tokens c.first ++ ((flat_map further_pin c.rest ++ pins_end) ++ r))) (e ∙ append_assoc (cell_tokens c) (flat_map cell_tokens cells) cells_end) (
      cell_rule ++ (Cells ∷ []),
      ap (λ b. cond b (Some []) (cond (is_name c.form) (Some (cell_rule ++ (Cells ∷ []))) None)) other ∙ ap (λ b. cond b (Some (cell_rule ++ (Cells ∷ []))) None) h.0.form,
      cell_onto (Cells ∷ []) c r h.0 (only Cells r (cells, h.1, refl)),
    )

lines_complete : (t : List ℕ) (ts : List (List ℕ)) → Spells Lines (t ∷ ts) → Goes Lines t ts
lines_complete t ts ([], [], h, k, e) = at_token Lines t (codes "endmodule") ts [] e ([], refl, none)
lines_complete t ts ([], (c ∷ cells), h, k, e) =
    let g = cells_complete t ts ((c ∷ cells), k, e) in
    let first : t ≡ c.form = cc in
    let other : same t (codes "wire") ≡ false = ap (λ x. same x (codes "wire")) first ∙ named_not c.form (codes "wire") refl k.0.form in
    (g.0, ap (λ b. cond b (Some (wire_rule ++ (Lines ∷ []))) (rule Cells t)) other ∙ g.1, g.2)
lines_complete t ts ((w ∷ wires), cells, h, k, e) =
    let r = flat_map wire_tokens wires ++ (flat_map cell_tokens cells ++ cells_end) in
    at_token Lines t (codes "wire") ts (codes "[" ∷ decimal (w.width - 1) ∷ codes ":" ∷ codes "0" ∷ codes "]" ∷ w.name ∷ codes ";" ∷ r) (e ∙ append_assoc (wire_tokens w) (flat_map wire_tokens wires) (flat_map cell_tokens cells ++ cells_end))
    (wire_rule ++ (Lines ∷ []), refl, wire_onto (Lines ∷ []) w r h.0 (only Lines r (wires, cells, h.1, k, refl)))

complete : (s : Symbol) (t : List ℕ) (ts : List (List ℕ)) → Spells s (t ∷ ts) → Goes s t ts
complete (Exactly s) t ts p = at_token (Exactly s) t s ts [] p ([], ap (λ b. cond b (Some []) None) (same_self s), none)
complete Name t ts p = at_token Name t p.0 ts [] p.2 ([], ap (λ b. cond b (Some []) None) p.1, none)
complete Top t ts p = at_token Top t (decimal p.0) ts [] p.2 ([], ap (λ b. cond b (Some []) None) (number_top p.0 p.1), none)
complete Pins t ts p = pins_complete t ts p
complete Cells t ts p = cells_complete t ts p
complete Lines t ts p = lines_complete t ts p

some : (s : Symbol) → Spells s [] → ⊥
some (Exactly s) p = cc
some Name p = let e = p.2 in cc
some Top p = let e = p.2 in cc
some Pins ([], h, e) = cc
some Pins ((p ∷ pins), h, e) = cc
some Cells ([], h, e) = cc
some Cells ((c ∷ cells), h, e) = cc
some Lines ([], [], h, k, e) = cc
some Lines ([], (c ∷ cells), h, k, e) = cc
some Lines ((w ∷ wires), cells, h, k, e) = cc

filled : (s : Symbol) → (ts : List (List ℕ)) × Spells s ts
filled (Exactly s) = (s ∷ [], refl)
filled Name = (codes "a" ∷ [], (codes "a", refl, refl))
filled Top = (decimal 0 ∷ [], (0, lit< tt, refl))
filled Pins = (pins_end, ([], tt, refl))
filled Cells = (cells_end, ([], tt, refl))
filled Lines = (cells_end, ([], [], tt, tt, refl))

-- the table is right
pub table : IsTable rule Spells
table = record { some = some; sound = sound; complete = complete; filled = filled }

-- the text as a stack
words_onto : (words : List (List ℕ)) (stack : List Symbol) (ts : List (List ℕ)) → Spelled Spells stack ts → Spelled Spells (map Exactly words ++ stack) (words ++ ts)
words_onto [] stack ts p = p
words_onto (w ∷ words) stack ts p = exactly_onto w (words_onto words stack ts p)

words_then : (words : List (List ℕ)) (stack : List Symbol) (ts : List (List ℕ)) → Spelled Spells (map Exactly words ++ stack) ts → (r : List (List ℕ)) × (ts ≡ words ++ r) × Spelled Spells stack r
words_then [] stack ts p = (ts, refl, p)
words_then (w ∷ words) stack ts p =
    let q = exactly_then p in
    let r = words_then words stack q.0 q.2 in
    (r.0, q.1 ∙ ap (λ (x : List (List ℕ)). w ∷ x) r.1, r.2)

pub spelled_text : (ts : List (List ℕ)) → IsText ts → Spelled Spells start ts
spelled_text ts p =
    let rest = flat_map wire_tokens p.0.wires ++ (flat_map cell_tokens p.0.cells ++ cells_end) in
    subst (Spelled Spells start) (sym p.2) (words_onto header (Lines ∷ []) rest (only Lines rest (p.0.wires, p.0.cells, p.1.wires, p.1.cells, refl)))

pub text_spelled : (ts : List (List ℕ)) → Spelled Spells start ts → IsText ts
text_spelled ts p =
    let q = words_then header (Lines ∷ []) ts p in
    let r = alone Lines q.0 q.2 in
    (record { wires = r.0; cells = r.1 }, record { wires = r.2; cells = r.3 }, q.1 ∙ ap (λ (x : List (List ℕ)). header ++ x) r.4)
