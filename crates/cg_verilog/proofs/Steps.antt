-- Steps of reading.
use Rattle.std.proofs.Common.{◌≡◌, ℕ, true, false, cond, List, [], ◌∷◌, ◌++◌, map, codes, Some, None, refl, sym, ◌∙◌, ap, subst, append_assoc}
use Rattle.std.proofs.lemmas.List.{map-append}
use Rattle.std.specs.Prelude.{decimal, ◌-◌}
use Rattle.std.specs.List.{flat_map, AllByRecursion}
use Rattle.std.specs.Cmp.Lexicographic.{same_text}
use Rattle.cg_tokens.specs.Table.{going, run, Spelled, none}
use Rattle.cg_tokens.proofs.Stacks.{through}
use Rattle.cg_verilog.specs.Words.{same, is_name}
use Rattle.cg_verilog.specs.Rules.{Symbol, is_top, Exactly, Name, Top, Pins, Cells, Lines, rule, Spells, pin_rule, wire_rule, cell_rule, pins_end, start}
use Rattle.cg_verilog.specs.Module.{PinText, CellText, WireText, IsPin, IsCell, IsWire, pin_tokens, further_pin, cell_tokens, wire_tokens, ModuleText, IsModule, header, lines_tokens}
use Rattle.cg_verilog.specs.Read.{begins_with, Stops, Misses, MissesText}
use Rattle.cg_verilog.specs.declared.fault.Misfit.{Misfit}
use Rattle.cg_verilog.specs.declared.fault.Misfit.TheVariants.{Memory, Text}
use Rattle.cg_verilog.proofs.Exact.{table, named_not, name_onto, exactly_onto, pin_onto, wire_onto, only}

pub missed_exactly : (s : List ℕ) (old : List (List ℕ)) → begins_with s old ≡ false → Stops (Exactly s ∷ []) old old
missed_exactly s [] h = record { ran = λ stack. refl }
missed_exactly s (t ∷ old) h = record { ran = λ stack. ap (λ b. going (cond b (Some []) None) (λ x. run rule (x ++ stack) old) (t ∷ old)) h }

pub missed_name : (t : List ℕ) (rest : List (List ℕ)) → is_name t ≡ false → Stops (Name ∷ []) (t ∷ rest) (t ∷ rest)
missed_name t rest h = record { ran = λ stack. ap (λ b. going (cond b (Some []) None) (λ x. run rule (x ++ stack) rest) (t ∷ rest)) h }

pub missed_top : (t : List ℕ) (rest : List (List ℕ)) → is_top t ≡ false → Stops (Top ∷ []) (t ∷ rest) (t ∷ rest)
missed_top t rest h = record { ran = λ stack. ap (λ b. going (cond b (Some []) None) (λ x. run rule (x ++ stack) rest) (t ∷ rest)) h }

-- no symbol is spelled by nothing
pub missed_end : (s : Symbol) → Stops (s ∷ []) [] []
missed_end s = record { ran = λ stack. refl }

-- where a step stops, so does what begins with it
pub first_stops : {s : Symbol} {old new : List (List ℕ)} (symbols : List Symbol) → Stops (s ∷ []) old new → Stops (s ∷ symbols) old new
first_stops symbols h = record { ran = λ stack. h.ran (symbols ++ stack) }

pub later_stops : (a b : List Symbol) (u : List (List ℕ)) (old now new : List (List ℕ)) → Spelled Spells a u → old ≡ u ++ now → Stops b now new → Stops (a ++ b) old new
later_stops a b u old now new p e h =
    record {
      ran = λ stack.
          ap (λ (x : List Symbol). run rule x old) (append_assoc a b stack)
          ∙ ap (λ (x : List (List ℕ)). run rule (a ++ (b ++ stack)) x) e
          ∙ through rule Spells table a (b ++ stack) u now p
          ∙ h.ran stack;
    }

pub start_stops : (a b : List Symbol) (old new : List (List ℕ)) → Stops a old new → Stops (a ++ b) old new
start_stops a b old new h = record { ran = λ stack. ap (λ (x : List Symbol). run rule x old) (append_assoc a b stack) ∙ h.ran (b ++ stack) }

pub all_more : {A : Type 0} (P : A → Type 0) (xs : List A) (x : A) → AllByRecursion P xs → P x → AllByRecursion P (xs ++ x ∷ [])
all_more P [] x h p = (p, tt)
all_more P (y ∷ xs) x h p = (h.0, all_more P xs x h.1 p)

begun : (s : List ℕ) (old : List (List ℕ)) → begins_with s old ≡ true → (rest : List (List ℕ)) × (old ≡ s ∷ rest)
begun s [] h = cc
begun s (t ∷ rest) h = (rest, ap (λ x. x ∷ rest) (same_text t s (sym h)))

-- a rule that a token begins, as the token and what follows it
at_wire_of : (old rest new : List (List ℕ)) → old ≡ codes "wire" ∷ rest → Stops (Exactly (codes "wire") ∷ wire_rule) old new → Stops (Lines ∷ []) old new
at_wire_of old rest new e h =
    record { ran = λ stack. ap (run rule (Lines ∷ stack)) e ∙ sym (ap (run rule (Exactly (codes "wire") ∷ (wire_rule ++ (Lines ∷ stack)))) e) ∙ h.ran (Lines ∷ stack) }

pub at_wire : (old new : List (List ℕ)) → begins_with (codes "wire") old ≡ true → Stops (Exactly (codes "wire") ∷ wire_rule) old new → Stops (Lines ∷ []) old new
at_wire old new h s = let b = begun (codes "wire") old h in at_wire_of old b.0 new b.1 s

pub at_pin : (old new : List (List ℕ)) → begins_with (codes ",") old ≡ true → Stops (Exactly (codes ",") ∷ pin_rule) old new → Stops (Pins ∷ []) old new
at_pin old new h s =
    let b = begun (codes ",") old h in
    record { ran = λ stack. ap (run rule (Pins ∷ stack)) b.1 ∙ sym (ap (run rule (Exactly (codes ",") ∷ (pin_rule ++ (Pins ∷ stack)))) b.1) ∙ s.ran (Pins ∷ stack) }

pub at_pins_end : (old new : List (List ℕ)) → begins_with (codes ",") old ≡ false → Stops (Exactly (codes ")") ∷ []) old new → Stops (Pins ∷ []) old new
at_pins_end [] new h s = record { ran = λ stack. s.ran stack }
at_pins_end (t ∷ old) new h s =
    record {
      ran = λ stack.
          ap (λ b. going (cond b (Some (pin_rule ++ (Pins ∷ []))) (cond (same t (codes ")")) (Some (Exactly (codes ";") ∷ [])) None)) (λ x. run rule (x ++ stack) old) (t ∷ old)) h
          ∙ elim (same t (codes ")")) as (λ b. going (cond b (Some []) None) (λ x. run rule (x ++ (Exactly (codes ";") ∷ stack)) old) (t ∷ old) ≡ Some new → going (cond b (Some (Exactly (codes ";") ∷ [])) None) (λ x. run rule (x ++ stack) old) (t ∷ old) ≡ Some new)
          [ true ↦ λ e. e | false ↦ λ e. e ] (s.ran (Exactly (codes ";") ∷ stack));
    }

pub after_pins : (old now new : List (List ℕ)) → old ≡ codes ")" ∷ now → Stops (Exactly (codes ";") ∷ []) now new → Stops (Pins ∷ []) old new
after_pins old now new e s = record { ran = λ stack. ap (run rule (Pins ∷ stack)) e ∙ s.ran stack }

pub at_cell : (old new : List (List ℕ)) → begins_with (codes "endmodule") old ≡ false → Stops (Name ∷ cell_rule) old new → Stops (Cells ∷ []) old new
at_cell [] new h s = record { ran = λ stack. s.ran stack }
at_cell (t ∷ old) new h s =
    record {
      ran = λ stack.
          ap (λ b. going (cond b (Some []) (cond (is_name t) (Some (cell_rule ++ (Cells ∷ []))) None)) (λ x. run rule (x ++ stack) old) (t ∷ old)) h
          ∙ elim (is_name t) as (λ b. going (cond b (Some []) None) (λ x. run rule (x ++ (cell_rule ++ (Cells ∷ stack))) old) (t ∷ old) ≡ Some new → going (cond b (Some (cell_rule ++ (Cells ∷ []))) None) (λ x. run rule (x ++ stack) old) (t ∷ old) ≡ Some new)
          [ true ↦ λ e. e | false ↦ λ e. e ] (s.ran (Cells ∷ stack));
    }

pub at_cells_end : (old new : List (List ℕ)) → begins_with (codes "endmodule") old ≡ true → Stops (Exactly (codes "endmodule") ∷ []) old new → Stops (Cells ∷ []) old new
at_cells_end old new h s =
    let b = begun (codes "endmodule") old h in
    record { ran = λ stack. ap (run rule (Cells ∷ stack)) b.1 ∙ sym (ap (run rule (Exactly (codes "endmodule") ∷ stack)) b.1) ∙ s.ran stack }

pub lines_cells : (old new : List (List ℕ)) → begins_with (codes "wire") old ≡ false → Stops (Cells ∷ []) old new → Stops (Lines ∷ []) old new
lines_cells [] new h s = record { ran = λ stack. s.ran stack }
lines_cells (t ∷ old) new h s =
    record { ran = λ stack. ap (λ b. going (cond b (Some (wire_rule ++ (Lines ∷ []))) (rule Cells t)) (λ x. run rule (x ++ stack) old) (t ∷ old)) h ∙ s.ran stack }

-- what was read before
wire_through : (w : WireText) (stack : List Symbol) (now : List (List ℕ)) → IsWire w → run rule (Lines ∷ stack) (wire_tokens w ++ now) ≡ run rule (Lines ∷ stack) now
wire_through w stack now h = through rule Spells table wire_rule (Lines ∷ stack) (codes "[" ∷ decimal (w.width - 1) ∷ codes ":" ∷ codes "0" ∷ codes "]" ∷ w.name ∷ codes ";" ∷ []) now (wire_onto [] w [] h none)

pub later_wires : (ws : List WireText) (now new : List (List ℕ)) → AllByRecursion IsWire ws → Stops (Lines ∷ []) now new → Stops (Lines ∷ []) (flat_map wire_tokens ws ++ now) new
later_wires [] now new h s = s
later_wires (w ∷ ws) now new h s =
    record { ran = λ stack. ap (run rule (Lines ∷ stack)) (append_assoc (wire_tokens w) (flat_map wire_tokens ws) now) ∙ wire_through w stack (flat_map wire_tokens ws ++ now) h.0 ∙ (later_wires ws now new h.1 s).ran stack }

pin_through : (p : PinText) (stack : List Symbol) (now : List (List ℕ)) → IsPin p → run rule (Pins ∷ stack) (further_pin p ++ now) ≡ run rule (Pins ∷ stack) now
pin_through p stack now h = through rule Spells table pin_rule (Pins ∷ stack) (pin_tokens p) now (pin_onto [] p [] h none)

pub later_pins : (ps : List PinText) (now new : List (List ℕ)) → AllByRecursion IsPin ps → Stops (Pins ∷ []) now new → Stops (Pins ∷ []) (flat_map further_pin ps ++ now) new
later_pins [] now new h s = s
later_pins (p ∷ ps) now new h s =
    record { ran = λ stack. ap (run rule (Pins ∷ stack)) (append_assoc (further_pin p) (flat_map further_pin ps) now) ∙ pin_through p stack (flat_map further_pin ps ++ now) h.0 ∙ (later_pins ps now new h.1 s).ran stack }

cell_through : (c : CellText) (stack : List Symbol) (now : List (List ℕ)) → IsCell c → run rule (Cells ∷ stack) (cell_tokens c ++ now) ≡ run rule (Cells ∷ stack) now
cell_through c stack now h =
    let tail = c.name ∷ codes "(" ∷ (pin_tokens c.first ++ (flat_map further_pin c.rest ++ pins_end)) in
    let rest = run rule (Cells ∷ stack) in
    ap (λ b. going (cond b (Some []) (cond (is_name c.form) (Some (cell_rule ++ (Cells ∷ []))) None)) (λ x. run rule (x ++ stack) (tail ++ now)) (c.form ∷ (tail ++ now))) (named_not c.form (codes "endmodule") refl h.form)
    ∙ ap (λ b. going (cond b (Some (cell_rule ++ (Cells ∷ []))) None) (λ x. run rule (x ++ stack) (tail ++ now)) (c.form ∷ (tail ++ now))) h.form
    ∙ through rule Spells table cell_rule (Cells ∷ stack) tail now
    (name_onto c.name h.name (exactly_onto (codes "(") (pin_onto (Pins ∷ []) c.first (flat_map further_pin c.rest ++ pins_end) h.first (only Pins (flat_map further_pin c.rest ++ pins_end) (c.rest, h.rest, refl)))))

pub later_cells : (cs : List CellText) (now new : List (List ℕ)) → AllByRecursion IsCell cs → Stops (Cells ∷ []) now new → Stops (Cells ∷ []) (flat_map cell_tokens cs ++ now) new
later_cells [] now new h s = s
later_cells (c ∷ cs) now new h s =
    record { ran = λ stack. ap (run rule (Cells ∷ stack)) (append_assoc (cell_tokens c) (flat_map cell_tokens cs) now) ∙ cell_through c stack (flat_map cell_tokens cs ++ now) h.0 ∙ (later_cells cs now new h.1 s).ran stack }

-- the same for a step that may want memory
pub misses_map : (e : Misfit) (a b : List Symbol) (now old new : List (List ℕ)) → Misses e a now new → (Stops a now new → Stops b old new) → Misses e b old new
misses_map Memory a b now old new h to = tt
misses_map Text a b now old new h to = to h

pub misses_later : (e : Misfit) (s : List ℕ) (symbols : List Symbol) (old now new : List (List ℕ)) → Misses e symbols now new → old ≡ s ∷ now → Misses e (Exactly s ∷ symbols) old new
misses_later e s symbols old now new h at = misses_map e symbols (Exactly s ∷ symbols) now old new h (λ k. later_stops (Exactly s ∷ []) symbols (s ∷ []) old now new (exactly_onto s none) at k)

pub misses_first : (e : Misfit) (s : Symbol) (symbols : List Symbol) (old new : List (List ℕ)) → Misses e (s ∷ []) old new → Misses e (s ∷ symbols) old new
misses_first e s symbols old new h = misses_map e (s ∷ []) (s ∷ symbols) old old new h (first_stops symbols)

pub misses_wires : (e : Misfit) (ws : List WireText) (old now new : List (List ℕ)) → Misses e (Exactly (codes "wire") ∷ wire_rule) now new → begins_with (codes "wire") now ≡ true → AllByRecursion IsWire ws → old ≡ flat_map wire_tokens ws ++ now → Misses e (Lines ∷ []) old new
misses_wires e ws old now new h b r at = misses_map e (Exactly (codes "wire") ∷ wire_rule) (Lines ∷ []) now old new h (λ k. subst (λ (x : List (List ℕ)). Stops (Lines ∷ []) x new) (sym at) (later_wires ws now new r (at_wire now new b k)))

pub misses_pins : (e : Misfit) (ps : List PinText) (old now new : List (List ℕ)) → Misses e (Exactly (codes ",") ∷ pin_rule) now new → begins_with (codes ",") now ≡ true → AllByRecursion IsPin ps → old ≡ flat_map further_pin ps ++ now → Misses e (Pins ∷ []) old new
misses_pins e ps old now new h b r at = misses_map e (Exactly (codes ",") ∷ pin_rule) (Pins ∷ []) now old new h (λ k. subst (λ (x : List (List ℕ)). Stops (Pins ∷ []) x new) (sym at) (later_pins ps now new r (at_pin now new b k)))

pub misses_pins_end : (e : Misfit) (ps : List PinText) (old now new : List (List ℕ)) → Misses e (Exactly (codes ")") ∷ []) now new → begins_with (codes ",") now ≡ false → AllByRecursion IsPin ps → old ≡ flat_map further_pin ps ++ now → Misses e (Pins ∷ []) old new
misses_pins_end e ps old now new h b r at = misses_map e (Exactly (codes ")") ∷ []) (Pins ∷ []) now old new h (λ k. subst (λ (x : List (List ℕ)). Stops (Pins ∷ []) x new) (sym at) (later_pins ps now new r (at_pins_end now new b k)))

pub misses_after_pins : (e : Misfit) (ps : List PinText) (old now then new : List (List ℕ)) → Misses e (Exactly (codes ";") ∷ []) then new → now ≡ codes ")" ∷ then → AllByRecursion IsPin ps → old ≡ flat_map further_pin ps ++ now → Misses e (Pins ∷ []) old new
misses_after_pins e ps old now then new h b r at = misses_map e (Exactly (codes ";") ∷ []) (Pins ∷ []) then old new h (λ k. subst (λ (x : List (List ℕ)). Stops (Pins ∷ []) x new) (sym at) (later_pins ps now new r (after_pins now then new b k)))

pub misses_cells : (e : Misfit) (cs : List CellText) (old now new : List (List ℕ)) → Misses e (Name ∷ cell_rule) now new → begins_with (codes "endmodule") now ≡ false → AllByRecursion IsCell cs → old ≡ flat_map cell_tokens cs ++ now → Misses e (Cells ∷ []) old new
misses_cells e cs old now new h b r at = misses_map e (Name ∷ cell_rule) (Cells ∷ []) now old new h (λ k. subst (λ (x : List (List ℕ)). Stops (Cells ∷ []) x new) (sym at) (later_cells cs now new r (at_cell now new b k)))

pub misses_cells_end : (e : Misfit) (cs : List CellText) (old now new : List (List ℕ)) → Misses e (Exactly (codes "endmodule") ∷ []) now new → begins_with (codes "endmodule") now ≡ true → AllByRecursion IsCell cs → old ≡ flat_map cell_tokens cs ++ now → Misses e (Cells ∷ []) old new
misses_cells_end e cs old now new h b r at = misses_map e (Exactly (codes "endmodule") ∷ []) (Cells ∷ []) now old new h (λ k. subst (λ (x : List (List ℕ)). Stops (Cells ∷ []) x new) (sym at) (later_cells cs now new r (at_cells_end now new b k)))

words_spelled : (ws : List (List ℕ)) → Spelled Spells (map Exactly ws) ws
words_spelled [] = none
words_spelled (w ∷ ws) = exactly_onto w (words_spelled ws)

pub misses_front : (e : Misfit) (a b : List (List ℕ)) (old new : List (List ℕ)) → Misses e (map Exactly a) old new → Misses e (map Exactly (a ++ b)) old new
misses_front e a b old new h = misses_map e (map Exactly a) (map Exactly (a ++ b)) old old new h (λ k. subst (λ x. Stops x old new) (sym (map-append Exactly a b)) (start_stops (map Exactly a) (map Exactly b) old new k))

pub misses_back : (e : Misfit) (a b : List (List ℕ)) (old now new : List (List ℕ)) → Misses e (map Exactly b) now new → old ≡ a ++ now → Misses e (map Exactly (a ++ b)) old new
misses_back e a b old now new h at = misses_map e (map Exactly b) (map Exactly (a ++ b)) now old new h (λ k. subst (λ x. Stops x old new) (sym (map-append Exactly a b)) (later_stops (map Exactly a) (map Exactly b) a old now new (words_spelled a) at k))

pub misses_lines : (e : Misfit) (ws : List WireText) (old now new : List (List ℕ)) → Misses e (Cells ∷ []) now new → begins_with (codes "wire") now ≡ false → AllByRecursion IsWire ws → old ≡ flat_map wire_tokens ws ++ now → Misses e (Lines ∷ []) old new
misses_lines e ws old now new h b r at = misses_map e (Cells ∷ []) (Lines ∷ []) now old new h (λ k. subst (λ (x : List (List ℕ)). Stops (Lines ∷ []) x new) (sym at) (later_wires ws now new r (lines_cells now new b k)))

pub misses_start : (e : Misfit) (old new : List (List ℕ)) → Misses e (map Exactly header) old new → MissesText e old new
misses_start Memory old new h = tt
misses_start Text old new h = h.ran (Lines ∷ [])

pub misses_rest : (e : Misfit) (old now new : List (List ℕ)) → Misses e (Lines ∷ []) now new → old ≡ header ++ now → MissesText e old new
misses_rest Memory old now new h at = tt
misses_rest Text old now new h at = ap (run rule start) at ∙ through rule Spells table (map Exactly header) (Lines ∷ []) header now (words_spelled header) ∙ h.ran []

-- a token after the end
pub misses_more : (m : ModuleText) (old now new : List (List ℕ)) (t : List ℕ) (rest : List (List ℕ)) → IsModule m → old ≡ header ++ now → now ≡ lines_tokens m ++ new → new ≡ t ∷ rest → run rule start old ≡ Some new
misses_more m old now new t rest h at of more =
    ap (run rule start) at
    ∙ through rule Spells table (map Exactly header) (Lines ∷ []) header now (words_spelled header)
    ∙ ap (run rule (Lines ∷ [])) of
    ∙ through rule Spells table (Lines ∷ []) [] (lines_tokens m) new (only Lines (lines_tokens m) (m.wires, m.cells, h.wires, h.cells, refl))
    ∙ ap (run rule []) more ∙ ap (λ x. Some x) (sym more)
