-- The parts of tiles in TOML values.
use Rattle.std.specs.Prelude.{ℕ, Bool, true, false, List, [], ◌∷◌, length, take, drop, fold, Option, Some, None, codes, option_map, option_and_then, if◌then◌else◌}
use Rattle.std.specs.Option.{option_map_or, is_some, is_none}
use Rattle.std.specs.List.{list_any}
use Rattle.std.specs.Str.{bytes_eq}
use Rattle.toml.specs.Data.{Data, get, as_str}
use Rattle.cg_word.specs.declared.op.Op.{Op}
use Rattle.cg_word.specs.Word.{op_named}
use Rattle.cg_word.specs.Sets.{with_op}
use Rattle.cg_model.specs.Names.{is_identifier}
use Rattle.cg_reading.specs.Items.{all_of}
use Rattle.cg_toml.specs.Members.{text_at, word_at, items_in, items_at, has_other_keys}
use Rattle.cg_grid.specs.declared.written.Side.{Side}
use Rattle.cg_grid.specs.declared.written.Side.TheVariants.{Here, North, East, South, West, Anywhere}
use Rattle.cg_grid.specs.declared.written.Reference.{Reference}
use Rattle.cg_grid.specs.declared.written.Part.{Part}
use Rattle.cg_grid.specs.declared.written.Part.TheVariants as part
use Rattle.cg_grid.specs.declared.written.WrittenPart.{WrittenPart}

-- ---- references: `x` for a resource of the same tile, `N.x`, `E.x`, `S.x` or `W.x` for one of a neighbour, `/name`
-- for one by its flat name

-- a reference to a resource of that name on that side
abbrev pub to : Side → List ℕ → Option Reference
to side name = if is_identifier name then Some (record { side = side; name = name }) else None

-- the rest of a text after a prefix, None where the text doesn't begin with it
abbrev pub after_front : List ℕ → List ℕ → Option (List ℕ)
after_front front text = if bytes_eq (take (length front) text) front then Some (drop (length front) text) else None

-- the side given by a text's prefix, and the name after it
abbrev pub or_else : Side → Option (List ℕ) → Side × List ℕ → Side × List ℕ
or_else side None other = other
or_else side (Some name) other = (side, name)

-- each side has a prefix of its own; a text without one names a resource of the same tile
abbrev pub sided : List ℕ → Side × List ℕ
sided text =
    or_else Anywhere (after_front (codes "/") text)
    (or_else North (after_front (codes "N.") text)
    (or_else East (after_front (codes "E.") text)
    (or_else South (after_front (codes "S.") text)
    (or_else West (after_front (codes "W.") text) (Here, text)))))

-- the reference that a text denotes
abbrev pub reference_of : List ℕ → Option Reference
reference_of text = to (sided text).0 (sided text).1

-- a reference: a text
abbrev pub reference_in : Data → Option Reference
reference_in d = option_and_then reference_of (as_str d)

-- an array of references
abbrev pub references_in : Data → Option (List Reference)
references_in d = option_and_then (all_of reference_in) (items_in d)

-- the references at a key
abbrev pub references_at : List ℕ → Data → Option (List Reference)
references_at key d = option_and_then (all_of reference_in) (items_at key d)

-- ---- parts: a table with exactly one of the keys `wire`, `reg` and `unit`

-- a wire: the text `wire`, and `from`
abbrev pub wire_from : Option (List ℕ) → Option (List Reference) → Option Part
wire_from (Some name) (Some from) = Some (part.Wire name from)
wire_from _ _ = None

-- a register: the text `reg`, and `from`
abbrev pub register_from : Option (List ℕ) → Option (List Reference) → Option Part
register_from (Some name) (Some from) = Some (part.Register name from)
register_from _ _ = None

-- a set of operations with the one that a text names, if any
abbrev pub with_named : List Op → List ℕ → List Op
with_named ops text = option_map_or (λ op. with_op ops op) (op_named text) ops

-- the operations that a list of texts names
abbrev pub ops_named : List (List ℕ) → List Op
ops_named texts = fold with_named [] texts

-- a text isn't the name of an operation
abbrev pub has_other_ops : List (List ℕ) → Bool
has_other_ops texts = list_any (λ text. is_none (op_named text)) texts

-- a unit: the text `unit`, the texts `ops`, the word `latency`, and `ports`
abbrev pub unit_from : Option (List ℕ) → Option (List (List ℕ)) → Option ℕ → Option (List (List Reference)) → Option Part
unit_from (Some name) (Some ops) (Some latency) (Some ports) = Some (part.Unit name (ops_named ops) (has_other_ops ops) latency ports)
unit_from _ _ _ _ = None

-- the wire that a table describes
abbrev pub wire_in : Data → Option Part
wire_in d = wire_from (text_at (codes "wire") d) (references_at (codes "from") d)

-- the register that a table describes
abbrev pub register_in : Data → Option Part
register_in d = register_from (text_at (codes "reg") d) (references_at (codes "from") d)

-- the texts at `ops`
abbrev pub ops_at : Data → Option (List (List ℕ))
ops_at d = option_and_then (all_of as_str) (items_at (codes "ops") d)

-- the references of each port, at `ports`
abbrev pub ports_at : Data → Option (List (List Reference))
ports_at d = option_and_then (all_of references_in) (items_at (codes "ports") d)

-- the unit that a table describes
abbrev pub unit_in : Data → Option Part
unit_in d = unit_from (text_at (codes "unit") d) (ops_at d) (word_at (codes "latency") d) (ports_at d)

-- a part whose table has these keys, and possibly others
abbrev pub keyed : List (List ℕ) → Data → Part → WrittenPart
keyed known d part = record { part = part; other_keys = has_other_keys known d }

-- the table has the key
abbrev pub has : List ℕ → Data → Bool
has key d = is_some (get key d)

-- the part by which of `wire`, `reg` and `unit` are there
abbrev pub by_shape : Bool → Bool → Bool → Data → Option WrittenPart
by_shape true false false d = option_map (keyed (codes "wire" ∷ codes "from" ∷ []) d) (wire_in d)
by_shape false true false d = option_map (keyed (codes "reg" ∷ codes "from" ∷ []) d) (register_in d)
by_shape false false true d = option_map (keyed (codes "unit" ∷ codes "ops" ∷ codes "latency" ∷ codes "ports" ∷ []) d) (unit_in d)
by_shape _ _ _ d = None

-- the part that a table describes
abbrev pub part_in : Data → Option WrittenPart
part_in d = by_shape (has (codes "wire") d) (has (codes "reg") d) (has (codes "unit") d) d
