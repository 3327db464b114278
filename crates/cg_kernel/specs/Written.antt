-- The description of a kernel in a JSON value.
use Rattle.std.specs.Prelude.{ℕ, Bool, List, [], ◌∷◌, Option, Some, None, Result, Ok, Err, codes, option_map, option_and_then, if◌then◌else◌}
use Rattle.std.specs.Option.{option_or}
use Rattle.std.specs.Str.{bytes_eq}
use Rattle.serde_json.specs.Data.{Data}
use Rattle.cg_reading.specs.Items.{all_of, all_or_first}
use Rattle.cg_json.specs.Members.{text_at, items_at, items_or_none, word_in, word_or, optional_word_at, has_other_keys}
pub use Rattle.cg_kernel.specs.declared.fault.KernelPlace.{KernelPlace}
use Rattle.cg_kernel.specs.declared.fault.KernelPlace.TheVariants as place
pub use Rattle.cg_kernel.specs.declared.written.Format.{Format}
use Rattle.cg_kernel.specs.declared.written.Format.TheVariants.{First, Second}
pub use Rattle.cg_kernel.specs.declared.written.WrittenArg.{WrittenArg}
use Rattle.cg_kernel.specs.declared.written.WrittenArg.TheVariants.{Number, Source}
pub use Rattle.cg_kernel.specs.declared.written.WrittenNode.{WrittenNode}
pub use Rattle.cg_kernel.specs.declared.written.WrittenEdge.{WrittenEdge}
pub use Rattle.cg_kernel.specs.declared.written.WrittenKernel.{WrittenKernel}

-- an argument that is an object: the text `from`, and optional `distance` and `init`
abbrev pub source_from : Option (List ℕ) → Option ℕ → Option (List ℕ) → Bool → Option WrittenArg
source_from (Some from) (Some distance) (Some init) other = Some (Source from distance init other)
source_from _ _ _ other = None

-- the source that an object describes
abbrev pub source_in : Data → Option WrittenArg
source_in d = source_from
    (text_at (codes "from") d)
    (word_or (codes "distance") 0 d)
    (option_and_then (all_of word_in) (items_or_none (codes "init") d))
    (has_other_keys (codes "from" ∷ codes "distance" ∷ codes "init" ∷ []) d)

-- an argument: a number, or an object
abbrev pub arg_in : Data → Option WrittenArg
arg_in d = option_or (option_map Number (word_in d)) (source_in d)

-- a node: the texts `name` and `op`, and optional `args` and `port`
abbrev pub node_from : Option (List ℕ) → Option (List ℕ) → Option (List WrittenArg) → Option (Option ℕ) → Bool → Option WrittenNode
node_from (Some name) (Some op) (Some args) (Some port) other = Some (record { name = name; op = op; args = args; port = port; other_keys = other })
node_from _ _ _ _ other = None

-- the node that an object describes
abbrev pub node_in : Data → Option WrittenNode
node_in d = node_from
    (text_at (codes "name") d)
    (text_at (codes "op") d)
    (option_and_then (all_of arg_in) (items_or_none (codes "args") d))
    (optional_word_at (codes "port") d)
    (has_other_keys (codes "name" ∷ codes "op" ∷ codes "args" ∷ codes "port" ∷ []) d)

-- an order edge: the texts `from` and `to`, and an optional `distance`
abbrev pub edge_from : Option (List ℕ) → Option (List ℕ) → Option ℕ → Bool → Option WrittenEdge
edge_from (Some from) (Some to) (Some distance) other = Some (record { from = from; to = to; distance = distance; other_keys = other })
edge_from _ _ _ other = None

-- the order edge that an object describes
abbrev pub edge_in : Data → Option WrittenEdge
edge_in d = edge_from
    (text_at (codes "from") d)
    (text_at (codes "to") d)
    (word_or (codes "distance") 0 d)
    (has_other_keys (codes "from" ∷ codes "to" ∷ codes "distance" ∷ []) d)

-- the format of that name
abbrev pub format_named : List ℕ → Option Format
format_named text = if bytes_eq text (codes "cgk1") then Some First else (if bytes_eq text (codes "cgk2") then Some Second else None)

-- the format that the text `format` names
abbrev pub format_in : Data → Option Format
format_in d = option_and_then format_named (text_at (codes "format") d)

-- all nodes and order edges, or the first place that is malformed
abbrev pub joined : Format → Bool → Result (List WrittenNode) ℕ → Result (List WrittenEdge) ℕ → Result WrittenKernel KernelPlace
joined format other (Ok nodes) (Ok order) = Ok (record { format = format; nodes = nodes; order = order; other_keys = other })
joined format other (Ok nodes) (Err e) = Err (place.Order e)
joined format other (Err v) order = Err (place.Node v)

-- where the format or one of the arrays is missing or wrong, the place is the file
abbrev pub written_from : Option Format → Option (List Data) → Option (List Data) → Bool → Result WrittenKernel KernelPlace
written_from (Some format) (Some nodes) (Some order) other = joined format other (all_or_first node_in 0 nodes) (all_or_first edge_in 0 order)
written_from _ _ _ other = Err place.File

-- K2 WrongShape: the description in the value, or the first place where a needed key is missing or a value has another
-- kind or range
unfoldable pub written_of : Data → Result WrittenKernel KernelPlace
written_of d = written_from
    (format_in d)
    (items_at (codes "nodes") d)
    (items_or_none (codes "order") d)
    (has_other_keys (codes "format" ∷ codes "nodes" ∷ codes "order" ∷ []) d)
