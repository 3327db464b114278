-- The JSON value that a kernel is printed as.
use Rattle.std.specs.Prelude.{ℕ, List, map, codes, slice_index_or, if◌then◌else◌}
use Rattle.serde_json.specs.Data.{Data, string, array, object, Members, no_members, member}
use Rattle.serde_json.specs.View.{items_of}
use Rattle.serde_json.specs.Written.{compact_text}
pub use Rattle.cg_json.specs.Members.{word_data}
use Rattle.cg_word.specs.Word as word
use Rattle.cg_model.specs.Kernel.{Kernel, no_node}
use Rattle.cg_model.specs.declared.kernel.Node.{Node}
use Rattle.cg_model.specs.declared.kernel.Operand.{Operand}
use Rattle.cg_model.specs.declared.kernel.Operand.TheVariants.{Const, Edge}
use Rattle.cg_model.specs.declared.kernel.OrderEdge.{OrderEdge}

-- the name of node v
abbrev pub name_at : List Node → ℕ → List ℕ
name_at nodes v = (slice_index_or nodes v no_node).name

-- an operand: its number, or an object with all its keys
abbrev pub operand_data : List Node → Operand → Data
operand_data nodes (Const c) = word_data c
operand_data nodes (Edge u d init) = object
    (member (codes "distance") (word_data d)
    (member (codes "from") (string (name_at nodes u))
    (member (codes "init") (array (items_of (map word_data init))) no_members)))

abbrev pub port_member : Node → Members
port_member n = member (codes "port") (word_data n.port) no_members

-- the port, if the operation has one
abbrev pub port_members : Node → Members
port_members n = if word.has_port n.op then port_member n else no_members

-- a node with these arguments and this optional port, with its keys in alphabetical order
abbrev pub data_with : Data → Node → Members → Data
data_with args n port = object
    (member (codes "args") args
    (member (codes "name") (string n.name)
    (member (codes "op") (string (word.name_of n.op)) port)))

abbrev pub node_data : List Node → Node → Data
node_data nodes n = data_with (array (items_of (map (operand_data nodes) n.operands))) n (port_members n)

-- an order edge
abbrev pub edge_data : List Node → OrderEdge → Data
edge_data nodes e = object
    (member (codes "distance") (word_data e.distance)
    (member (codes "from") (string (name_at nodes e.from))
    (member (codes "to") (string (name_at nodes e.to)) no_members)))

abbrev pub kernel_data : List Node → List OrderEdge → Data
kernel_data nodes order = object
    (member (codes "format") (string (codes "cgk2"))
    (member (codes "nodes") (array (items_of (map (node_data nodes) nodes)))
    (member (codes "order") (array (items_of (map (edge_data nodes) order))) no_members)))

-- the value that a kernel is printed as, in the second format
unfoldable pub data_of : Kernel → Data
data_of K = kernel_data K.nodes K.order

-- the text of a kernel
abbrev pub kernel_text : Kernel → List ℕ
kernel_text K = compact_text (data_of K)
