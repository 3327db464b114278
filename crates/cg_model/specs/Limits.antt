-- The limits on what is read, mapped and run.
use Rattle.std.specs.Prelude.{ℕ}

-- ---- kernels and their turns

abbrev pub most_nodes : ℕ
most_nodes = 1024

-- the greatest length of a node's name, in characters
abbrev pub longest_node_name : ℕ
longest_node_name = 32

abbrev pub most_order_edges : ℕ
most_order_edges = 4096

-- the greatest distance of a data edge and, below it, that of an order edge, in turns
abbrev pub most_distance : ℕ
most_distance = 4

abbrev pub most_order_distance : ℕ
most_order_distance = 255

-- the number of ports of a kernel and of an array, and so of streams of an image
abbrev pub port_count : ℕ
port_count = 16

abbrev pub last_port : ℕ
last_port = 15

abbrev pub most_turns : ℕ
most_turns = 1000000

-- ---- architectures and images

-- the greatest length of an architecture's name and of an element's, in characters
abbrev pub longest_name : ℕ
longest_name = 40

-- the greatest number of rows, and of columns, of a grid of tiles
abbrev pub most_side : ℕ
most_side = 32

abbrev pub most_contexts : ℕ
most_contexts = 64

abbrev pub most_resources : ℕ
most_resources = 4096

abbrev pub most_links : ℕ
most_links = 65536

abbrev pub most_units : ℕ
most_units = 1024

-- the greatest number of words of a memory
abbrev pub most_memory : ℕ
most_memory = 1048576

-- the greatest number of words of a stream: one for each turn
abbrev pub most_stream : ℕ
most_stream = most_turns

-- ---- mappings

abbrev pub most_moves : ℕ
most_moves = 1000000

-- the latest time of a node, and so the greatest stage
abbrev pub latest_time : ℕ
latest_time = 65534
