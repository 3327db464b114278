-- A random node and a random place for it, from three words.
use Rattle.std.specs.Prelude.{ℕ, ◌+◌, ◌*◌, ◌/◌, ◌^◌, List, length, slice_index}
use Rattle.cg_model.specs.Kernel.{Kernel, size, node}
use Rattle.cg_model.specs.Array.{Arch}
use Rattle.cg_model.specs.declared.mapping.Place.{Place}
use Rattle.cg_place.specs.declared.moves.Move.{Move}
use Rattle.cg_place.specs.Placed.{offering}

-- a number below k, from a word
abbrev pub draw : ℕ → ℕ → ℕ
draw k word = word * k / 2 ^ 32

-- the random node from a word
abbrev pub drawn_node : Kernel → ℕ → ℕ
drawn_node K w = draw (size K) w

-- the random place of node v from two words: one of the units that offer its operation, and one of the 2 * ii + 8 times
-- from its earliest on
abbrev pub drawn_place : Arch → Kernel → ℕ → List ℕ → ℕ → ℕ → ℕ → Place
drawn_place A K ii early v w x =
    record {
      unit = slice_index (offering A (node K v).op) (draw (length (offering A (node K v).op)) w);
      time = slice_index early v + draw (2 * ii + 8) x;
    }

-- the random move from three words
abbrev pub drawn_move : Arch → Kernel → ℕ → List ℕ → ℕ → ℕ → ℕ → Move
drawn_move A K ii early w1 w2 w3 =
    let v = drawn_node K w1 in record { node = v; place = drawn_place A K ii early v w2 w3 }
