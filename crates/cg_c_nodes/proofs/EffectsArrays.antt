-- Addresses of elements and the memory.
use Rattle.std.proofs.Common.{ℕ, ◌<◌, List, [], length, arith}
use Rattle.std.proofs.lemmas.List.Elements.{Contains-get_or}
use Rattle.std.specs.Prelude.{None}
use Rattle.cg_c_check.specs.declared.program.Array.{Array}
use Rattle.cg_c_turn.specs.Leads.{IsInside, array_of}
use Rattle.cg_c_turn.specs.Turn.{HasArrays}

-- an address in an array is inside the memory
pub inside_memory : (arrays : List Array) (memory : List ℕ) (n a : ℕ) → HasArrays arrays memory → IsInside arrays n a → a < length memory
inside_memory arrays memory n a has i =
    let room = has.room (array_of arrays n) (Contains-get_or arrays n (record { name = []; dimensions = []; start = 0; table = None }) i.there) in
    omega (arith, room, i.below)
