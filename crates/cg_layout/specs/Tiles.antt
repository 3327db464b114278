-- The tiles in the names of an array's resources, by number: the tiles of a row have consecutive numbers.
use Rattle.std.specs.Prelude.{ℕ, ◌/◌, ◌%◌, Bool, List, [], ◌∷◌, ◌++◌, map, length, nat_eq, nat_lt, Option, is_some, unwrap_or, if◌then◌else◌, codes, decimal}
use Rattle.std.specs.List.{list_all, starts_with}
use Rattle.cg_model.specs.First.{first_from}
use Rattle.cg_model.specs.declared.array.Resource.{Resource}
use Rattle.cg_model.specs.Array.{Arch, resource, unit}
use Rattle.cg_list_laws.specs.Below.{lists_below}

-- a grid has at most 32 rows and 32 columns
abbrev pub most_tiles : ℕ
most_tiles = 1024

abbrev pub row_of : ℕ → ℕ
row_of t = t / 32

abbrev pub column_of : ℕ → ℕ
column_of t = t % 32

-- the prefix of the names of a tile's resources, as `r0c1_`
abbrev pub tile_prefix : ℕ → List ℕ
tile_prefix t = codes "r" ++ (decimal (row_of t) ++ (codes "c" ++ (decimal (column_of t) ++ codes "_")))

unfoldable pub prefixes : List (List ℕ)
prefixes = lists_below (λ t. tile_prefix t ∷ []) most_tiles

-- the tile of a name
abbrev pub tile_in : List ℕ → Option ℕ
tile_in name = first_from (λ t prefix. starts_with nat_eq name prefix) 0 prefixes

-- the tiles of all resources, by number
abbrev pub tiles_in : List Resource → List (Option ℕ)
tiles_in rs = map (λ (r : Resource). tile_in r.name) rs

-- the name of each resource has a tile
abbrev pub is_tiled : Arch → Bool
is_tiled A = list_all is_some (tiles_in A.resources)

-- the tile of resource r, and that of unit x; 0 where there is none
abbrev pub tile_of : Arch → ℕ → ℕ
tile_of A r = if nat_lt r (length A.resources) then unwrap_or (tile_in (resource A r).name) 0 else 0

abbrev pub unit_tile : Arch → ℕ → ℕ
unit_tile A x = tile_of A (unit A x).out
