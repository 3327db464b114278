-- Symbols that are read one after another, and where that stops.
use Rattle.std.proofs.Common.{true, List, [], ◌∷◌, codes}
use Rattle.cg_tokens.specs.Tokens.{Placed}
use Rattle.cg_loop_text_spec.specs.Rules.{Symbol, Exactly, Lines, start}
use Rattle.cg_loop_text_spec.specs.Read.{Takes, Reads, Stops}
use Rattle.cg_loop_text_spec.proofs.Runs.{exactly_read, reads_then, then_stops, stops_first}

pub reads_two : (s1 s2 : Symbol) (l0 l1 l2 : List Placed) → Reads (s1 ∷ []) l0 l1 → Reads (s2 ∷ []) l1 l2 → Reads (s1 ∷ s2 ∷ []) l0 l2
reads_two s1 s2 l0 l1 l2 h1 h2 = reads_then s1 (s2 ∷ []) l0 l1 l2 h1 h2

pub reads_three : (s1 s2 s3 : Symbol) (l0 l1 l2 l3 : List Placed) → Reads (s1 ∷ []) l0 l1 → Reads (s2 ∷ []) l1 l2 → Reads (s3 ∷ []) l2 l3 → Reads (s1 ∷ s2 ∷ s3 ∷ []) l0 l3
reads_three s1 s2 s3 l0 l1 l2 l3 h1 h2 h3 = reads_then s1 (s2 ∷ s3 ∷ []) l0 l1 l3 h1 (reads_two s2 s3 l1 l2 l3 h2 h3)

pub reads_four : (s1 s2 s3 s4 : Symbol) (l0 l1 l2 l3 l4 : List Placed) → Reads (s1 ∷ []) l0 l1 → Reads (s2 ∷ []) l1 l2 → Reads (s3 ∷ []) l2 l3 → Reads (s4 ∷ []) l3 l4 → Reads (s1 ∷ s2 ∷ s3 ∷ s4 ∷ []) l0 l4
reads_four s1 s2 s3 s4 l0 l1 l2 l3 l4 h1 h2 h3 h4 = reads_then s1 (s2 ∷ s3 ∷ s4 ∷ []) l0 l1 l4 h1 (reads_three s2 s3 s4 l1 l2 l3 l4 h2 h3 h4)

pub reads_five : (s1 s2 s3 s4 s5 : Symbol) (l0 l1 l2 l3 l4 l5 : List Placed) → Reads (s1 ∷ []) l0 l1 → Reads (s2 ∷ []) l1 l2 → Reads (s3 ∷ []) l2 l3 → Reads (s4 ∷ []) l3 l4 → Reads (s5 ∷ []) l4 l5 → Reads (s1 ∷ s2 ∷ s3 ∷ s4 ∷ s5 ∷ []) l0 l5
reads_five s1 s2 s3 s4 s5 l0 l1 l2 l3 l4 l5 h1 h2 h3 h4 h5 = reads_then s1 (s2 ∷ s3 ∷ s4 ∷ s5 ∷ []) l0 l1 l5 h1 (reads_four s2 s3 s4 s5 l1 l2 l3 l4 l5 h2 h3 h4 h5)

pub reads_six : (s1 s2 s3 s4 s5 s6 : Symbol) (l0 l1 l2 l3 l4 l5 l6 : List Placed) → Reads (s1 ∷ []) l0 l1 → Reads (s2 ∷ []) l1 l2 → Reads (s3 ∷ []) l2 l3 → Reads (s4 ∷ []) l3 l4 → Reads (s5 ∷ []) l4 l5 → Reads (s6 ∷ []) l5 l6 → Reads (s1 ∷ s2 ∷ s3 ∷ s4 ∷ s5 ∷ s6 ∷ []) l0 l6
reads_six s1 s2 s3 s4 s5 s6 l0 l1 l2 l3 l4 l5 l6 h1 h2 h3 h4 h5 h6 = reads_then s1 (s2 ∷ s3 ∷ s4 ∷ s5 ∷ s6 ∷ []) l0 l1 l6 h1 (reads_five s2 s3 s4 s5 s6 l1 l2 l3 l4 l5 l6 h2 h3 h4 h5 h6)

pub stops_second : (s1 s2 : Symbol) (rest : List Symbol) (l0 l1 new : List Placed) → Reads (s1 ∷ []) l0 l1 → Stops (s2 ∷ []) l1 new → Stops (s1 ∷ s2 ∷ rest) l0 new
stops_second s1 s2 rest l0 l1 new h1 h2 = then_stops s1 (s2 ∷ rest) l0 l1 new h1 (stops_first s2 rest l1 new h2)

pub stops_third : (s1 s2 s3 : Symbol) (rest : List Symbol) (l0 l1 l2 new : List Placed) → Reads (s1 ∷ []) l0 l1 → Reads (s2 ∷ []) l1 l2 → Stops (s3 ∷ []) l2 new → Stops (s1 ∷ s2 ∷ s3 ∷ rest) l0 new
stops_third s1 s2 s3 rest l0 l1 l2 new h1 h2 h3 = then_stops s1 (s2 ∷ s3 ∷ rest) l0 l1 new h1 (stops_second s2 s3 rest l1 l2 new h2 h3)

pub stops_fourth : (s1 s2 s3 s4 : Symbol) (rest : List Symbol) (l0 l1 l2 l3 new : List Placed) → Reads (s1 ∷ []) l0 l1 → Reads (s2 ∷ []) l1 l2 → Reads (s3 ∷ []) l2 l3 → Stops (s4 ∷ []) l3 new → Stops (s1 ∷ s2 ∷ s3 ∷ s4 ∷ rest) l0 new
stops_fourth s1 s2 s3 s4 rest l0 l1 l2 l3 new h1 h2 h3 h4 = then_stops s1 (s2 ∷ s3 ∷ s4 ∷ rest) l0 l1 new h1 (stops_third s2 s3 s4 rest l1 l2 l3 new h2 h3 h4)

pub stops_fifth : (s1 s2 s3 s4 s5 : Symbol) (rest : List Symbol) (l0 l1 l2 l3 l4 new : List Placed) → Reads (s1 ∷ []) l0 l1 → Reads (s2 ∷ []) l1 l2 → Reads (s3 ∷ []) l2 l3 → Reads (s4 ∷ []) l3 l4 → Stops (s5 ∷ []) l4 new → Stops (s1 ∷ s2 ∷ s3 ∷ s4 ∷ s5 ∷ rest) l0 new
stops_fifth s1 s2 s3 s4 s5 rest l0 l1 l2 l3 l4 new h1 h2 h3 h4 h5 = then_stops s1 (s2 ∷ s3 ∷ s4 ∷ s5 ∷ rest) l0 l1 new h1 (stops_fourth s2 s3 s4 s5 rest l1 l2 l3 l4 new h2 h3 h4 h5)

pub stops_sixth : (s1 s2 s3 s4 s5 s6 : Symbol) (rest : List Symbol) (l0 l1 l2 l3 l4 l5 new : List Placed) → Reads (s1 ∷ []) l0 l1 → Reads (s2 ∷ []) l1 l2 → Reads (s3 ∷ []) l2 l3 → Reads (s4 ∷ []) l3 l4 → Reads (s5 ∷ []) l4 l5 → Stops (s6 ∷ []) l5 new → Stops (s1 ∷ s2 ∷ s3 ∷ s4 ∷ s5 ∷ s6 ∷ rest) l0 new
stops_sixth s1 s2 s3 s4 s5 s6 rest l0 l1 l2 l3 l4 l5 new h1 h2 h3 h4 h5 h6 = then_stops s1 (s2 ∷ s3 ∷ s4 ∷ s5 ∷ s6 ∷ rest) l0 l1 new h1 (stops_fifth s2 s3 s4 s5 s6 rest l1 l2 l3 l4 l5 new h2 h3 h4 h5 h6)

-- ---- the first line, and then the others

pub file_lines : (old a b new : List Placed) → Takes (codes "cgl1") old a → Takes (codes ";") a b → Reads (Lines true ∷ []) b new → Reads start old new
file_lines old a b new h g p = reads_three (Exactly (codes "cgl1")) (Exactly (codes ";")) (Lines true) old a b new (exactly_read (codes "cgl1") old a h) (exactly_read (codes ";") a b g) p

pub format_misses : (old new : List Placed) → Stops (Exactly (codes "cgl1") ∷ []) old new → Stops start old new
format_misses old new p = stops_first (Exactly (codes "cgl1")) (Exactly (codes ";") ∷ Lines true ∷ []) old new p

pub format_end_misses : (old a new : List Placed) → Takes (codes "cgl1") old a → Stops (Exactly (codes ";") ∷ []) a new → Stops start old new
format_end_misses old a new h p = stops_second (Exactly (codes "cgl1")) (Exactly (codes ";")) (Lines true ∷ []) old a new (exactly_read (codes "cgl1") old a h) p

pub file_lines_stop : (old a b new : List Placed) → Takes (codes "cgl1") old a → Takes (codes ";") a b → Stops (Lines true ∷ []) b new → Stops start old new
file_lines_stop old a b new h g p = stops_third (Exactly (codes "cgl1")) (Exactly (codes ";")) (Lines true) [] old a b new (exactly_read (codes "cgl1") old a h) (exactly_read (codes ";") a b g) p
