-- Lines that set one word of a table (IEEE 1364-2005, 9.2). All tables are 0 at first, so most of these lines are
-- needed only for words other than 0.
use Rattle.std.specs.Prelude.{ℕ, List, [], ◌++◌, codes, decimal, eqb, if◌then◌else◌}

-- a small number, in a table of a cell
abbrev pub number_line : List ℕ → List ℕ → ℕ → ℕ → List ℕ
number_line cell table at value =
    if eqb value 0 then [] else codes "    array." ++ (cell ++ (codes "." ++ (table ++ (codes "[" ++ (decimal at ++ (codes "] = " ++ (decimal value ++ codes ";\n")))))))

-- a word, in a table of a cell
abbrev pub word_line : List ℕ → List ℕ → ℕ → ℕ → List ℕ
word_line cell table at value =
    if eqb value 0 then [] else codes "    array." ++ (cell ++ (codes "." ++ (table ++ (codes "[" ++ (decimal at ++ (codes "] = 32'd" ++ (decimal value ++ codes ";\n")))))))

-- a word of the memory, or of the expected memory
abbrev pub memory_line : ℕ → ℕ → List ℕ
memory_line at value = codes "    memory[" ++ (decimal at ++ (codes "] = 32'd" ++ (decimal value ++ codes ";\n")))

abbrev pub left_memory_line : ℕ → ℕ → List ℕ
left_memory_line at value = codes "    left_memory[" ++ (decimal at ++ (codes "] = 32'd" ++ (decimal value ++ codes ";\n")))

-- word k of input stream p, and of the expected output stream p
abbrev pub input_line : ℕ → ℕ → ℕ → List ℕ
input_line p k value =
    if eqb value 0 then [] else codes "    inputs[" ++ (decimal p ++ (codes " * depth + " ++ (decimal k ++ (codes "] = 32'd" ++ (decimal value ++ codes ";\n")))))

abbrev pub left_output_line : ℕ → ℕ → ℕ → List ℕ
left_output_line p k value =
    if eqb value 0 then [] else codes "    left_outputs[" ++ (decimal p ++ (codes " * room + " ++ (decimal k ++ (codes "] = 32'd" ++ (decimal value ++ codes ";\n")))))

-- the expected number of words in output stream p
abbrev pub length_line : ℕ → ℕ → List ℕ
length_line p value = if eqb value 0 then [] else codes "    left_sent[" ++ (decimal p ++ (codes "] = " ++ (decimal value ++ codes ";\n")))
