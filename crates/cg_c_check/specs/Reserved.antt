-- Names that a source may not declare: words of C11 and C23, of compilers, of the headers.
use Rattle.std.specs.Prelude.{ℕ, Bool, ◌||◌, ◌-◌, bytes_eq, codes, List, take, drop, length}

abbrev pub same : List ℕ → List ℕ → Bool
same s t = bytes_eq s t

-- the words of C11 for declarations
unfoldable pub is_declaration_word : List ℕ → Bool
is_declaration_word s =
    same s (codes "auto") || same s (codes "char") || same s (codes "const") || same s (codes "double") || same s (codes "enum")
    || same s (codes "extern") || same s (codes "float") || same s (codes "inline") || same s (codes "int") || same s (codes "long")
    || same s (codes "register") || same s (codes "restrict") || same s (codes "short") || same s (codes "signed") || same s (codes "static")
    || same s (codes "struct") || same s (codes "typedef") || same s (codes "union") || same s (codes "unsigned") || same s (codes "void")
    || same s (codes "volatile")

-- the other words of C11
unfoldable pub is_statement_word : List ℕ → Bool
is_statement_word s =
    same s (codes "break") || same s (codes "case") || same s (codes "continue") || same s (codes "default") || same s (codes "do")
    || same s (codes "else") || same s (codes "for") || same s (codes "goto") || same s (codes "if") || same s (codes "return")
    || same s (codes "sizeof") || same s (codes "switch") || same s (codes "while")

-- the words that C23 adds
unfoldable pub is_word_of_c23 : List ℕ → Bool
is_word_of_c23 s =
    same s (codes "alignas") || same s (codes "alignof") || same s (codes "bool") || same s (codes "constexpr") || same s (codes "false")
    || same s (codes "nullptr") || same s (codes "static_assert") || same s (codes "thread_local") || same s (codes "true")
    || same s (codes "typeof") || same s (codes "typeof_unqual")

-- names that compilers and the header cgra.h take
unfoldable pub is_taken : List ℕ → Bool
is_taken s =
    same s (codes "asm") || same s (codes "main") || same s (codes "defined") || same s (codes "unix") || same s (codes "linux")
    || same s (codes "i386") || same s (codes "in") || same s (codes "out") || same s (codes "min") || same s (codes "max")
    || same s (codes "cgra_in") || same s (codes "cgra_out") || same s (codes "CGRA_H")

abbrev pub begins : List ℕ → List ℕ → Bool
begins front s = bytes_eq (take (length front) s) front

abbrev pub ends : List ℕ → List ℕ → Bool
ends back s = bytes_eq (drop (length s - length back) s) back

-- names that the standard keeps for the language and for stdint.h
unfoldable pub is_kept : List ℕ → Bool
is_kept s =
    begins (codes "_") s || begins (codes "INT") s || begins (codes "UINT") s || begins (codes "SIZE_") s || begins (codes "PTRDIFF_") s
    || begins (codes "SIG_") s || begins (codes "WCHAR_") s || begins (codes "WINT_") s || ends (codes "_t") s

-- F3
abbrev pub is_reserved : List ℕ → Bool
is_reserved s = is_declaration_word s || is_statement_word s || is_word_of_c23 s || is_taken s || is_kept s
