-- The TOML table that bytes represent.
use Rattle.std.specs.Prelude.{ℕ, List, Option, None, option_map, if◌then◌else◌}
use Rattle.std.specs.Str.{is_utf8}
use Rattle.toml.specs.Data.{Data, table}
use Rattle.toml.specs.Parse.{parse_document}

-- the table of a TOML document (version 1.1) in UTF-8, its keys in the order of their bytes; None where the bytes are
-- not a TOML document
unfoldable pub table_of : List ℕ → Option Data
table_of bytes = if is_utf8 bytes then option_map table (parse_document bytes) else None
