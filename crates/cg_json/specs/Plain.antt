-- Values of JSON (RFC 8259) whose compact text reads back.
use Rattle.std.specs.Prelude.{◌≡◌, ◌≤◌, ◌<◌, ◌^◌, ⊤, Some}
use Rattle.std.specs.Str.{IsUtf8}
use Rattle.serde_json.specs.Data.{unsigned, negative, float, Data, null, boolean, number, string, array, object, Items, no_items, item, Members, no_members, member, put, depth}
use Rattle.serde_json.specs.Read.{read, max_depth}
use Rattle.serde_json.specs.Written.{compact_text}

-- members after other members
abbrev pub after : Members → Members → Members
after no_members ms = ms
after (member k d ls) ms = member k d (after ls ms)

-- a value whose numbers are integers from 0 to 2^64 - 1, whose texts are UTF-8, and whose objects have their keys in
-- the order in which a map holds them
abbrev mutual
  pub IsPlain : Data → Type 0
  IsPlain null = ⊤
  IsPlain (boolean b) = ⊤
  IsPlain (number (unsigned n)) = n < 2 ^ 64
  IsPlain (number (negative z)) = ⊥
  IsPlain (number (float x)) = ⊥
  IsPlain (string s) = IsUtf8 s
  IsPlain (array ds) = ArePlain ds
  IsPlain (object ms) = ArePlainAfter no_members ms

  pub ArePlain : Items → Type 0
  ArePlain no_items = ⊤
  ArePlain (item d ds) = IsPlain d × ArePlain ds

  -- members after others: a map puts each behind those before it
  pub ArePlainAfter : Members → Members → Type 0
  ArePlainAfter before no_members = ⊤
  ArePlainAfter before (member k d ms) =
      IsUtf8 k × IsPlain d × (put k d before ≡ after before (member k d no_members)) × ArePlainAfter (after before (member k d no_members)) ms

-- the compact text of the value is UTF-8, and is read as the value where it isn't nested too deeply
pub record ReadsBack (d : Data) : Type 0 where
  pub utf8 : IsUtf8 (compact_text d)
  pub back : depth d ≤ max_depth → read (compact_text d) ≡ Some d
