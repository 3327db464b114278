-- The architecture and the image of a trial.
use Rattle.std.specs.Prelude.{ℕ, List, [], ◌∷◌, ◌++◌, map, take, replicate, codes, decimal}
use Rattle.std.specs.List.{range_with_len}
use Rattle.cg_word.specs.declared.op.Op.{Op}
use Rattle.cg_word.specs.Word.{all_ops}
use Rattle.cg_model.specs.Array.{Arch}
use Rattle.cg_model.specs.Work.{Image}
use Rattle.cg_parts.specs.declared.parts.Element.{Element}
use Rattle.cg_parts.specs.declared.parts.Element.TheVariants as element
use Rattle.cg_parts.specs.declared.parts.Parts.{Parts}
use Rattle.cg_parts.specs.Parts.{out_name}
use Rattle.cg_validate.specs.Flat.{arch_of}

-- ---- the architecture: four units and the registers of a hub, without any other resource

-- the names of the units
abbrev pub unit_names : List (List ℕ)
unit_names = codes "u0" ∷ codes "u1" ∷ codes "u2" ∷ codes "u3" ∷ []

-- the names of the units' outs
abbrev pub out_names : List (List ℕ)
out_names = map out_name unit_names

-- the name of register k
abbrev pub register_name : ℕ → List ℕ
register_name k = codes "h" ++ decimal k

-- the names of the first n registers
abbrev pub register_names : ℕ → List (List ℕ)
register_names n = map register_name (range_with_len 0 n)

-- the operations with codes 1 to 22: all that aren't guarded
abbrev pub unit_ops : List Op
unit_ops = take 22 all_ops

-- register k, driven by each out and by each of n registers
abbrev pub register_part : ℕ → ℕ → Element
register_part n k = element.Register (register_name k) (out_names ++ register_names n)

-- a unit of latency 1 with three ports, each driven by each of n registers
abbrev pub unit_part : ℕ → List ℕ → Element
unit_part n name = element.Unit name unit_ops 1 (register_names n ∷ register_names n ∷ register_names n ∷ [])

-- the parts with a hub of n registers
unfoldable pub parts_with : ℕ → Parts
parts_with n =
    record {
      name = codes "trial";
      contexts = 64;
      memory = 256;
      elements = map (register_part n) (range_with_len 0 n) ++ map (unit_part n) unit_names;
      hub = register_names n;
    }

-- the architecture of a trial, with 96 registers
unfoldable pub trial_arch : Arch
trial_arch = arch_of (parts_with 96)

-- ---- the image: word j of its memory is j, and its streams have no words

abbrev pub trial_image : Image
trial_image = record { memory = range_with_len 0 256; streams = replicate 16 [] }
