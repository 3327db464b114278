use Rattle.std.proofs.Common.{◌≡◌, ◌∙◌, ap, length, nat_eq, arith}
use Rattle.std.proofs.lemmas.List.{length-map}
use Rattle.std.specs.Prelude.{string_bytes}
use Rattle.std.specs.List.{starts_with}
use Rattle.cg_model.specs.First.{first_from}
use Rattle.cg_layout.specs.Tiles.{prefixes, tile_prefix}
use Rattle.cg_list_laws.proofs.Grown.{length_of_items}
use Rattle.cg_layout.proofs.Found.{first_mapped}
use Rattle.cg_layout.proofs.tiles.tile_in.Goals as goal

pub prefix_of-requires : goal.prefix_of-requires
unfolding prefixes
prefix_of-requires c =
    let all : length prefixes ≡ 1024 = length_of_items tile_prefix 1024 in
    let same = ap length c.requires in
    let mapped = length-map c.args.prefixes.now string_bytes in
    omega (arith, all, same, mapped)

pub returns : goal.returns
returns c =
    c.prefix_of.ensures ∙ first_mapped string_bytes (λ v prefix. starts_with nat_eq c.args.name.now prefix) 0 c.args.prefixes.now
    ∙ ap (λ z. first_from (λ v prefix. starts_with nat_eq c.args.name.now prefix) 0 z) c.requires
