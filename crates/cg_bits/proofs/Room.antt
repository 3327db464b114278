-- What a valid architecture leaves room for.
use Rattle.std.proofs.Common.{[]}
use Rattle.std.proofs.Common.{◌≡◌, ℕ, ◌<◌, ◌≤◌, ◌^◌, true, length, arith}
use Rattle.cg_word.specs.declared.op.Op.{Op}
use Rattle.cg_word.specs.Word.{arity}
use Rattle.cg_word.specs.Sets.{among}
use Rattle.cg_word.proofs.Marks.{among_from}
use Rattle.cg_model.specs.declared.array.Kind.TheVariants.{Wire}
use Rattle.cg_model.specs.Array.{Arch, IsArch, resource, unit}
use Rattle.cg_flat.proofs.Lists.{links_of}
use Rattle.cg_bits.specs.Format.{ports}

-- no unit has more than three ports, each has those that its operations need, and numbers are small
pub record HasRoom (A : Arch) : Type 0 where
  pub few : (x : ℕ) → x < length A.units → ports A x ≤ 3
  pub arities : (x : ℕ) (op : Op) → x < length A.units → among (unit A x).ops op ≡ true → arity op ≤ ports A x
  pub contexts : A.contexts ≤ 64
  pub links : (r : ℕ) → r < length A.resources → length (resource A r).drivers < 2 ^ 32

pub room_of : (A : Arch) → IsArch A → HasRoom A
room_of A valid =
    record {
      few = valid.few_ports;
      arities = λ x op lt e. valid.enough_ports x op lt (among_from (unit A x).ops op e);
      contexts = valid.small.contexts.1;
      links = λ r lt.
          let most = valid.small.links in
          let some = links_of A.resources r (record { name = []; kind = Wire; drivers = [] }) lt in
          omega arith;
    }
