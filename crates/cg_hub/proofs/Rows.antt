-- The definitions on two small examples.
use Rattle.std.proofs.Common.{◌≡◌, ℕ, List, [], ◌∷◌, Some, None, refl}
use Rattle.cg_word.specs.declared.op.Op.TheVariants.{Iter, Add, Mul, Output}
use Rattle.cg_model.specs.declared.kernel.Operand.TheVariants.{Const as Constant, Edge}
use Rattle.cg_model.specs.Kernel.{Kernel}
use Rattle.cg_model.specs.declared.array.Kind.TheVariants.{Register, Port, Out}
use Rattle.cg_model.specs.Array.{Arch}
use Rattle.cg_hub.specs.Hub.{need, serial, host, hub_map}

-- ---- a running sum on one unit, with a hub of three registers

abbrev one : List ℕ
one = 5 ∷ 0 ∷ 1 ∷ 2 ∷ []

abbrev single : Arch
single =
    record {
      name = [];
      contexts = 8;
      memory = 4;
      resources =
          record { name = []; kind = Register; drivers = one } ∷ record { name = []; kind = Register; drivers = one } ∷ record { name = []; kind = Register; drivers = one }
          ∷ record { name = []; kind = Port; drivers = one } ∷ record { name = []; kind = Port; drivers = one } ∷ record { name = []; kind = Out; drivers = [] } ∷ [];
      units = record { name = []; ops = Iter ∷ Add ∷ Output ∷ []; latency = 1; ports = 3 ∷ 4 ∷ []; out = 5 } ∷ [];
      hub = 0 ∷ 1 ∷ 2 ∷ [];
    }

-- the sum of the turn before and the number of the turn
abbrev sum : Kernel
sum =
    record {
      nodes =
          record { name = []; op = Iter; port = 0; operands = [] } ∷ record { name = []; op = Add; port = 0; operands = Edge 1 1 (0 ∷ []) ∷ Edge 0 0 [] ∷ [] }
          ∷ record { name = []; op = Output; port = 0; operands = Edge 1 0 [] ∷ [] } ∷ [];
      order = [];
    }

-- one register for the number of the turn, two for the sum
three : need sum ≡ 3
three = refl

six : serial single sum ≡ Some 6
unfolding host serial
six = refl

-- the sum of the turn before waits five cycles, all in the first of its registers
summed : hub_map single sum 6 ≡
    record {
      ii = 6;
      places = record { unit = 0; time = 0 } ∷ record { unit = 0; time = 2 } ∷ record { unit = 0; time = 4 } ∷ [];
      routes =
          record { node = 1; arg = 0; path = 5 ∷ 1 ∷ 1 ∷ 1 ∷ 1 ∷ 1 ∷ 3 ∷ [] } ∷ record { node = 1; arg = 1; path = 5 ∷ 0 ∷ 4 ∷ [] } ∷ record { node = 2; arg = 0; path = 5 ∷ 1 ∷ 3 ∷ [] } ∷ [];
    }
unfolding host hub_map
summed = refl

-- ---- the sum of products on two units that both add, with a hub of four: registers are 0 to 3

abbrev both : List ℕ
both = 6 ∷ 9 ∷ 0 ∷ 1 ∷ 2 ∷ 3 ∷ []

abbrev double : Arch
double =
    record {
      name = [];
      contexts = 9;
      memory = 0;
      resources =
          record { name = []; kind = Register; drivers = both } ∷ record { name = []; kind = Register; drivers = both } ∷ record { name = []; kind = Register; drivers = both }
          ∷ record { name = []; kind = Register; drivers = both } ∷ record { name = []; kind = Port; drivers = both } ∷ record { name = []; kind = Port; drivers = both }
          ∷ record { name = []; kind = Out; drivers = [] } ∷ record { name = []; kind = Port; drivers = both } ∷ record { name = []; kind = Port; drivers = both }
          ∷ record { name = []; kind = Out; drivers = [] } ∷ [];
      units =
          record { name = []; ops = Iter ∷ Add ∷ Output ∷ []; latency = 1; ports = 4 ∷ 5 ∷ []; out = 6 } ∷ record { name = []; ops = Add ∷ Mul ∷ []; latency = 2; ports = 7 ∷ 8 ∷ []; out = 9 } ∷ [];
      hub = 0 ∷ 1 ∷ 2 ∷ 3 ∷ [];
    }

-- three times the number of the turn, the sum of these, and as output the sum of the turn before
abbrev products : Kernel
products =
    record {
      nodes =
          record { name = []; op = Iter; port = 0; operands = [] } ∷ record { name = []; op = Mul; port = 0; operands = Edge 0 0 [] ∷ Constant 3 ∷ [] }
          ∷ record { name = []; op = Add; port = 0; operands = Edge 1 0 [] ∷ Edge 2 1 (0 ∷ []) ∷ [] } ∷ record { name = []; op = Output; port = 0; operands = Edge 2 1 (0 ∷ []) ∷ [] }
          ∷ [];
      order = [];
    }

four : need products ≡ 4
four = refl

nine : serial double products ≡ Some 9
unfolding host serial
nine = refl

-- nothing multiplies on the array of one unit
unserved : serial single products ≡ None
unfolding serial
unserved = refl

-- after nine cycles in the first of its registers the sum is in the second
multiplied : hub_map double products 9 ≡
    record {
      ii = 9;
      places = record { unit = 0; time = 0 } ∷ record { unit = 1; time = 2 } ∷ record { unit = 0; time = 5 } ∷ record { unit = 0; time = 7 } ∷ [];
      routes =
          record { node = 1; arg = 0; path = 6 ∷ 0 ∷ 7 ∷ [] } ∷ record { node = 2; arg = 0; path = 9 ∷ 1 ∷ 4 ∷ [] }
          ∷ record { node = 2; arg = 1; path = 6 ∷ 2 ∷ 2 ∷ 2 ∷ 2 ∷ 2 ∷ 2 ∷ 2 ∷ 2 ∷ 5 ∷ [] }
          ∷ record { node = 3; arg = 0; path = 6 ∷ 2 ∷ 2 ∷ 2 ∷ 2 ∷ 2 ∷ 2 ∷ 2 ∷ 2 ∷ 2 ∷ 3 ∷ 4 ∷ [] } ∷ [];
    }
unfolding host hub_map
multiplied = refl
